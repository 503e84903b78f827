-- Lines that are joined, and cut again.
use Rattle.std.proofs.Common.{◌≡◌, ℕ, List, [], ◌∷◌, ◌++◌, map, true, cond, not, eqb, Ok, refl, ap, ◌∙◌, append_assoc}
use Rattle.std.specs.List.{onto_first, list_all}
use Rattle.std.proofs.lemmas.Bool.{and_parts, not-true}
use Rattle.nn_bytes.specs.Lines.{line_feed}
use Rattle.nn_edits.specs.Reading.{edit_of_line}
use Rattle.nn_types.specs.declared.tx.Tx.{Tx}
use Rattle.nn_segment.specs.Lines.{lines_of, reads_of, JoinedAreCutBack}
use Rattle.nn_bytes.specs.Pieces.{is_unbroken, joined_lines}

-- the first line of more
cut : (line rest : List ℕ) → is_unbroken line ≡ true → lines_of (line ++ line_feed ∷ rest) ≡ line ∷ lines_of rest
cut [] rest whole = refl
cut (b ∷ line) rest whole =
    let both = and_parts (not (eqb b line_feed)) (is_unbroken line) whole in
    ap (λ t. cond t ([] ∷ lines_of (line ++ line_feed ∷ rest)) (onto_first b (lines_of (line ++ line_feed ∷ rest)))) (not-true (eqb b line_feed) both.0)
    ∙ ap (onto_first b) (cut line rest both.1)

pub cut_back : JoinedAreCutBack
cut_back [] whole = refl
cut_back (line ∷ lines) whole =
    let both = and_parts (is_unbroken line) (list_all is_unbroken lines) whole in
    ap lines_of (append_assoc line (line_feed ∷ []) (joined_lines lines)) ∙ cut line (joined_lines lines) both.0 ∙ ap (λ ls. line ∷ ls) (cut_back lines both.1)

pub reads_joined : (lines : List (List ℕ)) (txs : List Tx) → list_all is_unbroken lines ≡ true → map edit_of_line lines ≡ map Ok txs → reads_of (joined_lines lines) ≡ map Ok txs
unfolding reads_of
reads_joined lines txs whole read = ap (map edit_of_line) (cut_back lines whole) ∙ read
