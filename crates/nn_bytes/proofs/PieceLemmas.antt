-- Lines and the pieces between line feeds.
use Rattle.std.proofs.Common.{◌≡◌, ℕ, suc, ◌+◌, List, [], ◌∷◌, ◌++◌, take, Bool, true, false, cond, not, ◌==◌, refl, sym, ap, subst, ◌∙◌, arith, append_assoc, append-nil}
use Rattle.std.specs.List.{list_all, onto_first, position_or_len}
use Rattle.std.proofs.lemmas.Bool.{and_from, and_parts, not-true}
use Rattle.std.proofs.lemmas.Grind.{flat_map-append}
use Rattle.std.proofs.lemmas.List.Folds.{list_all-append}
use Rattle.nn_bytes.specs.Lines.{line_feed}
use Rattle.nn_bytes.specs.Pieces.{is_unbroken, joined_lines, pieces}

abbrev pub ends : ℕ → Bool
ends b = b == line_feed

-- ---- No line feed.

-- stands before the first one
pub first_unbroken : (text : List ℕ) → is_unbroken (take (position_or_len ends text) text) ≡ true
first_unbroken [] = refl
first_unbroken (b ∷ text) = at (ends b) refl (first_unbroken text)
  where
    at : (t : Bool) → ends b ≡ t → is_unbroken (take (position_or_len ends text) text) ≡ true
        → is_unbroken (take (cond (not t) (1 + position_or_len ends text) 0) (b ∷ text)) ≡ true
    at true e later = refl
    at false e later =
        let one : suc (position_or_len ends text) ≡ 1 + position_or_len ends text = omega arith in
        subst (λ k. is_unbroken (take k (b ∷ text)) ≡ true) one (rw e later)

-- nor before a place where a line ends
pub unbroken_to : (text : List ℕ) (end : ℕ) → end ≡ position_or_len ends text → is_unbroken (take end text) ≡ true
unbroken_to text end is = subst (λ n. is_unbroken (take n text) ≡ true) (sym is) (first_unbroken text)

pub unbroken_both : (some more : List ℕ) → is_unbroken some ≡ true → is_unbroken more ≡ true → is_unbroken (some ++ more) ≡ true
unbroken_both some more u v = list_all-append (λ b. not (b == line_feed)) some more ∙ and_from _ _ u v

pub each_more : (lines : List (List ℕ)) (line : List ℕ) → list_all is_unbroken lines ≡ true → is_unbroken line ≡ true → list_all is_unbroken (lines ++ line ∷ []) ≡ true
each_more lines line u v = list_all-append is_unbroken lines (line ∷ []) ∙ and_from _ _ u (and_from _ _ v refl)

-- ---- Lines that are joined.

pub joined_more : (lines : List (List ℕ)) (line : List ℕ) → joined_lines (lines ++ line ∷ []) ≡ joined_lines lines ++ (line ++ line_feed ∷ [])
joined_more lines line = flat_map-append (λ l. l ++ line_feed ∷ []) lines (line ∷ []) ∙ ap (λ t. joined_lines lines ++ t) (append-nil (line ++ line_feed ∷ []))

-- ---- Pieces.

-- there is one at least
pub some_piece : (text : List ℕ) → (p : List ℕ) × (ps : List (List ℕ)) × (pieces text ≡ p ∷ ps)
some_piece [] = ([], [], refl)
some_piece (b ∷ text) = at (ends b) (some_piece text)
  where
    at : (t : Bool) → (p : List ℕ) × (ps : List (List ℕ)) × (pieces text ≡ p ∷ ps) → (p : List ℕ) × (ps : List (List ℕ)) × (cond t ([] ∷ pieces text) (onto_first b (pieces text)) ≡ p ∷ ps)
    at true (p, ps, e) = ([], pieces text, refl)
    at false (p, ps, e) = (b ∷ p, ps, ap (onto_first b) e)

pub cut_first : (line more : List ℕ) → is_unbroken line ≡ true → pieces (line ++ line_feed ∷ more) ≡ line ∷ pieces more
cut_first [] more whole = refl
cut_first (b ∷ line) more whole =
    let both = and_parts (not (b == line_feed)) (is_unbroken line) whole in
    ap (λ t. cond t ([] ∷ pieces (line ++ line_feed ∷ more)) (onto_first b (pieces (line ++ line_feed ∷ more)))) (not-true (b == line_feed) both.0)
    ∙ ap (onto_first b) (cut_first line more both.1)

pub one_piece : (torn : List ℕ) → is_unbroken torn ≡ true → pieces torn ≡ torn ∷ []
one_piece [] whole = refl
one_piece (b ∷ torn) whole =
    let both = and_parts (not (b == line_feed)) (is_unbroken torn) whole in
    ap (λ t. cond t ([] ∷ pieces torn) (onto_first b (pieces torn))) (not-true (b == line_feed) both.0) ∙ ap (onto_first b) (one_piece torn both.1)

pub lines_first : (lines : List (List ℕ)) (more : List ℕ) → list_all is_unbroken lines ≡ true → pieces (joined_lines lines ++ more) ≡ lines ++ pieces more
lines_first [] more each = refl
lines_first (line ∷ lines) more each =
    let both = and_parts (is_unbroken line) (list_all is_unbroken lines) each in
    ap pieces (append_assoc (line ++ line_feed ∷ []) (joined_lines lines) more ∙ append_assoc line (line_feed ∷ []) (joined_lines lines ++ more))
    ∙ cut_first line (joined_lines lines ++ more) both.0 ∙ ap (λ ps. line ∷ ps) (lines_first lines more both.1)

-- joined lines are their own pieces, and an empty one at the end
pub pieces_of_lines : (lines : List (List ℕ)) → list_all is_unbroken lines ≡ true → pieces (joined_lines lines) ≡ lines ++ [] ∷ []
pieces_of_lines lines each = ap pieces (sym (append-nil (joined_lines lines))) ∙ lines_first lines [] each
