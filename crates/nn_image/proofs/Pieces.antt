-- A text as its lines, each with its line feed, and back.
use Rattle.std.proofs.Common.{◌≡◌, ℕ, List, [], ◌∷◌, ◌++◌, Bool, true, false, cond, eqb, refl, sym, ap, ◌∙◌, append_assoc}
use Rattle.std.specs.List.{flat_map, list_all, slice_split, onto_first}
use Rattle.std.proofs.lemmas.Bool.Decides.{Decides-eqb}
use Rattle.nn_bytes.specs.Lines.{line_feed}
use Rattle.nn_bytes.specs.Pieces.{is_unbroken, joined_lines, pieces}
use Rattle.nn_bytes.proofs.PieceLemmas as lemma
use Rattle.nn_image.specs.Reading.{pieces_of}
use Rattle.nn_image.proofs.Rows.{and_true}

-- lines with their line feeds are their own pieces, and an empty one at the end
pub pieces_of_lines : (lines : List (List ℕ)) → list_all is_unbroken lines ≡ true → pieces_of (joined_lines lines) ≡ lines ++ [] ∷ []
unfolding pieces_of
pieces_of_lines lines plain = lemma.pieces_of_lines lines plain

abbrev cuts : ℕ → Bool
cuts b = eqb b line_feed

-- a line feed before each piece
abbrev before_each : List (List ℕ) → List ℕ
before_each pieces = flat_map (λ p. line_feed ∷ p) pieces

onto_each : (x : ℕ) (ps : List (List ℕ)) (xs : List ℕ) → before_each ps ≡ line_feed ∷ xs → before_each (onto_first x ps) ≡ line_feed ∷ x ∷ xs
onto_each x [] xs e = absurd (cc)
onto_each x (p ∷ ps) xs e = let same : p ++ before_each ps ≡ xs = cc in ap (λ r. line_feed ∷ x ∷ r) same

each_at : (b : Bool) (x : ℕ) (xs : List ℕ) (ps : List (List ℕ)) → eqb x line_feed ≡ b → before_each ps ≡ line_feed ∷ xs → before_each (cond b ([] ∷ ps) (onto_first x ps)) ≡ line_feed ∷ x ∷ xs
each_at true x xs ps e h = let same : x ≡ line_feed = (Decides-eqb x line_feed).0 e in rw (same, h) refl
each_at false x xs ps e h = onto_each x ps xs h

joined_pieces : (text : List ℕ) → before_each (slice_split cuts text) ≡ line_feed ∷ text
joined_pieces [] = refl
joined_pieces (x ∷ xs) = each_at (eqb x line_feed) x xs (slice_split cuts xs) refl (joined_pieces xs)

-- no piece has a line feed
plain_onto : (x : ℕ) (ps : List (List ℕ)) → eqb x line_feed ≡ false → list_all is_unbroken ps ≡ true → list_all is_unbroken (onto_first x ps) ≡ true
plain_onto x [] e h = rw e refl
plain_onto x (p ∷ ps) e h = let both = and_true (is_unbroken p) (list_all is_unbroken ps) h in rw (e, both.0, both.1) refl

plain_at : (b : Bool) (x : ℕ) (ps : List (List ℕ)) → eqb x line_feed ≡ b → list_all is_unbroken ps ≡ true → list_all is_unbroken (cond b ([] ∷ ps) (onto_first x ps)) ≡ true
plain_at true x ps e h = h
plain_at false x ps e h = plain_onto x ps e h

plain_pieces : (text : List ℕ) → list_all is_unbroken (slice_split cuts text) ≡ true
plain_pieces [] = refl
plain_pieces (x ∷ xs) = plain_at (eqb x line_feed) x (slice_split cuts xs) refl (plain_pieces xs)

-- the feeds before the pieces are those after the lines
moved : (lines : List (List ℕ)) → before_each (lines ++ [] ∷ []) ≡ line_feed ∷ joined_lines lines
moved [] = refl
moved (line ∷ lines) =
    ap (λ r. line_feed ∷ (line ++ r)) (moved lines) ∙ ap (λ r. line_feed ∷ r) (sym (append_assoc line (line_feed ∷ []) (joined_lines lines)))

plain_prefix : (lines more : List (List ℕ)) → list_all is_unbroken (lines ++ more) ≡ true → list_all is_unbroken lines ≡ true
plain_prefix [] more h = refl
plain_prefix (line ∷ lines) more h = let both = and_true (is_unbroken line) (list_all is_unbroken (lines ++ more)) h in rw (both.0, plain_prefix lines more both.1) refl

tail_same : (a b : List ℕ) → ◌≡◌ {A = List ℕ} (line_feed ∷ a) (line_feed ∷ b) → a ≡ b
tail_same a b e = cc

pub lines_of : (text : List ℕ) (lines : List (List ℕ)) → pieces_of text ≡ lines ++ [] ∷ [] → (text ≡ joined_lines lines) × (list_all is_unbroken lines ≡ true)
unfolding pieces_of
lines_of text lines e = (
  tail_same text (joined_lines lines) (sym (joined_pieces text) ∙ ap before_each e ∙ moved lines),
  plain_prefix lines ([] ∷ []) (sym (ap (list_all is_unbroken) e) ∙ plain_pieces text),
)
