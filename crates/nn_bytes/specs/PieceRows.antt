-- Texts, joined and cut.
use Rattle.std.specs.Prelude.{◌≡◌, [], ◌∷◌, ◌++◌, true, false, codes, refl}
use Rattle.nn_bytes.specs.Lines.{is_blank, line_feed}
use Rattle.nn_bytes.specs.Pieces.{is_unbroken, joined_lines, pieces}

two_lines_and_more : pieces (codes "ab" ++ line_feed ∷ (line_feed ∷ codes "c")) ≡ codes "ab" ∷ [] ∷ codes "c" ∷ []
two_lines_and_more = refl

-- nothing stands behind the last line feed
whole_line : pieces (codes "ab" ++ line_feed ∷ []) ≡ codes "ab" ∷ [] ∷ []
whole_line = refl

no_text : pieces [] ≡ [] ∷ []
no_text = refl

each_ended : joined_lines (codes "ab" ∷ [] ∷ codes "c" ∷ []) ≡ codes "ab" ++ line_feed ∷ (line_feed ∷ (codes "c" ++ line_feed ∷ []))
each_ended = refl

no_lines : joined_lines [] ≡ []
no_lines = refl

-- a carriage return breaks no line
broken_or_not : (is_unbroken (codes "ab" ++ 13 ∷ []) ≡ true) × (is_unbroken [] ≡ true) × (is_unbroken (codes "ab" ++ line_feed ∷ codes "c") ≡ false)
broken_or_not = (refl, refl, refl)

-- a tab and a carriage return say nothing, a form feed does
blank_or_not : (is_blank (32 ∷ 9 ∷ 13 ∷ []) ≡ true) × (is_blank [] ≡ true) × (is_blank (32 ∷ 12 ∷ []) ≡ false)
blank_or_not = (refl, refl, refl)
