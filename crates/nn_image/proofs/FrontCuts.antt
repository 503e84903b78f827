-- What lines do to an image and to what stands before it, by the definitions.
use Rattle.std.proofs.Common.{◌≡◌, ℕ, ◌-◌, List, [], ◌∷◌, ◌++◌, length, take, Bool, true, false, not, ◌&&◌, eqb, Option, Some, refl, sym, ap, ◌∙◌, append_assoc, append-nil}
use Rattle.std.specs.Prelude.{option_map}
use Rattle.std.specs.Str.{bytes_eq}
use Rattle.std.proofs.lemmas.Bool.{and_parts, not-true}
use Rattle.nn_bytes.specs.Lines.{line_feed}
use Rattle.nn_bytes.specs.Pieces.{is_unbroken}
use Rattle.nn_image.specs.Loading.{Loading, at_header, loaded_from, TakesLine}
use Rattle.nn_image.specs.Reading.{is_end_line, pieces_of, read_image}
use Rattle.nn_image.proofs.LoadedLines.{piece}
use Rattle.nn_image.proofs.Round.{some_piece}
use Rattle.nn_image.specs.Front.{Cut, behind_mark, bytes_of, divided, from_header, image_cut_from, mark, onto, passed_over}

-- ---- Bytes of one line.

-- at the end of a line
abbrev pub at_feed : Bool → List ℕ → List ℕ → Cut
at_feed header line bytes = elim (not header && is_end_line line) as (λ _. Cut) [
  | true ↦ record { image = line_feed ∷ []; rest = bytes }
  | false ↦ onto (line_feed ∷ []) (image_cut_from false [] bytes)
]

pub same_line : (header : Bool) (line bytes more : List ℕ) → is_unbroken bytes ≡ true → image_cut_from header line (bytes ++ more) ≡ onto bytes (image_cut_from header (line ++ bytes) more)
same_line header line [] more plain = ap (λ l. image_cut_from header l more) (sym (append-nil line))
same_line header line (b ∷ bytes) more plain =
    let both = and_parts (not (eqb b line_feed)) (is_unbroken bytes) plain in
    let later : onto (b ∷ []) (image_cut_from header (line ++ b ∷ []) (bytes ++ more)) ≡ onto (b ∷ bytes) (image_cut_from header (line ++ b ∷ bytes) more) =
    ap (onto (b ∷ [])) (same_line header (line ++ b ∷ []) bytes more both.1) ∙ ap (λ l. onto (b ∷ bytes) (image_cut_from header l more)) (append_assoc line (b ∷ []) bytes) in
    ap (λ t. elim t as (λ _. Cut) [
      | true ↦ at_feed header line (bytes ++ more)
      | false ↦ onto (b ∷ []) (image_cut_from header (line ++ b ∷ []) (bytes ++ more))
    ]) (not-true (eqb b line_feed) both.0) ∙ later

pub passes : (line bytes more : List ℕ) → is_unbroken bytes ≡ true → behind_mark line (bytes ++ more) ≡ behind_mark (line ++ bytes) more
passes line [] more plain = ap (λ l. behind_mark l more) (sym (append-nil line))
passes line (b ∷ bytes) more plain =
    let both = and_parts (not (eqb b line_feed)) (is_unbroken bytes) plain in
    let later : behind_mark (line ++ b ∷ []) (bytes ++ more) ≡ behind_mark (line ++ b ∷ bytes) more =
    passes (line ++ b ∷ []) bytes more both.1 ∙ ap (λ l. behind_mark l more) (append_assoc line (b ∷ []) bytes) in
    ap (λ t. elim t as (λ _. Option (List ℕ)) [
      | true ↦ elim (bytes_eq line mark) as (λ _. Option (List ℕ)) [
        | true ↦ Some (bytes ++ more)
        | false ↦ behind_mark [] (bytes ++ more)
      ]
      | false ↦ behind_mark (line ++ b ∷ []) (bytes ++ more)
    ]) (not-true (eqb b line_feed) both.0) ∙ later

-- six bytes tell whether it is the mark
pub same_mark : (whole : List ℕ) → bytes_eq (take 6 whole) mark ≡ bytes_eq whole mark
same_mark [] = refl
same_mark (a ∷ []) = refl
same_mark (a ∷ b ∷ []) = refl
same_mark (a ∷ b ∷ c ∷ []) = refl
same_mark (a ∷ b ∷ c ∷ d ∷ []) = refl
same_mark (a ∷ b ∷ c ∷ d ∷ e ∷ []) = refl
same_mark (a ∷ b ∷ c ∷ d ∷ e ∷ f ∷ whole) = refl

-- ---- What is passed over.

pub divided_by : (input : List ℕ) (found : Option (List ℕ)) → from_header input ≡ found → divided input ≡ option_map (image_cut_from true []) found
unfolding divided
divided_by input found e = ap (option_map (image_cut_from true [])) e

pub passed_is : (input : List ℕ) (found : Option (List ℕ)) → from_header input ≡ found → passed_over input ≡ length input - length (bytes_of found)
unfolding passed_over
passed_is input found e = ap (λ o. length input - length (bytes_of o)) e

-- ---- What is loaded.

pub none_loaded : (more : List ℕ) → read_image ([] ++ more) ≡ loaded_from at_header (pieces_of more)
unfolding read_image
none_loaded more = refl

-- one line more
pub one_more : (lines line : List ℕ) (l m : Loading) → is_unbroken line ≡ true → TakesLine l m line → ((more : List ℕ) → read_image (lines ++ more) ≡ loaded_from l (pieces_of more))
    → (more : List ℕ) → read_image (((lines ++ line) ++ line_feed ∷ []) ++ more) ≡ loaded_from m (pieces_of more)
one_more lines line l m unbroken takes loaded more =
    ap read_image (append_assoc (lines ++ line) (line_feed ∷ []) more ∙ append_assoc lines line (line_feed ∷ more)) ∙ loaded (line ++ line_feed ∷ more) ∙ ap (loaded_from l) (piece line more unbroken) ∙ turn (pieces_of more) (some_piece more)
  where
    turn : (pieces : List (List ℕ)) → (pieces ≡ [] → ⊥) → loaded_from l (line ∷ pieces) ≡ loaded_from m pieces
    turn [] some = absurd (some refl)
    turn (next ∷ pieces) some = takes next pieces
