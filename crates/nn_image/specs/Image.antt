-- Which text is the image of a namespace and a txid: a header, a line for each row of a well formed namespace in path order but
-- the root's, and the end line.
use Rattle.std.specs.Prelude.{◌≡◌, ℕ, List, [], ◌∷◌, ◌++◌, length, drop, true, Some, None, Ok, codes}
use Rattle.std.specs.List.{list_all}
use Rattle.serde_json.specs.Data.{Data}
use Rattle.serde_json.specs.Find.{get}
use Rattle.nn_bytes.specs.Pieces.{is_unbroken, joined_lines}
use Rattle.nn_model.specs.declared.form.Form.{Form}
use Rattle.nn_model.specs.Namespace.{Path, Namespace}
use Rattle.nn_model.specs.WellFormed.{IsWellFormed}
use Rattle.nn_tree.specs.Restore.{bare}
use Rattle.nn_image.specs.Reading.{object_of, of_header, row_of_line, whole_value}

-- the line is a header with the numbers of the namespace, and the txid
abbrev pub IsHeader : List ℕ → Namespace → ℕ → Type 0
IsHeader line n txid = of_header (object_of line) ≡ Ok (bare n.issued, txid)

-- the line is an object that gives this row, and no end line
pub record IsRow (line : List ℕ) (row : Path × Form) : Type 0 where
  pub value : Data
  pub object : object_of line ≡ Some value
  pub no_end : get (codes "end") value ≡ None
  pub gives : row_of_line value ≡ Some row

-- each line is that of its row
abbrev pub AreRows : List (List ℕ) → List (Path × Form) → Type 0
AreRows [] [] = Unit {0}
AreRows [] (row ∷ rows) = ⊥
AreRows (line ∷ lines) [] = ⊥
AreRows (line ∷ lines) (row ∷ rows) = IsRow line row × AreRows lines rows

-- the line is an end line with this number
pub record IsEndLine (line : List ℕ) (count : ℕ) : Type 0 where
  pub value : Data
  pub object : object_of line ≡ Some value
  pub member : Data
  pub has_end : get (codes "end") value ≡ Some member
  pub gives : whole_value member ≡ Some count

pub record IsImage (text : List ℕ) (n : Namespace) (txid : ℕ) : Type 0 where
  pub head : List ℕ
  pub lines : List (List ℕ)
  pub last : List ℕ
  pub spelled : text ≡ joined_lines (head ∷ (lines ++ last ∷ []))
  pub plain : list_all is_unbroken (head ∷ (lines ++ last ∷ [])) ≡ true
  pub header : IsHeader head n txid
  pub rows : AreRows lines (drop 1 n.rows)
  pub counted : IsEndLine last (length lines)
  pub well_formed : IsWellFormed n
