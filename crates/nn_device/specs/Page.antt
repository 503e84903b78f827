-- A text that is gathered and written in parts.
use Rattle.std.specs.Prelude.{◌≡◌, ℕ, Bool, true, false, List, ◌++◌}
use Rattle.nn_device.specs.Device.{Writer, Took}
use Rattle.nn_device.specs.Parts.{TookPrefix}
use Rattle.nn_device.specs.declared.writer.OutputFault.TheVariants.{WriteFailed}

-- what is to be written, and whether a write failed
pub record Page : Type 0 where
  pub left : List ℕ
  pub lost : Bool

-- since a start the writer took all of a text but what is left of it
pub record TookAllBut (start now : Writer) (text left : List ℕ) : Type 0 where
  pub prefix : List ℕ
  pub whole : text ≡ prefix ++ left
  pub took : Took start now prefix

-- so it did; or a write failed, and it took a prefix
abbrev pub HasGone : Bool → Writer → List ℕ → List ℕ → Writer → Type 0
HasGone false start text left now = TookAllBut start now text left
HasGone true start text left now = TookPrefix start now text WriteFailed

-- this text was put since a start
abbrev pub HasPut : Writer → List ℕ → Page → Writer → Type 0
HasPut start text page now = HasGone page.lost start text page.left now

-- and this piece was put behind it, wherever it began
abbrev pub PutsPiece : List ℕ → Page → Writer → Page → Writer → Type 0
PutsPiece piece page now page' now' = (start : Writer) (text : List ℕ) → HasPut start text page now → HasPut start (text ++ piece) page' now'

-- ---- For the invariants of loops that put a text piece by piece.

-- of a text all but this was put
abbrev pub PutsAllBut : List ℕ → List ℕ → Page → Writer → Page → Writer → Type 0
PutsAllBut text left page now page' now' = (done : List ℕ) × (text ≡ done ++ left) × PutsPiece done page now page' now'
