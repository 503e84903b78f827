-- What a change of a tree in one walk came to.
use Rattle.std.specs.Prelude.{◌≡◌, ℕ, Bool, true, false, List, [], ◌∷◌, ◌++◌, map, drop, length, Some, None}
use Rattle.nn_types.specs.declared.block.Block.{Block}
use Rattle.nn_model.specs.declared.form.Form.{Form}
use Rattle.nn_model.specs.declared.form.Form.TheVariants.{File}
use Rattle.nn_model.specs.declared.form.FileRow.{FileRow}
use Rattle.nn_model.specs.Namespace.{Path}
use Rattle.nn_model.specs.Apply.{walk, keeps_ids, keeps_stamps}
use Rattle.nn_model.specs.Blocks.{block_row}
use Rattle.nn_tree.specs.declared.touched.Touched.{Touched as Told}
use Rattle.nn_tree.specs.At.{at, IsSubtree, IsGrafted}
use Rattle.nn_tree.specs.Touched.{touched_of}
use Rattle.nn_tree.specs.Walks.{mkdir_fault}

-- nothing stood at the path p or below it, and now t does
abbrev pub IsMade : List (Path × Form) → Path → List (Path × Form) → List (Path × Form) → Type 0
IsMade old p t new = (mkdir_fault (at old) p ≡ None) × IsSubtree old p None × IsGrafted old p (Some t) new

-- an open file alone that has no blocks
abbrev pub open_file : ℕ → List (Path × Form)
open_file replication = ([], File (record { replication = replication; closed = false; blocks = [] })) ∷ []

-- t stood at the path p, and nothing stands there or below now
abbrev pub IsTaken : List (Path × Form) → Path → List (Path × Form) → List (Path × Form) → Type 0
IsTaken old p t new = (walk (at old) p ≡ None) × IsSubtree old p (Some t) × IsGrafted old p None new

-- a file x stood at the path p, and now y stands there, where x and y are as R says
abbrev pub IsFileChanged : List (Path × Form) → Path → List (Path × Form) → (FileRow → FileRow → Type 0) → Type 0
IsFileChanged old p new R =
    (x : FileRow) × (y : FileRow) × (walk (at old) p ≡ None) × IsSubtree old p (Some (([], File x) ∷ [])) × IsGrafted old p (Some (([], File y) ∷ [])) new × R x y

-- where a walk ends, the file x alone became y alone, where x and y are as R says
abbrev pub FileBecomes : (FileRow → FileRow → Type 0) → Path → List (Path × Form) → List (Path × Form) → Type 0
FileBecomes R rest t w = (x : FileRow) × (y : FileRow) × (rest ≡ []) × (t ≡ ([], File x) ∷ []) × (w ≡ ([], File y) ∷ []) × R x y

-- the open file x got the block b at its end, and its replication is told
abbrev pub GetsBlock : Block → ℕ → FileRow → FileRow → Type 0
GetsBlock b replication x y = (replication ≡ x.replication) × (x.closed ≡ false) × (y ≡ record { replication = x.replication; closed = false; blocks = x.blocks ++ b ∷ [] })

-- The open file x got the list bs, which keeps its ids and stamps, and is closed or open now. Told are what that touched, its replication with it, and the list before.
abbrev pub GetsList : List Block → Bool → ℕ → Told × List Block → FileRow → FileRow → Type 0
GetsList bs closed last told x y =
    (x.closed ≡ false) × (keeps_ids x.blocks bs ≡ true) × (keeps_stamps last x.blocks bs ≡ true)
    × (y ≡ record { replication = x.replication; closed = closed; blocks = bs })
    × (touched_of told.0 ≡ record { changed = map (λ b. block_row closed b) bs; retired = map (λ b. b.id) (drop (length bs) x.blocks); skipped = None })
    × (told.0.replication ≡ x.replication) × (told.1 ≡ x.blocks)

-- The closed file x was opened. Told are what that touched, its replication with it, and its blocks.
abbrev pub Opens : Told × List Block → FileRow → FileRow → Type 0
Opens told x y =
    (x.closed ≡ true) × (y ≡ record { replication = x.replication; closed = false; blocks = x.blocks })
    × (touched_of told.0 ≡ record { changed = map (λ b. block_row false b) x.blocks; retired = []; skipped = None })
    × (told.0.replication ≡ x.replication) × (told.1 ≡ x.blocks)

-- the file x got another replication
abbrev pub GetsReplication : ℕ → FileRow → FileRow → Type 0
GetsReplication r x y = y ≡ record { replication = r; closed = x.closed; blocks = x.blocks }
