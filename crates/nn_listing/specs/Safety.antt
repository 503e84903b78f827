-- What keeps safe mode on: the blocks of closed files that have too few live replicas.
use Rattle.std.specs.Prelude.{ℕ, nat_le, if◌then◌else◌, List, [], ◌∷◌, ◌++◌, flat_map, Option, codes, decimal}
use Rattle.nn_bytes.specs.Lines.{line_feed}
use Rattle.nn_types.specs.declared.block.Block.{Block}
use Rattle.nn_types.specs.declared.replica.Replica.{Replica}
use Rattle.nn_model.specs.declared.form.Form.{Form}
use Rattle.nn_model.specs.Counts.{closed_blocks_of, live_count}
use Rattle.nn_model.specs.Namespace.{Path}
use Rattle.nn_listing.specs.Listing.{path_json}

-- `unsafe BLOCK LIVE PATH`, of a block that has fewer live replicas than it has to have
abbrev pub unsafe_of : ℕ → (ℕ → ℕ → Option Replica) → Path → Block → List (List ℕ)
unsafe_of min replica p b =
    if nat_le min (live_count replica b) then [] else (codes "unsafe " ++ decimal b.id ++ codes " " ++ decimal (live_count replica b) ++ codes " " ++ path_json p ++ line_feed ∷ []) ∷ []

-- such blocks of closed files, in path order
abbrev pub unsafe_in : ℕ → (ℕ → ℕ → Option Replica) → List (Path × Form) → List (List ℕ)
unsafe_in min replica rows = flat_map (λ row. flat_map (unsafe_of min replica row.0) (closed_blocks_of row.1)) rows

-- their lines, one behind another
abbrev pub unsafe_text : ℕ → (ℕ → ℕ → Option Replica) → List (Path × Form) → List ℕ
unsafe_text min replica rows = flat_map (λ line. line) (unsafe_in min replica rows)
