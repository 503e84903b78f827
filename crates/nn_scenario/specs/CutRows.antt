-- Logs, cut into segments.
use Rattle.std.specs.Prelude.{◌≡◌, ℕ, List, [], ◌∷◌, ◌++◌, codes, refl}
use Rattle.nn_bytes.specs.Lines.{line_feed}
use Rattle.nn_types.specs.declared.profile.Profile.TheVariants.{One}
use Rattle.nn_types.specs.declared.edit.Edit.{Edit}
use Rattle.nn_types.specs.declared.edit.Edit.TheVariants.{StartSegment, EndSegment}
use Rattle.nn_types.specs.declared.tx.Tx.{Tx}
use Rattle.nn_segment.specs.Name.{segment_file_name}
use Rattle.nn_scenario.specs.Cut.{EditLine, Part, cut, parts_from, part_name}

abbrev tx : ℕ → Edit → Tx
tx txid edit = record { txid = txid; edit = edit }

abbrev line : List ℕ → ℕ → Edit → EditLine
line text txid edit = record { text = text; tx = tx txid edit }

abbrev one_mark : Part
one_mark = record { bytes = codes "end" ++ line_feed ∷ []; txs = tx 1 EndSegment ∷ [] }

abbrev two_lines : Part
two_lines = record { bytes = codes "a" ++ line_feed ∷ codes "b" ++ line_feed ∷ []; txs = tx 1 (StartSegment One) ∷ tx 2 EndSegment ∷ [] }

abbrev no_end : Part
no_end = record { bytes = codes "c" ++ line_feed ∷ []; txs = tx 3 (StartSegment One) ∷ [] }

-- the end mark goes with the lines before it, and what follows the last one is a part too
cut_after_the_mark : cut (line (codes "a") 1 (StartSegment One) ∷ line (codes "b") 2 EndSegment ∷ line (codes "c") 3 (StartSegment One) ∷ []) ≡ two_lines ∷ no_end ∷ []
unfolding parts_from
cut_after_the_mark = refl

each_mark_ends_one : cut (line (codes "end") 1 EndSegment ∷ line (codes "end") 1 EndSegment ∷ []) ≡ one_mark ∷ one_mark ∷ []
unfolding parts_from
each_mark_ends_one = refl

nothing : cut [] ≡ []
unfolding parts_from
nothing = refl

names : (part_name (tx 1 (StartSegment One) ∷ tx 4 EndSegment ∷ []) ≡ segment_file_name 1 4) × (part_name (tx 4 (StartSegment One) ∷ tx 1 EndSegment ∷ []) ≡ segment_file_name 4 4)
names = (refl, refl)
