-- A log of three transactions, read from its start and from a checkpoint.
use Rattle.std.specs.Prelude.{◌≡◌, [], ◌∷◌, map, Ok, Err, codes, refl}
use Rattle.nn_types.specs.declared.profile.Profile.TheVariants.{One}
use Rattle.nn_types.specs.declared.edit.Edit.TheVariants.{StartSegment, Mkdir, EndSegment}
use Rattle.nn_types.specs.declared.edit_fault.EditFault.TheVariants.{Exists}
use Rattle.nn_model.specs.declared.form.Form.TheVariants.{Dir}
use Rattle.nn_model.specs.Namespace.{Namespace, root_alone, with_row}
use Rattle.nn_segment.specs.Segment.{Segment}
use Rattle.nn_segment.specs.Source.{given, end}
use Rattle.nn_segment.specs.Walk.{log_in}
use Rattle.nn_segment.specs.LogEnd.{end_of_log, end_of_txs, disorder, refused}

abbrev three : Segment
three = record {
  name = [];
  bytes = [];
  txs = record { txid = 1; edit = StartSegment One } ∷ record { txid = 2; edit = Mkdir (codes "a" ∷ []) } ∷ record { txid = 3; edit = EndSegment } ∷ [];
}

abbrev fourth : Segment
fourth = record { name = []; bytes = []; txs = record { txid = 5; edit = StartSegment One } ∷ [] }

-- the namespace at the second transaction
abbrev made : Namespace
made = with_row root_alone (codes "a" ∷ []) Dir

-- what is in the image is passed over
passed_over : map (λ tx. tx.txid) (log_in 2 (given three ∷ end ∷ [])) ≡ 3 ∷ []
passed_over = refl

-- the directory is not made again, and all ends where it ends from the start
read_again : end_of_log 2 made (three ∷ []) ≡ Ok (record { last = 3; namespace = made })
unfolding end_of_log end_of_txs
read_again = refl

from_the_start : end_of_log 0 root_alone (three ∷ []) ≡ end_of_log 2 made (three ∷ [])
unfolding end_of_log end_of_txs
from_the_start = refl

-- a gap stops both
gap_behind : end_of_log 2 made (three ∷ fourth ∷ []) ≡ Err (record { cause = disorder; txid = 4 })
unfolding end_of_log end_of_txs
gap_behind = refl

-- it stops one that goes on from where the first had stopped
gap_again : end_of_log 3 made (three ∷ fourth ∷ []) ≡ Err (record { cause = disorder; txid = 4 })
unfolding end_of_log end_of_txs
gap_again = refl

-- so does an edit that is refused: the directory is made twice
abbrev twice : Segment
twice = record {
  name = [];
  bytes = [];
  txs = record { txid = 1; edit = StartSegment One } ∷ record { txid = 2; edit = Mkdir (codes "a" ∷ []) } ∷ record { txid = 3; edit = Mkdir (codes "a" ∷ []) } ∷ [];
}

refused_at_three : end_of_log 0 root_alone (twice ∷ []) ≡ Err (record { cause = refused Exists; txid = 3 })
unfolding end_of_log end_of_txs
refused_at_three = refl

refused_again : end_of_log 2 made (twice ∷ []) ≡ end_of_log 0 root_alone (twice ∷ [])
unfolding end_of_log end_of_txs
refused_again = refl
