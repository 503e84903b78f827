-- The log: transactions that count up by one from a base, the namespace after them, and what overlapping segments say of it.
use Rattle.std.specs.Prelude.{◌≡◌, ℕ, ◌+◌, List, [], ◌∷◌, flat_map, Option, Some, None, Result, Ok, Err, ◌==◌, if◌then◌else◌}
use Rattle.nn_types.specs.declared.tx.Tx.{Tx}
use Rattle.nn_types.specs.LawfulEdit.{IsLawfulEdit}
use Rattle.nn_types.specs.declared.edit_fault.EditFault.{EditFault}
use Rattle.nn_model.specs.Namespace.{Namespace}
use Rattle.nn_model.specs.Apply.{refusal, effect}

-- ---- The namespace of a log.

-- the namespace after the transactions; it is meant for those that each apply
abbrev pub namespace_after : Namespace → List Tx → Namespace
namespace_after n [] = n
namespace_after n (tx ∷ txs) = namespace_after (effect n tx.edit) txs

-- a log: each txid is one above the one before, at first above the last one, and each edit applies
abbrev pub IsLog : Namespace → ℕ → List Tx → Type 0
IsLog n last [] = Unit {0}
IsLog n last (tx ∷ txs) = (tx.txid ≡ last + 1) × (refusal n tx.edit ≡ None) × IsLog (effect n tx.edit) tx.txid txs

-- where the run goes on to, or the transaction that stopped it
abbrev pub unless_refused : Option EditFault → ℕ → Result Namespace (ℕ × EditFault) → Result Namespace (ℕ × EditFault)
unless_refused None txid rest = rest
unless_refused (Some fault) txid rest = Err (txid, fault)

-- the namespace after all transactions, or the txid of the first one that is refused, and why
abbrev pub run : Namespace → List Tx → Result Namespace (ℕ × EditFault)
run n [] = Ok n
run n (tx ∷ txs) = unless_refused (refusal n tx.edit) tx.txid (run (effect n tx.edit) txs)

-- ---- The log of segments, which may overlap.

-- the transactions that count: each one whose txid is one above the last that counted
abbrev pub counted : ℕ → List Tx → List Tx
counted last [] = []
counted last (tx ∷ txs) = if tx.txid == last + 1 then tx ∷ counted tx.txid txs else counted last txs

-- the log that segments hold after this txid; a segment that begins above the next txid adds nothing to it
abbrev pub log_of : ℕ → List (List Tx) → List Tx
log_of last segments = counted last (flat_map (λ segment. segment) segments)

-- each txid is one above the one before, at first above the last one
abbrev pub CountsUp : ℕ → List Tx → Type 0
CountsUp last [] = Unit {0}
CountsUp last (tx ∷ txs) = (tx.txid ≡ last + 1) × CountsUp tx.txid txs

-- each edit is one that the types can hold
abbrev pub AreLawful : List Tx → Type 0
AreLawful [] = Unit {0}
AreLawful (tx ∷ txs) = IsLawfulEdit tx.edit × AreLawful txs
