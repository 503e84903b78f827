-- A log applies whatever the namespace's profile was, where it applied.
use Rattle.std.proofs.Common.{◌≡◌, ℕ, List, [], ◌∷◌, None, refl, sym, subst}
use Rattle.nn_types.specs.declared.edit.Edit.{Edit}
use Rattle.nn_types.specs.declared.edit.Edit.TheVariants.{StartSegment, EndSegment, Mkdir, Add, AddBlock, UpdateBlocks, Close, Append, Rename, Delete}
use Rattle.nn_types.specs.declared.edit.Edit.TheVariants.{SetReplication, AllocateBlockId, SetGenstamp}
use Rattle.nn_types.specs.declared.profile.Profile.TheVariants.{One, Two}
use Rattle.nn_types.specs.declared.tx.Tx.{Tx}
use Rattle.nn_model.specs.Namespace.{Namespace}
use Rattle.nn_model.specs.Apply.{refusal, effect}
use Rattle.nn_model.specs.Log.{namespace_after, IsLog}
use Rattle.nn_model.specs.Laws.{in_profile, LowerProfileGoesOn}

-- what applies applies in profile 1
applies_in_one : (n : Namespace) (edit : Edit) → refusal n edit ≡ None → refusal (in_profile One n) edit ≡ None
applies_in_one n (StartSegment One) applies = refl
applies_in_one n (StartSegment Two) applies = refl
applies_in_one n EndSegment applies = applies
applies_in_one n (Mkdir p) applies = applies
applies_in_one n (Add p r) applies = applies
applies_in_one n (AddBlock p i stamp) applies = applies
applies_in_one n (UpdateBlocks p bs) applies = applies
applies_in_one n (Close p bs) applies = applies
applies_in_one n (Append p) applies = applies
applies_in_one n (Rename s d) applies = applies
applies_in_one n (Delete p) applies = applies
applies_in_one n (SetReplication p r) applies = applies
applies_in_one n (AllocateBlockId i) applies = applies
applies_in_one n (SetGenstamp stamp) applies = applies

-- after the edit the one whose profile was forgotten is the other one, or the other one in profile 1
data Meets (n m : Namespace) : Type 0 where
  one : m ≡ n → Meets n m
  lower : m ≡ in_profile One n → Meets n m

meets : (n : Namespace) (edit : Edit) → Meets (effect n edit) (effect (in_profile One n) edit)
meets n (StartSegment p) = one refl
meets n EndSegment = lower refl
meets n (Mkdir p) = lower refl
meets n (Add p r) = lower refl
meets n (AddBlock p i stamp) = lower refl
meets n (UpdateBlocks p bs) = lower refl
meets n (Close p bs) = lower refl
meets n (Append p) = lower refl
meets n (Rename s d) = lower refl
meets n (Delete p) = lower refl
meets n (SetReplication p r) = lower refl
meets n (AllocateBlockId i) = lower refl
meets n (SetGenstamp stamp) = lower refl

-- it has the log, and ends in the same namespace except for the profile
abbrev Ends : Namespace → Namespace → ℕ → List Tx → Type 0
Ends n m last txs = IsLog m last txs × (in_profile One (namespace_after m txs) ≡ in_profile One (namespace_after n txs))

ends : (n m : Namespace) (last : ℕ) (txs : List Tx) → IsLog n last txs → Ends n (in_profile One n) last txs → Meets n m → Ends n m last txs
ends n m last txs log low (one same) = subst (λ (x : Namespace). Ends n x last txs) (sym same) (log, refl)
ends n m last txs log low (lower same) = subst (λ (x : Namespace). Ends n x last txs) (sym same) low

pub lower_profile_goes_on : LowerProfileGoesOn
lower_profile_goes_on n last [] log = (tt, refl)
lower_profile_goes_on n last (tx ∷ txs) log =
    let rest = ends (effect n tx.edit) (effect (in_profile One n) tx.edit) tx.txid txs log.2
    (lower_profile_goes_on (effect n tx.edit) tx.txid txs log.2) (meets n tx.edit) in
    ((log.0, applies_in_one n tx.edit log.1, rest.0), rest.1)
