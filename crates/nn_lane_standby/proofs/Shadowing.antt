-- What the calls of the standby of one thread say of its parts.
use Rattle.std.proofs.Common.{◌≡◌, ℕ, ◌+◌, ◌≤◌, true, false, List, [], ◌∷◌, length, None, refl, ap, ◌∙◌}
use Rattle.std.specs.Prelude.{if◌then◌else◌, ◌==◌}
use Rattle.std.proofs.lemmas.Bool.{eq-eqb, le-leb}
use Rattle.nn_types.specs.declared.report.Message.{Message}
use Rattle.nn_types.specs.declared.tx.Tx.{Tx}
use Rattle.nn_model.specs.Apply.{effect}
use Rattle.nn_model.specs.Stands.{StandbyState}
use Rattle.nn_types.specs.declared.event.Cause.TheVariants.{Due}
use Rattle.nn_postponed.specs.Queues.{queued}
use Rattle.nn_shadow.specs.Calls.{processing, waits, taken_in, all_taken_in, items_added}
use Rattle.nn_shadow.specs.Contents.{Shadow, standby_of, last_number_in, KeepsSettings}
use Rattle.nn_shadow.specs.Refusals.{Phase, turn_refusal, hand_refusal}
use Rattle.nn_lane_standby.specs.Shadows.{ShowsSame, IsApplied, IsHanded}

pub same_last : (x y : Shadow) → ShowsSame x y → y.last ≡ x.last
same_last x y s = ap (λ (z : StandbyState). z.last) s.standby

pub same_namespace : (x y : Shadow) → ShowsSame x y → y.namespace ≡ x.namespace
same_namespace x y s = ap (λ (z : StandbyState). z.namespace) s.standby

pub same_numbers : (x y : Shadow) → ShowsSame x y → (dn : ℕ) → last_number_in y.numbers dn ≡ last_number_in x.numbers dn
same_numbers x y s dn = ap (λ (z : StandbyState). z.last_number dn) s.standby

pub settings_same : (x : Shadow) → KeepsSettings x x
settings_same x = record { datanodes = refl; min = refl; permille = refl }

pub settings_then : (x y z : Shadow) → KeepsSettings x y → KeepsSettings y z → KeepsSettings x z
settings_then x y z a b = record { datanodes = b.datanodes ∙ a.datanodes; min = b.min ∙ a.min; permille = b.permille ∙ a.permille }

pub nothing_new : (x : Shadow) → ShowsSame x x
nothing_new x = record { standby = refl; settings = record { datanodes = refl; min = refl; permille = refl } }

pub applied_last : (x y : Shadow) (tx : Tx) → IsApplied x tx y → y.last ≡ tx.txid
applied_last x y tx a = ap (λ (z : StandbyState). z.last) a.standby

pub applied_namespace : (x y : Shadow) (tx : Tx) → IsApplied x tx y → y.namespace ≡ effect x.namespace tx.edit
applied_namespace x y tx a = ap (λ (z : StandbyState). z.namespace) a.standby

pub applied_numbers : (x y : Shadow) (tx : Tx) → IsApplied x tx y → (dn : ℕ) → last_number_in y.numbers dn ≡ last_number_in x.numbers dn
applied_numbers x y tx a dn = ap (λ (z : StandbyState). z.last_number dn) a.standby

-- whether it waits or not, an item leaves the last txid
taken_last : (x : StandbyState) (m : Message) → (taken_in x m).last ≡ x.last
taken_last x m = elim (waits x m) as (λ b. (if b then record x { held = queued m x.held } else processing Due (m ∷ []) x).last ≡ x.last) [ true ↦ refl | false ↦ refl ]

all_taken_last : (x : StandbyState) (items : List Message) → (all_taken_in x items).last ≡ x.last
all_taken_last x [] = refl
all_taken_last x (i ∷ items) = all_taken_last (taken_in x i) items ∙ taken_last x i

pub handed_last : (x y : Shadow) (m : Message) → IsHanded x m y → y.last ≡ x.last
handed_last x y m h = ap (λ (z : StandbyState). z.last) h.standby ∙ all_taken_last (standby_of x) (items_added (standby_of x) m)

-- and the namespace
taken_namespace : (x : StandbyState) (m : Message) → (taken_in x m).namespace ≡ x.namespace
taken_namespace x m = elim (waits x m) as (λ b. (if b then record x { held = queued m x.held } else processing Due (m ∷ []) x).namespace ≡ x.namespace) [ true ↦ refl | false ↦ refl ]

all_taken_namespace : (x : StandbyState) (items : List Message) → (all_taken_in x items).namespace ≡ x.namespace
all_taken_namespace x [] = refl
all_taken_namespace x (i ∷ items) = all_taken_namespace (taken_in x i) items ∙ taken_namespace x i

pub handed_namespace : (x y : Shadow) (m : Message) → IsHanded x m y → y.namespace ≡ x.namespace
handed_namespace x y m h = ap (λ (z : StandbyState). z.namespace) h.standby ∙ all_taken_namespace (standby_of x) (items_added (standby_of x) m)

pub handed_numbers : (x y : Shadow) (m : Message) → IsHanded x m y → (dn : ℕ) → last_number_in y.numbers dn ≡ (if dn == m.dn then m.number else last_number_in x.numbers dn)
handed_numbers x y m h dn = ap (λ (z : StandbyState). z.last_number dn) h.standby

-- ---- refusals

-- neither stopped nor active
abbrev pub serving : Phase
serving = record { stopped = None; active = false }

-- the next message of a DataNode that there is
pub is_welcome : (x : Shadow) (m : Message) → x.phase ≡ serving → 1 ≤ m.dn → m.dn ≤ length x.numbers → m.number ≡ last_number_in x.numbers m.dn + 1
    → hand_refusal (length x.numbers) x.phase (standby_of x) m ≡ None
is_welcome x m phase from to next = rw (phase, le-leb 1 m.dn from, le-leb m.dn (length x.numbers) to, eq-eqb m.number (last_number_in x.numbers m.dn + 1) next) refl

-- and the next transaction
pub is_in_turn : (x : Shadow) (tx : Tx) → x.phase ≡ serving → tx.txid ≡ x.last + 1 → turn_refusal x.phase (standby_of x) tx ≡ None
is_in_turn x tx phase next = rw (phase, eq-eqb tx.txid (x.last + 1) next) refl
