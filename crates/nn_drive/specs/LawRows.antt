-- Which sources answer by functions, which lanes are open, and which standbys show the same, computed.
use Rattle.std.specs.Prelude.{◌≡◌, ℕ, ◌+◌, true, false, [], ◌∷◌, Some, None, Err, codes, refl}
use Rattle.std.proofs.Common.{arith, sym, ap, ◌∙◌, true≢false}
use Rattle.nn_types.specs.declared.event.Event.TheVariants.{Applied}
use Rattle.nn_types.specs.declared.report.Kind.TheVariants.{Received}
use Rattle.nn_types.specs.declared.replica.Replica.{Replica}
use Rattle.nn_model.specs.Namespace.{Namespace, root_alone}
use Rattle.nn_model.specs.declared.form.Form.TheVariants.{Dir, File}
use Rattle.nn_lane.specs.Ends.{LaneId}
use Rattle.nn_segment.specs.Source.{Answer, GivesNext, end}
use Rattle.nn_segment.specs.declared.fault.SourceFault.TheVariants.{Gone}
use Rattle.nn_shadow.specs.Contents.{Shadow}
use Rattle.nn_lane_standby.specs.declared.standby.Active.{Active}
use Rattle.nn_drive.specs.LaneRows.{taking}
use Rattle.nn_drive.specs.DriveLaws.{AnswersByFunction, AreOpen, EndsAlike}

-- a source in memory answers by a function
in_memory : AnswersByFunction GivesNext
in_memory [] t u a b p q = (p.0 ∙ sym q.0, p.1 ∙ sym q.1)
in_memory (s ∷ segments) t u a b p q = (p.0 ∙ sym q.0, p.1 ∙ sym q.1)

-- one that answers End or a fault as it likes does not
abbrev answers_anything : ℕ → Answer → ℕ → Type 0
answers_anything s a t = t ≡ s

not_another_answer : AnswersByFunction answers_anything → ⊥
not_another_answer h = let e : end ≡ Err Gone = (h 0 0 0 end (Err Gone) refl refl).0 in cc

-- nor does one that answers End, and goes on as it likes
abbrev goes_anywhere : ℕ → Answer → ℕ → Type 0
goes_anywhere s a t = a ≡ end

not_to_another_state : AnswersByFunction goes_anywhere → ⊥
not_to_another_state h = let e : 0 ≡ 1 = (h 0 0 1 end end refl refl).1 in omega (arith, e)

two_open_lanes : (l : LaneId) → AreOpen (taking l 1 ∷ taking l 2 ∷ [])
two_open_lanes l = (refl, (refl, tt))

not_one_closed : (l : LaneId) → AreOpen (taking l 1 ∷ record (taking l 2) { closed = true } ∷ []) → ⊥
not_one_closed l h = true≢false h.1.0

-- ---- Standbys that show the same.

-- a closed file of one block, of which no DataNode has anything
abbrev one_block : Namespace
one_block = record root_alone {
  rows = ([], Dir) ∷ (codes "f" ∷ [], File (record { replication = 1; closed = true; blocks = record { id = 7; stamp = 1001; len = 5 } ∷ [] })) ∷ [];
}

abbrev having_none : Shadow → ℕ → Shadow
having_none x permille = record x { namespace = one_block; table = record { min = 1; entries = [] }; permille = permille }

-- a replica that is too long
abbrev too_long : Replica
too_long = record { stamp = 1001; len = 6; kind = Received }

abbrev having_one : Shadow → Shadow
having_one x = record x {
  namespace = one_block;
  table = record { min = 1; entries = (7, record { row = None; replication = 0; cells = (1, record { replica = Some too_long; ordered = false }) ∷ [] }) ∷ [] };
  permille = 0;
}

-- it is to delete what it has
abbrev having_an_order : Shadow → Shadow
having_an_order x = record x {
  namespace = one_block;
  table = record { min = 1; entries = (7, record { row = None; replication = 0; cells = (1, record { replica = None; ordered = true }) ∷ [] }) ∷ [] };
  permille = 0;
}

-- histories have the order of their own runs
another_history : (x : Shadow) (a : Active) → EndsAlike (record x { history = Applied 1 ∷ [] }) (record x { history = [] }) a a
another_history x a = record { namespace = refl; last = refl; replicas = λ dn id. refl; orders = λ dn id. refl; counts = refl }

not_another_last : (x : Shadow) (a : Active) → EndsAlike x x a (record a { last = a.last + 1 }) → ⊥
not_another_last x a h = let e : a.last ≡ a.last + 1 = h.last in omega (arith, e)

not_another_namespace : (x : Shadow) (a : Active) → EndsAlike (record x { namespace = root_alone }) (record x { namespace = record root_alone { issued = record root_alone.issued { last_stamp = 1001 } } }) a a → ⊥
not_another_namespace x a h = let e : 1000 ≡ 1001 = ap (λ (n : Namespace). n.issued.last_stamp) h.namespace in omega (arith, e)

not_another_replica : (x : Shadow) (a : Active) → EndsAlike (having_none x 0) (having_one x) a a → ⊥
not_another_replica x a h = let e : None ≡ Some too_long = h.replicas 1 7 in cc

not_another_order : (x : Shadow) (a : Active) → EndsAlike (having_none x 0) (having_an_order x) a a → ⊥
not_another_order x a h = true≢false (sym (h.orders 1 7))

-- the block is not safe: that matters where it has to be
not_another_mode : (x : Shadow) (a : Active) → EndsAlike (having_none x 0) (having_none x 1000) a a → ⊥
not_another_mode x a h = true≢false (sym (ap (λ m. m.on) h.counts))
