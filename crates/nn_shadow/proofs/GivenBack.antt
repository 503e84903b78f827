-- Room is given back: the standby stays, no block about which an item is held loses its room, and none is left idle.
use Rattle.std.proofs.Common.{◌≡◌, ℕ, true, false, cond, List, [], ◌∷◌, Option, Some, None, is_some, refl, sym, ap, subst, ◌∙◌, inl, inr, arith}
use Rattle.std.specs.Prelude.{◌≢◌, ◌<◌, ◌==◌, ◌&&◌, not, nat_le, nat_lt, unwrap_or}
use Rattle.std.specs.List.{list_any}
use Rattle.std.proofs.lemmas.Bool.{both_ways, and_parts, cases_Bool, or_parts, or_cases, eqb-true, eq-eqb, le-leb, lt-ltb}
use Rattle.nn_types.specs.declared.report.Message.{Message}
use Rattle.nn_types.specs.declared.edit.Edit.{Edit}
use Rattle.nn_model.specs.Apply.{has_id}
use Rattle.nn_model.specs.Stands.{StandbyState}
use Rattle.nn_model.specs.WellFormed.{Includes}
use Rattle.nn_replicas.specs.Table.{BlockEntry, Replicas}
use Rattle.nn_replicas.specs.Entry.{no_entry, is_idle}
use Rattle.nn_replicas.specs.Calls.{entry_at, has_entry, is_placed, is_idle_at, room_made, without_entry, room_given_back}
use Rattle.nn_replicas.specs.Effects.{has_row}
use Rattle.nn_replicas.specs.Order.{IsSortedTable}
use Rattle.nn_replicas.proofs.GivenBack.{find_removed, idle_tells, give_back_gives, give_back_in_order}
use Rattle.nn_replicas.proofs.RoomMade.{placed_entry, made_there, made_given}
use Rattle.nn_postponed.specs.Queues.{IsLeast}
use Rattle.nn_postponed.proofs.Orders.{any_weaker}
use Rattle.nn_shadow.specs.Contents.{Shadow, standby_of, Becomes}
use Rattle.nn_shadow.specs.Room.{is_waited_for, IsNeeded, IsTight, given_back, all_given_back, given_back_at, added_given_back}
use Rattle.nn_shadow.specs.Steps.{HavePlaces, block_added, room_made_at, room_made_for}
use Rattle.nn_shadow.proofs.Sound.{IsSound}

-- ---- whether an item about the block is held

pub none_above : (id : ℕ) (ms : List Message) → list_any (λ m. nat_le id m.block) ms ≡ false → is_waited_for ms id ≡ false
none_above id ms h = any_weaker (λ m. nat_le id m.block) (λ m. m.block == id) ms (λ m e. let i = eqb-true m.block id e in le-leb id m.block (omega (arith, i))) h

least_above : (id next : ℕ) (ms : List Message) → IsLeast id ms next → (next == id) ≡ false → is_waited_for ms id ≡ false
least_above id next ms l h =
    any_weaker (λ m. nat_le id m.block && nat_lt m.block next) (λ m. m.block == id) ms
    (λ m e.
    let i = eqb-true m.block id e in
    (λ j. le-leb id m.block (omega (arith, i)) j && lt-ltb m.block next (apart i) j)) l.none_between
  where
    apart : {b : ℕ} → b ≡ id → b < next
    apart {b} i = omega (arith, i, l.from_there, other)
      where
        other : next ≢ id
        other e = both_ways _ h (eq-eqb next id e)

pub next_tells : (id next : ℕ) (ms : List Message) → IsLeast id ms next → (next == id) ≡ is_waited_for ms id
next_tells id next ms l = elim (cases_Bool (next == id)) [
  | inl same ↦ same ∙ sym (ap (is_waited_for ms) (sym (eqb-true next id same)) ∙ l.held)
  | inr other ↦ other ∙ sym (least_above id next ms l other)
]

not_about : (ms : List Message) (id : ℕ) (m : Message) → is_waited_for ms id ≡ false → Includes ms m → (m.block == id) ≡ false
not_about [] id m h here = absurd here
not_about (x ∷ ms) id m h (inl same) = ap (λ (y : Message). y.block == id) (sym same) ∙ (or_parts (x.block == id) (is_waited_for ms id) h).0
not_about (x ∷ ms) id m h (inr here) = not_about ms id m (or_parts (x.block == id) (is_waited_for ms id) h).1 here

-- ---- the room of one block

-- either nothing is given back, or the room of a block about which nothing is held
cases_given : (held : List Message) (t : Replicas) (id : ℕ) (P : Replicas → Type 0) → P t → (is_waited_for held id ≡ false → P (room_given_back t id)) → P (given_back held t id)
cases_given held t id P stays goes = elim (is_waited_for held id) as (λ w. is_waited_for held id ≡ w → P (cond w t (room_given_back t id))) [
  | true ↦ λ w. stays
  | false ↦ goes
] refl

pub given_in_order : (held : List Message) (t : Replicas) (id : ℕ) → IsSortedTable t → IsSortedTable (given_back held t id)
given_in_order held t id o = cases_given held t id IsSortedTable o (λ w. give_back_in_order t id o)

given_apart : (held : List Message) (t : Replicas) (id b : ℕ) → IsSortedTable t → (b == id) ≡ false → entry_at (given_back held t id) b ≡ entry_at t b
given_apart held t id b o apart = cases_given held t id (λ s. entry_at s b ≡ entry_at t b) refl (λ w. elim (is_idle_at t id) as (λ i. entry_at (cond i (without_entry t id) t) b ≡ entry_at t b) [
  | true ↦ find_removed b id t.entries o.blocks ∙ ap (λ s. cond s None (entry_at t b)) apart
  | false ↦ refl
])

-- ---- what is needed

pub needed_alike : (held now : List Message) (t new : Replicas) (b : ℕ) → entry_at new b ≡ entry_at t b → (is_waited_for held b ≡ true → is_waited_for now b ≡ true) →
    IsNeeded held t b → IsNeeded now new b
needed_alike held now t new b same still needed here idle =
    still (needed (ap is_some (sym same) ∙ here) (ap (λ o. is_idle (unwrap_or o no_entry)) (sym same) ∙ idle))

-- a block with a row is not idle
pub needed_row : (held : List Message) (t : Replicas) (b : ℕ) → has_row t b ≡ true → IsNeeded held t b
needed_row held t b named here idle = absurd (both_ways (has_row t b) (ap is_some (idle_tells t b idle).0) named)

needed_given : (held : List Message) (t : Replicas) (id : ℕ) → IsSortedTable t → IsNeeded held (given_back held t id) id
needed_given held t id o = elim (cases_Bool (is_waited_for held id)) [
  | inl waits ↦ λ here idle. waits
  | inr free ↦ subst (λ s. IsNeeded held s id) (λ j. cond (sym free j) t (room_given_back t id)) (elim (cases_Bool (is_idle_at t id)) [
    | inl idle ↦ subst (λ s. IsNeeded held s id) (λ j. cond (sym idle j) (without_entry t id) t) (λ here now. absurd (both_ways (has_entry (without_entry t id) id) gone here))
    | inr busy ↦ subst (λ s. IsNeeded held s id) (λ j. cond (sym busy j) (without_entry t id) t) (λ here now. absurd (both_ways (is_idle_at t id) busy now))
  ])
]
  where
    gone : has_entry (without_entry t id) id ≡ false
    gone = ap is_some (find_removed id id t.entries o.blocks ∙ ap (λ s. cond s None (entry_at t id)) (eq-eqb id id refl))

needed_stays : (held : List Message) (t : Replicas) (id b : ℕ) → IsSortedTable t → IsNeeded held t b → IsNeeded held (given_back held t id) b
needed_stays held t id b o needed = elim (cases_Bool (b == id)) [
  | inl same ↦ subst (IsNeeded held (given_back held t id)) (sym (eqb-true b id same)) (needed_given held t id o)
  | inr other ↦ needed_alike held held t (given_back held t id) b (given_apart held t id b o other) (λ w. w) needed
]

-- ---- the room of blocks, one after another

pub all_given_in_order : (held : List Message) (t : Replicas) (ids : List ℕ) → IsSortedTable t → IsSortedTable (all_given_back held t ids)
all_given_in_order held t [] o = o
all_given_in_order held t (id ∷ ids) o = all_given_in_order held (given_back held t id) ids (given_in_order held t id o)

pub all_needed_stays : (held : List Message) (t : Replicas) (ids : List ℕ) (b : ℕ) → IsSortedTable t → IsNeeded held t b → IsNeeded held (all_given_back held t ids) b
all_needed_stays held t [] b o needed = needed
all_needed_stays held t (id ∷ ids) b o needed =
    all_needed_stays held (given_back held t id) ids b (given_in_order held t id o) (needed_stays held t id b o needed)

pub all_needed_given : (held : List Message) (t : Replicas) (ids : List ℕ) (b : ℕ) → IsSortedTable t → has_id ids b ≡ true → IsNeeded held (all_given_back held t ids) b
all_needed_given held t [] b o none = cc
all_needed_given held t (id ∷ ids) b o has = elim (or_cases (id == b) (has_id ids b) has) [
  | inl same ↦ all_needed_stays held (given_back held t id) ids b (given_in_order held t id o)
      (subst (IsNeeded held (given_back held t id)) (eqb-true id b same) (needed_given held t id o))
  | inr later ↦ all_needed_given held (given_back held t id) ids b (given_in_order held t id o) later
]

-- ---- the room of a block that an edit adds

-- an item that is held has its room
waited_entry : (t : Replicas) (held : List Message) (id : ℕ) → HavePlaces t held → is_waited_for held id ≡ true → has_entry t id ≡ true
waited_entry t [] id placed waits = absurd (both_ways _ refl waits)
waited_entry t (m ∷ held) id placed waits = elim (or_cases (m.block == id) (is_waited_for held id) waits) [
  | inl own ↦ subst (λ b. has_entry t b ≡ true) (eqb-true m.block id own) (placed_entry t m.dn m.block (placed m (inl refl)))
  | inr later ↦ waited_entry t held id (λ x here. placed x (inr here)) later
]

-- room was made for a block, and given back: one that had an entry has it still, and of any other it goes again
made_back : (held : List Message) (t : Replicas) (id : ℕ) → IsSortedTable t → IsNeeded held t id → (is_waited_for held id ≡ true → has_entry t id ≡ true) →
    given_back held (room_made t id) id ≡ t
made_back held t id o needed waits = by_entry (entry_at t id) refl
  where
    by_entry : (e : Option BlockEntry) → entry_at t id ≡ e → given_back held (room_made t id) id ≡ t
    by_entry None is = elim (cases_Bool (is_waited_for held id)) [
      | inl about ↦ absurd (both_ways (has_entry t id) (ap is_some is) (waits about))
      | inr none ↦ ap (λ w. cond w (room_made t id) (room_given_back (room_made t id) id)) none ∙ made_given t id is
    ]
    by_entry (Some e) is =
        ap (λ s. given_back held s id) (made_there t id e o.blocks is)
        ∙ cases_given held t id (λ s. s ≡ t) refl (λ none. elim (cases_Bool (is_idle_at t id)) [
          | inl idle ↦ absurd (both_ways (is_waited_for held id) none (needed (ap is_some is) idle))
          | inr busy ↦ ap (λ i. cond i (without_entry t id) t) busy
        ])

pub added_back : (held : List Message) (t : Replicas) (edit : Edit) → IsSortedTable t → IsTight held t → HavePlaces t held →
    added_given_back held (room_made_for t edit) edit ≡ t
added_back held t edit o tight placed = by_block (block_added edit)
  where
    by_block : (b : Option ℕ) → given_back_at held (room_made_at t b) b ≡ t
    by_block None = refl
    by_block (Some id) = made_back held t id o (tight id) (waited_entry t held id placed)

-- ---- the standby

-- it shows what it showed, and what holds within a call holds
pub record Stays (x : Shadow) (t : Replicas) : Type 0 where
  pub sound : IsSound (record x { table = t })
  pub becomes : Becomes x (standby_of x) (record x { table = t })

pub becomes_more : {x y z : Shadow} {s : StandbyState} → Becomes x s y → Becomes y (standby_of y) z → Becomes x s z
becomes_more {x} {y} {z} {s} a b = record {
  standby = b.standby ∙ a.standby;
  phase = b.phase ∙ a.phase;
  settings = record { datanodes = b.settings.datanodes ∙ a.settings.datanodes; min = b.settings.min ∙ a.settings.min; permille = b.settings.permille ∙ a.settings.permille };
}

same_stays : (x : Shadow) → IsSound x → Stays x x.table
same_stays x c = record { sound = c; becomes = record { standby = refl; phase = refl; settings = record { datanodes = refl; min = refl; permille = refl } } }

room_stays : (x : Shadow) (id : ℕ) → IsSound x → is_waited_for x.held id ≡ false → Stays x (room_given_back x.table id)
room_stays x id c none =
    let g = give_back_gives x.table id c.shows.in_order in
    record {
      sound = record {
        limit = c.limit;
        stopped = c.stopped;
        well_formed = c.well_formed;
        datanodes_from = c.datanodes_from;
        datanodes_to = c.datanodes_to;
        had_each = c.had_each;
        shows = record {
          in_order = give_back_in_order x.table id c.shows.in_order;
          rows = λ b. g.rows b ∙ c.shows.rows b;
          replications = λ a here. g.replications a.0.id ∙ c.shows.replications a here;
          datanodes = λ dn b here. c.shows.datanodes dn b (and_parts (not ((b == id) && is_idle_at x.table id)) (is_placed x.table dn b) (sym (g.room dn b) ∙ here)).1;
        };
        unnamed = λ dn b off. g.replicas dn b ∙ c.unnamed dn b off;
        placed = λ m here.
            g.room m.dn m.block ∙ ap (λ b. not (b && is_idle_at x.table id) && is_placed x.table m.dn m.block) (not_about x.held id m none here)
            ∙ c.placed m here;
        by_block = c.by_block;
        settled = c.settled;
      };
      becomes = record {
        standby = λ j. record (standby_of x) { replica = λ d b. g.replicas d b j; has_order = λ d b. g.orders d b j };
        phase = refl;
        settings = record { datanodes = refl; min = elim (is_idle_at x.table id) as (λ b. (cond b (without_entry x.table id) x.table).min ≡ x.table.min) [ true ↦ refl | false ↦ refl ]; permille = refl };
      };
    }

pub given_stays : (x : Shadow) (id : ℕ) → IsSound x → Stays x (given_back x.held x.table id)
given_stays x id c = cases_given x.held x.table id (Stays x) (same_stays x c) (room_stays x id c)

pub all_given_stays : (x : Shadow) (ids : List ℕ) → IsSound x → Stays x (all_given_back x.held x.table ids)
all_given_stays x [] c = same_stays x c
all_given_stays x (id ∷ ids) c =
    let one = given_stays x id c in
    let more = all_given_stays (record x { table = given_back x.held x.table id }) ids one.sound in
    record { sound = more.sound; becomes = becomes_more one.becomes more.becomes }
