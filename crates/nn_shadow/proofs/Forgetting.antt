-- What the end of a full report revokes is what was told before its begin: the others stay.
use Rattle.std.proofs.Common.{◌≡◌, ℕ, Bool, true, false, cond, List, [], ◌∷◌, ◌++◌, map, length, Option, Some}
use Rattle.std.proofs.Common.{refl, sym, ap, subst, ◌∙◌, arith}
use Rattle.std.specs.Prelude.{not, nat_lt, nat_le, filter, ◌&&◌, T}
use Rattle.std.specs.FinMap.Entries.{is_sorted, below_all}
use Rattle.std.specs.Map.{remove_entry}
use Rattle.std.specs.BTreeMap.{is_at}
use Rattle.std.specs.Ordering.{nat_cmp, is_lt, is_eq}
use Rattle.std.proofs.lemmas.List.{append-nil}
use Rattle.std.proofs.lemmas.Bool.Decides.{nat_tests}
use Rattle.nn_types.specs.declared.report.Message.{Message}
use Rattle.nn_model.specs.Items.{NodeState, revoked, finished, with_items}
use Rattle.nn_shadow.specs.Notes.{with_notes}
use Rattle.nn_shadow.proofs.Merging.{less, greater, equal, AllAfter, Ascend}
use Rattle.nn_shadow.proofs.Sorting.{ascend_from}

after_filter : (p : ℕ × ℕ → Bool) (x : ℕ) (es : List (ℕ × ℕ)) → AllAfter x es → AllAfter x (filter p es)
after_filter p x [] h = tt
after_filter p x (e ∷ es) h =
    let later = after_filter p x es h.1 in
    elim (p e) as (λ t. AllAfter x (cond t (e ∷ filter p es) (filter p es))) [ true ↦ (h.0, later) | false ↦ later ]

ascend_filter : (p : ℕ × ℕ → Bool) (es : List (ℕ × ℕ)) → Ascend es → Ascend (filter p es)
ascend_filter p [] h = tt
ascend_filter p (e ∷ es) h =
    let later = ascend_filter p es h.1 in
    elim (p e) as (λ t. Ascend (cond t (e ∷ filter p es) (filter p es))) [ true ↦ (after_filter p e.0 es h.0, later) | false ↦ later ]

below_from : (x : ℕ) (es : List (ℕ × ℕ)) → AllAfter x es → T (below_all nat_cmp x es)
below_from x [] h = tt
below_from x (e ∷ es) h = subst (λ o. T (is_lt o && below_all nat_cmp x es)) (sym (less x e.0 h.0)) (below_from x es h.1)

both : (a b : Bool) → T a → T b → T (a && b)
both true b p q = q
both false b p q = p

sorted_from : (es : List (ℕ × ℕ)) → Ascend es → T (is_sorted nat_cmp es)
sorted_from [] h = tt
sorted_from (e ∷ es) h = both (below_all nat_cmp e.0 es) (is_sorted nat_cmp es) (below_from e.0 es h.0) (sorted_from es h.1)

pub sorted_filter : (p : ℕ × ℕ → Bool) (es : List (ℕ × ℕ)) → T (is_sorted nat_cmp es) → T (is_sorted nat_cmp (filter p es))
sorted_filter p es h = sorted_from (filter p es) (ascend_filter p es (ascend_from es h))

-- deletes of later blocks
deletes_behind : (e : ℕ × ℕ) (m : Message) (es gone : List (ℕ × ℕ)) → AllAfter e.0 gone →
    with_items (e ∷ es) (map (revoked m) (map (λ (had : ℕ × ℕ). had.0) gone)) ≡ e ∷ with_items es (map (revoked m) (map (λ (had : ℕ × ℕ). had.0) gone))
deletes_behind e m es [] h = refl
deletes_behind e m es (g ∷ gone) h =
    let left = remove_entry (is_at (nat_cmp g.0)) es in
    ap (λ o. with_items (cond (is_eq o) es (e ∷ left)) (map (revoked m) (map (λ (had : ℕ × ℕ). had.0) gone))) (greater g.0 e.0 h.0)
    ∙ deletes_behind e m left gone h.1

-- a number is not before another
abbrev from : ℕ → ℕ × ℕ → Bool
from begin had = nat_le begin had.1

from_is : (begin n : ℕ) → nat_le begin n ≡ not (nat_lt n begin)
from_is begin n = elim (nat_lt n begin) as (λ t. nat_lt n begin ≡ t → nat_le begin n ≡ not t) [
  | true ↦ λ is. grind (arith, nat_tests)
  | false ↦ λ is. grind (arith, nat_tests)
] refl

left_gone : (begin : ℕ) (m : Message) (has : List (ℕ × ℕ)) → Ascend has → with_items has (finished (Some begin) has m) ≡ filter (from begin) has
left_gone begin m [] h = refl
left_gone begin m (e ∷ es) h =
    let gone = filter (λ (had : ℕ × ℕ). nat_lt had.1 begin) es in
    let rest = left_gone begin m es h.1 in
    elim (nat_lt e.1 begin) as (λ t. with_items (e ∷ es) (map (revoked m) (map (λ (had : ℕ × ℕ). had.0) (cond t (e ∷ gone) gone)))
    ≡ cond (not t) (e ∷ filter (from begin) es) (filter (from begin) es)) [
      | true ↦ ap (λ o. with_items (cond (is_eq o) es (e ∷ remove_entry (is_at (nat_cmp e.0)) es)) (map (revoked m) (map (λ (had : ℕ × ℕ). had.0) gone)))
          (equal e.0 e.0 refl) ∙ rest
      | false ↦ deletes_behind e m es gone (after_filter (λ (had : ℕ × ℕ). nat_lt had.1 begin) e.0 es h.0) ∙ ap (λ l. e ∷ l) rest
    ] ∙ ap (λ t. cond t (e ∷ filter (from begin) es) (filter (from begin) es)) (sym (from_is begin e.1))

-- all notes are sorted in
pub none_waits : (told : List (ℕ × ℕ)) → length told ≡ 0 → told ≡ []
none_waits [] e = refl
none_waits (note ∷ told) e = absurd (omega (arith, e))

pub forgotten : (begin : ℕ) (m : Message) (has told kept : List (ℕ × ℕ)) (begun : Option ℕ) (was : NodeState) → begun ≡ Some begin → T (is_sorted nat_cmp has) → told ≡ [] →
    kept ≡ filter (from begin) has → ◌≡◌ {A = NodeState} (record { has = with_notes has told; begun = begun }) was →
    ◌≡◌ {A = NodeState} (record { has = with_notes kept told; begun = begun }) (record was { has = with_items was.has (finished was.begun was.has m) })
forgotten begin m has told kept begun was open_from sorted none is same =
    ap {B = NodeState} (λ es. record { has = es; begun = begun }) (ap (with_notes kept) none ∙ is ∙ sym (left_gone begin m has (ascend_from has sorted)))
    ∙ ap {B = NodeState} (λ (o : Option ℕ). record { has = with_items has (finished o has m); begun = begun }) (sym open_from)
    ∙ ap {B = NodeState} (λ (h : NodeState). record h { has = with_items h.has (finished h.begun h.has m) })
    (ap {B = NodeState} (λ (l : List (ℕ × ℕ)). record { has = with_notes has l; begun = begun }) (sym none) ∙ same)

-- a loop over the blocks came to its end
pub all_told : (begin : ℕ) (m : Message) (gone : List Message) (left has : List (ℕ × ℕ)) → length left ≡ 0 →
    gone ++ finished (Some begin) left m ≡ finished (Some begin) has m → finished (Some begin) has m ≡ gone
all_told begin m gone left has none is = sym is ∙ ap (λ l. gone ++ finished (Some begin) l m) (none_waits left none) ∙ append-nil gone
