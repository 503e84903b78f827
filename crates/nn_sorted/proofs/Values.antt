-- The value at each key, after a change at one.
use Rattle.std.proofs.Common.{◌≡◌, true, false, Bool, cond, List, [], ◌∷◌, Some, None, IsSome, refl, sym, ap, ◌∙◌}
use Rattle.std.proofs.lemmas.Map.{lookup-set_value, lookup-remove_entry}
use Rattle.std.proofs.lemmas.Map.Keys.{IsDistinct-from_sorted}
use Rattle.std.specs.declared.cmp.Ordering.{Ordering}
use Rattle.std.specs.declared.cmp.Ordering.TheVariants.{Less, Equal, Greater}
use Rattle.std.specs.Ordering.{is_eq, match_ordering, eq_by_cmp}
use Rattle.std.specs.Cmp.{IsTotalOrder, eq_by_cmp_equiv}
use Rattle.std.specs.List.Sorted.{IsStrictlySortedBy}
use Rattle.std.specs.Map.{keys_of, remove_entry, set_value}
use Rattle.std.specs.BTreeMap.{insert_entry, is_at}
use Rattle.nn_sorted.specs.Values.{value_at, value_by}
use mathlib.Core.Bool.{true≢false}

both : {A : Type 0} (b : Bool) (x y z : A) → cond b x z ≡ cond b x (cond b y z)
both true x y z = refl
both false x y z = refl

swapped : {A : Type 0} (a b : Bool) (x y z : A) → (a ≡ true → b ≡ true → ⊥) → cond b y (cond a x z) ≡ cond a x (cond b y z)
swapped true true x y z h = absurd (h refl refl)
swapped true false x y z h = refl
swapped false true x y z h = refl
swapped false false x y z h = refl

equal_is : (r : Ordering) → is_eq r ≡ true → r ≡ Equal
equal_is Less h = absurd (true≢false (sym h))
equal_is Equal h = refl
equal_is Greater h = absurd (true≢false (sym h))

as_one : {K : Type 0} {cmp : K → K → Ordering} (compare : K → Ordering) (same : (x y : K) → compare x ≡ Equal → compare y ≡ cmp x y) (x y : K) → is_at compare x ≡ true → is_at compare y ≡ eq_by_cmp cmp x y
as_one compare same x y h = ap is_eq (same x y (equal_is (compare x) h))

module _ {K : Type 0} {cmp : K → K → Ordering} (o : IsTotalOrder cmp) where
  one : (k x y : K) → is_at (cmp k) x ≡ true → is_at (cmp k) y ≡ eq_by_cmp cmp x y
  one k x y h = (eq_by_cmp_equiv o).congr k x y h

  turn : (q k : K) → is_at (cmp q) k ≡ is_at (cmp k) q
  turn q k = (eq_by_cmp_equiv o).symm q k

module _ {K V : Type 0} {cmp : K → K → Ordering} (o : IsTotalOrder cmp) where
  -- of a query, which compares to each key by `compare`
  module _ (compare : K → Ordering) (same : (x y : K) → compare x ≡ Equal → compare y ≡ cmp x y) where
    pub value_removed : (es : List (K × V)) (q : K) → IsStrictlySortedBy cmp (keys_of es) → value_at cmp (remove_entry (is_at compare) es) q ≡ cond (is_at compare q) None (value_at cmp es q)
    value_removed es q s = lookup-remove_entry (eq_by_cmp_equiv o) (is_at compare) (as_one {cmp = cmp} compare same) q es (IsDistinct-from_sorted cmp (keys_of es) s)

    pub value_set : (es : List (K × V)) (q : K) (w : V) → IsSome (value_by compare es) → value_at cmp (set_value (is_at compare) es w) q ≡ cond (is_at compare q) (Some w) (value_at cmp es q)
    value_set es q w h = lookup-set_value (eq_by_cmp_equiv o) (is_at compare) (as_one {cmp = cmp} compare same) q w es h

  pub value_inserted : (es : List (K × V)) (k q : K) (v : V) → value_at cmp (insert_entry cmp es k v) q ≡ cond (is_at (cmp k) q) (Some v) (value_at cmp es q)
  value_inserted [] k q v = ap (λ b. cond b (Some v) None) (turn o q k)
  value_inserted (e ∷ es) k q v = by (cmp k e.0) refl (value_inserted es k q v)
    where
      new : Ordering → List (K × V)
      new r = match_ordering r ((k, v) ∷ e ∷ es) ((e.0, v) ∷ es) (e ∷ insert_entry cmp es k v)

      by : (r : Ordering) → cmp k e.0 ≡ r → value_at cmp (insert_entry cmp es k v) q ≡ cond (is_at (cmp k) q) (Some v) (value_at cmp es q) → value_at cmp (new r) q ≡ cond (is_at (cmp k) q) (Some v) (value_at cmp (e ∷ es) q)
      by Less h rest = ap (λ b. cond b (Some v) (value_at cmp (e ∷ es) q)) (turn o q k)
      by Equal h rest =
          let same : is_at (cmp q) e.0 ≡ is_at (cmp k) q = turn o q e.0 ∙ sym (one o k e.0 q (ap is_eq h)) in
          ap (λ b. cond b (Some v) (value_at cmp es q)) same ∙ both (is_at (cmp k) q) (Some v) (Some e.1) (value_at cmp es q)
          ∙ ap (λ b. cond (is_at (cmp k) q) (Some v) (cond b (Some e.1) (value_at cmp es q))) (sym same)
      by Greater h rest =
          ap (λ t. cond (is_at (cmp q) e.0) (Some e.1) t) rest
          ∙ swapped (is_at (cmp k) q) (is_at (cmp q) e.0) (Some v) (Some e.1) (value_at cmp es q) (λ a b. true≢false (sym (one o k q e.0 a ∙ b) ∙ ap is_eq h))
