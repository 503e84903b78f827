-- Entries in the order of their keys: writes in two words of std, and what is counted.
use Rattle.std.proofs.Common.{◌≡◌, ℕ, ◌+◌, ◌≤◌, Bool, true, false, cond, ◌&&◌, List, [], ◌∷◌, Option, Some, None, is_some, length, count_by, refl, sym, ap, subst, ◌∙◌, arith, T, nat_cmp}
use Rattle.std.specs.declared.cmp.Ordering.{Ordering}
use Rattle.std.specs.declared.cmp.Ordering.TheVariants.{Less, Equal, Greater}
use Rattle.std.specs.Ordering.{is_eq, is_lt, match_ordering}
use Rattle.std.specs.Cmp.{nat_cmp_total}
use Rattle.std.specs.BTreeMap.{insert_entry, is_at}
use Rattle.std.specs.Map.{keys_of, lookup, set_value}
use Rattle.std.specs.List.{AllByRecursion, sum_by}
use Rattle.std.specs.List.Sorted.{IsStrictlySortedBy}
use Rattle.std.specs.FinMap.Entries.{by_order, find, put, below_all, is_sorted, is_sorted-put}
use Rattle.std.proofs.lemmas.List.Sums.{sum_by-cons}

pub halves : (a b : Bool) → (a && b) ≡ true → (a ≡ true) × (b ≡ true)
halves true b h = (refl, h)
halves false b h = (h, cc)

pub from_T : (b : Bool) → T b → b ≡ true
from_T true h = refl
from_T false h = absurd h

pub is_less : (o : Ordering) → is_lt o ≡ true → o ≡ Less
is_less Less h = refl
is_less Equal h = cc
is_less Greater h = cc

pub same_some : {X : Type 0} (x y : X) → Some x ≡ Some y → x ≡ y
same_some x y e = cc

-- the weight of what is there, 0 where nothing is
abbrev pub share : {X : Type 0} → (X → ℕ) → Option X → ℕ
share f None = 0
share f (Some x) = f x

-- 1 where the test passes, and where there is nothing to test 0
abbrev pub weight : {X : Type 0} → (X → Bool) → Option X → ℕ
weight p o = share (λ x. cond (p x) 1 0) o

module _ {X : Type 0} where
  below_less : (k j : ℕ) (es : List (ℕ × X)) → nat_cmp k j ≡ Less → below_all nat_cmp j es ≡ true → below_all nat_cmp k es ≡ true
  below_less k j [] l h = refl
  below_less k j (e ∷ es) l h =
      let parts = halves (is_lt (nat_cmp j e.0)) (below_all nat_cmp j es) h in
      ap (λ o. is_lt o && below_all nat_cmp k es) (nat_cmp_total.trans k j e.0 l (is_less (nat_cmp j e.0) parts.0)) ∙ below_less k j es l parts.1

  -- a key below all is not found
  pub find_below : (k : ℕ) (es : List (ℕ × X)) → below_all nat_cmp k es ≡ true → find nat_cmp k es ≡ None
  find_below k [] h = refl
  find_below k (e ∷ es) h =
      let parts = halves (is_lt (nat_cmp k e.0)) (below_all nat_cmp k es) h in
      ap (λ o. cond (is_eq o) (Some e.1) (find nat_cmp k es)) (is_less (nat_cmp k e.0) parts.0) ∙ find_below k es parts.1

  -- a key below the first one is not found
  pub absent : (k : ℕ) (e : ℕ × X) (es : List (ℕ × X)) → nat_cmp k e.0 ≡ Less → is_sorted nat_cmp (e ∷ es) ≡ true → find nat_cmp k es ≡ None
  absent k e es l s = find_below k es (below_less k e.0 es l (halves (below_all nat_cmp e.0 es) (is_sorted nat_cmp es) s).0)

  pub tail_sorted : (e : ℕ × X) (es : List (ℕ × X)) → is_sorted nat_cmp (e ∷ es) ≡ true → is_sorted nat_cmp es ≡ true
  tail_sorted e es s = (halves (below_all nat_cmp e.0 es) (is_sorted nat_cmp es) s).1

  pub put_sorted : (k : ℕ) (v : X) (es : List (ℕ × X)) → is_sorted nat_cmp es ≡ true → is_sorted nat_cmp (put nat_cmp k v es) ≡ true
  put_sorted k v es s = from_T _ (is_sorted-put nat_cmp nat_cmp_total k v es (subst T (sym s) tt))

  all_below : (k : ℕ) (es : List (ℕ × X)) → AllByRecursion (λ j. nat_cmp k j ≡ Less) (keys_of es) → below_all nat_cmp k es ≡ true
  all_below k [] h = refl
  all_below k (e ∷ es) h = ap (λ o. is_lt o && below_all nat_cmp k es) h.0 ∙ all_below k es h.1

  -- the order that maps tell of
  pub sorted_of : (es : List (ℕ × X)) → IsStrictlySortedBy nat_cmp (keys_of es) → is_sorted nat_cmp es ≡ true
  unfolding IsStrictlySortedBy
  sorted_of [] h = refl
  sorted_of (e ∷ es) h = ap (λ b. b && is_sorted nat_cmp es) (all_below e.0 es h.0) ∙ sorted_of es h.1

  pub lookup_is_find : (k : ℕ) (es : List (ℕ × X)) → lookup (is_at (nat_cmp k)) es ≡ find nat_cmp k es
  lookup_is_find k [] = refl
  lookup_is_find k (e ∷ es) = ap (λ r. cond (is_eq (nat_cmp k e.0)) (Some e.1) r) (lookup_is_find k es)

  pub insert_is_put : (k : ℕ) (v : X) (es : List (ℕ × X)) → insert_entry nat_cmp es k v ≡ put nat_cmp k v es
  insert_is_put k v [] = refl
  insert_is_put k v (e ∷ es) =
      elim (nat_cmp k e.0) as (λ o. match_ordering o ((k, v) ∷ e ∷ es) ((e.0, v) ∷ es) (e ∷ insert_entry nat_cmp es k v) ≡ by_order o ((k, v) ∷ e ∷ es) ((e.0, v) ∷ es) (e ∷ put nat_cmp k v es)) [
        | Less ↦ refl
        | Equal ↦ refl
        | Greater ↦ ap (λ r. e ∷ r) (insert_is_put k v es)
      ]

  -- to write the value of a key is to put it
  pub set_is_put : (k : ℕ) (v w : X) (es : List (ℕ × X)) → find nat_cmp k es ≡ Some v → is_sorted nat_cmp es ≡ true → set_value (is_at (nat_cmp k)) es w ≡ put nat_cmp k w es
  set_is_put k v w [] h s = cc
  set_is_put k v w (e ∷ es) h s =
      elim (nat_cmp k e.0) as (λ o. nat_cmp k e.0 ≡ o → cond (is_eq o) (Some e.1) (find nat_cmp k es) ≡ Some v → cond (is_eq o) ((e.0, w) ∷ es) (e ∷ set_value (is_at (nat_cmp k)) es w) ≡ by_order o ((k, w) ∷ e ∷ es) ((e.0, w) ∷ es) (e ∷ put nat_cmp k w es)) [
        | Less ↦ λ l g. let none = absent k e es l s in (cc (g, none))
        | Equal ↦ λ l g. refl
        | Greater ↦ λ l g. ap (λ r. e ∷ r) (set_is_put k v w es g (tail_sorted e es s))
      ] refl h

  -- to put what is there changes nothing
  pub put_same : (k : ℕ) (v : X) (es : List (ℕ × X)) → find nat_cmp k es ≡ Some v → is_sorted nat_cmp es ≡ true → put nat_cmp k v es ≡ es
  put_same k v [] h s = cc
  put_same k v (e ∷ es) h s =
      elim (nat_cmp k e.0) as (λ o. nat_cmp k e.0 ≡ o → cond (is_eq o) (Some e.1) (find nat_cmp k es) ≡ Some v → by_order o ((k, v) ∷ e ∷ es) ((e.0, v) ∷ es) (e ∷ put nat_cmp k v es) ≡ e ∷ es) [
        | Less ↦ λ l g. let none = absent k e es l s in (cc (g, none))
        | Equal ↦ λ l g. ap (λ x. (e.0, x) ∷ es) (sym (same_some e.1 v g))
        | Greater ↦ λ l g. ap (λ r. e ∷ r) (put_same k v es g (tail_sorted e es s))
      ] refl h

  -- the sum of the weights
  abbrev pub summed : (X → ℕ) → List (ℕ × X) → ℕ
  summed f es = sum_by (λ e. f e.1) es

  pub summed_cons : (f : X → ℕ) (e : ℕ × X) (es : List (ℕ × X)) → summed f (e ∷ es) ≡ f e.1 + summed f es
  summed_cons f e es = sum_by-cons (λ (x : ℕ × X). f x.1) e es

  -- what is there is in the sum
  pub summed_there : (f : X → ℕ) (k : ℕ) (es : List (ℕ × X)) → share f (find nat_cmp k es) ≤ summed f es
  summed_there f k [] = omega arith
  summed_there f k (e ∷ es) =
      elim (is_eq (nat_cmp k e.0)) as (λ b. share f (cond b (Some e.1) (find nat_cmp k es)) ≤ summed f (e ∷ es)) [
        | true ↦ omega (arith, summed_cons f e es)
        | false ↦ omega (arith, summed_cons f e es, summed_there f k es)
      ]

  -- the sum after a write
  pub summed_put : (f : X → ℕ) (k : ℕ) (v : X) (es : List (ℕ × X)) → is_sorted nat_cmp es ≡ true → summed f (put nat_cmp k v es) + share f (find nat_cmp k es) ≡ summed f es + f v
  summed_put f k v [] s = omega (arith, summed_cons f (k, v) [])
  summed_put f k v (e ∷ es) s =
      elim (nat_cmp k e.0) as (λ o. nat_cmp k e.0 ≡ o → summed f (by_order o ((k, v) ∷ e ∷ es) ((e.0, v) ∷ es) (e ∷ put nat_cmp k v es)) + share f (cond (is_eq o) (Some e.1) (find nat_cmp k es)) ≡ summed f (e ∷ es) + f v) [
        | Less ↦ λ l. omega (arith, summed_cons f (k, v) (e ∷ es), ap (share f) (absent k e es l s))
        | Equal ↦ λ l. omega (arith, summed_cons f (e.0, v) es, summed_cons f e es)
        | Greater ↦ λ l. omega (arith, summed_cons f e (put nat_cmp k v es), summed_cons f e es, summed_put f k v es (tail_sorted e es s))
      ] refl

  -- no weight is above that of another kind, nor the sum
  pub summed_below : (f g : X → ℕ) → ((x : X) → f x ≤ g x) → (es : List (ℕ × X)) → summed f es ≤ summed g es
  summed_below f g h [] = omega arith
  summed_below f g h (e ∷ es) = omega (arith, summed_cons f e es, summed_cons g e es, h e.1, summed_below f g h es)

  -- how many there are
  pub length_put : (k : ℕ) (v : X) (es : List (ℕ × X)) → is_sorted nat_cmp es ≡ true → length (put nat_cmp k v es) + cond (is_some (find nat_cmp k es)) 1 0 ≡ length es + 1
  length_put k v [] s = refl
  length_put k v (e ∷ es) s =
      elim (nat_cmp k e.0) as (λ o. nat_cmp k e.0 ≡ o → length (by_order o ((k, v) ∷ e ∷ es) ((e.0, v) ∷ es) (e ∷ put nat_cmp k v es)) + cond (is_some (cond (is_eq o) (Some e.1) (find nat_cmp k es))) 1 0 ≡ length (e ∷ es) + 1) [
        | Less ↦ λ l. (let none : cond {A = ℕ} (is_some (find nat_cmp k es)) 1 0 ≡ 0 = ap (λ o. cond (is_some o) 1 0) (absent k e es l s) in omega (arith, none))
        | Equal ↦ λ l. omega arith
        | Greater ↦ λ l. omega (arith, length_put k v es (tail_sorted e es s))
      ] refl

  abbrev pub counted : (X → Bool) → List (ℕ × X) → ℕ
  counted p es = count_by (λ e. p e.1) es

  pub counted_cons : (p : X → Bool) (e : ℕ × X) (es : List (ℕ × X)) → counted p (e ∷ es) ≡ cond (p e.1) 1 0 + counted p es
  counted_cons p e es = summed_cons (λ x. cond (p x) 1 0) e es

  pub counted_put : (p : X → Bool) (k : ℕ) (v : X) (es : List (ℕ × X)) → is_sorted nat_cmp es ≡ true → counted p (put nat_cmp k v es) + weight p (find nat_cmp k es) ≡ counted p es + cond (p v) 1 0
  counted_put p k v es s = summed_put (λ x. cond (p x) 1 0) k v es s
