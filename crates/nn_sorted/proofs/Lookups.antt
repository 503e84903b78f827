-- What a look-up and a change of sorted entries do, once it is known where the key stands.
use Rattle.std.proofs.Common.{◌≡◌, ◌+◌, true, cond, List, [], ◌∷◌, ◌++◌, length, Some, None, refl, sym, ap, ◌∙◌, arith}
use Rattle.std.proofs.lemmas.List.{length-append}
use mathlib.Core.Bool.{true≢false}
use Rattle.std.specs.declared.cmp.Ordering.{Ordering}
use Rattle.std.specs.declared.cmp.Ordering.TheVariants.{Less, Equal, Greater}
use Rattle.std.specs.Ordering.{is_eq, is_le, match_ordering, ordering_reverse}
use Rattle.std.specs.Cmp.{IsTotalOrder}
use Rattle.std.specs.List.{AllByRecursion}
use Rattle.std.specs.List.Sorted.{IsStrictlySortedBy}
use Rattle.std.specs.Map.{keys_of, lookup, remove_entry, set_value}
use Rattle.std.specs.BTreeMap.{insert_entry, is_at}
use Rattle.std.proofs.lemmas.Map.Keys.{sorted_head, sorted_tail}
use Rattle.nn_sorted.specs.Chunks.{to_first}

module _ {K V : Type 0} where
  abbrev pub IsAllAbove : (K → Ordering) → List (K × V) → Type 0
  IsAllAbove q xs = AllByRecursion (λ e. q e.0 ≡ Greater) xs

  -- what stands before the key's place changes nothing
  module _ (q : K → Ordering) where
    pub lookup_past : (xs ys : List (K × V)) → IsAllAbove q xs → lookup (is_at q) (xs ++ ys) ≡ lookup (is_at q) ys
    lookup_past [] ys a = refl
    lookup_past (x ∷ xs) ys a = ap (λ r. cond (is_eq r) (Some x.1) (lookup (is_at q) (xs ++ ys))) a.0 ∙ lookup_past xs ys a.1

    pub remove_past : (xs ys : List (K × V)) → IsAllAbove q xs → remove_entry (is_at q) (xs ++ ys) ≡ xs ++ remove_entry (is_at q) ys
    remove_past [] ys a = refl
    remove_past (x ∷ xs) ys a = ap (λ r. cond (is_eq r) (xs ++ ys) (x ∷ remove_entry (is_at q) (xs ++ ys))) a.0 ∙ ap (λ l. x ∷ l) (remove_past xs ys a.1)

    pub set_past : (xs ys : List (K × V)) (w : V) → IsAllAbove q xs → set_value (is_at q) (xs ++ ys) w ≡ xs ++ set_value (is_at q) ys w
    set_past [] ys w a = refl
    set_past (x ∷ xs) ys w a = ap (λ r. cond (is_eq r) ((x.0, w) ∷ xs ++ ys) (x ∷ set_value (is_at q) (xs ++ ys) w)) a.0 ∙ ap (λ l. x ∷ l) (set_past xs ys w a.1)

    pub lookup_here : (e : K × V) (ys : List (K × V)) → q e.0 ≡ Equal → lookup (is_at q) (e ∷ ys) ≡ Some e.1
    lookup_here e ys h = ap (λ r. cond (is_eq r) (Some e.1) (lookup (is_at q) ys)) h

    pub remove_here : (e : K × V) (ys : List (K × V)) → q e.0 ≡ Equal → remove_entry (is_at q) (e ∷ ys) ≡ ys
    remove_here e ys h = ap (λ r. cond (is_eq r) ys (e ∷ remove_entry (is_at q) ys)) h

    pub set_here : (e : K × V) (ys : List (K × V)) (w : V) → q e.0 ≡ Equal → set_value (is_at q) (e ∷ ys) w ≡ (e.0, w) ∷ ys
    set_here e ys w h = ap (λ r. cond (is_eq r) ((e.0, w) ∷ ys) (e ∷ set_value (is_at q) ys w)) h

    -- the first entry, where the key stands
    pub first : (ys : List (K × V)) → to_first q ys ≡ Equal → (e : K × V) × (rest : List (K × V)) × (ys ≡ e ∷ rest) × (q e.0 ≡ Equal)
    first [] h = absurd (true≢false (sym (ap is_eq h)))
    first (y ∷ ys) h = (y, ys, refl, h)

    module _ {cmp : K → K → Ordering} (law : (x y : K) → is_le (q x) ≡ true → cmp x y ≡ Less → q y ≡ Less) where
      none_behind : (x : K) (ys : List (K × V)) → q x ≡ Less → AllByRecursion (λ z. cmp x z ≡ Less) (keys_of ys) → lookup (is_at q) ys ≡ None
      none_behind x [] l a = refl
      none_behind x (y ∷ ys) l a = ap (λ r. cond (is_eq r) (Some y.1) (lookup (is_at q) ys)) (law x y.0 (ap is_le l) a.0) ∙ none_behind x ys l a.1

      -- where the key stands before all entries, it has none
      pub lookup_none : (ys : List (K × V)) → IsStrictlySortedBy cmp (keys_of ys) → to_first q ys ≡ Less → lookup (is_at q) ys ≡ None
      lookup_none [] s l = refl
      lookup_none (y ∷ ys) s l = ap (λ r. cond (is_eq r) (Some y.1) (lookup (is_at q) ys)) l ∙ none_behind y.0 ys l (sorted_head cmp y.0 (keys_of ys) s)

  module _ (cmp : K → K → Ordering) (k : K) (v : V) where
    pub insert_past : (xs ys : List (K × V)) → IsAllAbove (cmp k) xs → insert_entry cmp (xs ++ ys) k v ≡ xs ++ insert_entry cmp ys k v
    insert_past [] ys a = refl
    insert_past (x ∷ xs) ys a = ap (λ r. match_ordering r ((k, v) ∷ x ∷ xs ++ ys) ((x.0, v) ∷ xs ++ ys) (x ∷ insert_entry cmp (xs ++ ys) k v)) a.0 ∙ ap (λ l. x ∷ l) (insert_past xs ys a.1)

    pub insert_new : (ys : List (K × V)) → to_first (cmp k) ys ≡ Less → insert_entry cmp ys k v ≡ (k, v) ∷ ys
    insert_new [] l = refl
    insert_new (y ∷ ys) l = ap (λ r. match_ordering r ((k, v) ∷ y ∷ ys) ((y.0, v) ∷ ys) (y ∷ insert_entry cmp ys k v)) l

    pub insert_here : (e : K × V) (ys : List (K × V)) → cmp k e.0 ≡ Equal → insert_entry cmp (e ∷ ys) k v ≡ (e.0, v) ∷ ys
    insert_here e ys h = ap (λ r. match_ordering r ((k, v) ∷ e ∷ ys) ((e.0, v) ∷ ys) (e ∷ insert_entry cmp ys k v)) h

  -- ---- the order stays

  without : (P : K → Type 0) (xs : List (K × V)) (e : K × V) (ys : List (K × V)) → AllByRecursion P (keys_of (xs ++ e ∷ ys)) → AllByRecursion P (keys_of (xs ++ ys))
  without P [] e ys a = a.1
  without P (x ∷ xs) e ys a = (a.0, without P xs e ys a.1)

  with_one : (P : K → Type 0) (xs : List (K × V)) (e : K × V) (ys : List (K × V)) → P e.0 → AllByRecursion P (keys_of (xs ++ ys)) → AllByRecursion P (keys_of (xs ++ e ∷ ys))
  with_one P [] e ys p a = (p, a)
  with_one P (x ∷ xs) e ys p a = (a.0, with_one P xs e ys p a.1)

  module _ (cmp : K → K → Ordering) where
    pub sorted_behind : (xs ys : List (K × V)) → IsStrictlySortedBy cmp (keys_of (xs ++ ys)) → IsStrictlySortedBy cmp (keys_of ys)
    sorted_behind [] ys s = s
    sorted_behind (x ∷ xs) ys s = sorted_behind xs ys (sorted_tail cmp x.0 (keys_of (xs ++ ys)) s)

    pub sorted_without : (xs : List (K × V)) (e : K × V) (ys : List (K × V)) → IsStrictlySortedBy cmp (keys_of (xs ++ e ∷ ys)) → IsStrictlySortedBy cmp (keys_of (xs ++ ys))
    unfolding IsStrictlySortedBy
    sorted_without [] e ys s = s.1
    sorted_without (x ∷ xs) e ys s = (without (λ z. cmp x.0 z ≡ Less) xs e ys s.0, sorted_without xs e ys s.1)

    module _ (o : IsTotalOrder cmp) (k : K) (v : V) where
      below_all : (x : K) (ys : List (K × V)) → cmp k x ≡ Less → AllByRecursion (λ z. cmp x z ≡ Less) (keys_of ys) → AllByRecursion (λ z. cmp k z ≡ Less) (keys_of ys)
      below_all x [] l a = tt
      below_all x (y ∷ ys) l a = (o.trans k x y.0 l a.0, below_all x ys l a.1)

      below_first : (ys : List (K × V)) → IsStrictlySortedBy cmp (keys_of ys) → to_first (cmp k) ys ≡ Less → AllByRecursion (λ z. cmp k z ≡ Less) (keys_of ys)
      below_first [] s l = tt
      below_first (y ∷ ys) s l = (l, below_all y.0 ys l (sorted_head cmp y.0 (keys_of ys) s))

      pub sorted_with : (xs ys : List (K × V)) → IsStrictlySortedBy cmp (keys_of (xs ++ ys)) → IsAllAbove (cmp k) xs → to_first (cmp k) ys ≡ Less → IsStrictlySortedBy cmp (keys_of (xs ++ (k, v) ∷ ys))
      unfolding IsStrictlySortedBy
      sorted_with [] ys s a l = (below_first ys s l, s)
      sorted_with (x ∷ xs) ys s a l = (with_one (λ z. cmp x.0 z ≡ Less) xs (k, v) ys (o.antisymm x.0 k ∙ ap ordering_reverse a.0) s.0, sorted_with xs ys s.1 a.1 l)

  -- ---- how many

  pub length_with : (xs ys : List (K × V)) (e : K × V) → length (xs ++ e ∷ ys) ≡ length (xs ++ ys) + 1
  length_with xs ys e = omega (arith, length-append xs (e ∷ ys), length-append xs ys)
