-- Lists of replicas and of orders.
use Rattle.std.proofs.Common.{◌≡◌, ℕ, ◌+◌, ◌<◌, length, take, get_or, add-one, nat_lt, append-nil, eq-eqb, Bool, true, false, cond, List, [], ◌∷◌}
use Rattle.std.proofs.Common.{◌++◌, Option, Some, None, refl, sym, ap, subst, ◌∙◌, nat_cmp}
use Rattle.std.specs.Prelude.{◌&&◌, ◌||◌, ◌==◌}
use Rattle.std.specs.declared.cmp.Ordering.TheVariants.{Less, Equal, Greater}
use Rattle.std.proofs.lemmas.Grind.{flat_map-append}
use Rattle.std.specs.Option.{option_map}
use Rattle.std.specs.List.{AllByRecursion, cons_option, filter_map, flat_map, list_all}
use Rattle.std.specs.List.Sorted.{IsStrictlySortedBy}
use Rattle.std.specs.Ordering.{is_lt}
use Rattle.std.proofs.Math.Seq.{take-suc}
use Rattle.std.proofs.lemmas.List.Elements.{filter_map-append}
use Rattle.std.specs.FinMap.Entries.{below_all, is_sorted}
use Rattle.nn_replicas.specs.declared.entry.Cell.{Cell}
use Rattle.nn_replicas.specs.Entry.{rows_in, replicas_in, ordered_in, orders_in, order_in}
use Rattle.nn_replicas.specs.Table.{BlockEntry}
use Rattle.nn_replicas.specs.Calls.{comes_first, AreAscending}
use Rattle.nn_replicas.proofs.Entries.{halves, is_less}

-- ---- what f finds under each key, with the key

module _ {X Y : Type 0} (f : X → Option Y) where
  abbrev found : ℕ × X → Option (ℕ × Y)
  found x = option_map (λ y. (x.0, y)) (f x.1)

  below_found : (k : ℕ) (xs : List (ℕ × X)) → below_all nat_cmp k xs ≡ true → below_all nat_cmp k (filter_map found xs) ≡ true
  below_found k [] h = refl
  below_found k (x ∷ xs) h =
      let parts = halves (is_lt (nat_cmp k x.0)) (below_all nat_cmp k xs) h in
      cases (f x.1) parts.0 (below_found k xs parts.1)
    where
      cases : (o : Option Y) → is_lt (nat_cmp k x.0) ≡ true → below_all nat_cmp k (filter_map found xs) ≡ true
          → below_all nat_cmp k (cons_option (option_map (λ y. (x.0, y)) o) (filter_map found xs)) ≡ true
      cases None l h = h
      cases (Some y) l h = ap (λ b. b && below_all nat_cmp k (filter_map found xs)) l ∙ h

  found_sorted : (xs : List (ℕ × X)) → is_sorted nat_cmp xs ≡ true → is_sorted nat_cmp (filter_map found xs) ≡ true
  found_sorted [] h = refl
  found_sorted (x ∷ xs) h =
      let parts = halves (below_all nat_cmp x.0 xs) (is_sorted nat_cmp xs) h in
      cases (f x.1) (below_found x.0 xs parts.0) (found_sorted xs parts.1)
    where
      cases : (o : Option Y) → below_all nat_cmp x.0 (filter_map found xs) ≡ true → is_sorted nat_cmp (filter_map found xs) ≡ true
          → is_sorted nat_cmp (cons_option (option_map (λ y. (x.0, y)) o) (filter_map found xs)) ≡ true
      cases None l h = h
      cases (Some y) l h = ap (λ b. b && is_sorted nat_cmp (filter_map found xs)) l ∙ h

pub replicas_sorted : (xs : List (ℕ × Cell)) → is_sorted nat_cmp xs ≡ true → is_sorted nat_cmp (replicas_in xs) ≡ true
replicas_sorted xs h = found_sorted (λ c. c.replica) xs h

pub rows_sorted : (es : List (ℕ × BlockEntry)) → is_sorted nat_cmp es ≡ true → is_sorted nat_cmp (rows_in es) ≡ true
rows_sorted es h = found_sorted (λ e. e.row) es h

-- ---- the DataNodes of one block's orders

below_ordered : (k : ℕ) (xs : List (ℕ × Cell)) → below_all nat_cmp k xs ≡ true → AllByRecursion (λ j. nat_cmp k j ≡ Less) (ordered_in xs)
below_ordered k [] h = tt
below_ordered k (x ∷ xs) h =
    let parts = halves (is_lt (nat_cmp k x.0)) (below_all nat_cmp k xs) h in
    cases x.1.ordered (is_less (nat_cmp k x.0) parts.0) (below_ordered k xs parts.1)
  where
    cases : (o : Bool) → nat_cmp k x.0 ≡ Less → AllByRecursion (λ j. nat_cmp k j ≡ Less) (ordered_in xs)
        → AllByRecursion (λ j. nat_cmp k j ≡ Less) (cons_option (cond o (Some x.0) None) (ordered_in xs))
    cases true l r = (l, r)
    cases false l r = r

pub ordered_ascend : (xs : List (ℕ × Cell)) → is_sorted nat_cmp xs ≡ true → IsStrictlySortedBy nat_cmp (ordered_in xs)
unfolding IsStrictlySortedBy
ordered_ascend [] h = tt
ordered_ascend (x ∷ xs) h =
    let parts = halves (below_all nat_cmp x.0 xs) (is_sorted nat_cmp xs) h in
    cases x.1.ordered (below_ordered x.0 xs parts.0) (ordered_ascend xs parts.1)
  where
    cases : (o : Bool) → AllByRecursion (λ j. nat_cmp x.0 j ≡ Less) (ordered_in xs) → IsStrictlySortedBy nat_cmp (ordered_in xs)
        → IsStrictlySortedBy nat_cmp (cons_option (cond o (Some x.0) None) (ordered_in xs))
    cases true b r = (b, r)
    cases false b r = r

take_more : (xs : List (ℕ × Cell)) (i : ℕ) (x : ℕ × Cell) → i < length xs → x ≡ get_or xs i x → take (i + 1) xs ≡ take i xs ++ x ∷ []
take_more xs i x l g = ap (λ n. take n xs) (add-one i) ∙ take-suc xs i x l ∙ ap (λ y. take i xs ++ y ∷ []) (sym g)

abbrev one : Option (ℕ × ℕ) → List (ℕ × ℕ)
one o = cons_option o []

-- the orders of one more cell
pub orders_more : (id : ℕ) (xs : List (ℕ × Cell)) (i : ℕ) (x : ℕ × Cell) (b : Bool) → i < length xs → x ≡ get_or xs i x → x.1.ordered ≡ b
    → orders_in id (take (i + 1) xs) ≡ orders_in id (take i xs) ++ cond b ((id, x.0) ∷ []) []
orders_more id xs i x b l g h =
    ap (orders_in id) (take_more xs i x l g) ∙ filter_map-append (order_in id) (take i xs) (x ∷ []) ∙ ap (λ r. orders_in id (take i xs) ++ r) (ap (λ o. one (cond o (Some (id, x.0)) None)) h ∙ cases b)
  where
    cases : (b : Bool) → one (cond b (Some (id, x.0)) None) ≡ cond b ((id, x.0) ∷ []) []
    cases true = refl
    cases false = refl

-- ---- all orders

-- the orders of the entries passed were listed, and the cells of each are in order
pub record Passed (orders : List (ℕ × ℕ)) (es : List (ℕ × BlockEntry)) : Type 0 where
  pub all : orders ≡ flat_map (λ e. orders_in e.0 e.1.cells) es
  pub order : list_all (λ e. is_sorted nat_cmp e.1.cells) es ≡ true

pub passed_more : (xs ys : List (ℕ × ℕ)) (es : List (ℕ × BlockEntry)) (e : ℕ × BlockEntry) → Passed xs es → ys ≡ xs ++ orders_in e.0 e.1.cells
    → is_sorted nat_cmp e.1.cells ≡ true → Passed ys (es ++ e ∷ [])
passed_more xs ys es e h m s = record {
  all = m ∙ ap (λ r. r ++ orders_in e.0 e.1.cells) h.all ∙ ap (λ r. flat_map orders_at es ++ r) (sym (append-nil (orders_in e.0 e.1.cells))) ∙ sym (flat_map-append orders_at es (e ∷ []));
  order = all_push es h.order;
}
  where
    orders_at : ℕ × BlockEntry → List (ℕ × ℕ)
    orders_at e = orders_in e.0 e.1.cells

    all_push : (es : List (ℕ × BlockEntry)) → list_all (λ e. is_sorted nat_cmp e.1.cells) es ≡ true
        → list_all (λ e. is_sorted nat_cmp e.1.cells) (es ++ e ∷ []) ≡ true
    all_push [] g = ap (λ b. b && true) s
    all_push (x ∷ xs) g =
        let parts = halves (is_sorted nat_cmp x.1.cells) (list_all (λ (e : ℕ × BlockEntry). is_sorted nat_cmp e.1.cells) xs) g in
        ap (λ b. b && list_all (λ (e : ℕ × BlockEntry). is_sorted nat_cmp e.1.cells) (xs ++ e ∷ [])) parts.0 ∙ all_push xs parts.1

less_by : (a b : Bool) → is_lt (cond a Less (cond b Equal Greater)) ≡ true → a ≡ true
less_by true b h = refl
less_by false true h = cc
less_by false false h = cc

is_below : (x y : ℕ) → is_lt (nat_cmp x y) ≡ true → nat_lt x y ≡ true
is_below x y h = less_by (nat_lt x y) (x == y) h

or_true : (a : Bool) → (a || true) ≡ true
or_true true = refl
or_true false = refl

-- an order comes before those of the same block and higher DataNodes
first_here : (id k dn : ℕ) → nat_lt k dn ≡ true → comes_first (id, k) (id, dn) ≡ true
first_here id k dn l =
    ap (λ e. nat_lt id id || (e && nat_lt k dn)) (eq-eqb id id refl) ∙ ap (λ b. nat_lt id id || (true && b)) l ∙ or_true (nat_lt id id)

-- and before those of higher blocks
first_later : (id k : ℕ) (ys : List (ℕ × ℕ)) → list_all (λ y. nat_lt id y.0) ys ≡ true → list_all (comes_first (id, k)) ys ≡ true
first_later id k [] h = refl
first_later id k (y ∷ ys) h =
    let parts = halves (nat_lt id y.0) (list_all (λ (y : ℕ × ℕ). nat_lt id y.0) ys) h in
    ap (λ b. (b || ((id == y.0) && nat_lt k y.1)) && list_all (comes_first (id, k)) ys) parts.0 ∙ first_later id k ys parts.1

first_of_all : (id k : ℕ) (xs : List (ℕ × Cell)) (ys : List (ℕ × ℕ)) → below_all nat_cmp k xs ≡ true → list_all (λ y. nat_lt id y.0) ys ≡ true
    → list_all (comes_first (id, k)) (orders_in id xs ++ ys) ≡ true
first_of_all id k [] ys b h = first_later id k ys h
first_of_all id k (x ∷ xs) ys b h =
    let parts = halves (is_lt (nat_cmp k x.0)) (below_all nat_cmp k xs) b in
    cases x.1.ordered (is_below k x.0 parts.0) (first_of_all id k xs ys parts.1 h)
  where
    cases : (o : Bool) → nat_lt k x.0 ≡ true → list_all (comes_first (id, k)) (orders_in id xs ++ ys) ≡ true
        → list_all (comes_first (id, k)) (cons_option (cond o (Some (id, x.0)) None) (orders_in id xs) ++ ys) ≡ true
    cases true l r = ap (λ b. b && list_all (comes_first (id, k)) (orders_in id xs ++ ys)) (first_here id k x.0 l) ∙ r
    cases false l r = r

ascending_with : (id : ℕ) (xs : List (ℕ × Cell)) (ys : List (ℕ × ℕ)) → is_sorted nat_cmp xs ≡ true → list_all (λ y. nat_lt id y.0) ys ≡ true
    → AreAscending ys → AreAscending (orders_in id xs ++ ys)
ascending_with id [] ys s h a = a
ascending_with id (x ∷ xs) ys s h a =
    let parts = halves (below_all nat_cmp x.0 xs) (is_sorted nat_cmp xs) s in
    cases x.1.ordered (first_of_all id x.0 xs ys parts.0 h) (ascending_with id xs ys parts.1 h a)
  where
    cases : (o : Bool) → list_all (comes_first (id, x.0)) (orders_in id xs ++ ys) ≡ true → AreAscending (orders_in id xs ++ ys)
        → AreAscending (cons_option (cond o (Some (id, x.0)) None) (orders_in id xs) ++ ys)
    cases true f r = (f, r)
    cases false f r = r

-- the orders of a block id are of that id
later_with : (low id : ℕ) (xs : List (ℕ × Cell)) (ys : List (ℕ × ℕ)) → nat_lt low id ≡ true → list_all (λ y. nat_lt low y.0) ys ≡ true
    → list_all (λ y. nat_lt low y.0) (orders_in id xs ++ ys) ≡ true
later_with low id [] ys l h = h
later_with low id (x ∷ xs) ys l h = cases x.1.ordered (later_with low id xs ys l h)
  where
    cases : (o : Bool) → list_all (λ y. nat_lt low y.0) (orders_in id xs ++ ys) ≡ true
        → list_all (λ y. nat_lt low y.0) (cons_option (cond o (Some (id, x.0)) None) (orders_in id xs) ++ ys) ≡ true
    cases true r = ap (λ b. b && list_all (λ (y : ℕ × ℕ). nat_lt low y.0) (orders_in id xs ++ ys)) l ∙ r
    cases false r = r

later_than : (id : ℕ) (es : List (ℕ × BlockEntry)) → below_all nat_cmp id es ≡ true
    → list_all (λ y. nat_lt id y.0) (flat_map (λ e. orders_in e.0 e.1.cells) es) ≡ true
later_than id [] h = refl
later_than id (e ∷ es) h =
    let parts = halves (is_lt (nat_cmp id e.0)) (below_all nat_cmp id es) h in
    later_with id e.0 e.1.cells (flat_map (λ e. orders_in e.0 e.1.cells) es) (is_below id e.0 parts.0) (later_than id es parts.1)

pub orders_ascend : (es : List (ℕ × BlockEntry)) → is_sorted nat_cmp es ≡ true → list_all (λ e. is_sorted nat_cmp e.1.cells) es ≡ true
    → AreAscending (flat_map (λ e. orders_in e.0 e.1.cells) es)
orders_ascend [] s h = tt
orders_ascend (e ∷ es) s h =
    let order = halves (below_all nat_cmp e.0 es) (is_sorted nat_cmp es) s in
    let cells = halves (is_sorted nat_cmp e.1.cells) (list_all (λ (e : ℕ × BlockEntry). is_sorted nat_cmp e.1.cells) es) h in
    ascending_with e.0 e.1.cells (flat_map (λ e. orders_in e.0 e.1.cells) es) cells.0 (later_than e.0 es order.0) (orders_ascend es order.1 cells.1)

pub passed_all : (orders : List (ℕ × ℕ)) (es : List (ℕ × BlockEntry)) → Passed orders es → is_sorted nat_cmp es ≡ true → AreAscending orders
passed_all orders es h s = subst AreAscending (sym h.all) (orders_ascend es s h.order)
