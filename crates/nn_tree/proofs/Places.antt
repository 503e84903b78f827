-- The rows of a directory from a place on, child by child.
use Rattle.std.proofs.Common.{◌≡◌, ℕ, Bool, true, false, cond, List, [], ◌∷◌, ◌++◌, length, append-nil, refl, sym, ap, subst, ◌∙◌, String, Global, Option, Some, None, Box, arith}
use Rattle.std.specs.Prelude.{bytes_eq}
use Rattle.std.specs.Map.{keys_of}
use Rattle.std.specs.List.{AllByRecursion}
use Rattle.std.specs.List.Sorted.{IsStrictlySortedBy}
use Rattle.std.specs.declared.cmp.Ordering.{Ordering}
use Rattle.std.specs.declared.cmp.Ordering.TheVariants.{Less, Equal, Greater}
use Rattle.std.specs.Ordering.{is_gt, is_le, is_lt, ordering_then, ordering_reverse}
use Rattle.nn_sorted.specs.Values.{entries_from}
use Rattle.std.specs.Cmp.Lexicographic.{nat_list_cmp_total}
use Rattle.std.specs.FinMap.{IsAntisymmetric, nat_cmp-IsAntisymmetric, slice_cmp-IsAntisymmetric}
use Rattle.std.proofs.lemmas.Cmp.{tied_itself}
use Rattle.std.proofs.lemmas.Map.Keys.{sorted_head, sorted_tail}
use Rattle.nn_model.specs.declared.form.Form.{Form}
use Rattle.nn_model.specs.declared.form.Form.TheVariants.{Dir}
use Rattle.nn_model.specs.Namespace.{Path, path_cmp}
use Rattle.nn_model.proofs.Prefixes.{name_same, name_self}
use Rattle.nn_tree.specs.declared.tree.Tree.{Tree}
use Rattle.nn_tree.specs.declared.tree.Node.{Node}
use Rattle.nn_tree.specs.declared.tree.Node.TheVariants.{Folder, Narrow}
use Rattle.nn_tree.specs.declared.tree.children.Children.{Children}
use Rattle.nn_tree.specs.At.{names_of}
use Rattle.nn_tree.specs.Flat.{flat, under, below, IsInOrder}
use Rattle.nn_tree.specs.Rows.{Entries, rows_from, later_of, all_entries, from_children}
use Rattle.nn_tree.specs.Name.{name_cmp}

abbrev Rows : Type 0
Rows = List (Path × Form)

pub from_root : (rows : Rows) → rows_from [] rows ≡ rows
from_root [] = refl
from_root (([], form) ∷ rows) = ap (λ rs. ([], form) ∷ rs) (from_root rows)
from_root ((n ∷ p, form) ∷ rows) = ap (λ rs. (n ∷ p, form) ∷ rs) (from_root rows)

pub from-append : (p : Path) (xs ys : Rows) → rows_from p (xs ++ ys) ≡ rows_from p xs ++ rows_from p ys
from-append p [] ys = refl
from-append p (x ∷ xs) ys =
    elim (is_le (path_cmp p x.0)) as (λ b. cond b (x ∷ rows_from p (xs ++ ys)) (rows_from p (xs ++ ys)) ≡ cond b (x ∷ rows_from p xs) (rows_from p xs) ++ rows_from p ys) [
      | true ↦ ap (λ r. x ∷ r) (from-append p xs ys)
      | false ↦ from-append p xs ys
    ]

-- ---- Below one name.

names_apart : IsAntisymmetric name_cmp
names_apart = slice_cmp-IsAntisymmetric nat_cmp-IsAntisymmetric

under_cond : (n : List ℕ) (b : Bool) (x : Path × Form) (xs : Rows) → under n (cond b (x ∷ xs) xs) ≡ cond b ((n ∷ x.0, x.1) ∷ under n xs) (under n xs)
under_cond n true x xs = refl
under_cond n false x xs = refl

place_here : (n k : List ℕ) (p : Path) → name_cmp n k ≡ Equal → (rows : Rows) → rows_from (n ∷ p) (under k rows) ≡ under k (rows_from p rows)
place_here n k p h [] = refl
place_here n k p h (x ∷ xs) =
    (λ j. cond (is_le (ordering_then (h j) (path_cmp p x.0))) ((k ∷ x.0, x.1) ∷ place_here n k p h xs j) (place_here n k p h xs j))
    ∙ sym (under_cond k (is_le (path_cmp p x.0)) x (rows_from p xs))

place_before : (n k : List ℕ) (p : Path) → name_cmp n k ≡ Less → (rows : Rows) → rows_from (n ∷ p) (under k rows) ≡ under k rows
place_before n k p h [] = refl
place_before n k p h (x ∷ xs) = λ j. cond (is_le (ordering_then (h j) (path_cmp p x.0))) ((k ∷ x.0, x.1) ∷ place_before n k p h xs j) (place_before n k p h xs j)

place_behind : (n k : List ℕ) (p : Path) → name_cmp n k ≡ Greater → (rows : Rows) → rows_from (n ∷ p) (under k rows) ≡ []
place_behind n k p h [] = refl
place_behind n k p h (x ∷ xs) = λ j. cond (is_le (ordering_then (h j) (path_cmp p x.0))) ((k ∷ x.0, x.1) ∷ place_behind n k p h xs j) (place_behind n k p h xs j)

-- the same, where the names were compared the other way round
turned : (n k : List ℕ) (o : Ordering) → name_cmp k n ≡ o → name_cmp n k ≡ ordering_reverse o
turned n k o h = nat_list_cmp_total.antisymm n k ∙ ap ordering_reverse h

other_name : (n k : List ℕ) → name_cmp n k ≡ Less → bytes_eq n k ≡ false
other_name n k h =
    elim (bytes_eq n k) as (λ b. bytes_eq n k ≡ b → b ≡ false) [
      | true ↦ λ e. let equal : Equal ≡ Less = sym (tied_itself nat_list_cmp_total n) ∙ ap (name_cmp n) (name_same n k e) ∙ h in cc
      | false ↦ λ e. refl
    ] refl

-- below a name that does not come before that of the place
at_name : (n k : List ℕ) (p : Path) (rows : Rows) → is_le (name_cmp n k) ≡ true → rows_from (n ∷ p) (under k rows) ≡ under k (cond (bytes_eq n k) (rows_from p rows) rows)
at_name n k p rows h =
    elim (name_cmp n k) as (λ o. name_cmp n k ≡ o → is_le o ≡ true → rows_from (n ∷ p) (under k rows) ≡ under k (cond (bytes_eq n k) (rows_from p rows) rows)) [
      | Less ↦ λ e w. place_before n k p e rows ∙ ap (λ b. under k (cond b (rows_from p rows) rows)) (sym (other_name n k e))
      | Equal ↦ λ e w. place_here n k p e rows ∙ ap (λ b. under k (cond b (rows_from p rows) rows)) (sym (ap (bytes_eq n) (sym (names_apart n k e)) ∙ name_self n))
      | Greater ↦ λ e w. cc
    ] refl h

-- ---- Children in order.

-- a name below all that follow, and not before the place
all_behind : (n k : List ℕ) (p : Path) (cs : Entries) → is_le (name_cmp n k) ≡ true → AllByRecursion (λ y. name_cmp k y ≡ Less) (keys_of cs) → rows_from (n ∷ p) (below cs) ≡ below cs
all_behind n k p [] h a = refl
all_behind n k p (c ∷ cs) h a =
    from-append (n ∷ p) (under c.0 c.1) (below cs)
    ∙ (λ j. place_before n c.0 p (before n k c.0 h a.0) c.1 j ++ all_behind n k p cs h a.1 j)
  where
    before : (n k m : List ℕ) → is_le (name_cmp n k) ≡ true → name_cmp k m ≡ Less → name_cmp n m ≡ Less
    before n k m h l =
        elim (name_cmp n k) as (λ o. name_cmp n k ≡ o → is_le o ≡ true → name_cmp n m ≡ Less) [
          | Less ↦ λ e w. nat_list_cmp_total.trans n k m e l
          | Equal ↦ λ e w. ap (λ x. name_cmp x m) (names_apart n k e) ∙ l
          | Greater ↦ λ e w. cc
        ] refl h

-- the first child, if there is one, does not come before the place
abbrev IsFrom : List ℕ → Entries → Type 0
IsFrom n [] = Unit {0}
IsFrom n (c ∷ cs) = is_le (name_cmp n c.0) ≡ true

-- the children from the place on
sorted_from : (n : List ℕ) (p : Path) (children : Option Children) (cs : Entries) → all_entries children ≡ cs → IsStrictlySortedBy name_cmp (keys_of cs) → IsFrom n cs → rows_from (n ∷ p) (below cs) ≡ from_children n p children
sorted_from n p None cs e s a = ap (λ es. rows_from (n ∷ p) (below es)) (sym e)
sorted_from n p (Some children) cs e s a =
    let k = children.name.now in
    let more = later_of children.later in
    let sorted = subst (λ es. IsStrictlySortedBy name_cmp (keys_of es)) (sym e) s in
    let first = subst (IsFrom n) (sym e) a in
    ap (λ es. rows_from (n ∷ p) (below es)) (sym e) ∙ from-append (n ∷ p) (under k children.tree.now) (below more)
    ∙ (λ j. at_name n k p children.tree.now first j ++ all_behind n k p more first (sorted_head name_cmp _ _ sorted) j)

-- and those before it have no rows there
children_from : (first : List ℕ) (p : Path) (children : Option Children) (cs : Entries) → all_entries children ≡ entries_from (name_cmp first) cs → IsStrictlySortedBy name_cmp (keys_of cs)
    → rows_from (first ∷ p) (below cs) ≡ from_children first p children
children_from first p children [] e s = sorted_from first p children [] e s tt
children_from first p children (c ∷ cs) e s =
    let n = first in
    let k = c.0 in
    elim (name_cmp n k) as (λ o. name_cmp n k ≡ o → all_entries children ≡ cond (is_gt o) (entries_from (name_cmp first) cs) (c ∷ cs) → rows_from (n ∷ p) (below (c ∷ cs)) ≡ from_children n p children) [
      | Less ↦ λ h g. sorted_from n p children (c ∷ cs) g s (ap is_le h)
      | Equal ↦ λ h g. sorted_from n p children (c ∷ cs) g s (ap is_le h)
      | Greater ↦ λ h g.
          from-append (n ∷ p) (under k c.1) (below cs) ∙ ap (λ r. r ++ rows_from (n ∷ p) (below cs)) (place_behind n k p h c.1)
          ∙ children_from first p children cs g (sorted_tail name_cmp _ _ s)
    ] refl e

-- ---- A node from a place on.

-- a directory's own row comes before the place
dir_from : (n : List ℕ) (p : Path) (es : Rows) (node : Node) (cs : Entries) → flat node ≡ es → flat node ≡ ([], Dir) ∷ below cs → rows_from (n ∷ p) es ≡ rows_from (n ∷ p) (below cs)
dir_from n p es node cs v e = ap (rows_from (n ∷ p)) (sym v ∙ e)

pub folder_from : (first : List ℕ) (p : Path) (es : Rows) (node : Node) (m : List (List ℕ × Tree)) (children : Option Children) → flat node ≡ es → IsInOrder node → node ≡ Folder m
    → all_entries children ≡ entries_from (name_cmp first) m → rows_from (first ∷ p) es ≡ from_children first p children
folder_from first p es node m children v o e is =
    dir_from first p es node m v (ap flat e) ∙ children_from first p children m is (subst IsInOrder e o)

less_of : (o : Ordering) → true ≡ is_lt o → o ≡ Less
less_of Less h = refl
less_of Equal h = cc
less_of Greater h = cc

not_less : (n k : List ℕ) → false ≡ is_lt (name_cmp k n) → is_le (name_cmp n k) ≡ true
not_less n k h =
    elim (name_cmp k n) as (λ o. name_cmp k n ≡ o → false ≡ is_lt o → is_le (name_cmp n k) ≡ true) [
      | Less ↦ λ e w. cc
      | Equal ↦ λ e w. ap is_le (turned n k Equal e)
      | Greater ↦ λ e w. ap is_le (turned n k Greater e)
    ] refl h

module _ (n : List ℕ) (p : Path) (es : Rows) (node : Node) (k : List ℕ) (t : Box Tree Global) (own given : List ℕ) (v : flat node ≡ es) (e : node ≡ Narrow k t) (o : own ≡ k) (g : given ≡ n) where
  only_child : rows_from (n ∷ p) es ≡ rows_from (n ∷ p) (under k t.value)
  only_child = dir_from n p es node ((k, t.value) ∷ []) v (ap flat e) ∙ ap (rows_from (n ∷ p)) (append-nil (under k t.value))

  -- an only child before the place
  pub narrow_before : true ≡ is_lt (name_cmp own given) → rows_from (n ∷ p) es ≡ []
  narrow_before h =
      only_child ∙ place_behind n k p (turned n k Less ((λ j. name_cmp (sym o j) (sym g j)) ∙ less_of (name_cmp own given) h)) t.value

  -- and one that is not
  pub narrow_at : (rows : Rows) → rows ≡ t.value → false ≡ is_lt (name_cmp own given) → rows_from (n ∷ p) es ≡ under k (cond (bytes_eq n k) (rows_from p rows) rows) ++ []
  narrow_at rows is h =
      only_child ∙ at_name n k p t.value (not_less n k (h ∙ (λ j. is_lt (name_cmp (o j) (g j)))))
      ∙ ap (λ r. under k (cond (bytes_eq n k) (rows_from p r) r)) (sym is)
      ∙ sym (append-nil (under k (cond (bytes_eq n k) (rows_from p rows) rows)))

-- the place is that of a child: the child is whole
pub child_whole : (b : Bool) (k : List ℕ) (rows more : Rows) (rest : List (String Global)) → length rest ≡ 0 → under k (cond b (rows_from (names_of rest) rows) rows) ++ more ≡ under k rows ++ more
child_whole b k rows more [] h = ap (λ r. under k (cond b r rows) ++ more) (from_root rows) ∙ both b
  where
    both : (b : Bool) → under k (cond b rows rows) ++ more ≡ under k rows ++ more
    both true = refl
    both false = refl
child_whole b k rows more (x ∷ rest) h = absurd (omega (arith, h))

-- the place is the root
pub from_none : (place : List (String Global)) (rows : Rows) → length place ≡ 0 → rows_from (names_of place) rows ≡ rows
from_none [] rows h = from_root rows
from_none (x ∷ place) rows h = absurd (omega (arith, h))
