-- The paths of a tree are in path order.
use Rattle.std.proofs.Common.{◌≡◌, ℕ, true, ◌&&◌, List, [], ◌∷◌, ◌++◌, refl, sym, ap, subst, ◌∙◌, Global, Box}
use Rattle.std.specs.declared.cmp.Ordering.TheVariants.{Less}
use Rattle.std.specs.Ordering.{is_lt, ordering_then}
use Rattle.std.specs.List.{AllByRecursion}
use Rattle.std.specs.List.Sorted.{IsStrictlySortedBy}
use Rattle.std.specs.Map.{keys_of, values_of}
use Rattle.std.specs.FinMap.Entries.{is_sorted, below_all}
use Rattle.std.specs.Cmp.Lexicographic.{nat_list_cmp_total}
use Rattle.std.proofs.lemmas.Bool.{and_parts, and_from}
use Rattle.std.proofs.lemmas.Cmp.{tied_itself}
use Rattle.std.proofs.lemmas.Map.Keys.{sorted_head, sorted_tail}
use Rattle.nn_model.specs.Namespace.{path_cmp}
use Rattle.nn_model.specs.declared.form.Form.{Form}
use Rattle.nn_model.specs.declared.form.Form.TheVariants.{Dir}
use Rattle.nn_model.specs.Namespace.{Path}
use Rattle.nn_tree.specs.Flat.{flat, below, under, IsInOrder}
use Rattle.nn_tree.specs.declared.tree.Tree.{Tree}
use Rattle.nn_tree.proofs.Subtree.{one_in_order}
use Rattle.nn_tree.specs.declared.tree.Node.{Node}
use Rattle.nn_tree.specs.declared.tree.Node.TheVariants.{Folder, Narrow, Leaf}
use Rattle.nn_tree.specs.Name.{name_cmp}

-- each of them is in path order
abbrev pub AllSorted : List (List (Path × Form)) → Type 0
AllSorted = AllByRecursion (λ t. is_sorted path_cmp t ≡ true)

below_under : (n : List ℕ) (p : Path) (es : List (Path × Form)) → below_all path_cmp (n ∷ p) (under n es) ≡ below_all path_cmp p es
below_under n p [] = refl
below_under n p (e ∷ es) = (λ j. is_lt (ordering_then (tied_itself nat_list_cmp_total n j) (path_cmp p e.0)) && below_under n p es j)

pub sorted_under : (n : List ℕ) (es : List (Path × Form)) → is_sorted path_cmp (under n es) ≡ is_sorted path_cmp es
sorted_under n [] = refl
sorted_under n (e ∷ es) = λ j. below_under n e.0 es j && sorted_under n es j

below_append : (p : Path) (xs ys : List (Path × Form)) → below_all path_cmp p xs ≡ true → below_all path_cmp p ys ≡ true → below_all path_cmp p (xs ++ ys) ≡ true
below_append p [] ys h k = k
below_append p (x ∷ xs) ys h k =
    let a = and_parts (is_lt (path_cmp p x.0)) (below_all path_cmp p xs) h in
    and_from (is_lt (path_cmp p x.0)) (below_all path_cmp p (xs ++ ys)) a.0 (below_append p xs ys a.1 k)

below_other : (n k : List ℕ) (q : Path) (es : List (Path × Form)) → name_cmp n k ≡ Less → below_all path_cmp (n ∷ q) (under k es) ≡ true
below_other n k q [] h = refl
below_other n k q (e ∷ es) h = and_from (is_lt (path_cmp (n ∷ q) (k ∷ e.0))) (below_all path_cmp (n ∷ q) (under k es)) (ap (λ o. is_lt (ordering_then o (path_cmp q e.0))) h) (below_other n k q es h)

below_later : (k : List ℕ) (q : Path) (cs : List (List ℕ × List (Path × Form))) → AllByRecursion (λ y. name_cmp k y ≡ Less) (keys_of cs) → below_all path_cmp (k ∷ q) (below cs) ≡ true
below_later k q [] a = refl
below_later k q (c ∷ cs) a = below_append (k ∷ q) (under c.0 c.1) (below cs) (below_other k c.0 q c.1 a.0) (below_later k q cs a.1)

-- the paths below one name, before those below later ones
sorted_more : (k : List ℕ) (es : List (Path × Form)) (cs : List (List ℕ × List (Path × Form))) → AllByRecursion (λ y. name_cmp k y ≡ Less) (keys_of cs) → is_sorted path_cmp (under k es) ≡ true → is_sorted path_cmp (below cs) ≡ true →
    is_sorted path_cmp (under k es ++ below cs) ≡ true
sorted_more k [] cs a h g = g
sorted_more k (e ∷ es) cs a h g =
    let s = and_parts (below_all path_cmp (k ∷ e.0) (under k es)) (is_sorted path_cmp (under k es)) h in
    and_from (below_all path_cmp (k ∷ e.0) (under k es ++ below cs)) (is_sorted path_cmp (under k es ++ below cs))
    (below_append (k ∷ e.0) (under k es) (below cs) s.0 (below_later k e.0 cs a)) (sorted_more k es cs a s.1 g)

pub sorted_below : (cs : List (List ℕ × List (Path × Form))) → IsStrictlySortedBy name_cmp (keys_of cs) → AllSorted (values_of cs) → is_sorted path_cmp (below cs) ≡ true
sorted_below [] s a = refl
sorted_below (c ∷ cs) s a = sorted_more c.0 c.1 cs (sorted_head name_cmp _ _ s) (sorted_under c.0 c.1 ∙ a.0) (sorted_below cs (sorted_tail name_cmp _ _ s) a.1)

root_under : (n : List ℕ) (es ys : List (Path × Form)) → below_all path_cmp [] ys ≡ true → below_all path_cmp [] (under n es ++ ys) ≡ true
root_under n [] ys h = h
root_under n (e ∷ es) ys h = root_under n es ys h

pub root_below : (cs : List (List ℕ × List (Path × Form))) → below_all path_cmp [] (below cs) ≡ true
root_below [] = refl
root_below (c ∷ cs) = root_under c.0 c.1 (below cs) (root_below cs)

-- the rows of a directory, from those of its children
pub sorted_rows : (cs : List (List ℕ × List (Path × Form))) → IsStrictlySortedBy name_cmp (keys_of cs) → AllSorted (values_of cs) → is_sorted path_cmp (([], Dir) ∷ below cs) ≡ true
sorted_rows cs s a = and_from (below_all path_cmp [] (below cs)) (is_sorted path_cmp (below cs)) (root_below cs) (sorted_below cs s a)

-- the rows of a directory, from those below it
pub sorted_whole : (cs : List (List ℕ × List (Path × Form))) → is_sorted path_cmp (below cs) ≡ true → is_sorted path_cmp (([], Dir) ∷ below cs) ≡ true
sorted_whole cs s = and_from (below_all path_cmp [] (below cs)) (is_sorted path_cmp (below cs)) (root_below cs) s

-- ---- and back
pub sorted_left : (xs ys : List (Path × Form)) → is_sorted path_cmp (xs ++ ys) ≡ true → is_sorted path_cmp xs ≡ true
sorted_left [] ys s = refl
sorted_left (x ∷ xs) ys s =
    let parts = and_parts (below_all path_cmp x.0 (xs ++ ys)) (is_sorted path_cmp (xs ++ ys)) s in
    and_from (below_all path_cmp x.0 xs) (is_sorted path_cmp xs) (below_left x.0 xs ys parts.0) (sorted_left xs ys parts.1)
  where
    below_left : (p : Path) (xs ys : List (Path × Form)) → below_all path_cmp p (xs ++ ys) ≡ true → below_all path_cmp p xs ≡ true
    below_left p [] ys h = refl
    below_left p (x ∷ xs) ys h =
        let parts = and_parts (is_lt (path_cmp p x.0)) (below_all path_cmp p (xs ++ ys)) h in
        and_from (is_lt (path_cmp p x.0)) (below_all path_cmp p xs) parts.0 (below_left p xs ys parts.1)

sorted_right : (xs ys : List (Path × Form)) → is_sorted path_cmp (xs ++ ys) ≡ true → is_sorted path_cmp ys ≡ true
sorted_right [] ys s = s
sorted_right (x ∷ xs) ys s = sorted_right xs ys (and_parts (below_all path_cmp x.0 (xs ++ ys)) (is_sorted path_cmp (xs ++ ys)) s).1

pub sorted_children : (cs : List (List ℕ × List (Path × Form))) → is_sorted path_cmp (below cs) ≡ true → AllSorted (values_of cs)
sorted_children [] s = tt
sorted_children (c ∷ cs) s =
    let one = under c.0 c.1 in
    (sym (sorted_under c.0 c.1) ∙ sorted_left one (below cs) s, sorted_children cs (sorted_right one (below cs) s))

pub sorted_tail_rows : (cs : List (List ℕ × List (Path × Form))) → is_sorted path_cmp (([], Dir) ∷ below cs) ≡ true → is_sorted path_cmp (below cs) ≡ true
sorted_tail_rows cs s = (and_parts (below_all path_cmp [] (below cs)) (is_sorted path_cmp (below cs)) s).1

pub sorted_dir : (es : List (Path × Form)) (node : Node) (m : List (List ℕ × Tree)) → flat node ≡ es → IsInOrder node → node ≡ Folder m → AllSorted (values_of m) → is_sorted path_cmp es ≡ true
sorted_dir es node m v o e a =
    ap (is_sorted path_cmp) (sym v ∙ ap flat e) ∙ and_from (below_all path_cmp [] (below m)) (is_sorted path_cmp (below m)) (root_below m) (sorted_below m (subst IsInOrder e o) a)

pub sorted_narrow : (es : List (Path × Form)) (node : Node) (k : List ℕ) (t : Box Tree Global) → flat node ≡ es → node ≡ Narrow k t → is_sorted path_cmp t.value ≡ true → is_sorted path_cmp es ≡ true
sorted_narrow es node k t v e a =
    let cs : List (List ℕ × List (Path × Form)) = (k, t.value) ∷ [] in
    ap (is_sorted path_cmp) (sym v ∙ ap flat e) ∙ and_from (below_all path_cmp [] (below cs)) (is_sorted path_cmp (below cs)) (root_below cs) (sorted_below cs (one_in_order k) (a, tt))

pub sorted_file : (es : List (Path × Form)) (node : Node) (f : Rattle.nn_model.specs.declared.form.FileRow.FileRow) → flat node ≡ es → node ≡ Leaf f → is_sorted path_cmp es ≡ true
sorted_file es node f v e = ap (is_sorted path_cmp) (sym v ∙ ap flat e)
