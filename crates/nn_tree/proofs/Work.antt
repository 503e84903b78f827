-- What is left of a tree that is taken apart becomes less.
use Rattle.std.proofs.Common.{inl, inr, ◌≡◌, ℕ, zero, suc, ◌+◌, ◌<◌, ◌≤◌, true, List, [], ◌∷◌, ◌++◌, length, Option, Some, None, nat_lt, ltb-true, refl, sym, ap, subst, ◌∙◌, arith, length-append, append_assoc, Global, Box}
use Rattle.std.specs.Prelude.{IfSome}
use Rattle.std.specs.Map.{values_of, keys_of}
use Rattle.std.specs.List.Sorted.{IsStrictlySortedBy}
use Rattle.std.specs.List.{sum_by}
use Rattle.std.proofs.lemmas.Bool.{cases_Bool, ltb-false}
use Rattle.std.proofs.lemmas.List.Sums.{sum_by-cons}
use Rattle.nn_model.specs.declared.form.Form.{Form}
use Rattle.nn_model.specs.declared.form.FileRow.{FileRow}
use Rattle.nn_model.specs.Namespace.{Path, path_cmp}
use Rattle.std.specs.FinMap.Entries.{is_sorted}
use Rattle.nn_tree.proofs.Sorted.{AllSorted, sorted_below, sorted_children, sorted_left, sorted_tail_rows}
use Rattle.nn_sorted.specs.Values.{ReplacesFirst}
use Rattle.nn_tree.specs.Flat.{flat, below, under}
use Rattle.nn_tree.specs.Falls.{length-under}
use Rattle.nn_tree.specs.Work.{up_to, work, rows_left}
use Rattle.nn_tree.specs.declared.tree.Node.{Node}
use Rattle.nn_tree.specs.declared.tree.Tree.{Tree}
use Rattle.nn_tree.specs.declared.tree.Node.TheVariants.{Folder, Narrow, Leaf}
use Rattle.nn_tree.specs.Name.{name_cmp}

pub up_to-less : (a b : ℕ) → a < b → up_to a + a < up_to b
up_to-less a zero h = absurd (omega (arith, h))
up_to-less a (suc b) h =
    elim (cases_Bool (nat_lt a b)) [
      | inl less ↦ omega (arith, up_to-less a b (ltb-true a b less))
      | inr more ↦ (let e : a ≡ b = omega (arith, h, ltb-false a b more) in omega (arith, ap up_to e, e))
    ]

pub work-less : (here rest next left : ℕ) → next + left < here + rest → work next left < work here rest
work-less here rest next left h = omega (arith, h, up_to-less (next + left) (here + rest) h)

pub work-down : (here rest next left : ℕ) → next + left ≤ here + rest → next < here → work next left < work here rest
work-down here rest next left h down =
    elim (cases_Bool (nat_lt (next + left) (here + rest))) [
      | inl less ↦ work-less here rest next left (ltb-true _ _ less)
      | inr more ↦ (let e : next + left ≡ here + rest = omega (arith, h, ltb-false (next + left) (here + rest) more) in omega (arith, ap up_to e, down))
    ]

-- the rows of a directory's children
pub rows_below : (cs : List (List ℕ × List (Path × Form))) → length (below cs) ≡ sum_by length (values_of cs)
rows_below [] = refl
rows_below (c ∷ cs) = omega (arith, length-append (under c.0 c.1) (below cs), length-under c.0 c.1, rows_below cs, sum_by-cons length c.1 (values_of cs))

-- the first child and the others
pub first_rows : (p : List ℕ × List (Path × Form)) (es fs : List (List ℕ × List (Path × Form))) → es ≡ p ∷ fs → length p.1 + length (below fs) ≡ length (below es)
first_rows p es fs h = omega (arith, length-append (under p.0 p.1) (below fs), length-under p.0 p.1, ap (λ x. length (below x)) h)

-- the last child and the others
pub below_last : (p : List ℕ × List (Path × Form)) (fs : List (List ℕ × List (Path × Form))) → length (below (fs ++ p ∷ [])) ≡ length p.1 + length (below fs)
below_last p [] = omega (arith, length-append (under p.0 p.1) [], length-under p.0 p.1)
below_last p (c ∷ fs) = omega (arith, length-append (under c.0 c.1) (below (fs ++ p ∷ [])), length-append (under c.0 c.1) (below fs), below_last p fs)

pub last_rows : (p : List ℕ × List (Path × Form)) (es fs : List (List ℕ × List (Path × Form))) → es ≡ fs ++ p ∷ [] → length p.1 + length (below fs) ≡ length (below es)
last_rows p es fs h = omega (arith, below_last p fs, ap (λ x. length (below x)) h)

-- ---- one top

-- the tree that comes next, and the rest beside it
abbrev pub Next : Type 0
Next = Tree × Option (List (List ℕ × Tree))

-- fewer rows are left
pub less_left : (o : Option Next) (r here rest : ℕ) → IfSome o (λ p. length p.0 + length (rows_left p.1) ≡ r) → r < here + rest → IfSome o (λ p. work (length p.0) (length (rows_left p.1)) < work here rest)
less_left None r here rest h l = tt
less_left (Some p) r here rest h l = work-less here rest (length p.0) (length (rows_left p.1)) (omega (arith, h, l))

pub leaf_rows : (node : Node) (f : FileRow) → node ≡ Leaf f → length (flat node) ≡ 1
leaf_rows node f e = ap (λ n. length (flat n)) e

pub folder_rows : (node : Node) (m : List (List ℕ × Tree)) → node ≡ Folder m → length (flat node) ≡ 1 + length (below m)
folder_rows node m e = omega (arith, ap (λ n. length (flat n)) e)

pub narrow_rows : (node : Node) (n : List ℕ) (t : Box Tree Global) → node ≡ Narrow n t → length (flat node) ≡ 1 + length t.value
narrow_rows node n t e = omega (arith, ap (λ x. length (flat x)) e, first_rows (n, t.value) ((n, t.value) ∷ []) [] refl)

-- ---- a directory that takes the rest in

pub rest_taken : (cs fs rs : List (List ℕ × List (Path × Form))) (next own : List (Path × Form)) → ReplacesFirst cs next own fs → length own ≡ suc (length (below rs)) → work (length next) (length (below fs)) < work (1 + length (below cs)) (length (below rs))
rest_taken cs fs rs next own (k, rest, was, is) o =
    let before = first_rows (k, next) cs rest was in
    let after = first_rows (k, own) fs rest is in
    work-down (1 + length (below cs)) (length (below rs)) (length next) (length (below fs)) (omega (arith, before, after, o)) (omega (arith, before))

-- ---- the rest stays in path order

below-append : (cs ds : List (List ℕ × List (Path × Form))) → below (cs ++ ds) ≡ below cs ++ below ds
below-append [] ds = refl
below-append (c ∷ cs) ds = ap (λ r. under c.0 c.1 ++ r) (below-append cs ds) ∙ sym (append_assoc (under c.0 c.1) (below cs) (below ds))

-- without the last child
pub order_popped : (p : List ℕ × List (Path × Form)) (es fs : List (List ℕ × List (Path × Form))) → es ≡ fs ++ p ∷ [] → is_sorted path_cmp (below es) ≡ true → is_sorted path_cmp (below fs) ≡ true
order_popped p es fs h s = sorted_left (below fs) (below (p ∷ [])) (ap (is_sorted path_cmp) (sym (ap (λ cs. below cs) h ∙ below-append fs (p ∷ []))) ∙ s)

-- with a rest in place of the first child
pub order_hung : (cs fs : List (List ℕ × List (Path × Form))) (next own : List (Path × Form)) → ReplacesFirst cs next own fs → IsStrictlySortedBy name_cmp (keys_of fs)
    → is_sorted path_cmp (below cs) ≡ true → is_sorted path_cmp own ≡ true → is_sorted path_cmp (below fs) ≡ true
order_hung cs fs next own (k, rest, was, is) ordered s o =
    sorted_below fs ordered (subst (λ es. AllSorted (values_of es)) (sym is) (o, (subst (λ es. AllSorted (values_of es)) was (sorted_children cs s)).1))

-- of a directory that is opened
pub order_below : (node : Node) (m : List (List ℕ × Tree)) → node ≡ Folder m → is_sorted path_cmp (flat node) ≡ true → is_sorted path_cmp (below m) ≡ true
order_below node m e s = sorted_tail_rows m (ap (λ n. is_sorted path_cmp (flat n)) (sym e) ∙ s)
