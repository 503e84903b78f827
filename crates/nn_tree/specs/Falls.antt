-- Each child of a node has fewer paths than the node.
use Rattle.std.specs.Prelude.{ℕ, suc, List, ◌+◌, ◌≤◌, max, [], ◌∷◌, length}
use Rattle.std.proofs.Common.{◌≡◌, refl, ap, arith, length-append}
use denote.Param.Weighed.{most}
use Rattle.std.specs.Map.{values_of}
use Rattle.nn_tree.specs.declared.tree.Node.{Node}
use Rattle.nn_tree.specs.declared.tree.Node.TheVariants.{Folder, Narrow, Leaf}
use Rattle.nn_tree.specs.declared.tree.Tree.TheDeep.{deep-Node}
use Rattle.nn_model.specs.declared.form.Form.{Form}
use Rattle.nn_model.specs.Namespace.{Path}
use Rattle.nn_tree.specs.Flat.{flat, below, under}

pub length-under : (n : List ℕ) (es : List (Path × Form)) → length (under n es) ≡ length es
length-under n [] = refl
length-under n (e ∷ es) = ap suc (length-under n es)

pub most_le-length-below : (cs : List (List ℕ × List (Path × Form))) → most (λ k. length k + 1) (values_of cs) ≤ length (below cs) + 1
most_le-length-below [] = omega arith
most_le-length-below (c ∷ cs) =
    omega (arith, most_le-length-below cs, length-append (under c.0 c.1) (below cs), length-under c.0 c.1)

pub deep_le-length-flat : (n : Node) → max (deep-Node n) 0 ≤ length (flat n)
deep_le-length-flat (Folder m) = omega (arith, most_le-length-below m)
deep_le-length-flat (Narrow n t) = omega (arith, most_le-length-below ((n, t.value) ∷ []))
deep_le-length-flat (Leaf f) = omega arith
