use Rattle.std.proofs.Common.{ap, ◌∙◌, sym, List}
use Rattle.std.specs.Map.{lookup as lookup_by}
use Rattle.std.specs.BTreeMap.{is_at}
use Rattle.std.specs.Ordering.{nat_cmp}
use Rattle.nn_tree.specs.View.{seen}
use Rattle.nn_tree.proofs.Kept.{new_kept}
use Rattle.nn_model.specs.declared.form.Form.{Form}
use Rattle.nn_model.specs.Namespace.{Path}
use Rattle.nn_model.specs.Apply.{in_path_order}
use Rattle.nn_tree.specs.Sizes.{sizes_of}
use Rattle.nn_tree.proofs.namespace.Namespace.new.Goals as goal

pub invariant_of-result : goal.invariant_of-result
invariant_of-result c = (
  new_kept _ _ (λ j. seen (c.new_dir.ensures j) (c.new-2.ensures j)) (λ id. ap (lookup_by (is_at (nat_cmp id))) c.new.ensures),
  c.of_root.ensures ∙ ap (λ (t : List (Path × Form)). sizes_of (in_path_order t)) (sym c.new_dir.ensures),
)
