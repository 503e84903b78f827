use Rattle.std.proofs.Common.{sym, ◌∙◌}
use Rattle.std.specs.Str.{bytes_eq}
use Rattle.std.proofs.lemmas.Map.Text.{is_eq-slice_cmp}
use Rattle.nn_tree.proofs.name.RefWantedSeekName.equals.Goals as goal

pub returns : goal.returns
returns c =
    c.eq.ensures ∙ (λ i. bytes_eq (c.self.view_is i).now (c.as_str.ensures i)) ∙ sym (is_eq-slice_cmp c.args.self.now.now c.args.key.now)
