use Rattle.std.proofs.Common.{◌∙◌, length, ap, drop}
use Rattle.std.proofs.lemmas.List.{drop_min, take_rest}
use Rattle.nn_tree.proofs.touched.past.Goals as goal

pub returns : goal.returns
returns c =
    let old = c.args.old.now in
    take_rest old c.min.result ∙ ap (λ n. drop n old) c.min.ensures ∙ drop_min (length c.args.new.now) old
