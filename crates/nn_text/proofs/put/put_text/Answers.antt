use Rattle.std.proofs.Common.{rules, ◌≡◌, [], ◌++◌, sym, subst}
use Rattle.nn_device.specs.Page.{HasPut}
use Rattle.nn_text.proofs.PutNames.{lent_path, lent_root}
use Rattle.nn_text.proofs.put.put_text.Goals as goal

pub returns-then-is_empty : goal.returns-then-is_empty
returns-then-is_empty g c = λ start text h.
    subst (λ t. HasPut start (text ++ t) c.put_byte.new.self c.put_byte.new.writer) (lent_root c.args.names.now (sym c.if-is_empty.ensures)) (c.put_byte.ensures start text h)

pub returns : goal.returns
returns g c = λ start text h.
    let some : c.args.names.now ≡ [] → ⊥ = search rules in
    subst (λ t. HasPut start (text ++ t) c.put_names.new.page c.put_names.new.writer) (lent_path c.args.names.now some) (c.put_names.ensures start text h)
