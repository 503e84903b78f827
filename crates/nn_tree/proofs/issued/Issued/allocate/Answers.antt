use Rattle.std.proofs.Common.{◌≡◌, ◌++◌, ◌∷◌, [], ap, sym, subst, ◌∙◌}
use Rattle.nn_tree.proofs.Waiting.{insert_last}
use Rattle.nn_tree.specs.Issued.{AreBelow}
use Rattle.nn_tree.proofs.issued.Issued.allocate.Goals as goal

pub returns-clause-ok : goal.returns-clause-ok
returns-clause-ok c =
    let i = c.self.inside in
    let below : AreBelow c.args.id i.awaiting.keys = subst (λ ks. AreBelow c.args.id ks) (sym (ap (λ s. s.awaiting) c.self.view_is)) c.requires in
    let keys : c.insert.new.self.keys ≡ i.awaiting.keys ++ c.args.id ∷ [] = c.in-Ok.ensures.keys ∙ insert_last i.awaiting.keys c.args.id below in
    (λ j. record { last_block = c.args.id; last_stamp = i.last_stamp; awaiting = keys j; profile = i.profile })
    ∙ ap (λ s. record { last_block = c.args.id; last_stamp = s.last_stamp; awaiting = s.awaiting ++ c.args.id ∷ []; profile = s.profile }) c.self.view_is
