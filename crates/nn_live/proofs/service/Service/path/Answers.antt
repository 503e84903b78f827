use Rattle.std.proofs.Common.{◌≡◌, [], Some, None, subst, ap, ◌∙◌}
use Rattle.nn_device.specs.Page.{PutsPiece}
use Rattle.nn_device.proofs.Pages.{puts_nothing}
use Rattle.nn_model.specs.Namespace.{Namespace, Path, lookup}
use Rattle.nn_tree.specs.Found.{form_of}
use Rattle.nn_tree.specs.Listing.{lent_names}
use Rattle.nn_listing.specs.Listing.{path_line}
use Rattle.nn_live.specs.Serving.{Service}
use Rattle.nn_live.proofs.Answering.{path_told}
use Rattle.nn_live.proofs.service.Service.path.Goals as goal

pub returns-in_default-clause-ok : goal.returns-in_default-clause-ok
returns-in_default-clause-ok g c =
    let x = c.args.self.now in
    let here : c.namespace.result.now ≡ x.shadow.namespace = c.namespace.ensures ∙ ap (λ (v : Service). v.shadow.namespace) c.self.view_is in
    let none : None ≡ lookup x.shadow.namespace c.args.path.now = c.in_default.ensures ∙ ap (λ (n : Namespace). lookup n c.args.path.now) here in
    ([], puts_nothing c.args.page.now c.args.writer.now, path_told x c.args.path.now None none)

pub returns-clause-ok : goal.returns-clause-ok
returns-clause-ok g c =
    let x = c.args.self.now in
    let here : c.namespace.result.now ≡ x.shadow.namespace = c.namespace.ensures ∙ ap (λ (v : Service). v.shadow.namespace) c.self.view_is in
    let some : Some (form_of c.in-Some.found) ≡ lookup x.shadow.namespace c.args.path.now = c.in-Some.ensures ∙ ap (λ (n : Namespace). lookup n c.args.path.now) here in
    let names : lent_names c.deref.result.now ≡ c.args.path.now = ap lent_names c.deref.ensures.value ∙ c.in-Ok.ensures in
    let put = subst (λ (p : Path). PutsPiece (path_line p (form_of c.in-Some.found)) c.args.page.now c.args.writer.now c.put_row.new.page c.put_row.new.writer) names c.put_row.ensures in
    (path_line c.args.path.now (form_of c.in-Some.found), put, path_told x c.args.path.now (Some (form_of c.in-Some.found)) some)
