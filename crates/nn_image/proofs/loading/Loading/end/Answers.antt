use Rattle.std.proofs.Common.{◌≡◌, sym, ap, ◌∙◌}
use Rattle.nn_image.specs.Loading.{at_header, state_of}
use Rattle.nn_image.proofs.LoadedLines.{torn_header}
use Rattle.nn_image.proofs.loading.Loading.end.Goals as goal

pub returns-in-Header-clause-loaded : goal.returns-in-Header-clause-loaded
returns-in-Header-clause-loaded c =
    let is : c.args.self ≡ at_header = sym c.self.view_is ∙ ap state_of c.in-Header.is in
    rw is (torn_header c.args.torn.now)
