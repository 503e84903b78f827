use Rattle.std.proofs.Common.{◌∙◌, subst}
use Rattle.std.specs.Str.{IsUtf8}
use Rattle.std.proofs.lemmas.Str.{IsUtf8-string_bytes}
use Rattle.nn_types.specs.Path.{AreUtf8}
use Rattle.nn_types.proofs.Paths.{not_spelled}
use Rattle.nn_types.proofs.Utf8Names.{names_of_utf8}
use Rattle.nn_types.proofs.path.Path.names.Goals as goal

pub unreachable-requires : goal.unreachable-requires
unfolding lib.Utf8.encode
unreachable-requires c = not_spelled _ c.self.invariant (λ rest e. c.in-None.ensures.cases rest (c.deref.ensures ∙ e))

pub returns-clause-utf8 : goal.returns-clause-utf8
returns-clause-utf8 c = subst AreUtf8 c.self.view_is (names_of_utf8 _ (subst IsUtf8 c.self.invariant.is (IsUtf8-string_bytes c.self.inside.text)))
