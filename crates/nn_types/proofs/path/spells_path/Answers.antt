use Rattle.std.proofs.Common.{◌≡◌, ◌∷◌, ◌≤◌, length, leb-true, sym, ap, ◌∙◌, arith, true}
use Rattle.std.specs.List.{list_all}
use Rattle.nn_types.specs.Path.{is_name, names_of_text, parts, slash}
use Rattle.nn_types.proofs.Paths.{no_slash, checked}
use Rattle.nn_types.proofs.path.spells_path.Goals as goal

pub returns-in_default-clause-other : goal.returns-in_default-clause-other
unfolding lib.Utf8.encode
returns-in_default-clause-other c = λ _. no_slash c.args.text.now c.in_default.ensures.cases

pub returns-clause-path : goal.returns-clause-path
unfolding lib.Utf8.encode
returns-clause-path c enough =
    let cut = c.in-Some.ensures.cases in
    let found : (c.in-Some-count_names.count ≡ length (parts c.in-Some.rest.now)) × (list_all is_name (parts c.in-Some.rest.now) ≡ true) = rw (← c.as_bytes-2.ensures.value) c.in-Some-count_names.ensures.names in
    let text : c.args.text.now ≡ slash ∷ c.in-Some.rest.now = cut.1.split ∙ ap (λ r. slash ∷ r) (sym cut.2) in
    let names : names_of_text c.args.text.now ≡ parts c.in-Some.rest.now = ap names_of_text text in
    let few : length (names_of_text c.args.text.now) ≤ 1000 = omega (arith, ap length names, found.0, leb-true _ 1000 enough) in
    (checked c.args.text.now c.in-Some.rest.now _ text names found.1 few c.if-text-gt-MAX_PATH_LEN.false).1
