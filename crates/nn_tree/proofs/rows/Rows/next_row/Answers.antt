use Rattle.std.proofs.Common.{◌≡◌, ◌-◌, List, length, take, ◌++◌, ◌∷◌, [], sym, ap, ◌∙◌, subst, arith}
use Rattle.std.proofs.lemmas.List.{length-map}
use Rattle.std.specs.Map.Iter.{deref}
use Rattle.nn_tree.specs.Found.{form_of}
use Rattle.nn_tree.specs.Listing.{lent_names}
use Rattle.nn_tree.specs.Nesting.{IsAtStart}
use Rattle.nn_tree.specs.Rows.{Past, greatest_depth, root_rows, rows_open, opened}
use Rattle.nn_tree.specs.declared.rows.OpenDir.{OpenDir}
use Rattle.nn_tree.proofs.Nested.{root_room, child_room, looked_at, names_step, none_of, Step, step_gives, step_nested}
use Rattle.nn_tree.proofs.rows.Rows.next_row.Goals as goal

pub returns-in_default-make_room-clause-room : goal.returns-in_default-make_room-clause-room
returns-in_default-make_room-clause-room c h =
    let dirs = c.self.inside.dirs in
    let names = lent_names c.self.inside.names.items in
    let left = (λ j. root_rows (sym c.in-Some.is j) ++ rows_open names dirs.items) ∙ ap (λ w. w.left) c.self.view_is in
    let fits = root_room names dirs.items c.in-Some.root c.children-inside.ensures.rows.0 c.children-inside.result c.args.self.now.left c.args.self.now.room dirs.len
    left (subst (λ o. IsAtStart o names dirs.items) c.in-Some.is c.self.invariant.start) c.children-inside.ensures.rows.1 c.children-inside.ensures.rooted dirs.ok.0 h in
    c.in_default-make_room.ensures.succeeds (omega (arith, fits, ap (λ w. w.room) c.self.view_is))

pub returns-in_default-name_room-clause-room : goal.returns-in_default-name_room-clause-room
returns-in_default-name_room-clause-room c h =
    let all = c.self.inside.dirs.items in
    let names = lent_names c.self.inside.names.items in
    let none = none_of c.self.inside.root c.in_default.not-Some in
    let left = (λ j. root_rows (sym none j) ++ rows_open names all) ∙ ap (λ w. w.left) c.self.view_is in
    let fits = child_room names all (take (length all - 1) all) c.in-Some-last.dir.now c.children-inside-2.ensures.rows.0 c.children-inside-2.result
    (looked_at all c.deref.result.now c.in-Some-last.dir.now c.deref.ensures.value c.in-Some-last.ensures.value)
    c.self.invariant.nest c.children-inside-2.ensures.rows.1 c.children-inside-2.ensures.rooted c.args.self.now.room (omega (arith, ap greatest_depth left, h)) in
    c.in_default-name_room.ensures.succeeds (omega (arith, fits.0, ap (λ w. w.room) c.self.view_is))

pub returns-in_default-make_room-2-clause-room : goal.returns-in_default-make_room-2-clause-room
returns-in_default-make_room-2-clause-room c h =
    let all = c.self.inside.dirs.items in
    let names = lent_names c.self.inside.names.items in
    let none = none_of c.self.inside.root c.in_default.not-Some in
    let left = (λ j. root_rows (sym none j) ++ rows_open names all) ∙ ap (λ w. w.left) c.self.view_is in
    let fits = child_room names all (take (length all - 1) all) c.in-Some-last.dir.now c.children-inside-2.ensures.rows.0 c.children-inside-2.result
    (looked_at all c.deref.result.now c.in-Some-last.dir.now c.deref.ensures.value c.in-Some-last.ensures.value)
    c.self.invariant.nest c.children-inside-2.ensures.rows.1 c.children-inside-2.ensures.rooted c.args.self.now.room (omega (arith, ap greatest_depth left, h)) in
    c.in_default-make_room-2.ensures.succeeds (omega (arith, fits.1, c.self.inside.dirs.ok.0, ap (λ w. w.room) c.self.view_is))

abbrev prefix : (c : goal.After-top-2) → List OpenDir
prefix c = take (length c.self.inside.dirs.items - 1) c.self.inside.dirs.items

split : (c : goal.After-top-2) → c.self.inside.dirs.items ≡ prefix c ++ c.in-Some-last.dir.now ∷ []
split c = looked_at c.self.inside.dirs.items c.deref.result.now c.in-Some-last.dir.now c.deref.ensures.value c.in-Some-last.ensures.value

past : (c : goal.After-top-2) → Past (prefix c) c.in-Some-last.dir.now c.pass_child.new.dirs.items
past c = c.pass_child.ensures.items (prefix c) c.in-Some-last.dir.now (c.make_room-2.ensures.items ∙ split c)

step : (c : goal.After-top-2) → Step c.self.inside.root (lent_names c.self.inside.names.items) (lent_names c.push_reserved.new.self.items) c.self.inside.dirs.items (prefix c) c.push_open-2.new.dirs.items
    c.in-Some-last.dir.now c.children-inside-2.result (past c).0
step c =
    let dir = c.in-Some-last.dir.now in
    let names = c.push_reserved.ensures.items ∙ ap (λ ns. ns ++ c.as_str.result ∷ []) (c.truncate.ensures.items ∙ ap (take dir.depth) c.name_room.ensures.items) in
    let long = c.len.ensures ∙ c.push_reserved.new.self.ok.0 ∙ sym (length-map c.push_reserved.new.self.items deref) in
    record {
      no_root = none_of c.self.inside.root c.in_default.not-Some;
      nest = c.self.invariant.nest;
      split = split c;
      tree = c.children-inside-2.ensures.rows;
      behind_it = (past c).1;
      named = names_step c.self.inside.names.items c.push_reserved.new.self.items dir.depth c.as_str.result names
          ∙ ap (λ n. take dir.depth (lent_names c.self.inside.names.items) ++ n ∷ []) c.as_str.ensures;
      left = c.push_open-2.ensures.items ∙ (λ j. (past c).2 j ++ opened (long j) c.children-inside-2.result);
    }

pub invariant_of-self-2 : goal.invariant_of-self-2
invariant_of-self-2 c =
    step_nested c.self.inside.root (lent_names c.self.inside.names.items) (lent_names c.push_reserved.new.self.items) c.self.inside.dirs.items (prefix c) c.push_open-2.new.dirs.items
    c.in-Some-last.dir.now c.children-inside-2.result (past c).0 (step c)

pub returns-clause-row : goal.returns-clause-row
returns-clause-row c =
    step_gives c.self.inside.root (lent_names c.self.inside.names.items) (lent_names c.push_reserved.new.self.items) c.self.inside.dirs.items (prefix c) c.push_open-2.new.dirs.items
    c.in-Some-last.dir.now c.children-inside-2.result (past c).0 (step c)
    c.args.self.now.left (form_of c.top-2.result) (ap (λ w. w.left) c.self.view_is) c.top-2.ensures
