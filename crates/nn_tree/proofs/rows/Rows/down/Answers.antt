use Rattle.std.proofs.Common.{string_bytes, sym, ap, ◌∙◌, ◌∷◌, refl}
use Rattle.std.proofs.lemmas.List.{length-map}
use Rattle.std.specs.Map.Iter.{deref}
use Rattle.nn_tree.specs.At.{names_of}
use Rattle.nn_tree.specs.Listing.{lent_names}
use Rattle.nn_tree.proofs.Ways.{Begun, begun_behind, begun_at, down_on, names_pushed}
use Rattle.nn_tree.proofs.rows.Rows.down.Goals.{In_default, In-Ok}
use Rattle.nn_tree.proofs.rows.Rows.down.Goals as goal

-- nothing is left in the directory
behind : (c : In_default) → Begun (string_bytes c.args.first.now ∷ names_of c.args.others.now) c.args.root.now (lent_names c.down.names.items) c.down.dirs.items
behind c =
    begun_behind (string_bytes c.args.first.now ∷ names_of c.args.others.now) c.args.root.now (lent_names c.down.names.items) c.down.dirs.items (string_bytes c.down.name.now) (names_of c.down.rest.now) c.down.tree.now
    c.down.invariant (c.in_default.ensures (names_of c.down.rest.now))

pub on_way-requires : goal.on_way-requires
on_way-requires c = (behind c).nested

pub returns-in_default : goal.returns-in_default
returns-in_default c = c.on_way.ensures ∙ (behind c.before).rows

-- the children are at the place or behind it
at_place : (c : In-Ok) → Begun (string_bytes c.args.first.now ∷ names_of c.args.others.now) c.args.root.now (lent_names c.down.names.items) c.add_open.new.dirs.items
at_place c =
    begun_at (string_bytes c.args.first.now ∷ names_of c.args.others.now) c.args.root.now (lent_names c.down.names.items) c.down.dirs.items (string_bytes c.down.name.now) (names_of c.down.rest.now) c.down.tree.now
    c.down.invariant c.in-Some.children c.len-depth.result c.add_open.new.dirs.items (c.in-Some.ensures (names_of c.down.rest.now)) (c.in_default-way_on.ensures.none refl)
    (c.len-depth.ensures ∙ c.down.names.ok.0 ∙ sym (length-map c.down.names.items deref)) c.in-Ok.ensures

pub on_way-requires-in_default-way_on : goal.on_way-requires-in_default-way_on
on_way-requires-in_default-way_on c = (at_place c).nested

pub returns-in_default-way_on : goal.returns-in_default-way_on
returns-in_default-way_on c = c.on_way-in_default-way_on.ensures ∙ (at_place c.before).rows

pub down-preserved : goal.down-preserved
down-preserved c =
    let k = c.in-Some.children.name.now in
    down_on (string_bytes c.args.first.now ∷ names_of c.args.others.now) c.args.root.now (lent_names c.down.names.items) c.down.dirs.items (string_bytes c.down.name.now) (names_of c.down.rest.now) c.down.tree.now
    c.down.invariant c.in-Some.children c.behind.result c.len-depth.result (lent_names c.push.new.self.items) c.add_open-in-down.new.dirs.items
    (c.in-Some.ensures (names_of c.down.rest.now)) c.in-Some-way_on.ensures.some.1 c.behind.ensures
    (c.len-depth.ensures ∙ c.down.names.ok.0 ∙ sym (length-map c.down.names.items deref))
    (names_pushed c.down.names.items c.push.new.self.items c.as_str.result k c.in-Ok-push.ensures.items c.as_str.ensures) c.in-Ok-add_open.ensures
    (string_bytes c.in-Some-way_on.next.now) (names_of c.in-Some-way_on.below.now) (ap names_of c.in-Some-way_on.ensures.some.0)
