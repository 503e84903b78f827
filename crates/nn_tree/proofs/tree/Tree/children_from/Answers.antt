use Rattle.std.proofs.Common.{string_bytes, ap, ◌∙◌}
use Rattle.nn_sorted.specs.Values.{entries_from}
use Rattle.nn_tree.proofs.Places.{folder_from, narrow_before, narrow_at}
use Rattle.nn_tree.proofs.tree.Tree.children_from.Goals as goal
use Rattle.nn_tree.specs.Name.{name_cmp}

pub returns-in-Folder : goal.returns-in-Folder
returns-in-Folder c p =
    folder_from (string_bytes c.args.name.now) p c.args.self.now c.self.inside.node c.in-Folder.children c.of.result c.self.view_is c.self.invariant.0 c.in-Folder.is (c.of.ensures.entries ∙ c.iter_from.ensures ∙ ap (λ n. entries_from (name_cmp n) c.in-Folder.children) (c.by.ensures ∙ c.as_str.ensures.value))

pub returns-then-lt : goal.returns-then-lt
returns-then-lt c p =
    narrow_before (string_bytes c.args.name.now) p c.args.self.now c.self.inside.node c.in-Narrow.own c.in-Narrow.tree c.as_str-in-Narrow.result.now c.as_str-in-Narrow-2.result.now
    c.self.view_is c.in-Narrow.is c.as_str-in-Narrow.ensures c.as_str-in-Narrow-2.ensures.value c.if-lt.ensures

pub returns-else-lt : goal.returns-else-lt
returns-else-lt c p =
    narrow_at (string_bytes c.args.name.now) p c.args.self.now c.self.inside.node c.in-Narrow.own c.in-Narrow.tree c.as_str-in-Narrow.result.now c.as_str-in-Narrow-2.result.now
    c.self.view_is c.in-Narrow.is c.as_str-in-Narrow.ensures c.as_str-in-Narrow-2.ensures.value c.deref.result.now c.deref.ensures c.if-lt.ensures
