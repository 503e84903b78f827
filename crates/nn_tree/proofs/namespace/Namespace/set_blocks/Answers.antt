use Rattle.std.proofs.Common.{◌≡◌, ℕ, not, Option, Some, None, refl, sym, ap, subst, ◌∙◌}
use Rattle.nn_sorted.specs.Values.{value_at}
use Rattle.std.specs.Ordering.{nat_cmp}
use Rattle.nn_model.specs.declared.form.Form.TheVariants.{File}
use Rattle.nn_model.specs.declared.form.FileRow.{FileRow}
use Rattle.nn_model.specs.Namespace.{Namespace, lookup, with_row, file_or_none, file_at}
use Rattle.nn_model.specs.Apply.{first_fault, keeps_stamps, list_checks, with_blocks}
use Rattle.nn_model.specs.Touched.{listed}
use Rattle.nn_model.specs.declared.form.BlockRow.{BlockRow}
use Rattle.nn_tree.specs.View.{seen, Holds, renewed}
use Rattle.nn_tree.proofs.Applies.{HasFile, has_file, list_applies}
use Rattle.nn_tree.proofs.Does.{replication_there}
use Rattle.nn_tree.proofs.Kept.{still_seen, still_held, file_was, file_seen}
use Rattle.nn_tree.proofs.Listed.{list_kept, list_touched}
use Rattle.nn_tree.proofs.Maps.{not_root}
use Rattle.nn_tree.proofs.Tallies.{sizes_set}
use Rattle.nn_tree.proofs.namespace.Namespace.set_blocks.Goals as goal

pub invariant_of-self : goal.invariant_of-self
invariant_of-self c =
    let i = c.self.inside in
    still_held i.root c.set_blocks-told.new.self i.issued _ _ c.in_default.ensures.err c.self.invariant

pub returns-in_default-clause-err : goal.returns-in_default-clause-err
returns-in_default-clause-err c =
    let i = c.self.inside in
    still_seen i.root c.set_blocks-told.new.self i.issued c.in_default.ensures.err ∙ c.self.view_is

pub invariant_of-self-2 : goal.invariant_of-self-2
invariant_of-self-2 c =
    let i = c.self.inside in
    let s = seen i.root i.issued in
    let p = c.args.path.now in
    let ns = c.names-names.result in
    let bs = c.args.blocks.now in
    let done = c.in-Ok.ensures.ok in
    let has : HasFile s p done.0 = has_file i.root s p ns done.0 refl c.names-names.ensures.names (not_root c.names-names.result c.if-is_empty.ensures) done.2 done.3 in
    let lawful : first_fault (list_checks s p bs) ≡ None = list_applies s p done.0 bs has done.5.0 (ap not done.5.1) (ap (λ t. not (keeps_stamps t done.0.blocks bs)) (sym c.last_stamp-last_stamp.ensures) ∙ ap not done.5.2) in
    let was : lookup s p ≡ Some (File done.0) = file_was i.root i.issued p ns done.0 c.names-names.ensures.names done.3 in
    let old : done.0 ≡ file_at s p = sym (ap file_or_none was) in
    let is : seen c.set_blocks-told.new.self i.issued ≡ with_blocks s p bs c.args.closed =
    file_seen i.root c.set_blocks-told.new.self i.issued p ns done.0 done.1 c.names-names.ensures.names done.3 done.4
    ∙ ap (λ (f : FileRow). with_row s p (File f)) done.5.3
    ∙ ap (λ (f : FileRow). with_row s p (File (record { replication = f.replication; closed = c.args.closed; blocks = bs }))) old in
    let look : ℕ → Option BlockRow = λ id. value_at nat_cmp i.index id in
    subst (λ (n : Namespace). Holds n (λ id. value_at nat_cmp c.renew.new.index id) i.sizes) (sym is) (
      list_kept s p bs c.args.closed done.0 look (λ id. value_at nat_cmp c.renew.new.index id) c.requires.lawful lawful was
          (λ q. c.renew.ensures q ∙ (λ j. renewed look ((c.as_slice.ensures ∙ done.5.6 ∙ ap (λ (f : FileRow). f.blocks) old) j) (c.as_slice-2.ensures j) c.args.closed q)) c.self.invariant.0,
      c.self.invariant.1 ∙ sizes_set s p done.0 (record { replication = (file_at s p).replication; closed = c.args.closed; blocks = bs }) c.self.invariant.0.well.blocks.in_order was,
    )

pub returns-clause-applies : goal.returns-clause-applies
returns-clause-applies c =
    let i = c.self.inside in
    let s = seen i.root i.issued in
    let p = c.args.path.now in
    let ns = c.names-names.result in
    let bs = c.args.blocks.now in
    let done = c.in-Ok.ensures.ok in
    let has : HasFile s p done.0 = has_file i.root s p ns done.0 refl c.names-names.ensures.names (not_root c.names-names.result c.if-is_empty.ensures) done.2 done.3 in
    let lawful : first_fault (list_checks s p bs) ≡ None = list_applies s p done.0 bs has done.5.0 (ap not done.5.1) (ap (λ t. not (keeps_stamps t done.0.blocks bs)) (sym c.last_stamp-last_stamp.ensures) ∙ ap not done.5.2) in
    subst (λ (n : Namespace). first_fault (list_checks n p bs) ≡ None) c.self.view_is lawful

pub returns-clause-ok : goal.returns-clause-ok
returns-clause-ok c =
    let i = c.self.inside in
    let s = seen i.root i.issued in
    let p = c.args.path.now in
    let ns = c.names-names.result in
    let bs = c.args.blocks.now in
    let done = c.in-Ok.ensures.ok in
    let was : lookup s p ≡ Some (File done.0) = file_was i.root i.issued p ns done.0 c.names-names.ensures.names done.3 in
    let old : done.0 ≡ file_at s p = sym (ap file_or_none was) in
    let is : seen c.set_blocks-told.new.self i.issued ≡ with_blocks s p bs c.args.closed =
    file_seen i.root c.set_blocks-told.new.self i.issued p ns done.0 done.1 c.names-names.ensures.names done.3 done.4
    ∙ ap (λ (f : FileRow). with_row s p (File f)) done.5.3
    ∙ ap (λ (f : FileRow). with_row s p (File (record { replication = f.replication; closed = c.args.closed; blocks = bs }))) old in
    is ∙ ap (λ (n : Namespace). with_blocks n p bs c.args.closed) c.self.view_is

pub returns-clause-touched : goal.returns-clause-touched
returns-clause-touched c =
    let i = c.self.inside in
    let s = seen i.root i.issued in
    let p = c.args.path.now in
    let ns = c.names-names.result in
    let bs = c.args.blocks.now in
    let done = c.in-Ok.ensures.ok in
    let was : lookup s p ≡ Some (File done.0) = file_was i.root i.issued p ns done.0 c.names-names.ensures.names done.3 in
    done.5.4 ∙ list_touched s p bs c.args.closed done.0 was ∙ ap (λ (n : Namespace). listed n p bs c.args.closed) c.self.view_is

pub returns-clause-replication : goal.returns-clause-replication
returns-clause-replication c =
    let i = c.self.inside in
    let s = seen i.root i.issued in
    let p = c.args.path.now in
    let ns = c.names-names.result in
    let bs = c.args.blocks.now in
    let done = c.in-Ok.ensures.ok in
    let was : lookup s p ≡ Some (File done.0) = file_was i.root i.issued p ns done.0 c.names-names.ensures.names done.3 in
    let old : done.0 ≡ file_at s p = sym (ap file_or_none was) in
    let now : FileRow = record { replication = (file_at s p).replication; closed = c.args.closed; blocks = bs } in
    let is : seen c.set_blocks-told.new.self i.issued ≡ with_blocks s p bs c.args.closed =
    file_seen i.root c.set_blocks-told.new.self i.issued p ns done.0 done.1 c.names-names.ensures.names done.3 done.4
    ∙ ap (λ (f : FileRow). with_row s p (File f)) done.5.3
    ∙ ap (λ (f : FileRow). with_row s p (File (record { replication = f.replication; closed = c.args.closed; blocks = bs }))) old in
    done.5.5 ∙ ap (λ (f : FileRow). f.replication) old ∙ sym (replication_there s p now) ∙ ap (λ (n : Namespace). (file_at n p).replication) (sym is)
