use Rattle.std.proofs.Common.{length, refl, sym, ap, ◌∙◌, arith}
use Rattle.nn_model.specs.declared.form.Form.TheVariants.{Dir, File}
use Rattle.nn_tree.specs.Found.{form_of}
use Rattle.nn_shadow.specs.Starting.{files_set}
use Rattle.nn_shadow.proofs.Blanks.{begins_setting, set_next, next_row, file_entries, file_number}
use Rattle.nn_shadow.proofs.starting.set_files.Goals as goal

pub set_file-requires-clause-replication : goal.set_file-requires-clause-replication
set_file-requires-clause-replication c =
    let row = next_row c.in_ok-found.field-0 c.in-Some.found (File c.in-File.file.now) c.next_row.new.self.names c.loop-rows.rows.left c.next_row.new.self.left c.in_ok-found.ensures.row c.in-Some.is (ap form_of c.in-File.is) in
    file_number c.args.namespace.now c.args.table.now c.loop-rows.table c.loop-rows.rows.left c.next_row.new.self.left c.next_row.new.self.names c.in-File.file.now c.requires.well_formed c.loop-rows.invariant row

pub set_file-requires-clause-entries : goal.set_file-requires-clause-entries
set_file-requires-clause-entries c =
    let row = next_row c.in_ok-found.field-0 c.in-Some.found (File c.in-File.file.now) c.next_row.new.self.names c.loop-rows.rows.left c.next_row.new.self.left c.in_ok-found.ensures.row c.in-Some.is (ap form_of c.in-File.is) in
    file_entries c.args.namespace.now c.args.table.now c.loop-rows.table c.loop-rows.rows.left c.next_row.new.self.left c.next_row.new.self.names c.in-File.file.now c.loop-rows.invariant row

pub loop-rows-smaller-in-File : goal.loop-rows-smaller-in-File
loop-rows-smaller-in-File c =
    let row = next_row c.in_ok-found.field-0 c.in-Some.found (File c.in-File.file.now) c.next_row.new.self.names c.loop-rows.rows.left c.next_row.new.self.left c.in_ok-found.ensures.row c.in-Some.is (ap form_of c.in-File.is) in
    (let n = ap length row in omega (arith, n))

pub loop-rows-preserved-in-File : goal.loop-rows-preserved-in-File
loop-rows-preserved-in-File c =
    let row = next_row c.in_ok-found.field-0 c.in-Some.found (File c.in-File.file.now) c.next_row.new.self.names c.loop-rows.rows.left c.next_row.new.self.left c.in_ok-found.ensures.row c.in-Some.is (ap form_of c.in-File.is) in
    set_next c.args.namespace.now c.args.table.now c.loop-rows.table c.set_file.new.table (c.next_row.new.self.names, File c.in-File.file.now) c.loop-rows.rows.left c.next_row.new.self.left c.loop-rows.invariant row c.set_file.ensures

pub loop-rows-smaller : goal.loop-rows-smaller
loop-rows-smaller c =
    let row = next_row c.in_ok-found.field-0 c.in-Some.found Dir c.next_row.new.self.names c.loop-rows.rows.left c.next_row.new.self.left c.in_ok-found.ensures.row c.in-Some.is (ap form_of c.in_default-found.is) in
    (let n = ap length row in omega (arith, n))

pub loop-rows-preserved : goal.loop-rows-preserved
loop-rows-preserved c =
    let row = next_row c.in_ok-found.field-0 c.in-Some.found Dir c.next_row.new.self.names c.loop-rows.rows.left c.next_row.new.self.left c.in_ok-found.ensures.row c.in-Some.is (ap form_of c.in_default-found.is) in
    set_next c.args.namespace.now c.args.table.now c.loop-rows.table c.loop-rows.table (c.next_row.new.self.names, Dir) c.loop-rows.rows.left c.next_row.new.self.left c.loop-rows.invariant row refl

pub loop-rows-init : goal.loop-rows-init
loop-rows-init c = begins_setting c.args.namespace.now c.args.table.now c.rows-rows.result.left c.rows-rows.ensures.left c.requires.all

pub returns : goal.returns
returns c =
    ap (files_set c.loop-rows.table) (sym (c.in_ok-found.ensures.end c.in_default.is).0) ∙ c.loop-rows.invariant.set
