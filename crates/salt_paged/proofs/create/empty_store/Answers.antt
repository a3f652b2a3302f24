use Rattle.salt_bytes.specs.Page.{TableRow}
use Rattle.salt_gatelog.proofs.Entries.{keeps_then, not_told}
use Rattle.salt_disk.specs.declared.disks.DiskErr.TheVariants.{Failed}
use Rattle.salt_disk.specs.Disks.{KeepsAll}
use Rattle.salt_paged.proofs.Opened.{empty_opened, no_fault_there, no_row_there}
use Rattle.salt_paged.proofs.create.empty_store.Goals as goal
use Rattle.salt_rows.specs.Errors.{rows_disk_err}
use Rattle.salt_rows.specs.declared.error.RowsErr.{RowsErr}
use Rattle.salt_rows.specs.declared.store.RowStore.{RowStore}
use Rattle.std.proofs.Common.{Err, None, Some, [], ap, refl, subst, sym, true, ◌∙◌}

pub returns-in-Ok-clause-rows : goal.returns-in-Ok-clause-rows
returns-in-Ok-clause-rows g c =
    empty_opened (g.D.Disks.view c.args.disks.now) (g.D.Disks.view c.open_rows.new.disks) c.in-Ok.rows c.args.part c.pages_of.result _ c.in-Ok.ensures.kept.shape c.pages_of.ensures refl c.in-Ok.ensures.opened

-- no side is named, so only disks that don't tell can give one that spells no page, or a row
pub rejected-requires : goal.rejected-requires
rejected-requires g c =
    let d = g.D.Disks.view c.args.disks.now in
    let e = g.D.Disks.view c.open_rows.new.disks in
    let arm = c.in-Err-NotPage in
    let keeps : KeepsAll d e None = subst (λ (x : RowsErr). KeepsAll d e (rows_disk_err {T = RowStore} (Err x))) arm.field-0-is arm.ensures.kept in
    not_told e.told (λ now. no_fault_there true (d.bytes c.pages_of.result) [] refl (arm.ensures.not_page (ap Err arm.field-0-is) (sym keeps.shape.told ∙ now)))

pub returns-in-Err-NotPage-clause-kept : goal.returns-in-Err-NotPage-clause-kept
returns-in-Err-NotPage-clause-kept g c =
    let d = g.D.Disks.view c.args.disks.now in
    let e = g.D.Disks.view c.open_rows.new.disks in
    let arm = c.in-Err-NotPage in
    let keeps : KeepsAll d e None = subst (λ (x : RowsErr). KeepsAll d e (rows_disk_err {T = RowStore} (Err x))) arm.field-0-is arm.ensures.kept in
    rw c.rejected.ensures.failed (keeps_then d e (g.D.Disks.view c.rejected.new.disks) (Some Failed) keeps c.rejected.ensures.kept)

pub rejected-requires-in-Err-NotRow : goal.rejected-requires-in-Err-NotRow
rejected-requires-in-Err-NotRow g c =
    let d = g.D.Disks.view c.args.disks.now in
    let e = g.D.Disks.view c.open_rows.new.disks in
    let arm = c.in-Err-NotRow in
    let keeps : KeepsAll d e None = subst (λ (x : RowsErr). KeepsAll d e (rows_disk_err {T = RowStore} (Err x))) arm.field-0-is arm.ensures.kept in
    not_told e.told (λ now. no_row_there (λ (r : TableRow). true) true (d.bytes c.pages_of.result) [] refl (arm.ensures.not_row (ap Err arm.field-0-is) (sym keeps.shape.told ∙ now)))

pub returns-in-Err-NotRow-clause-kept : goal.returns-in-Err-NotRow-clause-kept
returns-in-Err-NotRow-clause-kept g c =
    let d = g.D.Disks.view c.args.disks.now in
    let e = g.D.Disks.view c.open_rows.new.disks in
    let arm = c.in-Err-NotRow in
    let keeps : KeepsAll d e None = subst (λ (x : RowsErr). KeepsAll d e (rows_disk_err {T = RowStore} (Err x))) arm.field-0-is arm.ensures.kept in
    rw c.rejected-in-Err-NotRow.ensures.failed (keeps_then d e (g.D.Disks.view c.rejected-in-Err-NotRow.new.disks) (Some Failed) keeps c.rejected-in-Err-NotRow.ensures.kept)
