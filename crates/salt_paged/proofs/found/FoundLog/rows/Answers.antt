use Rattle.salt_paged.proofs.Opened.{opened_pages, pages_why, rows_judged, rows_why}
use Rattle.salt_paged.proofs.found.FoundLog.rows.Goals as goal
use Rattle.salt_paged.specs.Openings.{found_log}
use Rattle.salt_stands.specs.Partition.{pages_device}
use Rattle.std.proofs.Common.{Err, ap, ◌∙◌}

pub returns-in-Ok-clause-rows : goal.returns-in-Ok-clause-rows
returns-in-Ok-clause-rows g c p is =
    opened_pages (g.D.Disks.view c.args.disks.now) (g.D.Disks.view c.open_rows.new.disks) p c.pages_of-pages.result (found_log c.args.self.now) c.has_nulls.result c.as_slice-sides.result.now c.in-Ok.rows
    (c.pages_of-pages.ensures ∙ ap pages_device is.part) c.has_nulls.ensures c.as_slice-sides.ensures c.in-Ok.ensures.opened c.in-Ok.ensures.sides

pub returns-in-Ok-clause-judged : goal.returns-in-Ok-clause-judged
returns-in-Ok-clause-judged g c told =
    let opened = c.in-Ok.ensures.opened in
    rows_judged (g.J.RowJudge.sound c.args.judge.now) (g.D.Disks.view c.args.disks.now).bytes c.args.self.now c.pages_of-pages.result c.has_nulls.result c.as_slice-sides.result.now c.pages_of-pages.ensures c.has_nulls.ensures c.as_slice-sides.ensures
    opened.0 (opened.2 told) (c.in-Ok.ensures.judged told)

pub returns-in-Err-NotPage-clause-why : goal.returns-in-Err-NotPage-clause-why
returns-in-Err-NotPage-clause-why g c told =
    pages_why (g.J.RowJudge.sound c.args.judge.now) (g.D.Disks.view c.args.disks.now).bytes c.args.self.now c.pages_of-pages.result c.has_nulls.result c.as_slice-sides.result.now c.pages_of-pages.ensures c.has_nulls.ensures c.as_slice-sides.ensures
    (c.in-Err-NotPage.ensures.not_page (ap Err c.in-Err-NotPage.field-0-is) told)

pub returns-in-Err-NotRow-clause-why : goal.returns-in-Err-NotRow-clause-why
returns-in-Err-NotRow-clause-why g c told =
    rows_why (g.J.RowJudge.sound c.args.judge.now) (g.D.Disks.view c.args.disks.now).bytes c.args.self.now c.pages_of-pages.result c.has_nulls.result c.as_slice-sides.result.now c.pages_of-pages.ensures c.has_nulls.ensures c.as_slice-sides.ensures
    (c.in-Err-NotRow.ensures.not_row (ap Err c.in-Err-NotRow.field-0-is) told)
