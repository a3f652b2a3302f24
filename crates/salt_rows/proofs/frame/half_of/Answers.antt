use Rattle.salt_rows.proofs.Read.{framed_to, no_page_told}
use Rattle.salt_rows.proofs.frame.half_of.Goals as goal
use Rattle.std.proofs.Common.{Some, ap, is_ok, ◌∙◌}

pub rejected-requires : goal.rejected-requires
rejected-requires g c =
    let d = g.D.Disks.view c.args.disks.now in
    let none = c.in-Err-NotPage.ensures.not_page (ap (λ e. Some e) c.in-Err-NotPage.field-0-is) in
    c.in-Err-NotPage.ensures.kept.shape.told ∙ no_page_told d c.args.pool.now c.args.page c.args.side c.requires none.0 none.1

pub returns-in_ok-half-in-Ok-clause-rows : goal.returns-in_ok-half-in-Ok-clause-rows
returns-in_ok-half-in-Ok-clause-rows g c =
    let d = g.D.Disks.view c.args.disks.now in
    let rows = c.split_page.new.page in
    let held = c.frame.follows.holds rows (ap is_ok c.in-Ok.is) in
    (c.in-Ok.frame.now, rows, framed_to d c.args.pool.now (c.frame.follows.lender rows) c.args.page c.args.side c.in-Ok.frame.now rows c.requires held.0 held.1 c.in-Ok.ensures.value, c.in_ok-half-in-Ok.ensures)
