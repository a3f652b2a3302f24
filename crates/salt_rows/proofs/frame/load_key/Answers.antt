use Rattle.salt_bytes.specs.Page.{TableRow}
use Rattle.salt_rows.proofs.Read.{always_err, framed_is, no_page_told}
use Rattle.salt_rows.proofs.frame.load_key.Goals as goal
use Rattle.salt_rows.specs.Frames.{HasFramed}
use Rattle.std.proofs.Common.{List, Some, ap, inr, is_ok, ◌≡◌, ◌⊎◌, ◌∙◌}

pub returns-in_err-found-in-Ok-clause-err : goal.returns-in_err-found-in-Ok-clause-err
returns-in_err-found-in-Ok-clause-err g c =
    let d = g.D.Disks.view c.args.disks.now in
    let rows = c.in-Ok.frame.now in
    let new = c.frame.follows.lender rows in
    let held = c.frame.follows.holds rows (ap is_ok c.in-Ok.is) in
    always_err c.from_residual.result ((new ≡ c.args.pool.now) ⊎ ((x : List TableRow) × HasFramed d c.args.pool.now new c.args.page c.args.side x x))
    (inr (rows, framed_is d c.args.pool.now new c.args.page c.args.side rows c.requires held.0 held.1 c.in-Ok.ensures.value))

pub rejected-requires : goal.rejected-requires
rejected-requires g c =
    let d = g.D.Disks.view c.args.disks.now in
    let none = c.in-Err-NotPage.ensures.not_page (ap (λ e. Some e) c.in-Err-NotPage.field-0-is) in
    c.in-Err-NotPage.ensures.kept.shape.told ∙ no_page_told d c.args.pool.now c.args.page c.args.side c.requires none.0 none.1

pub returns-in_ok-found-in-Ok-clause-row : goal.returns-in_ok-found-in-Ok-clause-row
returns-in_ok-found-in-Ok-clause-row g c =
    let d = g.D.Disks.view c.args.disks.now in
    let rows = c.in-Ok.frame.now in
    let new = c.frame.follows.lender rows in
    let held = c.frame.follows.holds rows (ap is_ok c.in-Ok.is) in
    (rows, framed_is d c.args.pool.now new c.args.page c.args.side rows c.requires held.0 held.1 c.in-Ok.ensures.value, c.in_ok-found-in-Ok.ensures)
