use Rattle.salt_rows.proofs.Device.{short_page, whole_page}
use Rattle.salt_rows.proofs.open.page_on.Goals as goal
use Rattle.std.proofs.Common.{arith, sym, ◌∙◌}

pub returns-then-n-lt-PAGE-clause-not_page : goal.returns-then-n-lt-PAGE-clause-not_page
returns-then-n-lt-PAGE-clause-not_page g c = λ is told.
    short_page ((g.D.Disks.view c.args.disks.now).bytes c.args.dev) c.args.page c.args.side _ _ _ _ (c.in_ok-n.ensures.bytes told) (omega arith) (omega arith) c.args.nulls (omega (arith, c.if-n-lt-PAGE.true))

pub returns-in-Some-clause-page : goal.returns-in-Some-clause-page
returns-in-Some-clause-page g c = λ told.
    whole_page ((g.D.Disks.view c.args.disks.now).bytes c.args.dev) c.args.page c.args.side _ _ _ _ (c.in_ok-n.ensures.bytes told) (omega arith) (omega arith) c.args.nulls (omega (arith, c.if-n-lt-PAGE.false)) (omega arith)
    ∙ sym c.in_ok-read.ensures.rows ∙ c.in-Some.is

pub returns-in-None-clause-not_page : goal.returns-in-None-clause-not_page
returns-in-None-clause-not_page g c = λ is told.
    whole_page ((g.D.Disks.view c.args.disks.now).bytes c.args.dev) c.args.page c.args.side _ _ _ _ (c.in_ok-n.ensures.bytes told) (omega arith) (omega arith) c.args.nulls (omega (arith, c.if-n-lt-PAGE.false)) (omega arith)
    ∙ sym c.in_ok-read.ensures.rows ∙ c.in-None.is
