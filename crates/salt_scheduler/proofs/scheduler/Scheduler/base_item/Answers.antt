use Rattle.salt_scheduler.proofs.SettleDone.{none-of}
use Rattle.salt_scheduler.proofs.ShownDone.{item-of, none-called}
use Rattle.salt_scheduler.proofs.scheduler.Scheduler.base_item.Goals as goal
use Rattle.std.proofs.Common.{ap, sym, ◌∙◌}
use Rattle.std.specs.Option.{option_copied}

pub returns-in_default : goal.returns-in_default
returns-in_default c = λ s stands i.
    absurd (none-called c.args.self.now s c.args.base stands i (sym c.name.ensures ∙ ap option_copied (none-of c.name.result c.in_default.not-Some)))

pub returns : goal.returns
returns c = λ s stands i.
    item-of c.args.self.now s c.args.base c.in-Some.name.now c.in_ok-program.program c.base_at-at.result stands i
    (sym c.name.ensures ∙ ap option_copied c.in-Some.is) c.in_ok-program.ensures (c.base_at-at.ensures s stands)
