use Rattle.salt_database.proofs.OpeningActs.{comes-else}
use Rattle.salt_database.proofs.recovering.comes_in_opening.Goals as goal

pub returns-in_default : goal.returns-in_default
returns-in_default c = λ is.
    comes-else c.args.event.now (λ pairs. c.in_default.not-Armed pairs) (λ why. c.in_default.not-Down why) (λ boot n. c.in_default.not-Opened boot n)
