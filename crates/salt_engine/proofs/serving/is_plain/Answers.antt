use Rattle.salt_engine.proofs.Untold.{plain-else}
use Rattle.salt_engine.proofs.serving.is_plain.Goals as goal

pub returns-in_default : goal.returns-in_default
returns-in_default c = plain-else c.args.event.now (λ r is. c.in_default.not-Refused r is) (λ pairs is. c.in_default.not-Armed pairs is) (λ n text is. c.in_default.not-Defined n text is)
    (λ why is. c.in_default.not-Down why is) (λ boot n is. c.in_default.not-Opened boot n is)
