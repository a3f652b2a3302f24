use Rattle.salt_engine.proofs.LineAsked.{plain-line}
use Rattle.salt_engine.proofs.engine.Engine.begin_line.Goals as goal

pub follow_line-requires-clause-plain : goal.follow_line-requires-clause-plain
follow_line-requires-clause-plain g c =
    plain-line c.args.line.now (λ d is. c.in_default.not-Table d is) (λ p is. c.in_default.not-Program p is) (λ pairs is. c.in_default.not-Crash pairs is) (λ pairs is. c.in_default.not-Net pairs is)
