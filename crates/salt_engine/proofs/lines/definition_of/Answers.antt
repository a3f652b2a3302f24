use Rattle.salt_engine.proofs.LineDefines.{no-definition}
use Rattle.salt_engine.proofs.lines.definition_of.Goals as goal

pub unreachable-requires : goal.unreachable-requires
unreachable-requires c = no-definition c.args.line.now (λ d is. c.in_default.not-Table d is) (λ p is. c.in_default.not-Program p is) c.requires
