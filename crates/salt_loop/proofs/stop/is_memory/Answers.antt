use Rattle.salt_loop.proofs.Texts.{no-memory}
use Rattle.salt_loop.proofs.stop.is_memory.Goals as goal

pub returns-in_default : goal.returns-in_default
returns-in_default c = no-memory c.args.stop c.in_default.not-Memory
