use Rattle.salt_gatelog.proofs.Blocks.{empty_block}
use Rattle.salt_gatelog.proofs.open.open_log.Goals as goal

pub open_anew-requires-clause-block : goal.open_anew-requires-clause-block
open_anew-requires-clause-block g c = empty_block (g.D.Disks.view c.args.disks.now) c.args.dev c.in_ok-block.block c.in_ok-block.ensures
