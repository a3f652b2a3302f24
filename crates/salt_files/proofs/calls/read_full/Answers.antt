use Rattle.salt_files.proofs.Parts.{read-more}
use Rattle.salt_files.proofs.calls.read_full.Goals as goal
use Rattle.std.proofs.Common.{rules}

pub loop-count-preserved : goal.loop-count-preserved
loop-count-preserved g c = record {
  size = search rules;
  within = search rules;
  taken = read-more _ _ _ c.loop-count.buf c.read_some.new.buf c.loop-count.count c.in_ok-n.n c.loop-count.invariant.within c.in_ok-n.ensures.bound.0 c.loop-count.invariant.taken c.in_ok-n.ensures.bytes;
}
