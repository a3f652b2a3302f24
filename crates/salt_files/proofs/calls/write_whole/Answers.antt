use Rattle.salt_files.proofs.Parts.{written-more}
use Rattle.salt_files.proofs.calls.write_whole.Goals as goal
use Rattle.std.proofs.Common.{rules}

pub loop-done-preserved : goal.loop-done-preserved
loop-done-preserved g c = record {
  within = search rules;
  gained = written-more _ _ _ c.args.bytes.now c.loop-done.done c.in_ok-done.field-0 c.loop-done.invariant.gained c.in_ok-done.ensures.bytes;
}
