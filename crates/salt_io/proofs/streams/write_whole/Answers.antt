use Rattle.std.proofs.Common.{arith, length, rules, ◌∙◌, ◌≡◌}
use Rattle.std.proofs.Math.Seq.{take-length}
use Rattle.salt_io.proofs.Results.{on_err}
use Rattle.salt_io.proofs.Taking.{gains-more, gains-short, within-more}
use Rattle.salt_io.proofs.streams.write_whole.Goals as goal

pub returns-in_err-done : goal.returns-in_err-done
returns-in_err-done g c = record {
  ok = search rules;
  same = search rules;
  err = on_err c.from_residual.result _ (gains-short _ _ _ c.args.bytes.now c.loop-done.done c.loop-done-test.true c.loop-done.invariant.gained c.in_err-done.ensures.kept);
  failed = on_err c.from_residual.result _ (rw c.loop-done.invariant.same at c.in_err-done.ensures.failed);
  later = omega (arith, c.loop-done.invariant.same, c.in_err-done.ensures.later);
}

pub returns : goal.returns
returns g c = record {
  ok = let all : c.loop-done.done ≡ length c.args.bytes.now = omega arith in rw (all, take-length) at c.loop-done.invariant.gained;
  same = c.loop-done.invariant.same;
  err = tt;
  failed = tt;
  later = omega (arith, c.loop-done.invariant.same);
}

pub loop-done-preserved : goal.loop-done-preserved
loop-done-preserved g c = record {
  within = within-more c.args.bytes.now c.loop-done.done _ c.loop-done.invariant.within c.in_ok-done.ensures.within;
  gained = gains-more _ _ _ c.args.bytes.now c.loop-done.done c.in_ok-done.field-0 c.loop-done.invariant.gained c.in_ok-done.ensures.gained;
  same = c.in_ok-done.ensures.same ∙ c.loop-done.invariant.same;
}
