use Rattle.std.proofs.Common.{arith, length, rules, ◌∙◌, ◌≡◌}
use Rattle.std.proofs.Math.Seq.{take-length}
use Rattle.salt_io.proofs.Collecting.{moves-more, moves-none, moves-short}
use Rattle.salt_io.proofs.Results.{on_err}
use Rattle.salt_io.proofs.Taking.{all-left, within-more}
use Rattle.salt_io.proofs.buffer.WriteBuffer.put_in_pieces.Goals as goal

pub loop-done-init : goal.loop-done-init
loop-done-init g c = record { within = omega arith; moves = moves-none _ _; same = search rules }

pub returns-in_err-make_room : goal.returns-in_err-make_room
returns-in_err-make_room g c = record {
  ok = search rules;
  same = search rules;
  err = on_err c.from_residual.result _ (moves-short c.args.bytes.now c.loop-done.done c.loop-done.invariant.moves c.in_err-make_room.ensures.collects.err);
  failed = on_err c.from_residual.result _ (rw c.loop-done.invariant.same at c.in_err-make_room.ensures.collects.failed);
  later = omega (arith, c.loop-done.invariant.same, c.in_err-make_room.ensures.collects.later);
}

pub loop-done-preserved : goal.loop-done-preserved
loop-done-preserved g c = record {
  within = within-more c.args.bytes.now c.loop-done.done _ c.loop-done.invariant.within c.keep-done.ensures.within;
  moves = rw (c.keep-done.ensures.kept, all-left c.args.bytes.now c.loop-done.done)
      (moves-more c.args.bytes.now c.loop-done.done c.keep-done.result c.loop-done.invariant.moves c.in_ok-make_room.ensures.collects.ok);
  same = c.in_ok-make_room.ensures.collects.same ∙ c.loop-done.invariant.same;
}

pub returns : goal.returns
returns g c = record {
  ok = let all : c.loop-done.done ≡ length c.args.bytes.now = omega arith in rw (all, take-length) at c.loop-done.invariant.moves;
  same = c.loop-done.invariant.same;
  err = tt;
  failed = tt;
  later = omega (arith, c.loop-done.invariant.same);
}
