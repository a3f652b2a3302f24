use Rattle.salt_pages.proofs.Filled.{filled_nothing, moved_next}
use Rattle.salt_pages.proofs.change.copy_down.Goals as goal
use Rattle.std.proofs.Common.{arith, sym, ◌+◌, ◌≤◌}

pub loop-done-init : goal.loop-done-init
loop-done-init c = record { within = omega arith; so_far = sym (filled_nothing c.args.out.now c.args.to) }

pub loop-done-preserved : goal.loop-done-preserved
loop-done-preserved c =
    let within : c.loop-done.done + c.min-some.result ≤ c.args.count = omega (arith, c.loop-done.invariant.within, c.loop-done-test.true, c.min-some.ensures) in
    record {
      within = within;
      so_far = moved_next c.args.out.now c.loop-done.out c.copy_run.new.out c.args.from c.args.to c.loop-done.done c.min-some.result c.requires.lower (omega (arith, within, c.requires.within)) c.loop-done.invariant.so_far c.copy_run.ensures.bytes;
    }
