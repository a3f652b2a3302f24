use Rattle.salt_gatelog.proofs.Entries.{entry_of, entry_stands, found_first, keeps_then, stays_log, step_on}
use Rattle.salt_gatelog.proofs.log.GateLog.find.Goals as goal
use Rattle.salt_disk.proofs.CallAfterCall.{cause_on}
use Rattle.std.proofs.Common.{None, Some, arith, refl}
use Rattle.std.proofs.lemmas.Result.{err_from_is_err_and}

pub size_at-requires-clause-entry : goal.size_at-requires-clause-entry
size_at-requires-clause-entry g c told =
    let l = c.loop-self in
    let entries = c.requires.log.0 in
    let first = c.requires.log.1 in
    let is = l.invariant.is_log entries first in
    (entry_of entries l.self.next, entry_stands (g.D.Disks.view l.disks) l.self entries is (omega (arith, c.loop-self-test.true, c.requires.below, first.count)) told)

pub loop-self-init : goal.loop-self-init
loop-self-init g c = found_first (g.D.Disks.view c.args.disks.now) c.args.self.now c.go_back.new.self c.args.i c.args.block.now c.go_back.ensures.before c.go_back.ensures.place c.requires.block

pub returns-in_err-size-clause-kept : goal.returns-in_err-size-clause-kept
returns-in_err-size-clause-kept g c =
    let p = err_from_is_err_and c.from_residual.result c.from_residual.ensures.1 in
    rw (p.1, p.2) (keeps_then (g.D.Disks.view c.args.disks.now) (g.D.Disks.view c.loop-self.disks) (g.D.Disks.view c.size_at.new.disks) (Some c.in_err-size.field-0.0) c.loop-self.invariant.keeps c.in_err-size.ensures.kept)

pub loop-self-preserved : goal.loop-self-preserved
loop-self-preserved g c =
    let l = c.loop-self in
    let d0 = g.D.Disks.view c.args.disks.now in
    let d = g.D.Disks.view l.disks in
    let e = g.D.Disks.view c.size_at.new.disks in
    record {
      is_log = λ entries first.
          step_on d e l.self _ entries c.in_ok-size.size (l.invariant.is_log entries first) c.in_ok-size.ensures.kept (record { device = refl; gate = refl; count = refl }) refl refl (omega arith)
          (omega (arith, c.loop-self-test.true, c.requires.below, first.count)) c.in_ok-size.ensures.ends c.in_ok-size.ensures.size;
      same = record { device = l.invariant.same.device; gate = l.invariant.same.gate; count = l.invariant.same.count };
      before = omega (arith, c.loop-self-test.true);
      piece = c.in_ok-size.ensures.block;
      keeps = keeps_then d0 d e None l.invariant.keeps c.in_ok-size.ensures.kept;
      cause = cause_on d0 d e None l.invariant.cause c.in_ok-size.ensures.cause;
    }

pub returns-in_err-size-clause-moved : goal.returns-in_err-size-clause-moved
returns-in_err-size-clause-moved g c entries first =
    let l = c.loop-self in
    let p = err_from_is_err_and c.from_residual.result c.from_residual.ensures.1 in
    rw (p.1, p.2) (stays_log (g.D.Disks.view l.disks) (g.D.Disks.view c.size_at.new.disks) l.self entries (Some c.in_err-size.field-0.0) c.in_err-size.ensures.kept (l.invariant.is_log entries first))
