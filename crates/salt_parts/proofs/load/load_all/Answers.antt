use Rattle.salt_parts.proofs.Loads.{none_loaded, one_loaded, this_one}
use Rattle.salt_parts.proofs.Passed.{put_back}
use Rattle.salt_parts.proofs.load.load_all.Goals as goal
use Rattle.std.proofs.Common.{Some, arith, length, ◌<◌}
use Rattle.std.proofs.lemmas.Result.{err_from_is_err_and}

pub loop-number-init : goal.loop-number-init
loop-number-init g c = none_loaded (g.D.Disks.view c.args.disks.now) c.args.parts.now.items c.args.range.now c.args.out.now

pub load-requires : goal.load-requires
load-requires g c =
    let l = c.loop-number in
    let within : l.number < length l.parts.items = omega (arith, l.invariant.size) in
    record {
      p = l.number;
      v = c.requires.v l.number;
      applied = c.requires.applied l.number;
      is = this_one (g.D.Disks.view c.args.disks.now) (g.D.Disks.view l.disks) c.args.parts.now.items l.parts.items c.args.range.now c.args.out.now l.out l.number l.invariant c.index_mut-part.result.now within c.index_mut-part.ensures.value
          c.requires.v c.requires.applied c.requires.are;
    }

pub returns-in_err-load-clause-stands : goal.returns-in_err-load-clause-stands
returns-in_err-load-clause-stands g c v applied h =
    let l = c.loop-number in
    let d = g.D.Disks.view l.disks in
    let within : l.number < length l.parts.items = omega (arith, l.invariant.size) in
    let x = c.index_mut-part.result.now in
    let own = this_one (g.D.Disks.view c.args.disks.now) d c.args.parts.now.items l.parts.items c.args.range.now c.args.out.now l.out l.number l.invariant x within c.index_mut-part.ensures.value v applied h in
    let p = err_from_is_err_and c.from_residual.result c.from_residual.ensures.1 in
    rw (p.1, p.2) (put_back d l.parts.items l.number within v applied (l.invariant.are v applied h) (g.D.Disks.view c.load.new.disks) c.load.new.self (Some c.in_err-load.field-0.0) c.in_err-load.ensures.kept
    (c.in_err-load.ensures.stands l.number (v l.number) (applied l.number) own))

pub loop-number-preserved : goal.loop-number-preserved
loop-number-preserved g c =
    let l = c.loop-number in
    let d = g.D.Disks.view l.disks in
    let within : l.number < length l.parts.items = omega (arith, l.invariant.size) in
    one_loaded (g.D.Disks.view c.args.disks.now) d c.args.parts.now.items l.parts.items c.args.range.now c.args.out.now l.out l.number l.invariant c.index_mut-part.result.now within c.index_mut-part.ensures.value
    (g.D.Disks.view c.load.new.disks) c.load.new.self c.load.new.out c.in_ok-load.ensures.kept c.in_ok-load.ensures.cause c.in_ok-load.ensures.stands c.in_ok-load.ensures.rows
