use Rattle.salt_room.proofs.Made.{checkpoints_fail, room_made, store_between}
use Rattle.salt_room.proofs.Renewed.{each_stands}
use Rattle.salt_room.proofs.making.make_room.Goals as goal
use Rattle.std.proofs.Common.{None}
use Rattle.std.proofs.lemmas.Result.{err_from_is_err_and}
use Rattle.std.specs.Result.{result_err}

pub checkpoint_full-requires-clause-stand : goal.checkpoint_full-requires-clause-stand
checkpoint_full-requires-clause-stand g c = let s = c.requires.stand in each_stands s.r (g.D.Disks.view c.args.disks.now) c.args.parts.now.items s.which s.c s.v s.is.are

pub renew_full-requires : goal.renew_full-requires
renew_full-requires g c =
    let s = c.requires.stand in
    let d = g.D.Disks.view c.args.disks.now in
    let m = g.D.Disks.view c.checkpoint_full.new.disks in
    let first = c.in_ok-checkpoint_full.ensures in
    record {
      r = s.r;
      which = s.which;
      c = s.c;
      v = (first.ok s.r s.which s.c s.v s.is.are).view;
      is = store_between d m m c.args.decisions.now c.args.decisions.now c.args.parts.now.items c.checkpoint_full.new.parts.items c.checkpoint_full.new.parts.items None first.ok first.pages first.size first.others first.cause s.r s.which s.c s.v s.is;
    }

pub returns-in_err-checkpoint_full-clause-makes : goal.returns-in_err-checkpoint_full-clause-makes
returns-in_err-checkpoint_full-clause-makes g c =
    let p = err_from_is_err_and c.from_residual.result c.from_residual.ensures.1 in
    let first = c.in_err-checkpoint_full.ensures in
    rw (p.1, p.2) (checkpoints_fail (g.D.Disks.view c.args.disks.now) (g.D.Disks.view c.checkpoint_full.new.disks) c.args.decisions.now c.args.parts.now.items c.checkpoint_full.new.parts.items c.args.shares.now c.in_err-checkpoint_full.field-0.0 c.requires.stand
    c.checkpoint_full.ensures.images first.size first.others first.cause first.full)

pub returns-clause-makes : goal.returns-clause-makes
returns-clause-makes g c =
    let first = c.in_ok-checkpoint_full.ensures in
    room_made (g.D.Disks.view c.args.disks.now) (g.D.Disks.view c.checkpoint_full.new.disks) (g.D.Disks.view c.renew_full.new.disks) c.args.decisions.now c.renew_full.new.decisions c.args.parts.now.items c.checkpoint_full.new.parts.items c.renew_full.new.parts.items
    (result_err c.renew_full.result) first.ok first.pages first.size first.others first.cause c.renew_full.ensures.makes c.args.shares.now

pub returns-clause-room : goal.returns-clause-room
returns-clause-room g c = c.renew_full.ensures.room c.args.shares.now c.in_ok-checkpoint_full.ensures.room
