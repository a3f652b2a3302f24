use Rattle.salt_room.proofs.Begun.{all_begun, full_behind, images_behind, images_now, none_begun, one_begun, others_behind, stands_here}
use Rattle.salt_room.proofs.Rooms.{none_on, none_yet}
use Rattle.salt_room.proofs.checkpoints.checkpoint_all.Goals as goal
use Rattle.salt_room.specs.Rooms.{HaveNone}
use Rattle.std.proofs.Common.{Some, arith, length, subst, ℕ, ◌<◌}
use Rattle.std.proofs.lemmas.Result.{err_from_is_err_and}

pub loop-number-init : goal.loop-number-init
loop-number-init g c = record { begun = none_begun 0 (g.D.Disks.view c.args.disks.now) c.args.parts.now.items c.requires; none = none_yet c.args.parts.now.items }

pub checkpoint-requires : goal.checkpoint-requires
checkpoint-requires g c =
    let l = c.loop-number in
    let within : l.number < length l.parts.items = omega (arith, l.invariant.begun.size) in
    let s = stands_here 0 (g.D.Disks.view c.args.disks.now) (g.D.Disks.view l.disks) c.args.parts.now.items l.parts.items l.number l.invariant.begun c.index_mut-part.result.now within c.index_mut-part.ensures.value in
    record { p = l.number; v = s.v; applied = s.applied; is = s.is }

pub returns-in_err-checkpoint-clause-images : goal.returns-in_err-checkpoint-clause-images
returns-in_err-checkpoint-clause-images g c r which co v told are =
    let l = c.loop-number in
    let within : l.number < length l.parts.items = omega (arith, l.invariant.begun.size) in
    images_behind 0 (g.D.Disks.view c.args.disks.now) (g.D.Disks.view l.disks) c.args.parts.now.items l.parts.items l.number l.invariant.begun c.index_mut-part.result.now within c.index_mut-part.ensures.value
    r (g.D.Disks.view c.checkpoint.new.disks) which co v are told (λ w. c.checkpoint.ensures.images r which co w)

pub returns-in_err-checkpoint-clause-others : goal.returns-in_err-checkpoint-clause-others
returns-in_err-checkpoint-clause-others g c =
    let l = c.loop-number in
    let within : l.number < length l.parts.items = omega (arith, l.invariant.begun.size) in
    let p = err_from_is_err_and c.from_residual.result c.from_residual.ensures.1 in
    rw (p.1, p.2) (others_behind 0 (g.D.Disks.view c.args.disks.now) (g.D.Disks.view l.disks) c.args.parts.now.items l.parts.items l.number l.invariant.begun c.index_mut-part.result.now within c.index_mut-part.ensures.value
    (g.D.Disks.view c.checkpoint.new.disks) (Some c.in_err-checkpoint.field-0.0) c.in_err-checkpoint.ensures.others)

pub returns-in_err-checkpoint-clause-full : goal.returns-in_err-checkpoint-clause-full
returns-in_err-checkpoint-clause-full g c =
    let l = c.loop-number in
    let within : l.number < length l.parts.items = omega (arith, l.invariant.begun.size) in
    let p = err_from_is_err_and c.from_residual.result c.from_residual.ensures.1 in
    rw (p.1, p.2) (full_behind 0 (g.D.Disks.view c.args.disks.now) (g.D.Disks.view l.disks) (g.D.Disks.view c.checkpoint.new.disks) c.args.parts.now.items l.parts.items l.number l.invariant.begun c.index_mut-part.result.now within c.index_mut-part.ensures.value
    (Some c.in_err-checkpoint.field-0.0) c.in_err-checkpoint.ensures.full)

pub loop-number-preserved : goal.loop-number-preserved
loop-number-preserved g c =
    let l = c.loop-number in
    let within : l.number < length l.parts.items = omega (arith, l.invariant.begun.size) in
    record {
      begun = one_begun 0 (g.D.Disks.view c.args.disks.now) (g.D.Disks.view l.disks) c.args.parts.now.items l.parts.items l.number l.invariant.begun c.index_mut-part.result.now within c.index_mut-part.ensures.value
          (g.D.Disks.view c.checkpoint.new.disks) c.checkpoint.new.self c.in_ok-checkpoint.ensures.others c.in_ok-checkpoint.ensures.cause c.in_ok-checkpoint.ensures.ok c.in_ok-checkpoint.ensures.ready c.in_ok-checkpoint.ensures.pages;
      none = none_on l.number l.parts.items c.checkpoint.new.self l.invariant.none within c.in_ok-checkpoint.ensures.empty;
    }

pub returns-clause-ok : goal.returns-clause-ok
returns-clause-ok g c =
    let l = c.loop-number in
    all_begun (g.D.Disks.view c.args.disks.now) (g.D.Disks.view l.disks) c.args.parts.now.items l.parts.items l.number l.invariant.begun (omega (arith, l.invariant.begun.size))

pub returns-clause-images : goal.returns-clause-images
returns-clause-images g c r which co v told are =
    let l = c.loop-number in
    images_now 0 (g.D.Disks.view c.args.disks.now) (g.D.Disks.view l.disks) c.args.parts.now.items l.parts.items l.number l.invariant.begun r which co v are told

pub returns-clause-empty : goal.returns-clause-empty
returns-clause-empty g c = let l = c.loop-number in subst (λ (n : ℕ). HaveNone n l.parts.items) (omega (arith, l.invariant.begun.size)) l.invariant.none
