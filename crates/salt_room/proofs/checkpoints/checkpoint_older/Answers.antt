use Rattle.salt_room.proofs.Begun.{BegunSoFar, all_begun, full_behind, images_behind, images_now, none_begun, one_begun, others_behind, stands_here}
use Rattle.salt_room.proofs.Behind.{one_behind}
use Rattle.salt_room.proofs.checkpoints.checkpoint_older.Goals as goal
use Rattle.salt_room.proofs.checkpoints.checkpoint_older.Goals.{else-needs_checkpoint, then-needs_checkpoint+in_ok-checkpoint}
use Rattle.std.proofs.Common.{Some, arith, length, refl, slice_set, ◌+◌, ◌<◌}
use Rattle.std.proofs.lemmas.Option.{slice_get_read}
use Rattle.std.proofs.lemmas.Result.{err_from_is_err_and}

pub loop-number-init : goal.loop-number-init
loop-number-init g c = none_begun 0 (g.D.Disks.view c.args.disks.now) c.args.parts.now.items c.requires

pub checkpoint-requires : goal.checkpoint-requires
checkpoint-requires g c =
    let l = c.loop-number in
    let within : l.number < length l.parts.items = omega (arith, l.invariant.size) in
    let s = stands_here 0 (g.D.Disks.view c.args.disks.now) (g.D.Disks.view l.disks) c.args.parts.now.items l.parts.items l.number l.invariant c.index_mut-part.result.now within c.index_mut-part.ensures.value in
    record { p = l.number; v = s.v; applied = s.applied; is = s.is }

pub returns-in_err-checkpoint-clause-images : goal.returns-in_err-checkpoint-clause-images
returns-in_err-checkpoint-clause-images g c r which co v told are =
    let l = c.loop-number in
    let within : l.number < length l.parts.items = omega (arith, l.invariant.size) in
    images_behind 0 (g.D.Disks.view c.args.disks.now) (g.D.Disks.view l.disks) c.args.parts.now.items l.parts.items l.number l.invariant c.index_mut-part.result.now within c.index_mut-part.ensures.value
    r (g.D.Disks.view c.checkpoint.new.disks) which co v are told (λ w. c.checkpoint.ensures.images r which co w)

pub returns-in_err-checkpoint-clause-others : goal.returns-in_err-checkpoint-clause-others
returns-in_err-checkpoint-clause-others g c =
    let l = c.loop-number in
    let within : l.number < length l.parts.items = omega (arith, l.invariant.size) in
    let p = err_from_is_err_and c.from_residual.result c.from_residual.ensures.1 in
    rw (p.1, p.2) (others_behind 0 (g.D.Disks.view c.args.disks.now) (g.D.Disks.view l.disks) c.args.parts.now.items l.parts.items l.number l.invariant c.index_mut-part.result.now within c.index_mut-part.ensures.value
    (g.D.Disks.view c.checkpoint.new.disks) (Some c.in_err-checkpoint.field-0.0) c.in_err-checkpoint.ensures.others)

pub returns-in_err-checkpoint-clause-full : goal.returns-in_err-checkpoint-clause-full
returns-in_err-checkpoint-clause-full g c =
    let l = c.loop-number in
    let within : l.number < length l.parts.items = omega (arith, l.invariant.size) in
    let p = err_from_is_err_and c.from_residual.result c.from_residual.ensures.1 in
    rw (p.1, p.2) (full_behind 0 (g.D.Disks.view c.args.disks.now) (g.D.Disks.view l.disks) (g.D.Disks.view c.checkpoint.new.disks) c.args.parts.now.items l.parts.items l.number l.invariant c.index_mut-part.result.now within c.index_mut-part.ensures.value
    (Some c.in_err-checkpoint.field-0.0) c.in_err-checkpoint.ensures.full)

pub loop-number-preserved : goal.loop-number-preserved
loop-number-preserved g c =
    let l = c.loop-number in
    let n = l.number in
    let d0 = g.D.Disks.view c.args.disks.now in
    let d = g.D.Disks.view l.disks in
    let parts0 = c.args.parts.now.items in
    let within : n < length l.parts.items = omega (arith, l.invariant.size) in
    elim c.if-needs_checkpoint.branch [
      | then-needs_checkpoint+in_ok-checkpoint w ↦
          let y = w.checkpoint.new.self in
          let made : BegunSoFar 0 d0 (g.D.Disks.view w.checkpoint.new.disks) parts0 (slice_set l.parts.items n y) (n + 1) =
          one_begun 0 d0 d parts0 l.parts.items n l.invariant w.index_mut-part.result.now within w.index_mut-part.ensures.value
          (g.D.Disks.view w.checkpoint.new.disks) y w.in_ok-checkpoint.ensures.others w.in_ok-checkpoint.ensures.cause w.in_ok-checkpoint.ensures.ok w.in_ok-checkpoint.ensures.ready w.in_ok-checkpoint.ensures.pages in
          rw (w.disks-is, w.parts-is) made
      | else-needs_checkpoint w ↦
          let x = c.index-this.result.now in
          let here = slice_get_read l.parts.items (length l.parts.items) n x refl within c.index-this.ensures in
          let made : BegunSoFar 0 d0 d parts0 l.parts.items (n + 1) =
          one_behind 0 d0 d parts0 l.parts.items n l.invariant x within here (c.needs_checkpoint.ensures.nulls w.if-needs_checkpoint.false) (c.needs_checkpoint.ensures.none w.if-needs_checkpoint.false) in
          rw (w.disks-is, w.parts-is) made
    ]

pub returns-clause-ok : goal.returns-clause-ok
returns-clause-ok g c =
    let l = c.loop-number in
    all_begun (g.D.Disks.view c.args.disks.now) (g.D.Disks.view l.disks) c.args.parts.now.items l.parts.items l.number l.invariant (omega (arith, l.invariant.size))

pub returns-clause-images : goal.returns-clause-images
returns-clause-images g c r which co v told are =
    let l = c.loop-number in
    images_now 0 (g.D.Disks.view c.args.disks.now) (g.D.Disks.view l.disks) c.args.parts.now.items l.parts.items l.number l.invariant r which co v are told
