use Rattle.salt_room.proofs.Begun.{full_of_share, images_behind, images_now, none_begun, one_begun, one_left, others_behind, stands_here}
use Rattle.salt_room.proofs.Rooms.{FilledSoFar, no_room_yet, room_begun, room_left}
use Rattle.salt_room.proofs.checkpoints.checkpoint_full.Goals as goal
use Rattle.salt_room.proofs.checkpoints.checkpoint_full.Goals.{else-lacks_room, then-lacks_room+in_ok-checkpoint}
use Rattle.salt_room.specs.Rooms.{HaveRoom}
use Rattle.std.proofs.Common.{Some, arith, length, refl, slice_set, subst, ℕ, ◌+◌, ◌<◌}
use Rattle.std.proofs.lemmas.Option.{slice_get_read}
use Rattle.std.proofs.lemmas.Result.{err_from_is_err_and}

pub loop-number-init : goal.loop-number-init
loop-number-init g c = record {
  begun = none_begun (length c.args.parts.now.items) (g.D.Disks.view c.args.disks.now) c.args.parts.now.items c.requires.stand;
  room = no_room_yet c.args.parts.now.items c.args.shares.now;
}

pub checkpoint-requires : goal.checkpoint-requires
checkpoint-requires g c =
    let l = c.loop-number in
    let within : l.number < length l.parts.items = omega (arith, l.invariant.begun.size) in
    let s = stands_here (length c.args.parts.now.items) (g.D.Disks.view c.args.disks.now) (g.D.Disks.view l.disks) c.args.parts.now.items l.parts.items l.number l.invariant.begun c.index_mut-part.result.now within c.index_mut-part.ensures.value in
    record { p = l.number; v = s.v; applied = s.applied; is = s.is }

pub returns-in_err-checkpoint-clause-images : goal.returns-in_err-checkpoint-clause-images
returns-in_err-checkpoint-clause-images g c r which co v told are =
    let l = c.loop-number in
    let within : l.number < length l.parts.items = omega (arith, l.invariant.begun.size) in
    images_behind (length c.args.parts.now.items) (g.D.Disks.view c.args.disks.now) (g.D.Disks.view l.disks) c.args.parts.now.items l.parts.items l.number l.invariant.begun c.index_mut-part.result.now within c.index_mut-part.ensures.value
    r (g.D.Disks.view c.checkpoint.new.disks) which co v are told (λ w. c.checkpoint.ensures.images r which co w)

pub returns-in_err-checkpoint-clause-others : goal.returns-in_err-checkpoint-clause-others
returns-in_err-checkpoint-clause-others g c =
    let l = c.loop-number in
    let within : l.number < length l.parts.items = omega (arith, l.invariant.begun.size) in
    let p = err_from_is_err_and c.from_residual.result c.from_residual.ensures.1 in
    rw (p.1, p.2) (others_behind (length c.args.parts.now.items) (g.D.Disks.view c.args.disks.now) (g.D.Disks.view l.disks) c.args.parts.now.items l.parts.items l.number l.invariant.begun c.index_mut-part.result.now within c.index_mut-part.ensures.value
    (g.D.Disks.view c.checkpoint.new.disks) (Some c.in_err-checkpoint.field-0.0) c.in_err-checkpoint.ensures.others)

pub returns-in_err-checkpoint-clause-full : goal.returns-in_err-checkpoint-clause-full
returns-in_err-checkpoint-clause-full g c =
    let l = c.loop-number in
    let within : l.number < length l.parts.items = omega (arith, l.invariant.begun.size) in
    let p = err_from_is_err_and c.from_residual.result c.from_residual.ensures.1 in
    let own = c.index-shares-number.result in
    let mine = slice_get_read c.args.shares.now (length c.args.shares.now) l.number own refl (omega (arith, within, l.invariant.begun.size, c.requires.size)) c.index-shares-number.is in
    rw (p.1, p.2) (full_of_share (length c.args.parts.now.items) (g.D.Disks.view c.args.disks.now) (g.D.Disks.view l.disks) (g.D.Disks.view c.checkpoint.new.disks) c.args.parts.now.items l.parts.items l.number l.invariant.begun c.index_mut-part.result.now within c.index_mut-part.ensures.value
    c.args.shares.now own mine (c.lacks_room.ensures.some c.if-lacks_room.true) (Some c.in_err-checkpoint.field-0.0) c.in_err-checkpoint.ensures.full)

pub loop-number-preserved : goal.loop-number-preserved
loop-number-preserved g c =
    let l = c.loop-number in
    let n = l.number in
    let d0 = g.D.Disks.view c.args.disks.now in
    let d = g.D.Disks.view l.disks in
    let parts0 = c.args.parts.now.items in
    let shares = c.args.shares.now in
    let low = length parts0 in
    let within : n < length l.parts.items = omega (arith, l.invariant.begun.size) in
    elim c.if-lacks_room.branch [
      | then-lacks_room+in_ok-checkpoint w ↦
          let y = w.checkpoint.new.self in
          let made : FilledSoFar d0 (g.D.Disks.view w.checkpoint.new.disks) parts0 (slice_set l.parts.items n y) shares (n + 1) =
          record {
            begun = one_begun low d0 d parts0 l.parts.items n l.invariant.begun w.index_mut-part.result.now within w.index_mut-part.ensures.value
                (g.D.Disks.view w.checkpoint.new.disks) y w.in_ok-checkpoint.ensures.others w.in_ok-checkpoint.ensures.cause w.in_ok-checkpoint.ensures.ok w.in_ok-checkpoint.ensures.ready w.in_ok-checkpoint.ensures.pages;
            room = room_begun n l.parts.items shares l.invariant.room y within w.in_ok-checkpoint.ensures.empty;
          } in
          rw (w.disks-is, w.parts-is) made
      | else-lacks_room w ↦
          let x = c.index-this.result.now in
          let own = c.index-shares-number.result in
          let here = slice_get_read l.parts.items (length l.parts.items) n x refl within c.index-this.ensures in
          let mine = slice_get_read shares (length shares) n own refl (omega (arith, within, l.invariant.begun.size, c.requires.size)) c.index-shares-number.is in
          let made : FilledSoFar d0 d parts0 l.parts.items shares (n + 1) =
          record {
            begun = one_left low d0 d parts0 l.parts.items n l.invariant.begun (omega (arith, within, l.invariant.begun.size));
            room = room_left n l.parts.items shares l.invariant.room x own here mine (c.lacks_room.ensures.room w.if-lacks_room.false);
          } in
          rw (w.disks-is, w.parts-is) made
    ]

pub returns-clause-ok : goal.returns-clause-ok
returns-clause-ok g c r which co v are = (c.loop-number.invariant.begun.on r which co v are).on

pub returns-clause-room : goal.returns-clause-room
returns-clause-room g c =
    let l = c.loop-number in
    subst (λ (n : ℕ). HaveRoom n l.parts.items c.args.shares.now) (omega (arith, l.invariant.begun.size)) l.invariant.room

pub returns-clause-images : goal.returns-clause-images
returns-clause-images g c r which co v told are =
    let l = c.loop-number in
    images_now (length c.args.parts.now.items) (g.D.Disks.view c.args.disks.now) (g.D.Disks.view l.disks) c.args.parts.now.items l.parts.items l.number l.invariant.begun r which co v are told
