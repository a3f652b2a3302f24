use Rattle.salt_directory.proofs.Halved.{next_goes, next_stays}
use Rattle.salt_directory.proofs.halving.part_rows.Goals as goal
use Rattle.salt_directory.proofs.halving.part_rows.Goals.{else-lt+in_ok-append_if_room-2+then-branch+in_ok-push, then-lt+in_ok-append_if_room+else-not-branch+in-Int-1, then-lt+in_ok-append_if_room+else-not-branch+in-Text-1}
use Rattle.salt_pages.proofs.Spelled.{some_at}
use Rattle.std.proofs.Common.{ap, arith, ◌∙◌}

pub append_if_room-requires : goal.append_if_room-requires
append_if_room-requires c =
    let r = some_at c.args.page.now c.loop-i.i (omega (arith, c.loop-i-test.true, c.count-i-end.ensures)) in
    (r.0, c.spelled-spelled.ensures.taken r.0 r.1)

pub append_if_room-requires-else-lt : goal.append_if_room-requires-else-lt
append_if_room-requires-else-lt c =
    let r = some_at c.args.page.now c.loop-i.i (omega (arith, c.loop-i-test.true, c.count-i-end.ensures)) in
    (r.0, c.spelled-spelled.ensures.taken r.0 r.1)

pub loop-i-preserved : goal.loop-i-preserved
loop-i-preserved c =
    let l = c.loop-i in
    let page = c.args.page.now in
    let r = some_at page l.i (omega (arith, c.loop-i-test.true, c.count-i-end.ensures)) in
    let taken = c.spelled-spelled.ensures.taken r.0 r.1 in
    let j = c.if-lt in
    let stays = next_stays l.places.items page l.lower l.upper l.i r.0 l.invariant r.1 j.places.items j.lower j.upper in
    let goes = next_goes l.places.items page l.lower l.upper l.i r.0 l.invariant r.1 j.places.items j.lower j.upper c.in_ok-place.place (c.in_ok-place.ensures r.0 taken) in
    elim c.if-lt.branch [
      | then-lt+in_ok-append_if_room+else-not-branch+in-Text-1 w ↦ stays (ap (λ v. v.items) w.places-is) (w.lower-is ∙ w.in_ok-append_if_room.ensures w.if-not-branch.false r.0 taken) w.upper-is
      | then-lt+in_ok-append_if_room+else-not-branch+in-Int-1 w ↦ stays (ap (λ v. v.items) w.places-is) (w.lower-is ∙ w.in_ok-append_if_room.ensures w.if-not-branch.false r.0 taken) w.upper-is
      | else-lt+in_ok-append_if_room-2+then-branch+in_ok-push w ↦
          goes (ap (λ v. v.items) w.places-is ∙ w.in_ok-push.ensures.items) w.lower-is (w.upper-is ∙ w.in_ok-append_if_room-2.ensures w.if-branch.true r.0 taken)
    ]
