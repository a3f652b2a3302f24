use Rattle.salt_disk.proofs.CallAfterCall.{cause_on, keeps_on}
use Rattle.salt_rows.proofs.Loads.{looks_on, next_seat, seat_there, seats_begin, seats_go, seats_loaded, seats_stand}
use Rattle.salt_rows.proofs.store.RowStore.load_seats.Goals as goal
use Rattle.std.proofs.Common.{Some, arith, drop, ◌+◌}
use Rattle.std.proofs.lemmas.Result.{err_from_is_err_and}

pub loop-seat-init : goal.loop-seat-init
loop-seat-init g c = seats_begin (g.D.Disks.view c.args.disks.now) c.args.self.now c.args.out.now c.args.seats.now c.requires.seated

pub load_seat-requires : goal.load_seat-requires
load_seat-requires g c =
    let l = c.loop-seat in
    let d0 = g.D.Disks.view c.args.disks.now in
    let d = g.D.Disks.view l.disks in
    let all = c.args.seats.now in
    let s = c.seat-item.result in
    let so = next_seat d0 d c.args.self.now l.self c.args.out.now l.out all l.seat-index s c.loop-seat-test.true c.seat-item.is l.invariant in
    record {
      stands = seats_stand d0 d c.args.self.now l.self c.args.out.now l.out all s (drop (l.seat-index + 1) all) so c.requires.stands;
      page = seat_there d0 d c.args.self.now l.self c.args.out.now l.out all s (drop (l.seat-index + 1) all) so;
    }

pub loop-seat-preserved : goal.loop-seat-preserved
loop-seat-preserved g c =
    let l = c.loop-seat in
    let d0 = g.D.Disks.view c.args.disks.now in
    let d = g.D.Disks.view l.disks in
    let all = c.args.seats.now in
    let s = c.seat-item.result in
    let so = next_seat d0 d c.args.self.now l.self c.args.out.now l.out all l.seat-index s c.loop-seat-test.true c.seat-item.is l.invariant in
    let made = c.in_ok-load_seat.ensures in
    seats_go d0 d c.args.self.now l.self c.args.out.now l.out all s (drop (l.seat-index + 1) all) so
    (g.D.Disks.view c.load_seat.new.disks) c.load_seat.new.self c.load_seat.new.out made.same made.kept made.cause made.stands made.table made.row

pub returns-clause-rows : goal.returns-clause-rows
returns-clause-rows g c dev named t is told range whole =
    let l = c.loop-seat in
    seats_loaded (g.D.Disks.view c.args.disks.now) (g.D.Disks.view l.disks) c.args.self.now l.self c.args.out.now l.out c.args.seats.now l.seat-index (omega (arith, c.loop-seat-test.false)) l.invariant dev named t is told range whole

pub returns-clause-stands : goal.returns-clause-stands
returns-clause-stands g c dev named t is = c.loop-seat.invariant.stands dev named t is

-- A ROW WAS NOT LOADED

pub returns-in_err-load_seat-clause-stands : goal.returns-in_err-load_seat-clause-stands
returns-in_err-load_seat-clause-stands g c dev named t is =
    let p = err_from_is_err_and c.from_residual.result c.from_residual.ensures.1 in
    rw (p.1, p.2) (c.in_err-load_seat.ensures.stands dev named t (c.loop-seat.invariant.stands dev named t is))

pub returns-in_err-load_seat-clause-same : goal.returns-in_err-load_seat-clause-same
returns-in_err-load_seat-clause-same g c = looks_on c.args.self.now c.loop-seat.self c.load_seat.new.self c.loop-seat.invariant.same c.in_err-load_seat.ensures.same

pub returns-in_err-load_seat-clause-kept : goal.returns-in_err-load_seat-clause-kept
returns-in_err-load_seat-clause-kept g c =
    let p = err_from_is_err_and c.from_residual.result c.from_residual.ensures.1 in
    rw (p.1, p.2) (keeps_on (λ _. ⊥) (g.D.Disks.view c.args.disks.now) (g.D.Disks.view c.loop-seat.disks) (g.D.Disks.view c.load_seat.new.disks) (Some c.in_err-load_seat.field-0.0) c.loop-seat.invariant.kept c.in_err-load_seat.ensures.kept)

pub returns-in_err-load_seat-clause-cause : goal.returns-in_err-load_seat-clause-cause
returns-in_err-load_seat-clause-cause g c =
    let p = err_from_is_err_and c.from_residual.result c.from_residual.ensures.1 in
    rw (p.1, p.2) (cause_on (g.D.Disks.view c.args.disks.now) (g.D.Disks.view c.loop-seat.disks) (g.D.Disks.view c.load_seat.new.disks) (Some c.in_err-load_seat.field-0.0) c.loop-seat.invariant.cause c.in_err-load_seat.ensures.cause)
