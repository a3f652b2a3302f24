use Rattle.salt_rows.proofs.Loads.{IsLoadingSeats}
use Rattle.salt_rows.proofs.store.RowStore.load_seats.Given as goal
use Rattle.std.proofs.Common.{drop}

abbrev pub invariant-loop-seat : goal.invariant-loop-seat
invariant-loop-seat g l = IsLoadingSeats (g.D.Disks.view l.fn.disks) (g.D.Disks.view l.disks) l.fn.self l.self l.fn.out l.out l.seats (drop l.seat-index l.seats)
