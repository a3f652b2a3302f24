use Rattle.salt_disk.specs.declared.disks.DiskErr.{DiskErr}
use Rattle.salt_pool.specs.declared.places.Dirty.{Dirty}
use Rattle.salt_rows.proofs.store.RowStore.make_room_for_two.Goals as goal
use Rattle.std.proofs.Common.{Err, List, Ok, OnOk, Result, [], arith, length, subst, sym, ◌+◌, ◌≡◌, ◌≤◌}

-- nothing is to be written
room_of_none : {T : Type 0} (r : Result T DiskErr) (ds : List Dirty) → OnOk r (ds ≡ []) → OnOk r (length ds + 2 ≤ 64)
room_of_none (Ok y) ds none = subst (λ (l : List Dirty). length l + 2 ≤ 64) (sym none) (omega arith)
room_of_none (Err y) ds none = tt

pub flush-requires : goal.flush-requires
flush-requires g c = let s = c.requires in record { dev = s.dev; named = s.named; t = s.t; is = s.is.is }

pub returns-then-room-lt2-clause-rows : goal.returns-then-room-lt2-clause-rows
returns-then-room-lt2-clause-rows g c = λ dev named t is. c.flush.ensures.rows dev named t is.is

pub returns-then-room-lt2-clause-room : goal.returns-then-room-lt2-clause-room
returns-then-room-lt2-clause-room g c = room_of_none c.flush.result c.flush.new.self.pool.dirty.items c.flush.ensures.clean

pub returns-then-room-lt2-clause-images : goal.returns-then-room-lt2-clause-images
returns-then-room-lt2-clause-images g c = λ dev named t is. c.flush.ensures.images dev named t is.is

pub returns-then-room-lt2-clause-named : goal.returns-then-room-lt2-clause-named
returns-then-room-lt2-clause-named g c = λ dev named t is told. c.flush.ensures.named dev named t is.is told
