-- What contracts see of the devices, what each call does to it, and what a stop may leave.
use Rattle.std.specs.Prelude.{◌≡◌, ℕ, ◌+◌, ◌-◌, ◌^◌, ◌<◌, ◌≤◌, min, max, Bool, IsTrue, List, ◌++◌, length, take, drop, Option, Some}
use Rattle.salt_disk.specs.declared.disks.DiskErr.{DiskErr}
use Rattle.salt_disk.specs.declared.disks.DiskErr.TheVariants.{Failed, Stopped, Full, Memory}

-- All that contracts see of a value of a type of disks.
pub record View : Type 1 where
  -- how many devices there are, the length that each may reach, and whether a stop can be armed
  pub count : ℕ
  pub limit : ℕ → ℕ
  pub can_stop : Bool
  -- whether the disks tell what is on them; where they do not, `bytes` and `image` mean nothing
  pub told : Bool
  -- what a read of the device gives
  pub bytes : ℕ → List ℕ
  -- what a stop may leave of the device
  pub image : ℕ → List ℕ → Type 0
  pub faults : ℕ
  -- the stops that are armed, the next one first: at which write or sync each comes, counted from when its turn comes, and what it picks
  pub armed : List (ℕ × ℕ)

-- how many stops are armed
abbrev pub stops_left : View → ℕ
stops_left d = length d.armed

-- No call changes these.
pub record SameShape (old new : View) : Type 0 where
  pub count : new.count ≡ old.count
  pub can_stop : new.can_stop ≡ old.can_stop
  pub told : new.told ≡ old.told
  pub limit : (dev : ℕ) → new.limit dev ≡ old.limit dev

-- Nothing is pending on the device: each image of it is what a read gives.
abbrev pub IsSettled : View → ℕ → Type 0
IsSettled d dev = (c : List ℕ) → d.image dev c → c ≡ d.bytes dev

-- Each image of the device was one before.
abbrev pub Shrinks : View → View → ℕ → Type 0
Shrinks old new dev = (c : List ℕ) → new.image dev c → old.image dev c

-- The device is as it was.
pub record IsUnchanged (old new : View) (dev : ℕ) : Type 0 where
  pub bytes : new.bytes dev ≡ old.bytes dev
  pub images : Shrinks old new dev

-- Each device is as it was.
pub record AreUnchanged (old new : View) : Type 0 where
  pub shape : SameShape old new
  pub each : (dev : ℕ) → IsUnchanged old new dev

-- What a call answered, as an Option: None for Ok, else the error. (So that these words serve results of each type.)

-- The fact holds unless the disks have failed or stopped, when only images are known.
abbrev pub UnlessDown : Option DiskErr → Type 0 → Type 0
UnlessDown (Some Failed) P = Unit {0}
UnlessDown (Some Stopped) P = Unit {0}
UnlessDown answer P = P

-- The fact holds where the call has done nothing: it met a limit, or found no memory.
abbrev pub IfNothingDone : Option DiskErr → Type 0 → Type 0
IfNothingDone (Some (Full dev)) P = P
IfNothingDone (Some Memory) P = P
IfNothingDone answer P = Unit {0}

-- A call leaves each device but these as it was; after a fault or a stop their images are some of those from before.
pub record KeepsBut (touched : ℕ → Type 0) (old new : View) (answer : Option DiskErr) : Type 0 where
  pub shape : SameShape old new
  pub kept : UnlessDown answer ((dev : ℕ) → ¬ touched dev → IsUnchanged old new dev)
  pub images : (dev : ℕ) → ¬ touched dev → Shrinks old new dev

abbrev pub KeepsOthers : ℕ → View → View → Option DiskErr → Type 0
KeepsOthers dev = KeepsBut (λ d. d ≡ dev)

-- A call that writes nothing.
abbrev pub KeepsAll : View → View → Option DiskErr → Type 0
KeepsAll = KeepsBut (λ _. ⊥)

-- a u64 that counts stays at its last value
abbrev pub Rose : ℕ → ℕ → Type 0
Rose before now = min (before + 1) (2 ^ 64 - 1) ≤ now

-- how many stops an answer uses up
abbrev pub stops_in : Option DiskErr → ℕ
stops_in (Some Stopped) = 1
stops_in answer = 0

-- Stops come in the order in which they were armed: these are left where so many have come.
pub record HaveCome (came : ℕ) (old new : List (ℕ × ℕ)) : Type 0 where
  pub come : List (ℕ × ℕ)
  pub many : length come ≡ came
  pub is : old ≡ come ++ new

-- `Failed` comes only where the disks have failed, and `Stopped` only where a stop was armed, which it used up.
pub record HasCause (old new : View) (answer : Option DiskErr) : Type 0 where
  pub later : old.faults ≤ new.faults
  pub failed : answer ≡ Some Failed → Rose old.faults new.faults
  pub stops : HaveCome (stops_in answer) old.armed new.armed

-- `Full` comes exactly where the end of the write passes the limit, unless memory runs out.
abbrev pub FullExactly : ℕ → ℕ → ℕ → Option DiskErr → Type 0
FullExactly dev limit end (Some (Full n)) = (n ≡ dev) × (limit < end)
FullExactly dev limit end (Some Memory) = Unit {0}
FullExactly dev limit end answer = end ≤ limit

-- `Full` comes only where the write would pass the limit.
abbrev pub FullOnly : ℕ → ℕ → ℕ → Option DiskErr → Type 0
FullOnly dev limit end (Some (Full n)) = (n ≡ dev) × (limit < end)
FullOnly dev limit end answer = Unit {0}

-- `Full` comes only of such a device.
abbrev pub FullWhere : (ℕ → Type 0) → Option DiskErr → Type 0
FullWhere P (Some (Full dev)) = P dev
FullWhere P answer = Unit {0}

abbrev pub NeverFull : Option DiskErr → Type 0
NeverFull (Some (Full n)) = ⊥
NeverFull answer = Unit {0}

abbrev pub OnlyFails : Option DiskErr → Type 0
OnlyFails (Some (Full n)) = ⊥
OnlyFails (Some Stopped) = ⊥
OnlyFails answer = Unit {0}

-- Old bytes with these in the place of what stood there.
abbrev pub written : List ℕ → ℕ → List ℕ → List ℕ
written old at bytes = take at old ++ bytes ++ drop (at + length bytes) old

-- What a write of n bytes may have made of them: any bytes in the range and past the old end, the same elsewhere.
pub record IsTorn (at n : ℕ) (old new : List ℕ) : Type 0 where
  pub before : take at new ≡ take at old
  pub after : drop (at + n) new ≡ drop (at + n) old
  pub no_shorter : length old ≤ length new
  pub no_longer : length new ≤ max (length old) (at + n)

-- Each image is one from before, after such a write.
abbrev pub Tears : View → View → ℕ → ℕ → ℕ → Type 0
Tears old new dev at n = (c : List ℕ) → new.image dev c → (d : List ℕ) × old.image dev d × IsTorn at n d c

-- what a read of at most `room` bytes gives
abbrev pub read_from : List ℕ → ℕ → ℕ → List ℕ
read_from bytes at room = take room (drop at bytes)

-- A read gives the bytes from there on, as many as fit into the buffer or are left.
pub record IsRead (device : List ℕ) (at : ℕ) (old new : List ℕ) (n : ℕ) : Type 0 where
  pub count : n ≡ length (read_from device at (length old))
  pub bytes : take n new ≡ read_from device at (length old)

-- Each image of the device has P. Of disks that do not tell, nothing is said.
abbrev pub EachImage : View → ℕ → (List ℕ → Type 0) → Type 0
EachImage d dev P = IsTrue d.told → (c : List ℕ) → d.image dev c → P c

-- After a restart the bytes are one of the images, and nothing is pending.
pub record IsRestarted (old new : View) : Type 0 where
  pub shape : SameShape old new
  pub faults : new.faults ≡ old.faults
  pub stops : new.armed ≡ old.armed
  pub settled : (dev : ℕ) → dev < old.count → IsSettled new dev
  pub one_of : IsTrue old.told → (dev : ℕ) → dev < old.count → old.image dev (new.bytes dev)

-- a stop may leave this of all devices: they are independent of each other
abbrev pub IsImage : View → (ℕ → List ℕ) → Type 0
IsImage d c = (dev : ℕ) → dev < d.count → d.image dev (c dev)
