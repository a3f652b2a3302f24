-- What calls on a storage answer.
use Rattle.salt_disk.specs.Disks.{KeepsAll, View}
use Rattle.salt_disk.specs.declared.disks.DiskErr.TheVariants as disk
use Rattle.salt_disk.specs.declared.disks.DiskErr.{DiskErr}
pub use Rattle.salt_gatelog.specs.Answers.{IsRefusal, open_disk_err, open_disk_err_of}
use Rattle.salt_model.specs.Kept.{Kept}
use Rattle.salt_stands.specs.Stands.{are_spent}
use Rattle.salt_storage.specs.declared.found.Numbers.{Numbers}
use Rattle.salt_storage.specs.declared.halt.Halt.TheVariants.{DeviceFull, DiskFault, Memory, Stopped}
use Rattle.salt_storage.specs.declared.halt.Halt.{Halt}
use Rattle.salt_gatelog.specs.declared.unopened.OpenErr.TheVariants.{NotSalt, NumbersSpent, OtherShape}
use Rattle.salt_gatelog.specs.declared.unopened.OpenErr.TheVariants as opening
use Rattle.salt_gatelog.specs.declared.unopened.OpenErr.{OpenErr}
use Rattle.std.specs.Prelude.{Err, None, Ok, Option, Result, Some, true, ℕ, ⊤, ◌≡◌, ◌⊎◌}

-- what the device call answered that broke off, or would have for want of memory
abbrev pub disk_err_of : Halt → DiskErr
disk_err_of Stopped = disk.Stopped
disk_err_of DiskFault = disk.Failed
disk_err_of (DeviceFull dev) = disk.Full dev
disk_err_of Memory = disk.Memory

abbrev pub disk_err : {T : Type 0} → Result T Halt → Option DiskErr
disk_err (Ok x) = None
disk_err (Err e) = Some (disk_err_of e)

-- why an opening ends where a line would halt
abbrev pub halted_by : Halt → OpenErr
halted_by Stopped = opening.Stopped
halted_by DiskFault = opening.Failed
halted_by (DeviceFull dev) = opening.Full dev
halted_by Memory = opening.Memory

-- the one or the other is all that a stop may leave, and these are its numbers, which are spent
pub record IsSpent (rests : Kept → Type 0) (a b : Kept) (boot decisions : ℕ) : Type 0 where
  pub kept : Kept
  pub either : (kept ≡ a) ⊎ (kept ≡ b)
  pub resting : rests kept
  pub boot_is : boot ≡ kept.boot
  pub decisions_are : decisions ≡ kept.decisions
  pub spent : are_spent boot decisions ≡ true

-- how an opening may fail where what stands on the devices is known: by spent numbers, or halted
abbrev pub MayFail : (rests : Kept → Type 0) → (a b : Kept) → OpenErr → Type 0
MayFail rests a b (NotSalt dev) = ⊥
MayFail rests a b (OtherShape kept asked) = ⊥
MayFail rests a b (NumbersSpent boot decisions) = IsSpent rests a b boot decisions
MayFail rests a b e = ⊤

-- where an opening finds what it may find, only spent numbers or a halt keep it from being opened
abbrev pub IsLater : OpenErr → Type 0
IsLater (NotSalt dev) = ⊥
IsLater (OtherShape kept asked) = ⊥
IsLater (NumbersSpent boot decisions) = are_spent boot decisions ≡ true
IsLater e = ⊤

-- it has written nothing, so no stop has come, and no device was full
pub record WritesNothing (old new : View) (answer : Option DiskErr) : Type 0 where
  pub keeps : KeepsAll old new answer
  pub unstopped : answer ≡ Some disk.Stopped → ⊥
  pub not_full : (dev : ℕ) → answer ≡ Some (disk.Full dev) → ⊥

-- the numbers that a refusal tells
abbrev pub numbers_of : OpenErr → Option Numbers
numbers_of (NumbersSpent boot decisions) = Some (record { boot = boot; decisions = decisions })
numbers_of e = None

abbrev pub numbers_told : {T : Type 0} → Result T OpenErr → Option Numbers
numbers_told (Ok x) = None
numbers_told (Err e) = numbers_of e
