-- A halt that came of what the devices answered.
use Rattle.salt_disk.specs.declared.disks.DiskErr.TheVariants as disk
use Rattle.salt_disk.specs.declared.disks.DiskErr.{DiskErr}
use Rattle.salt_gatelog.specs.declared.unopened.OpenErr.TheVariants as opening
use Rattle.salt_gatelog.specs.declared.unopened.OpenErr.{OpenErr}
use Rattle.salt_storage.specs.Answers.{IsLater, disk_err, disk_err_of, halted_by, numbers_of}
use Rattle.salt_storage.specs.declared.halt.Halt.TheVariants.{DeviceFull, DiskFault, Memory, Stopped}
use Rattle.salt_storage.specs.declared.halt.Halt.{Halt}
use Rattle.std.proofs.Common.{Err, None, Result, Some, ap, refl, sym, ℕ, ◌≡◌, ◌∙◌}

pub answer_is : {T : Type 0} (result : Result T Halt) (halt : Halt) (e : DiskErr) → result ≡ Err halt → disk_err_of halt ≡ e → disk_err result ≡ Some e
answer_is result halt e is from = ap disk_err is ∙ ap (λ (k : DiskErr). Some k) from

-- which device is full
pub full_is : (halt : Halt) (e : DiskErr) (dev : ℕ) → disk_err_of halt ≡ e → halt ≡ DeviceFull dev → e ≡ disk.Full dev
full_is halt e dev from is = sym from ∙ ap disk_err_of is

-- whether memory ran out
pub memory_is : (halt : Halt) → disk_err_of halt ≡ disk.Memory → halt ≡ Memory
memory_is Stopped from = absurd cc
memory_is DiskFault from = absurd cc
memory_is (DeviceFull dev) from = absurd cc
memory_is Memory from = refl

-- an opening tells by which halt it ended
abbrev halt_in : OpenErr → Halt
halt_in opening.Stopped = Stopped
halt_in opening.Failed = DiskFault
halt_in (opening.Full dev) = DeviceFull dev
halt_in e = Memory

found-in : (halt : Halt) → halt_in (halted_by halt) ≡ halt
found-in Stopped = refl
found-in DiskFault = refl
found-in (DeviceFull dev) = refl
found-in Memory = refl

pub same_halt : (a b : Halt) → halted_by a ≡ halted_by b → a ≡ b
same_halt a b same = sym (found-in a) ∙ ap halt_in same ∙ found-in b

-- a halt refuses nothing, and tells of no numbers

pub halted_later : (halt : Halt) → IsLater (halted_by halt)
halted_later Stopped = tt
halted_later DiskFault = tt
halted_later (DeviceFull dev) = tt
halted_later Memory = tt

pub no_numbers : (halt : Halt) → numbers_of (halted_by halt) ≡ None
no_numbers Stopped = refl
no_numbers DiskFault = refl
no_numbers (DeviceFull dev) = refl
no_numbers Memory = refl
