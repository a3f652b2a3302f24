-- Which device is full, by what a call answers.
use Rattle.salt_disk.specs.Disks.{FullOnly, OnlyFails}
use Rattle.salt_disk.specs.declared.disks.DiskErr.TheVariants.{Full}
use Rattle.salt_disk.specs.declared.disks.DiskErr.{DiskErr}
use Rattle.std.proofs.Common.{Option, Some, subst, ℕ, ◌≡◌}

pub full_at : (dev limit end n : ℕ) (answer : Option DiskErr) → answer ≡ Some (Full n) → FullOnly dev limit end answer → n ≡ dev
full_at dev limit end n answer is full = (subst (FullOnly dev limit end) is full).0

-- none, where it fails alone
pub none_full : (n : ℕ) (answer : Option DiskErr) → answer ≡ Some (Full n) → OnlyFails answer → ⊥
none_full n answer is fails = subst OnlyFails is fails
