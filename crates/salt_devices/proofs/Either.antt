-- Whether the disks tell or not.
use Rattle.std.proofs.Common.{Bool, IsTrue, false, refl, true, ◌≡◌}

pub either : (P : Type 0) (told : Bool) → (IsTrue told → P) → (told ≡ false → P) → P
either P true tells mute = tells refl
either P false tells mute = mute refl
