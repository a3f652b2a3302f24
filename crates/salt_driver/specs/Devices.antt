-- What is left of a run on its devices.
use Rattle.law_states.specs.Points.{Point}
use Rattle.salt_storage.specs.Writing.{ToWrite}
use Rattle.salt_storage.specs.declared.found.Numbers.{Numbers}
use Rattle.std.specs.Prelude.{Option, ℕ}

pub record OnDevices : Type 1 where
  -- it can be opened at this point, which is that of a run that falls: the devices may be above the boot of what is kept there by so many
  -- boots
  pub can_reopen_at : ℕ → Point → Type 0
  -- Whatever a stop leaves of them stands for what is kept at this point, or, where a flight is told, for that with the flight; with so
  -- many boots more. Where numbers are told, it is one of these alone, and they are its own.
  pub stands_for_kept : Option Numbers → ℕ → Point → Type 0
  -- what is written next would pass the limit of this device
  pub fills_device : ToWrite → ℕ → Type 0

abbrev pub on_devices : (ℕ → Point → Type 0) → (Option Numbers → ℕ → Point → Type 0) → (ToWrite → ℕ → Type 0) → OnDevices
on_devices can stands fills = record { can_reopen_at = can; stands_for_kept = stands; fills_device = fills }
