-- Faults and stops, as they are counted over a run.
use Rattle.salt_disk.specs.Disks.{Rose}
use Rattle.salt_model.specs.declared.events.Event.TheVariants.{Down}
use Rattle.salt_model.specs.declared.events.Event.{Event}
use Rattle.salt_model.specs.declared.events.Why.TheVariants.{Fault}
use Rattle.salt_promise.specs.Given.{Stream}
use Rattle.salt_promise.specs.declared.status.Status.TheVariants.{DiskFault, Memory}
use Rattle.salt_promise.specs.declared.status.Status.{Status}
use Rattle.std.specs.Prelude.{Bool, List, Option, Some, [], false, true, ℕ, ⊤, ◌∷◌, ◌≡◌, ◌≤◌}

-- A stream fails only where the run ends by that.
abbrev pub FailsOnly : Bool → (before after : Stream) → Type 0
FailsOnly false before after = after.faults ≡ before.faults
FailsOnly true before after = (before.faults ≤ after.faults) × Rose before.faults after.faults

-- DOWNS: the faults of the devices rise before each fall by a fault, and behind the last event where the run ends by one. (That they rise
-- within the same line is said of each line, below.)
abbrev pub RiseTo : Event → ℕ → ℕ → Type 0
RiseTo (Down Fault) before now = (before ≤ now) × Rose before now
RiseTo e before now = before ≤ now

abbrev pub RiseBehind : Status → ℕ → ℕ → Type 0
RiseBehind DiskFault before now = (before ≤ now) × Rose before now
RiseBehind status before now = before ≤ now

abbrev pub Downs : Status → (first : ℕ) → List Event → (last : ℕ) → Type 0
Downs status first [] last = RiseBehind status first last
Downs status first (e ∷ es) last = (n : ℕ) × RiseTo e first n × Downs status n es last

-- STOPS

-- what want of memory leaves of them is free
abbrev pub AreArmed : Status → (told last : List (ℕ × ℕ)) → Type 0
AreArmed Memory told last = ⊤
AreArmed status told last = last ≡ told

-- each stop was armed before it came, as those that are left behind them tell; and unless memory ran out, these are armed at last
pub record Stops (status : Status) (left : Option (List (ℕ × ℕ))) (last : List (ℕ × ℕ)) : Type 0 where
  pub stops : List (ℕ × ℕ)
  pub behind : left ≡ Some stops
  pub are : AreArmed status stops last
