-- Which stops are armed where a run stands, as the lines of its trace tell.
use Rattle.salt_disk.specs.Disks.{HaveCome, stops_in}
use Rattle.salt_disk.specs.declared.disks.DiskErr.TheVariants.{Memory}
use Rattle.salt_disk.specs.declared.disks.DiskErr.{DiskErr}
use Rattle.salt_model.specs.Arming.{armed_by_lines}
use Rattle.salt_model.specs.Trace.{Trace}
use Rattle.salt_promise.specs.Counting.{Stops}
use Rattle.salt_promise.specs.declared.status.Status.{Status}
use Rattle.std.specs.Prelude.{List, Option, Some, ℕ, ◌≡◌}

-- Where these were armed at a trace's end, those are where it has gone on to, whatever was armed first.
abbrev pub StaysArmed : (trace after : Trace) (old new : List (ℕ × ℕ)) → Type 0
StaysArmed trace after old new = (first : List (ℕ × ℕ)) → armed_by_lines first trace ≡ Some old → armed_by_lines first after ≡ Some new

-- A call has answered so, and no fall is told yet: unless memory ran out, a stop that is the answer has come besides.
abbrev pub AreArmedBut : DiskErr → (told : Option (List (ℕ × ℕ))) → List (ℕ × ℕ) → Type 0
AreArmedBut answer told now = (stops : List (ℕ × ℕ)) × (told ≡ Some stops) × ((answer ≡ Memory → ⊥) → HaveCome (stops_in (Some answer)) stops now)

abbrev pub HaltsArmed : DiskErr → (trace after : Trace) (old new : List (ℕ × ℕ)) → Type 0
HaltsArmed answer trace after old new = (first : List (ℕ × ℕ)) → armed_by_lines first trace ≡ Some old → AreArmedBut answer (armed_by_lines first after) new

-- a run ends there
abbrev pub EndsArmed : Status → (trace after : Trace) (old new : List (ℕ × ℕ)) → Type 0
EndsArmed status trace after old new = (first : List (ℕ × ℕ)) → armed_by_lines first trace ≡ Some old → Stops status (armed_by_lines first after) new
