-- A run leaves as many devices as there were, whatever its words say.
use Rattle.salt_promise.specs.Given.{Run}
use Rattle.salt_promise.specs.Runs.{Runs, runs_as, says_nothing}
use Rattle.std.specs.Prelude.{Bool, false, refl, true, ◌≡◌}

pub run_count : (r : Run) → Runs r → r.after.devices.count ≡ r.before.devices.count
run_count r (says_nothing is usage) = usage.devices.shape.count
run_count r (runs_as is runs) = runs.shape.count

-- in either case of a choice
pub either_way : {P : Type 0} (b : Bool) → (b ≡ false → P) → (b ≡ true → P) → P
either_way false first second = first refl
either_way true first second = second refl
