-- Where the places of a range of keys end; NULL is above all other keys.
use Rattle.salt_model.specs.Tables.{place}
use Rattle.salt_model.specs.declared.places.Place.{Place}
use Rattle.salt_values.specs.declared.value.Value.TheVariants.{Null}
use Rattle.salt_values.specs.declared.value.Value.{Value}
use Rattle.std.specs.Prelude.{None, Option, Some, ℕ}
use Rattle.std.specs.declared.ops.Bound.TheVariants.{Included}
use Rattle.std.specs.declared.ops.Bound.{Bound}

abbrev pub last_place : ℕ → Option Value → Bound Place
last_place t None = Included (place t Null)
last_place t (Some hi) = Included (place t hi)
