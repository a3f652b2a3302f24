-- Where the places of a table begin.
use Rattle.salt_model.specs.Tables.{place}
use Rattle.salt_model.specs.declared.places.Place.{Place}
use Rattle.salt_values.specs.declared.value.Value.TheVariants.{Null}
use Rattle.salt_values.specs.declared.value.Value.{Value}
use Rattle.std.specs.Prelude.{None, Option, Some, if◌then◌else◌, ℕ, ◌-◌, ◌==◌}
use Rattle.std.specs.declared.ops.Bound.TheVariants.{Excluded, Included, Unbounded}
use Rattle.std.specs.declared.ops.Bound.{Bound}

-- behind the places of the tables before this one; NULL is above all other keys
abbrev pub before_table : ℕ → Bound Place
before_table t = if t == 0 then Unbounded else Excluded (place (t - 1) Null)

-- from the lower end of a range on
abbrev pub first_place : ℕ → Option Value → Bound Place
first_place t None = before_table t
first_place t (Some lo) = Included (place t lo)
