-- Which units have a name in a trace.
use Rattle.salt_model.specs.Trace.{Trace, from, ◌asks◌, ◌says◌, ◌turns◌}
use Rattle.salt_model.specs.declared.events.Event.TheVariants.{Began, Did, Ended, Waits}
use Rattle.salt_model.specs.declared.events.Event.{Event}
use Rattle.salt_values.specs.Id.{is_same_id}
use Rattle.salt_values.specs.declared.id.Id.{Id}
use Rattle.std.specs.Prelude.{Bool, false, ℕ, ◌||◌}

-- whether an event is one of the unit's
abbrev pub is_unit_of : Id → Event → Bool
is_unit_of u (Began v kind) = is_same_id u v
is_unit_of u (Did v st answer) = is_same_id u v
is_unit_of u (Waits v owners) = is_same_id u v
is_unit_of u (Ended v end) = is_same_id u v
is_unit_of u e = false

abbrev pub is_named : Id → Trace → Bool
is_named u (from k) = false
is_named u (trace asks asked) = is_named u trace
is_named u (trace turns b) = is_named u trace
is_named u (trace says e) = is_unit_of u e || is_named u trace

abbrev pub unit_numbered : ℕ → ℕ → Id
unit_numbered boot n = record { boot = boot; seq = n }
