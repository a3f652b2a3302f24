-- Whose turn it is behind an early opening, said without looking for it.
use Rattle.salt_model.specs.Continuing.{is_unfinished}
use Rattle.salt_model.specs.Programs.{named_early}
use Rattle.salt_model.specs.Trace.{Trace}
use Rattle.salt_model.specs.Units.{is_waiting, program_unit}
use Rattle.salt_values.specs.Id.{has_id, is_older}
use Rattle.salt_values.specs.declared.id.Id.{Id}
use Rattle.std.specs.Option.{option_map_or}
use Rattle.std.specs.Prelude.{Bool, IsTrue, false, not, ◌&&◌, ◌≡◌}

-- unfinished, and with no unit that waits
abbrev pub is_free : Trace → Id → Bool
is_free trace b = is_unfinished trace b && not (option_map_or (is_waiting trace) (program_unit b trace) false)

-- the least of the named programs that are free
pub record IsLeast (trace : Trace) (b : Id) : Type 0 where
  pub named : IsTrue (has_id b (named_early trace))
  pub free : IsTrue (is_free trace b)
  pub least : (c : Id) → IsTrue (has_id c (named_early trace)) → IsTrue (is_free trace c) → is_older c b ≡ false
