-- The best value of a column.
use Rattle.salt_values.specs.Value.{is_null, is_value_below}
use Rattle.salt_values.specs.declared.value.Value.{Value}
use Rattle.std.specs.Prelude.{Bool, None, Option, Some, if◌then◌else◌}

-- whether a value comes in the place of the best one so far
abbrev pub is_better : (is_greatest : Bool) → Value → Value → Bool
is_better is_greatest v best = if is_greatest then is_value_below best v else is_value_below v best

abbrev pub better_of : (is_greatest : Bool) → Option Value → Value → Option Value
better_of is_greatest None v = Some v
better_of is_greatest (Some best) v = Some (if is_better is_greatest v best then v else best)

-- the best value so far and one more, which counts for nothing where it is NULL
abbrev pub best_with : (is_greatest : Bool) → Option Value → Value → Option Value
best_with is_greatest best v = if is_null v then best else better_of is_greatest best v
