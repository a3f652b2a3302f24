-- Values as rows write them.
use Rattle.salt_values.specs.declared.value.Value.TheVariants.{Int, Text}
use Rattle.salt_values.specs.declared.value.Value.{Value}
use Rattle.salt_ranges.specs.declared.range.KeyRange.{KeyRange}
use Rattle.std.specs.Prelude.{List, None, Some, negsuc, pos, ℕ, ◌-◌, ◌^◌}

abbrev pub at : ℕ → Value
at n = Int (pos n)

-- a number by its distance from 0, which is some
abbrev pub below_0 : ℕ → Value
below_0 n = Int (negsuc (n - 1))

abbrev pub least : Value
least = below_0 (2 ^ 63)

abbrev pub greatest : Value
greatest = at (2 ^ 63 - 1)

abbrev pub word : List ℕ → Value
word bytes = Text bytes

abbrev pub from_to : Value → Value → KeyRange
from_to lo hi = record { lo = Some lo; hi = Some hi }

abbrev pub from : Value → KeyRange
from lo = record { lo = Some lo; hi = None }

abbrev pub up_to : Value → KeyRange
up_to hi = record { lo = None; hi = Some hi }

abbrev pub all : KeyRange
all = record { lo = None; hi = None }
