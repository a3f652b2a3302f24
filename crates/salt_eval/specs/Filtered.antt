-- Rows that a filter keeps.
use Rattle.salt_exprs.specs.Resolving.{resolved_passes}
use Rattle.salt_exprs.specs.declared.resolved.Resolved.{Resolved}
use Rattle.salt_model.specs.Words.{and_then}
use Rattle.salt_model.specs.declared.events.Cause.{Cause}
use Rattle.salt_values.specs.declared.value.Value.{Value}
use Rattle.std.specs.Prelude.{Bool, List, Ok, Option, Result, if◌then◌else◌}

-- whether a filter keeps a row, or its cause
abbrev pub kept_by : Option Resolved → List Value → Result Bool Cause
kept_by filter row = resolved_passes row filter

-- a row that passes is taken, and one that does not is passed over
abbrev pub filtered : {S : Type 0} → (List Value → Result Bool Cause) → (S → List Value → Result S Cause) → S → List Value → Result S Cause
filtered passes take s row = and_then (passes row) (λ b. if b then take s row else Ok s)
