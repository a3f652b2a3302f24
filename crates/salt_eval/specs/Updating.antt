-- What an UPDATE makes of one more row.
use Rattle.salt_eval.specs.declared.changed.Updates.{Updates}
use Rattle.salt_model.specs.Reaches.{in_row}
use Rattle.salt_model.specs.Statements.{change_to, checked, with_sets}
use Rattle.salt_model.specs.Tables.{place}
use Rattle.salt_model.specs.Words.{and_then}
use Rattle.salt_model.specs.declared.events.Cause.{Cause}
use Rattle.salt_values.specs.declared.change.Change.{Change}
use Rattle.salt_values.specs.declared.value.Value.{Value}
use Rattle.std.specs.Prelude.{List, Ok, Result, Some, [], ◌++◌, ◌∷◌}
use Rattle.salt_values.specs.Value.{key_of}

abbrev pub with_change : Updates → Change → Updates
with_change s change = record { table = s.table; def = s.def; vars = s.vars; sets = s.sets; changes = s.changes ++ change ∷ [] }

-- the new row stands at the place of the old one
abbrev pub with_update : Updates → List Value → Result Updates Cause
with_update s row =
    and_then (with_sets s.def.now (in_row s.def.now row s.vars.now) s.sets.now row) (λ new.
    and_then (checked (in_row s.def.now new []) s.def.now.checks) (λ b. Ok (with_change s (change_to (place s.table (key_of row)) (Some new)))))
