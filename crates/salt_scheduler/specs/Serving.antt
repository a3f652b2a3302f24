-- The events that an engine tells while it serves, and the lines that it prepares.
use Rattle.salt_ast.specs.declared.lines.Line.TheVariants.{Crash, Net, Program, Table}
use Rattle.salt_ast.specs.declared.lines.Line.{Line}
use Rattle.salt_model.specs.declared.events.Event.{Event}
use Rattle.salt_model.specs.declared.events.Event.TheVariants.{Down, Early, Opened, Ready}
use Rattle.std.specs.Prelude.{Bool, false, true}

abbrev pub is_served : Event → Bool
is_served (Down why) = false
is_served (Opened boot n) = false
is_served Ready = false
is_served (Early bs) = false
is_served e = true

-- lines that have to be prepared: definitions, stops that are armed, and pairs of messages
abbrev pub is_prepared_line : Line → Bool
is_prepared_line (Table d) = true
is_prepared_line (Program p) = true
is_prepared_line (Crash pairs) = true
is_prepared_line (Net pairs) = true
is_prepared_line line = false
