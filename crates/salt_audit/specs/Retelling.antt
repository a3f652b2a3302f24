-- The trace that a story alone tells: no line is known but those that define, which stand in the story by their texts.
use Rattle.salt_ast.specs.declared.lines.Line.TheVariants as line
use Rattle.salt_ast.specs.declared.lines.Line.{Line}
use Rattle.law_definitions.specs.Texts.{definition_in}
use Rattle.salt_model.specs.Kept.{Definition, OfProgram, OfTable, nothing_kept}
use Rattle.salt_model.specs.Trace.{Start, Trace, Tree, from, ◌asks◌, ◌says◌}
use Rattle.salt_model.specs.declared.events.Event.TheVariants.{Defined}
use Rattle.salt_model.specs.declared.events.Event.{Event}
use Rattle.std.specs.Prelude.{List, None, Option, Some, [], false, ℕ, ◌∷◌}

-- the empty start; whether openings may be early, and commits go over messages, no judgement asks
abbrev pub nothing_before : Start
nothing_before = record { kept = nothing_kept; can_stop = false; early = false; over_net = false }

abbrev pub line_or_nothing : Option Definition → Line
line_or_nothing None = line.Nothing
line_or_nothing (Some (OfTable d)) = line.Table d
line_or_nothing (Some (OfProgram p)) = line.Program p

abbrev pub defining : Trace → ℕ → List ℕ → Option Definition → Trace
defining trace n text d = trace asks Tree (line_or_nothing d) says Defined n text

-- an event more: a definition is asked for by the line that its text spells
abbrev pub told : Trace → Event → Trace
told trace (Defined n text) = defining trace n text (definition_in text)
told trace e = trace says e

abbrev pub told_on : Trace → List Event → Trace
told_on trace [] = trace
told_on trace (e ∷ es) = told_on (told trace e) es

abbrev pub retold : List Event → Trace
retold story = told_on (from nothing_before) story
