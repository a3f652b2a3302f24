-- The stops that are armed. They come in the order in which they were armed: behind those of before stand the ones that an event arms, and of a
-- stop the first has come, if there was one.
use Rattle.salt_ast.specs.declared.lines.Line.TheVariants.{Net, Nothing}
use Rattle.salt_ast.specs.declared.lines.Line.{Line}
use Rattle.salt_model.specs.Trace.{Trace, line_of, over_events}
use Rattle.salt_model.specs.declared.events.Event.TheVariants.{Armed, Down}
use Rattle.salt_model.specs.declared.events.Event.{Event}
use Rattle.salt_model.specs.declared.events.Why.TheVariants.{Stopped}
use Rattle.std.specs.Prelude.{List, None, Option, Some, [], option_and_then, ℕ, ◌++◌, ◌∷◌}

abbrev pub behind_first : List (ℕ × ℕ) → Option (List (ℕ × ℕ))
behind_first [] = None
behind_first (first ∷ stops) = Some stops

-- what `net` arms befalls messages, and stops no disk
abbrev pub stops_asked : Line → List (ℕ × ℕ) → List (ℕ × ℕ)
stops_asked (Net pairs) armed = []
stops_asked line armed = armed

-- behind an event in a line's segment; none where a stop comes that was not armed
abbrev pub armed_by : Line → Event → List (ℕ × ℕ) → Option (List (ℕ × ℕ))
armed_by line (Armed pairs) stops = Some (stops ++ stops_asked line pairs)
armed_by line (Down Stopped) stops = behind_first stops
armed_by line e stops = Some stops

-- behind a story, which does not tell the lines: all that it says to be armed are stops
abbrev pub armed_behind : List Event → Option (List (ℕ × ℕ)) → Option (List (ℕ × ℕ))
armed_behind story None = None
armed_behind [] (Some stops) = Some stops
armed_behind (e ∷ es) (Some stops) = armed_behind es (armed_by Nothing e stops)

-- behind a trace, where these were armed before it
abbrev pub armed_by_lines : List (ℕ × ℕ) → Trace → Option (List (ℕ × ℕ))
armed_by_lines first = over_events (λ k. Some first) (λ trace e stops. option_and_then (armed_by (line_of trace) e) stops)
