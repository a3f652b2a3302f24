-- What stops a trace has armed behind another, by the events that were told of a line's segment.
use Rattle.salt_ast.specs.declared.lines.Line.{Line}
use Rattle.salt_model.specs.Arming.{armed_by, armed_by_lines}
use Rattle.salt_model.specs.Trace.{Trace, line_of}
use Rattle.salt_model.specs.declared.events.Event.{Event}
use Rattle.std.specs.Prelude.{List, Option, [], option_and_then, ℕ, ◌∷◌, ◌≡◌}

abbrev pub armed_along : Line → List Event → Option (List (ℕ × ℕ)) → Option (List (ℕ × ℕ))
armed_along line [] stops = stops
armed_along line (e ∷ es) stops = armed_along line es (option_and_then (armed_by line e) stops)

-- whatever was armed before
abbrev pub ArmsAlong : Line → (trace after : Trace) → List Event → Type 0
ArmsAlong line trace after more = (first : List (ℕ × ℕ)) → armed_by_lines first after ≡ armed_along line more (armed_by_lines first trace)

-- a trace goes on in the segment in which another ends, by these events
pub record StaysInSegment (trace after : Trace) (more : List Event) : Type 0 where
  pub line : line_of after ≡ line_of trace
  pub armed : ArmsAlong (line_of trace) trace after more
