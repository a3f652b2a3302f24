-- A trace goes on by moves within a segment, and so do the stops that it has armed.
use Rattle.law_states.specs.Points.{Ask, Say, TraceStep, Turn, told_by, trace_on}
use Rattle.salt_ast.specs.declared.lines.Line.{Line}
use Rattle.salt_driver.specs.Along.{ArmsAlong, StaysInSegment, armed_along}
use Rattle.salt_driver.specs.Standing.{IsInside}
use Rattle.salt_model.specs.Arming.{armed_by, armed_by_lines}
use Rattle.salt_model.specs.Trace.{Trace, line_of, ◌says◌, ◌turns◌}
use Rattle.salt_model.specs.Words.{Every}
use Rattle.salt_model.specs.declared.events.Event.{Event}
use Rattle.std.proofs.Common.{ap, sym, ◌∙◌}
use Rattle.std.specs.Prelude.{List, Option, [], option_and_then, refl, ℕ, ◌++◌, ◌∷◌, ◌≡◌}

pub along-both : (line : Line) (es fs : List Event) (stops : Option (List (ℕ × ℕ))) → armed_along line (es ++ fs) stops ≡ armed_along line fs (armed_along line es stops)
along-both line [] fs stops = refl
along-both line (e ∷ es) fs stops = along-both line es fs (option_and_then (armed_by line e) stops)

line-on : (ms : List TraceStep) (trace : Trace) → Every IsInside ms → line_of (trace_on trace ms) ≡ line_of trace
line-on [] trace h = refl
line-on (Ask asked ∷ ms) trace h = absurd h.0
line-on (Turn b ∷ ms) trace h = line-on ms (trace turns b) h.1
line-on (Say e ∷ ms) trace h = line-on ms (trace says e) h.1

pub arms-on : (ms : List TraceStep) (trace : Trace) → Every IsInside ms → ArmsAlong (line_of trace) trace (trace_on trace ms) (told_by ms)
arms-on [] trace h first = refl
arms-on (Ask asked ∷ ms) trace h first = absurd h.0
arms-on (Turn b ∷ ms) trace h first = arms-on ms (trace turns b) h.1 first
arms-on (Say e ∷ ms) trace h first = arms-on ms (trace says e) h.1 first

pub stays-along : (trace : Trace) → StaysInSegment trace trace []
stays-along trace = record { line = refl; armed = λ first. refl }

pub says-along : (trace : Trace) (e : Event) → StaysInSegment trace (trace says e) (e ∷ [])
says-along trace e = record { line = refl; armed = λ first. refl }

pub goes-along : (ms : List TraceStep) (trace : Trace) → Every IsInside ms → StaysInSegment trace (trace_on trace ms) (told_by ms)
goes-along ms trace h = record { line = line-on ms trace h; armed = arms-on ms trace h }

pub along-behind : (trace mid after : Trace) (es fs : List Event) → StaysInSegment trace mid es → StaysInSegment mid after fs → StaysInSegment trace after (es ++ fs)
along-behind trace mid after es fs g h = record {
  line = h.line ∙ g.line;
  armed = λ first.
      h.armed first ∙ ap (λ l. armed_along l fs (armed_by_lines first mid)) g.line ∙ ap (armed_along (line_of trace) fs) (g.armed first)
      ∙ sym (along-both (line_of trace) es fs (armed_by_lines first trace));
}
