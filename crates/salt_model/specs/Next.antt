-- The next event of the segment in which the trace ends. None: the segment is complete, or `go all` turns to its next program,
-- or the run is down and is to be opened.
use Rattle.salt_model.specs.Openings.{after_opened, cuts_or_drains, follow_opening, to_cut}
use Rattle.salt_model.specs.Phases.{Fallen, Opening, Phase, Serving, phase}
use Rattle.salt_model.specs.Refusals.{refusal}
use Rattle.salt_model.specs.Trace.{Trace, from, line_asked, ◌asks◌, ◌says◌, ◌turns◌}
use Rattle.salt_model.specs.Turns.{follow, go, line_event, settle}
use Rattle.salt_model.specs.declared.events.End.TheVariants.{Branched, Committed}
use Rattle.salt_model.specs.declared.events.Event.{Event}
use Rattle.salt_model.specs.declared.events.Event.TheVariants.{Defined, Down, Early, Ended, Opened, Ready, Refused}
use Rattle.std.specs.Bool.{then_some}
use Rattle.std.specs.Option.{option_or}
use Rattle.std.specs.Prelude.{Bool, None, Option, Some, is_some, option_map, ℕ, option_and_then}

-- while serving
abbrev pub serving_event : Trace → Event → Option Event
serving_event trace Ready = None
serving_event trace (Early bs) = None
serving_event trace e = option_or (follow trace e) (settle trace)

abbrev pub said_event : Phase → Trace → Event → Option Event
said_event Serving trace e = serving_event trace e
said_event Opening trace e = option_or (follow_opening trace e) (cuts_or_drains trace (to_cut trace))
said_event Fallen trace e = None

-- the number of a decision: of a definition, of a committed unit, of a branch
abbrev pub number_in : Event → Option ℕ
number_in (Defined n text) = Some n
number_in (Ended u (Committed n)) = Some n
number_in (Ended u (Branched n c)) = Some n
number_in e = None

abbrev pub is_decision : Event → Bool
is_decision e = is_some (number_in e)

abbrev pub decision_in : Option Event → Option Event
decision_in o = option_and_then (λ e. then_some (is_decision e) e) o

-- what comes next, and what is in flight: the decision that comes next, kept while the run is down
pub record Ahead : Type 0 where
  pub event : Option Event
  pub flight : Option Event

abbrev pub with_flight : Option Event → Ahead
with_flight e = record { event = e; flight = decision_in e }

abbrev pub ahead : Trace → Ahead
ahead (from k) = record { event = None; flight = None }
ahead (trace asks asked) = with_flight (option_or (option_map Refused (refusal trace asked)) (line_event (trace asks asked) (line_asked asked)))
ahead (trace turns b) = with_flight (go (trace turns b) b)
ahead (trace says Down why) = record { event = None; flight = (ahead trace).flight }
ahead (trace says Opened boot n) = with_flight (after_opened (trace says Opened boot n) n (ahead trace).flight)
ahead (trace says e) = with_flight (said_event (phase (trace says e)) (trace says e) e)

abbrev pub next : Trace → Option Event
next trace = (ahead trace).event

abbrev pub flight : Trace → Option Event
flight trace = (ahead trace).flight
