-- A line goes on: what is performed behind an event is a move of its point.
use Rattle.salt_ast.specs.declared.lines.Line.{Line}
use Rattle.salt_engine.proofs.Going.{onwards, onwards-line, played-before, reads, says-keeps, says-moves, says-sound}
use Rattle.salt_engine.specs.Performing.{GoesOnServing, PerformsEvent}
use Rattle.salt_engine.specs.Standing.{AgreesWithState, StandsAtEventIn}
use Rattle.salt_engine.specs.Stored.{Stored}
use Rattle.salt_engine.specs.declared.flights.InFlight.{InFlight}
use Rattle.salt_engine.specs.declared.stage.Stage.{Stage}
use Rattle.law_states.specs.Laws.{is_of_run}
use Rattle.law_states.specs.Nexts.{said_next}
use Rattle.law_states.specs.OpenUnits.{UnitState}
use Rattle.law_states.specs.Points.{Moves, Point, Say}
use Rattle.law_states.specs.Readings.{WatchReading}
use Rattle.law_states.specs.States.{State}
use Rattle.law_states.specs.Steps.{units_after}
use Rattle.salt_model.specs.Kept.{Kept}
use Rattle.salt_model.specs.Phases.{Serving}
use Rattle.salt_model.specs.Trace.{◌says◌}
use Rattle.salt_model.specs.Turns.{is_statement_line}
use Rattle.salt_model.specs.declared.events.Event.TheVariants.{Down, Early, Opened, Ready}
use Rattle.salt_model.specs.declared.events.Event.{Event}
use Rattle.salt_scheduler.proofs.Following.{goes-on, not-of-run}
use Rattle.salt_scheduler.specs.Serving.{is_served}
use Rattle.salt_scheduler.specs.Standing.{HasDoneEvent, ServesLine, behind_in, follow_of}
use Rattle.salt_scheduler.specs.declared.scheduler.Scheduler.{Scheduler}
use Rattle.salt_driver.specs.Standing.{IsSoundPoint}
use Rattle.salt_values.specs.declared.id.Id.{Id}
use Rattle.std.proofs.Common.{ap, sym, ◌∙◌}
use Rattle.std.specs.Prelude.{Bool, Option, Some, false, true, ◌≡◌}

phase-stays : (e : Event) (s : UnitState) → is_served e ≡ true → s.phase ≡ Serving → (units_after e s).phase ≡ Serving
phase-stays (Down why) s h p = cc
phase-stays (Opened boot n) s h p = cc
phase-stays Ready s h p = cc
phase-stays (Early bs) s h p = cc
phase-stays e s h p = p

module _ (line : Line) (x : Scheduler) (e : Event) (p : Point) (sound : IsSoundPoint p) (t : State) (d : HasDoneEvent x e p.state t) (comes : p.next ≡ Some e)
    (phase : p.state.units.phase ≡ Serving) (served : p.state.units.line ≡ line) where
  pub plain : is_of_run e ≡ false
  plain = not-of-run e d.served

  pub serves : ServesLine line t
  serves = record {
    sound = record { trace = sound.trace says e; keeps = says-keeps p sound e t plain comes d.after; sound = says-sound p sound e t plain comes d.after };
    phase = ap (λ (s : UnitState). s.phase) d.after.units ∙ phase-stays e p.state.units d.served phase;
    line = onwards-line p sound e t plain comes d.after ∙ served;
  }

  abbrev pub meant : WatchReading t.watch → Option Event
  meant r = behind_in t r (follow_of x)

  meant-is : (r : WatchReading t.watch) → said_next e p.state t r p.flight ≡ meant r
  meant-is r = goes-on e (follow_of x) p.state t r p.flight d.served serves.phase d.follows

  pub goes : (holds : Kept → Type 0) (is_new : Id → Type 0) → Stored holds is_new t.units → GoesOnServing holds is_new line x t
  goes holds is_new stored = record {
    played = λ r. played-before p sound e t plain comes d.after (meant r) r (meant-is r);
    serves = serves;
    stands = d.behind;
    stored = stored;
  }

  pub read : WatchReading t.watch
  read = reads p sound e t plain comes d.after

  abbrev pub point : Point
  point = onwards p sound e t plain comes d.after (meant read)

  pub moves : Moves (Say e) p point
  moves = says-moves p sound e t plain comes d.after (meant read) read (meant-is read)

  -- where it stands behind it
  pub serves-on : (holds : Kept → Type 0) (is_new : Id → Type 0) (old now : Bool) (was single : Bool) (stage : Stage Scheduler) (in_flight : Option InFlight) (given : Option Event) →
      PerformsEvent (StandsAtEventIn holds is_new stage) in_flight (meant read) given t → p.state.can_stop ≡ old → now ≡ old → was ≡ is_statement_line p.state.units.line → single ≡ was →
      AgreesWithState (StandsAtEventIn holds is_new stage) now single in_flight given t
  serves-on holds is_new old now was single stage in_flight given h can same line kept = record {
    seen = h.sees;
    can_stop = d.after.can_stop ∙ can ∙ sym same;
    line = kept ∙ line ∙ ap is_statement_line (sym (onwards-line p sound e t plain comes d.after));
    flies = h.flies;
  }
