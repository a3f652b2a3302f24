-- A line that is asked, and a turn of `go all`, as moves of a point.
use Rattle.salt_ast.specs.declared.lines.Line.{Line}
use Rattle.salt_engine.specs.Performing.{IsPlayedBefore, PerformsEvent}
use Rattle.salt_engine.specs.Standing.{AgreesWithState, StandsAtEventIn}
use Rattle.salt_engine.specs.declared.flights.InFlight.{InFlight}
use Rattle.salt_engine.specs.declared.stage.Stage.{Stage}
use Rattle.law_states.proofs.PointsGoOn.{asked-kept, idle-complete, turn-kept, turned-kept}
use Rattle.law_states.proofs.StatesGoOn.{states-ask, states-turn}
use Rattle.law_states.specs.Laws.{IsSound}
use Rattle.law_states.specs.Nexts.{asked_next, next_turn_of, turned_next}
use Rattle.law_states.specs.Points.{Ask, IsIdle, Moves, Point, Turn}
use Rattle.law_states.specs.Readings.{WatchReading}
use Rattle.law_states.specs.States.{Keeps, asked_of, turned_to}
use Rattle.salt_model.specs.Next.{decision_in}
use Rattle.salt_model.specs.Kept.{Kept}
use Rattle.salt_model.specs.Phases.{Serving}
use Rattle.salt_model.specs.Trace.{Asked, lines_asked, line_asked, ◌asks◌, ◌turns◌}
use Rattle.salt_model.specs.Turns.{is_statement_line}
use Rattle.salt_model.specs.Words.{Every}
use Rattle.salt_model.specs.declared.events.Event.{Event}
use Rattle.salt_scheduler.specs.Standing.{ServesLine}
use Rattle.salt_driver.specs.Standing.{IsSoundPoint}
use Rattle.law_types.specs.Played.{HasKey}
use Rattle.salt_values.specs.declared.id.Id.{Id}
use Rattle.salt_conflicts.proofs.Readable.{readable}
use Rattle.std.proofs.Common.{sym, ◌∙◌}
use Rattle.std.specs.Prelude.{Bool, List, None, Option, Some, [], refl, ◌++◌, ◌∷◌, ◌≡◌}
use Rattle.salt_scheduler.specs.declared.scheduler.Scheduler.{Scheduler}

every-more : {A : Type 0} (P : A → Type 0) (xs : List A) (x : A) → Every P xs → P x → Every P (xs ++ x ∷ [])
every-more P [] x h k = (k, tt)
every-more P (y ∷ xs) x h k = (h.0, every-more P xs x h.1 k)

-- A LINE

module _ (asked : Asked) (p : Point) (sound : IsSoundPoint p) (idle : IsIdle p) where
  asks-sound : IsSound (sound.trace asks asked)
  asks-sound = record { played = (sound.sound.played, idle-complete p sound.trace sound.keeps idle); well = sound.sound.well }

  asks-keeps : Keeps (asked_of asked p.state) (sound.trace asks asked)
  asks-keeps = states-ask p.state sound.trace asked sound.keeps.state sound.sound.played sound.sound.well

  pub reads-line : WatchReading p.state.watch
  reads-line = readable p.state.watch sound.trace sound.keeps.state.watch sound.sound

  pub asked-played : HasKey asked → (r : WatchReading p.state.watch) → IsPlayedBefore (asked_next p.state r asked) (asked_of asked p.state)
  asked-played key r = record {
    trace = sound.trace asks asked;
    keeps = asks-keeps;
    sound = asks-sound;
    typed = sound.typed;
    keyed = every-more HasKey (lines_asked sound.trace) asked sound.keyed key;
    next = asked-kept p.state sound.trace asked r sound.keeps.state asks-sound.played sound.sound.well;
    late = refl;
  }

  pub asked-serves : ServesLine (line_asked asked) (asked_of asked p.state)
  asked-serves = record { sound = record { trace = sound.trace asks asked; keeps = asks-keeps; sound = asks-sound }; phase = idle.serves; line = refl }

  -- where it comes by it
  abbrev pub asked_to : WatchReading p.state.watch → Point
  asked_to r = record { state = asked_of asked p.state; next = asked_next p.state r asked; flight = decision_in (asked_next p.state r asked) }

  pub asked-moves : (r : WatchReading p.state.watch) → Moves (Ask asked) p (asked_to r)
  asked-moves r = record { idle = idle; state = refl; read = r; next = refl; flight = refl }

  pub asked-at : (holds : Kept → Type 0) (is_new : Id → Type 0) (old now single : Bool) (stage : Stage Scheduler) (in_flight : Option InFlight) (given : Option Event) (r : WatchReading p.state.watch) →
      PerformsEvent (StandsAtEventIn holds is_new stage) in_flight (asked_next p.state r asked) given (asked_of asked p.state) → p.state.can_stop ≡ old → now ≡ old →
      single ≡ is_statement_line (line_asked asked) → AgreesWithState (StandsAtEventIn holds is_new stage) now single in_flight given (asked_of asked p.state)
  asked-at holds is_new old now single stage in_flight given r h can same line = record {
    seen = h.sees;
    can_stop = can ∙ sym same;
    line = line;
    flies = h.flies;
  }

-- A TURN

module _ (b : Id) (p : Point) (sound : IsSoundPoint p) (serves : p.state.units.phase ≡ Serving) (none : p.next ≡ None) (turn : next_turn_of p.state ≡ Some b) where
  turns-sound : IsSound (sound.trace turns b)
  turns-sound = record {
    played = (sound.sound.played, sound.keeps.state.units.phase ∙ serves, sound.keeps.next ∙ none, turn-kept p.state sound.trace sound.keeps.state ∙ turn);
    well = sound.sound.well;
  }

  turns-keeps : Keeps (turned_to b p.state) (sound.trace turns b)
  turns-keeps = states-turn p.state sound.trace b sound.keeps.state sound.sound.played sound.sound.well

  pub turned-played : (r : WatchReading p.state.watch) → IsPlayedBefore (turned_next p.state r b) (turned_to b p.state)
  turned-played r = record {
    trace = sound.trace turns b;
    keeps = turns-keeps;
    sound = turns-sound;
    typed = sound.typed;
    keyed = sound.keyed;
    next = turned-kept p.state sound.trace b r sound.keeps.state turns-sound.played sound.sound.well;
    late = refl;
  }

  pub turned-serves : (line : Line) → p.state.units.line ≡ line → ServesLine line (turned_to b p.state)
  turned-serves line served = record { sound = record { trace = sound.trace turns b; keeps = turns-keeps; sound = turns-sound }; phase = serves; line = served }

  abbrev pub turned_at : WatchReading p.state.watch → Point
  turned_at r = record { state = turned_to b p.state; next = turned_next p.state r b; flight = decision_in (turned_next p.state r b) }

  pub turned-moves : (r : WatchReading p.state.watch) → Moves (Turn b) p (turned_at r)
  turned-moves r = record { serves = serves; none = none; turn = turn; state = refl; read = r; next = refl; flight = refl }
