-- How a point goes on by an event that is said.
use Rattle.salt_engine.specs.Performing.{IsPlayedBefore}
use Rattle.law_states.proofs.NextTold.{may-stand}
use Rattle.law_states.proofs.PointsGoOn.{said-kept}
use Rattle.law_states.proofs.StatesGoOn.{states-say}
use Rattle.law_states.specs.Laws.{IsSound, is_of_run}
use Rattle.law_states.specs.Nexts.{flight_next, said_next}
use Rattle.law_states.specs.OpenUnits.{UnitState}
use Rattle.law_states.specs.Points.{Moves, Point, Say}
use Rattle.law_states.specs.Readings.{WatchReading}
use Rattle.law_states.specs.States.{After, Keeps, State}
use Rattle.law_states.specs.Steps.{units_after}
use Rattle.salt_model.specs.Next.{decision_in, next}
use Rattle.salt_model.specs.Played.{IsPlayed}
use Rattle.salt_model.specs.Trace.{◌says◌}
use Rattle.salt_model.specs.declared.events.Event.TheVariants.{Down, Opened}
use Rattle.salt_model.specs.declared.events.Event.{Event}
use Rattle.law_openings.proofs.Opening.{said-last}
use Rattle.salt_driver.specs.Standing.{IsSoundPoint}
use Rattle.salt_conflicts.proofs.Readable.{readable}
use Rattle.std.proofs.Common.{ap, sym, ◌∙◌}
use Rattle.std.specs.Prelude.{Option, Some, false, refl, ◌≡◌}

pub line-stays : (e : Event) (s : UnitState) → is_of_run e ≡ false → (units_after e s).line ≡ s.line
line-stays (Down why) s h = refl
line-stays (Opened boot n) s h = refl
line-stays e s h = refl

pub flight-decides : (e : Event) (f next : Option Event) → is_of_run e ≡ false → flight_next e f next ≡ decision_in next
flight-decides (Down why) f next h = cc
flight-decides e f next h = refl

module _ (p : Point) (sound : IsSoundPoint p) (e : Event) (t : State) (plain : is_of_run e ≡ false) (comes : p.next ≡ Some e) (after : After e p.state t) where
  says-played : IsPlayed (sound.trace says e)
  says-played = (sound.sound.played, may-stand sound.trace e plain (sound.keeps.next ∙ comes))

  pub says-sound : IsSound (sound.trace says e)
  says-sound = record { played = says-played; well = sound.sound.well }

  pub says-keeps : Keeps t (sound.trace says e)
  says-keeps = states-say p.state t sound.trace e sound.keeps.state says-played sound.sound.well after

  pub reads : WatchReading t.watch
  reads = readable t.watch (sound.trace says e) says-keeps.watch says-sound

  pub says-next : (r : WatchReading t.watch) → next (sound.trace says e) ≡ said_next e p.state t r p.flight
  says-next r =
      said-kept p.state t sound.trace e r sound.keeps.state says-played sound.sound.well after
      ∙ ap (λ (f : Option Event). said_next e p.state t r f) sound.keeps.flight

  pub played-before : (meant : Option Event) (r : WatchReading t.watch) → said_next e p.state t r p.flight ≡ meant → IsPlayedBefore meant t
  played-before meant r is = record {
    trace = sound.trace says e;
    keeps = says-keeps;
    sound = says-sound;
    typed = sound.typed;
    keyed = sound.keyed;
    next = says-next r ∙ is;
    late = said-last sound.trace e plain;
  }

  -- where it comes by this event
  abbrev pub onwards : Option Event → Point
  onwards meant = record { state = t; next = meant; flight = flight_next e p.flight meant }

  pub says-moves : (meant : Option Event) (r : WatchReading t.watch) → said_next e p.state t r p.flight ≡ meant → Moves (Say e) p (onwards meant)
  says-moves meant r is = (record { comes = comes; after = after; read = r; next = sym is; flight = refl }, plain)

  pub onwards-line : t.units.line ≡ p.state.units.line
  onwards-line = ap (λ (s : UnitState). s.line) after.units ∙ line-stays e p.state.units plain
