-- An opening goes on: what is performed behind an event is a move of its point.
use Rattle.salt_database.proofs.Draining.{can-drain}
use Rattle.salt_database.proofs.Leftover.{left-at}
use Rattle.salt_database.specs.Performing.{GoesOnOpening}
use Rattle.salt_database.specs.Standing.{ends_opening, left_in, OpensIn}
use Rattle.salt_engine.proofs.Going.{onwards, onwards-line, played-before, reads, says-keeps, says-moves, says-sound}
use Rattle.salt_engine.specs.Performing.{PerformsEvent}
use Rattle.salt_engine.specs.Standing.{AgreesWithState}
use Rattle.salt_engine.specs.Stored.{Stored}
use Rattle.salt_engine.specs.declared.flights.InFlight.{InFlight}
use Rattle.salt_engine.specs.declared.stage.Stage.{Stage}
use Rattle.salt_engine.specs.declared.stage.Stage.TheVariants as at
use Rattle.law_states.specs.Nexts.{said_next}
use Rattle.law_states.specs.OpenUnits.{UnitState}
use Rattle.law_states.specs.Points.{Moves, Point, Say}
use Rattle.law_states.specs.Readings.{WatchReading}
use Rattle.law_states.specs.States.{State}
use Rattle.salt_model.specs.Kept.{Kept}
use Rattle.salt_model.specs.Phases.{Opening}
use Rattle.salt_model.specs.Turns.{is_statement_line}
use Rattle.salt_model.specs.declared.events.Event.{Event}
use Rattle.salt_model.specs.declared.events.Event.TheVariants.{Early, Ready}
use Rattle.law_openings.proofs.Moving.{says-falls, units-stand}
use Rattle.law_openings.proofs.Opening.{said-in-opening}
use Rattle.law_openings.specs.Draining.{left_to_open}
use Rattle.salt_drain.specs.Follows.{comes_behind, rest_in}
use Rattle.salt_drain.specs.Recovering.{HasDoneEvent, StandsBehindEvent, StandsForState, StandsForUnits, behind_of}
use Rattle.salt_drain.specs.declared.recovery.Recovery.{Recovery}
use Rattle.salt_driver.specs.Standing.{IsSoundPoint}
use Rattle.salt_storage.specs.Storing.{IsSoundKept}
use Rattle.salt_values.specs.declared.id.Id.{Id}
use Rattle.std.proofs.Common.{ap, subst, sym, ◌∙◌}
use Rattle.std.specs.Option.{option_or}
use Rattle.std.specs.Prelude.{Bool, Option, Some, false, ◌<◌, ◌≡◌}

pub behind-stands : (e : Event) (x : Recovery) (s : UnitState) → ends_opening e ≡ false → StandsBehindEvent e x s → StandsForUnits x s
behind-stands Ready x s r h = cc
behind-stands (Early bs) x s r h = cc
behind-stands e x s r h = h

module _ (x : Recovery) (e : Event) (p : Point) (sound : IsSoundPoint p) (t : State) (d : HasDoneEvent x e p.state t) (comes : p.next ≡ Some e) (going : ends_opening e ≡ false) where
  abbrev pub meant : Option Event
  meant = comes_behind (behind_of x) t.units

  pub stands : StandsForState x t
  stands = behind-stands e x t.units going d.behind

  meant-is : (r : WatchReading t.watch) → said_next e p.state t r p.flight ≡ meant
  meant-is r = said-in-opening e p.state t r p.flight d.plain stands.opening ∙ ap (λ o. option_or o (rest_in t.units)) d.follows

  pub goes-on : (holds : Kept → Type 0) (is_new : Id → Type 0) → Stored holds is_new t.units → GoesOnOpening holds is_new x t
  goes-on holds is_new stored =
      let r = reads p sound e t d.plain comes d.after in
      record { played = played-before p sound e t d.plain comes d.after meant r (meant-is r); stands = stands; stored = stored }

  abbrev pub point : Point
  point = onwards p sound e t d.plain comes d.after meant

  pub moves : Moves (Say e) p point
  moves = let r = reads p sound e t d.plain comes d.after in says-moves p sound e t d.plain comes d.after meant r (meant-is r)

  pub opened-on : (holds : Kept → Type 0) (is_new : Id → Type 0) (old now : Bool) (was single : Bool) (stage : Stage Recovery) (in_flight : Option InFlight) (given : Event) →
      PerformsEvent (OpensIn holds is_new stage) in_flight meant (Some given) t → p.state.can_stop ≡ old → now ≡ old → was ≡ is_statement_line p.state.units.line → single ≡ was →
      AgreesWithState (OpensIn holds is_new stage) now single in_flight (Some given) t × (meant ≡ Some given) × (t.units.phase ≡ Opening)
  opened-on holds is_new old now was single stage in_flight given h can same line kept = (
    record {
      seen = h.sees;
      can_stop = d.after.can_stop ∙ can ∙ sym same;
      line = kept ∙ line ∙ ap is_statement_line (sym (onwards-line p sound e t d.plain comes d.after));
      flies = h.flies;
    },
    sym h.told,
    stands.opening,
  )

  falls : IsSoundKept t.units.kept → left_to_open t.units meant < left_to_open p.state.units p.next
  falls kept =
      says-falls e p point moves.0 d.plain stands.opening
      (units-stand t.units sound.trace e (says-keeps p sound e t d.plain comes d.after).units (says-sound p sound e t d.plain comes d.after) stands.opening)
      (can-drain t.units.kept kept)

  -- what is left of the opening is less
  pub leaves-less : (y : Recovery) (given : Event) → IsSoundKept t.units.kept → Some given ≡ meant → ((u : State) × HasDoneEvent y given t u) →
      left_in (at.Going y) (Some given) < left_in (at.Going x) (Some e)
  leaves-less y given kept told u =
      subst (λ n. n < left_in (at.Going x) (Some e)) (sym (left-at y given t u.0 u.1))
      (subst (λ n. left_to_open t.units (Some given) < n) (sym (left-at x e p.state t d))
      (subst (λ (o : Option Event). left_to_open t.units o < left_to_open p.state.units (Some e)) (sym told)
      (subst (λ (o : Option Event). left_to_open t.units meant < left_to_open p.state.units o) comes (falls kept))))
