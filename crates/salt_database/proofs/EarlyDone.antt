-- An opening ends by its Early: the programs that it names are watched behind it, and nothing is open.
use Rattle.salt_database.proofs.Ends.{EndsAt}
use Rattle.salt_engine.proofs.Going.{onwards, reads, says-keeps, says-moves, says-sound}
use Rattle.salt_engine.specs.Resuming.{GoesOnBehindEarly, GoesOnEarly, IsEarlyOver}
use Rattle.law_openings.proofs.Opening.{early-idle, none-to-go}
use Rattle.law_states.proofs.EarlyKept.{early-keeps}
use Rattle.law_states.specs.Follows.{said_in, unit_of}
use Rattle.law_states.specs.KeptCover.{KeepsCover}
use Rattle.law_states.specs.Laws.{IsSound}
use Rattle.law_states.specs.Nexts.{said_next}
use Rattle.law_states.specs.OpenUnits.{OpenUnit, UnitState, names_in}
use Rattle.law_states.specs.Points.{Moves, Point, Say}
use Rattle.law_states.specs.Readings.{WatchReading, beside_by}
use Rattle.law_states.specs.States.{After, Keeps, State}
use Rattle.law_states.specs.UnitFacts.{covered_by, facts_in}
use Rattle.law_story.proofs.CalledNames.{names-kept}
use Rattle.law_story.proofs.WellKept.{of-start}
use Rattle.salt_drain.specs.Recovering.{HasDoneEvent, books_of}
use Rattle.salt_drain.specs.declared.recovery.Recovery.{Recovery}
use Rattle.salt_driver.specs.Standing.{IsSoundPoint}
use Rattle.salt_model.specs.Kept.{Kept}
use Rattle.salt_model.specs.Phases.{Opening, Phase}
use Rattle.salt_model.specs.Shown.{name_of_base}
use Rattle.salt_model.specs.Trace.{Trace, start_of, ◌says◌}
use Rattle.salt_model.specs.Words.{Every}
use Rattle.salt_model.specs.declared.events.Event.TheVariants.{Early}
use Rattle.salt_values.specs.Id.{in_order}
use Rattle.salt_values.specs.declared.cont.Cont.{Cont}
use Rattle.salt_values.specs.declared.id.Id.{Id}
use Rattle.std.proofs.Common.{ap, inr, subst, sym, ◌∙◌}
use Rattle.std.specs.Prelude.{List, None, Some, [], map, refl, ◌∷◌, ◌≡◌}

no-names : (os : List OpenUnit) → names_in os ≡ [] → os ≡ []
no-names [] h = refl
no-names (o ∷ os) h = cc

each-so : (P Q : Cont → Type 0) → ((c : Cont) → P c → Q c) → (cs : List Cont) → Every P cs → Every Q cs
each-so P Q so [] h = tt
each-so P Q so (c ∷ cs) h = (so c h.0, each-so P Q so cs h.1)

module _ (x : Recovery) (bs : List Id) (p : Point) (sound : IsSoundPoint p) (t : State) (d : HasDoneEvent x (Early bs) p.state t) (comes : p.next ≡ Some (Early bs))
    (opening : p.state.units.phase ≡ Opening) where
  abbrev trace : Trace
  trace = sound.trace says Early bs

  keeps : Keeps t trace
  keeps = says-keeps p sound (Early bs) t refl comes d.after

  trace-sound : IsSound trace
  trace-sound = says-sound p sound (Early bs) t refl comes d.after

  cover : KeepsCover trace bs
  cover = early-keeps sound.trace bs trace-sound.played trace-sound.well

  -- each program was called by the name that its continuation keeps
  called : Every (λ (c : Cont). t.names c.base ≡ c.program) t.units.kept.conts
  called =
      each-so (λ c. name_of_base c.base trace ≡ c.program) (λ c. t.names c.base ≡ c.program) (λ c h. sym (keeps.names c.base) ∙ h) t.units.kept.conts
      (subst (λ (k : Kept). Every (λ (c : Cont). name_of_base c.base trace ≡ c.program) k.conts) keeps.units.kept
      (names-kept trace trace-sound.played (of-start (start_of sound.trace).kept sound.sound.well) sound.named))

  -- the state that the recovery stands for, with what was watched before
  abbrev before : State
  before = record { units = t.units; watch = p.state.watch; names = t.names; can_stop = t.can_stop; over_net = t.over_net; net = t.net }

  over : IsEarlyOver (books_of x) bs before
  over = record {
    books = d.behind.0;
    units = no-names t.units.units (sym keeps.units.units ∙ cover.units);
    to_go = ap (λ (s : UnitState). s.to_go) d.after.units ∙ none-to-go p.state.units sound.trace sound.keeps.state.units sound.sound (inr opening);
    unfinished = cover.names ∙ ap (λ (k : Kept). in_order (map (λ (c : Cont). c.base) k.conts)) keeps.units.kept;
    called = called;
  }

  covers : (facts_in p.state.units (Early bs)).cover ≡ covered_by t.units.kept bs
  covers = ap (λ (s : UnitState). covered_by s.kept bs) (sym d.after.units)

  module _ (goes : State → Type 0) (serves : GoesOnBehindEarly (books_of x) goes) where
    made : GoesOnEarly goes (facts_in p.state.units (Early bs)) bs before
    made = serves (facts_in p.state.units (Early bs)) bs before over covers

    abbrev early-state : State
    early-state = record { units = t.units; watch = made.watch; names = t.names; can_stop = t.can_stop; over_net = t.over_net; net = t.net }

    early-after : After (Early bs) p.state early-state
    early-after = record {
      units = d.after.units;
      watch = made.watched;
      names = d.after.names;
      can_stop = d.after.can_stop;
      over_net = d.after.over_net;
      net = d.after.net;
    }

    early-rests : (r : WatchReading early-state.watch) → said_next (Early bs) p.state early-state r p.flight ≡ None
    early-rests r = ap (λ (q : Phase). said_in q t.units (beside_by early-state r) (Early bs) (unit_of (Early bs) p.state.units t.units)) d.behind.1

    abbrev early-point : Point
    early-point = onwards p sound (Early bs) early-state refl comes early-after None

    early-moves : Moves (Say (Early bs)) p early-point
    early-moves =
        let r = reads p sound (Early bs) early-state refl comes early-after in
        says-moves p sound (Early bs) early-state refl comes early-after None r (early-rests r)

    pub ends-early : EndsAt (Early bs) p t goes
    ends-early = record {
      point = early-point;
      moves = early-moves;
      idle = early-idle bs p early-point sound.trace sound.keeps sound.sound early-moves.0;
      units = refl;
      serves = made.stands;
    }
