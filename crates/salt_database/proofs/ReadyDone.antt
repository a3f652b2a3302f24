-- An opening ends by its Ready: nothing is open behind it, and nothing is watched.
use Rattle.salt_books.specs.Books.{AreBooks}
use Rattle.salt_database.specs.Standing.{AreOpened}
use Rattle.salt_database.proofs.Ends.{EndsAt}
use Rattle.salt_engine.proofs.Going.{onwards, reads, says-keeps, says-moves, says-sound}
use Rattle.law_states.proofs.KeptPrograms.{ready-empty}
use Rattle.law_states.specs.Follows.{said_in, unit_of}
use Rattle.law_states.specs.Keeps.{KeepsUnits}
use Rattle.law_states.specs.KeptLocks.{Numbered, on_lock}
use Rattle.law_states.specs.Laws.{IsSound}
use Rattle.law_states.specs.Members.{In}
use Rattle.law_states.specs.Nexts.{said_next}
use Rattle.law_states.specs.OpenUnits.{OpenUnit, UnitState, names_in}
use Rattle.law_states.specs.Points.{Moves, Point, Say}
use Rattle.law_states.specs.Readings.{WatchReading, beside_by}
use Rattle.law_states.specs.States.{After, State}
use Rattle.law_states.specs.UnitFacts.{UnitFacts, facts_in}
use Rattle.law_states.specs.WatchSteps.{WatchBy, fate_by}
use Rattle.law_states.specs.Watches.{Watch, empty_watch}
use Rattle.law_story.proofs.WellKept.{of-start}
use Rattle.salt_model.specs.Phases.{Opening, Phase}
use Rattle.salt_model.specs.Trace.{Trace, start_of, ◌says◌, ◌turns◌}
use Rattle.salt_model.specs.declared.events.Event.TheVariants.{Ready}
use Rattle.law_openings.proofs.Opening.{none-to-go, ready-idle}
use Rattle.salt_drain.specs.Recovering.{HasDoneEvent, books_of}
use Rattle.salt_drain.specs.declared.recovery.Recovery.{Recovery}
use Rattle.salt_driver.specs.Standing.{IsSoundPoint}
use Rattle.std.proofs.Common.{ap, inr, subst, sym, ◌∙◌}
use Rattle.std.specs.List.{filter_map}
use Rattle.std.specs.Prelude.{List, None, Some, [], refl, ◌++◌, ◌∷◌, ◌≡◌}

none-left : (f : UnitFacts) (table : List Numbered) → filter_map (on_lock (fate_by f Ready)) table ≡ []
none-left f [] = refl
none-left f (n ∷ table) = none-left f table

-- the watch behind a Ready: nothing, and no lock was taken
ready-watch : (f : UnitFacts) (w : Watch) → WatchBy f Ready w (empty_watch 0)
ready-watch f w = record {
  locks = λ n. ((λ i. absurd i), (λ i. subst (λ (ns : List Numbered). In n (ns ++ [])) (none-left f w.table) i));
  taken = refl;
  waits = refl;
  programs = refl;
  dependencies = record {
    writer = λ p. refl;
    reads = λ x y. ((λ t. cc), (λ n. absurd n));
    finished = λ b. ((λ t. cc), (λ n. absurd n));
  };
}

no-names : (os : List OpenUnit) → names_in os ≡ [] → os ≡ []
no-names [] h = refl
no-names (o ∷ os) h = cc

ready-none : (s : UnitState) (trace : Trace) → KeepsUnits s (trace says Ready) → IsSound (trace says Ready) → s.units ≡ []
ready-none s trace keeps sound =
    no-names s.units (sym keeps.units ∙ (ready-empty trace sound.played (of-start (start_of trace).kept sound.well)).units)

module _ (x : Recovery) (p : Point) (sound : IsSoundPoint p) (t : State) (d : HasDoneEvent x Ready p.state t) (comes : p.next ≡ Some Ready) (opening : p.state.units.phase ≡ Opening) where
  -- the state behind it, in which nothing is watched
  abbrev ready-state : State
  ready-state = record { units = t.units; watch = empty_watch 0; names = t.names; can_stop = t.can_stop; over_net = t.over_net; net = t.net }

  ready-after : After Ready p.state ready-state
  ready-after = record {
    units = d.after.units;
    watch = ready-watch (facts_in p.state.units Ready) p.state.watch;
    names = d.after.names;
    can_stop = d.after.can_stop;
    over_net = d.after.over_net;
    net = d.after.net;
  }

  ready-books : AreBooks (books_of x) t.units
  ready-books = d.behind.0

  ready-units : t.units.units ≡ []
  ready-units = ready-none t.units sound.trace (says-keeps p sound Ready ready-state refl comes ready-after).units (says-sound p sound Ready ready-state refl comes ready-after)

  -- `go all` has nothing left to turn to
  ready-turns : t.units.to_go ≡ []
  ready-turns = ap (λ (s : UnitState). s.to_go) d.after.units ∙ none-to-go p.state.units sound.trace sound.keeps.state.units sound.sound (inr opening)

  ready-rests : (r : WatchReading ready-state.watch) → said_next Ready p.state ready-state r p.flight ≡ None
  ready-rests r = ap (λ (q : Phase). said_in q t.units (beside_by ready-state r) Ready (unit_of Ready p.state.units t.units)) d.behind.1

  abbrev ready-point : Point
  ready-point = onwards p sound Ready ready-state refl comes ready-after None

  ready-moves : Moves (Say Ready) p ready-point
  ready-moves =
      let r = reads p sound Ready ready-state refl comes ready-after in
      says-moves p sound Ready ready-state refl comes ready-after None r (ready-rests r)

  pub ends-ready : (goes : State → Type 0) → ((s : State) → AreOpened (books_of x) s → goes s) → EndsAt Ready p t goes
  ends-ready goes serves = record {
    point = ready-point;
    moves = ready-moves;
    idle = ready-idle p ready-point sound.trace sound.keeps sound.sound ready-moves.0;
    units = refl;
    serves = serves ready-state (record { books = ready-books; units = ready-units; to_go = ready-turns; watch = refl });
  }
