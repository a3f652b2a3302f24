-- A run replays: its trace keeps each promise, and does what its command asks.
use Rattle.salt_model.specs.Kept.{WellKept}
use Rattle.salt_model.specs.Played.{IsPlayed, Tells}
use Rattle.salt_model.specs.Trace.{Start, Trace, lines_asked, start_of, story_of}
use Rattle.salt_model.specs.declared.events.Event.{Event}
use Rattle.salt_model.specs.declared.events.Flight.{Flight}
use Rattle.salt_promise.specs.Promises.{Promises}
use Rattle.salt_promise.specs.declared.status.Status.{Status}
use Rattle.salt_promise.specs.declared.status.Status.TheVariants.{Memory, NumbersSpent}
use Rattle.salt_run.specs.Ending.{IsFlightTold, flight_at}
use Rattle.salt_run.specs.Running.{Replays}
use Rattle.salt_run.specs.Summing.{IsSummary}
use Rattle.salt_loop.specs.Loading.{IsPlayedLoad, load_run}
use Rattle.salt_loop.specs.Run.{IsFlightAt, IsRun, Streams, script_run}
use Rattle.salt_place.specs.declared.placement.Shape.{Shape}
use Rattle.salt_model.specs.Summary.{summary_of}
use Rattle.salt_promise.specs.declared.command.Command.TheVariants.{Load, Script}
use Rattle.std.proofs.Common.{subst, sym}
use Rattle.std.specs.Prelude.{Bool, List, Option, length, refl, ℕ, ◌≡◌}

pub flies-told : (status : Status) (trace : Trace) (f : Option Flight) → IsFlightAt status trace f → IsFlightTold status trace (flight_at status f)
flies-told (NumbersSpent boot decisions) trace f h = refl
flies-told status trace f h = h

module _ (promised : (trace : Trace) → IsPlayed trace → WellKept (start_of trace).kept → Promises trace) where
  pub keeps : (start : Start) (trace : Trace) (story : List Event) → WellKept start.kept → Tells start trace story → Promises trace
  keeps start trace story well tells = promised trace tells.played (subst (λ (s : Start). WellKept s.kept) (sym tells.begins) well)

  abbrev pub script-replays : (shape : Shape) (early over_net : Bool) (status : Status) (f : Option Flight) (s : Streams) (story : List Event) (start : Start) → WellKept start.kept →
      IsRun start (script_run status f s story) → Replays (Script shape early over_net) status (flight_at status f) s story start
  script-replays shape early over_net status f s story start well x =
      let p = x.played in
      record {
        trace = p.trace;
        played = p.tells;
        promises = keeps start p.trace story well p.tells;
        unspent = p.unspent;
        does = (record { texts = p.texts; reads = p.reads; lines = p.lines }, x.told);
        leaves = p.leaves;
        flies = flies-told status p.trace f p.flies;
      }

  -- the summary is that of the trace
  pub summed-as : (status : Status) (a b : List ℕ) (before now : Option (List ℕ)) → ((status ≡ Memory → ⊥) → a ≡ b) → IsSummary status a before now → IsSummary status b before now
  summed-as Memory a b before now same h = h
  summed-as status a b before now same h = subst (λ t. IsSummary status t before now) (same (λ m. cc)) h

  abbrev pub load-replays : (calls done : ℕ) (status : Status) (f : Option Flight) (s : Streams) (story : List Event) (start : Start) → WellKept start.kept →
      IsPlayedLoad start (load_run status f calls done story) → IsSummary status (summary_of calls done story) s.before s.now → Replays (Load calls) status (flight_at status f) s story start
  load-replays calls done status f s story start well x summed = record {
    trace = x.trace;
    played = x.tells;
    promises = keeps start x.trace story well x.tells;
    unspent = x.unspent;
    does = (
      x.lines,
      summed-as status (summary_of calls done story) (summary_of calls (length (lines_asked x.trace)) (story_of x.trace)) s.before s.now
          (λ some i. summary_of calls (sym (x.count some) i) (sym x.tells.told i)) summed,
    );
    leaves = x.leaves;
    flies = flies-told status x.trace f x.flies;
  }
