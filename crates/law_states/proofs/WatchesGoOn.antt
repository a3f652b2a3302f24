-- What an engine keeps goes on with each event, line and turn, and begins with nothing at a Ready.
use Rattle.law_states.proofs.Askers.{waiting-asks, waiting-says, waiting-turns}
use Rattle.law_states.proofs.KeptPrograms.{deps-asks, deps-turns, ready-empty, unreleased-says}
use Rattle.law_states.proofs.KeptTable.{keeps-after}
use Rattle.law_states.proofs.LocksAfter.{held-asks, held-says, held-turns}
use Rattle.law_states.proofs.Numbering.{below-counted}
use Rattle.law_states.proofs.Pairs.{deps-after}
use Rattle.law_states.specs.KeptLocks.{KeepsLocks}
use Rattle.law_states.specs.KeptPrograms.{unreleased_after}
use Rattle.law_states.specs.UnitFacts.{facts_at}
use Rattle.law_states.specs.WatchSteps.{WatchAfter, waiting_after}
use Rattle.law_states.specs.Watches.{Watch, Watches, empty_watch}
use Rattle.law_story.proofs.WellKept.{of-start}
use Rattle.salt_model.specs.Kept.{WellKept}
use Rattle.salt_model.specs.Locks.{held}
use Rattle.salt_model.specs.Played.{IsPlayed}
use Rattle.salt_model.specs.Trace.{Asked, Trace, start_of, ◌asks◌, ◌says◌, ◌turns◌}
use Rattle.salt_model.specs.declared.events.Event.{Event}
use Rattle.salt_model.specs.declared.events.Event.TheVariants.{Ready}
use Rattle.salt_values.specs.declared.id.Id.{Id}
use Rattle.std.proofs.Common.{ap, subst, sym, ◌∙◌}
use Rattle.std.specs.Prelude.{[], ℕ, ◌<◌}

pub watches-say : (trace : Trace) (e : Event) (old new : Watch) → IsPlayed (trace says e) → WellKept (start_of trace).kept → Watches old trace →
    WatchAfter trace e old new → Watches new (trace says e)
watches-say trace e old new p w h a = record {
  locks = subst (KeepsLocks new.table) (sym (held-says trace e p w)) (keeps-after old.taken trace e old.table new.table (held trace) h.locks h.numbers a.locks);
  numbers = λ n i. subst (λ k. n.number < k) (sym a.taken) (below-counted (facts_at trace e) e old.taken old.table h.numbers n ((a.locks n).0 i));
  waits = waiting-says trace e p (of-start (start_of trace).kept w) ∙ ap (waiting_after trace e) h.waits ∙ sym a.waits;
  programs = unreleased-says trace e p (of-start (start_of trace).kept w) ∙ ap (unreleased_after e) h.programs ∙ sym a.programs;
  dependencies = deps-after trace e old.dependencies new.dependencies p w h.dependencies a.dependencies;
}

pub watches-ask : (trace : Trace) (asked : Asked) (w : Watch) → IsPlayed trace → WellKept (start_of trace).kept → Watches w trace →
    Watches w (trace asks asked)
watches-ask trace asked w p k h = record {
  locks = subst (KeepsLocks w.table) (sym (held-asks trace asked)) h.locks;
  numbers = h.numbers;
  waits = waiting-asks trace asked p (of-start (start_of trace).kept k) ∙ h.waits;
  programs = h.programs;
  dependencies = deps-asks trace asked w.dependencies h.dependencies;
}

pub watches-turn : (trace : Trace) (b : Id) (w : Watch) → IsPlayed trace → WellKept (start_of trace).kept → Watches w trace →
    Watches w (trace turns b)
watches-turn trace b w p k h = record {
  locks = subst (KeepsLocks w.table) (sym (held-turns trace b)) h.locks;
  numbers = h.numbers;
  waits = waiting-turns trace b p (of-start (start_of trace).kept k) ∙ h.waits;
  programs = h.programs;
  dependencies = deps-turns trace b w.dependencies h.dependencies;
}

pub watches-begin : (trace : Trace) (n : ℕ) → IsPlayed (trace says Ready) → WellKept (start_of trace).kept →
    Watches (empty_watch n) (trace says Ready)
watches-begin trace n p w =
    let r = ready-empty trace p (of-start (start_of trace).kept w) in
    record {
      locks = record { in_turn = []; rises = tt; locks = sym r.locks; same = λ m. ((λ i. i), (λ i. i)) };
      numbers = λ m i. absurd i;
      waits = r.waits;
      programs = r.programs;
      dependencies = r.dependencies;
    }
