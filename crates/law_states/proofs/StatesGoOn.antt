-- The state of a trace goes on with each event, line and turn, and begins at a start.
use Rattle.law_states.proofs.FactsKept.{facts-kept}
use Rattle.law_states.proofs.KeepsOn.{keeps-asks, keeps-says, keeps-start, keeps-turns}
use Rattle.law_states.proofs.MessagesGoOn.{net-says}
use Rattle.law_states.proofs.WatchesGoOn.{watches-ask, watches-say, watches-turn}
use Rattle.law_states.specs.Keeps.{KeepsUnits}
use Rattle.law_states.specs.States.{After, Keeps, State, asked_of, named_by, net_by, started, turned_to}
use Rattle.law_states.specs.WatchSteps.{WatchBy, WatchChange}
use Rattle.law_states.specs.Watches.{Watches}
use Rattle.law_story.proofs.Replays.{good-event, replays}
use Rattle.salt_model.specs.Kept.{WellKept}
use Rattle.salt_model.specs.Played.{IsPlayed}
use Rattle.salt_model.specs.Shown.{name_of_base}
use Rattle.salt_model.specs.Trace.{Asked, Start, Trace, from, start_of, ◌asks◌, ◌says◌, ◌turns◌}
use Rattle.salt_place.specs.declared.placement.Shape.{Shape}
use Rattle.salt_stands.specs.Turning.{turning}
use Rattle.salt_values.specs.Id.{in_order, without}
use Rattle.salt_model.specs.declared.events.Event.{Event}
use Rattle.salt_model.specs.declared.events.Event.TheVariants.{Began}
use Rattle.salt_model.specs.declared.events.UnitKind.TheVariants.{First}
use Rattle.salt_values.specs.Id.{is_same_id}
use Rattle.salt_values.specs.declared.cont.Cont.{Cont}
use Rattle.salt_values.specs.declared.id.Id.{Id}
use Rattle.std.proofs.Common.{ap, subst, sym, ◌∙◌}
use Rattle.std.specs.Prelude.{List, [], cond, map, refl, ℕ, ◌∷◌, ◌≡◌}

watch-says : (old new : State) (trace : Trace) (e : Event) → Keeps old trace → IsPlayed (trace says e) → WellKept (start_of trace).kept →
    WatchChange old.units e old.watch new.watch → Watches new.watch (trace says e)
watch-says old new trace e keeps p w a =
    let good = good-event trace e (replays trace p.0) p.1 in
    watches-say trace e old.watch new.watch p w keeps.watch
    (subst (λ f. WatchBy f e old.watch new.watch) (sym (facts-kept old.units trace keeps.units e (replays trace p.0).base good)) a)

names-says : (old : Id → List ℕ) (trace : Trace) (e : Event) → ((b : Id) → name_of_base b trace ≡ old b) → (b : Id) →
    name_of_base b (trace says e) ≡ named_by e old b
names-says old trace (Began u (First t c n args)) h b = ap (cond (is_same_id b c) n) (h b)
names-says old trace (Began u kind) h b = h b
names-says old trace e h b = h b

-- an event
pub states-say : (old new : State) (trace : Trace) (e : Event) → Keeps old trace → IsPlayed (trace says e) → WellKept (start_of trace).kept →
    After e old new → Keeps new (trace says e)
states-say old new trace e keeps p w a = record {
  units = subst (λ s. KeepsUnits s (trace says e)) (sym a.units) (keeps-says old.units trace e keeps.units p w);
  watch = watch-says old new trace e keeps p w a.watch;
  names = λ b. names-says old.names trace e keeps.names b ∙ sym (a.names b);
  can_stop = keeps.can_stop ∙ sym a.can_stop;
  over_net = keeps.over_net ∙ sym a.over_net;
  net = λ shape. net-now shape ∙ sym (a.net shape);
}
  where
    net-now : (shape : Shape) → turning shape (trace says e) ≡ net_by e old.units old.net shape
    net-now = net-says old.units trace keeps.units e old.net (replays trace p.0).base (good-event trace e (replays trace p.0) p.1) keeps.net

-- a line, a turn
pub states-ask : (s : State) (trace : Trace) (asked : Asked) → Keeps s trace → IsPlayed trace → WellKept (start_of trace).kept →
    Keeps (asked_of asked s) (trace asks asked)
states-ask s trace asked keeps p w = record {
  units = keeps-asks s.units trace asked keeps.units;
  watch = watches-ask trace asked s.watch p w keeps.watch;
  names = keeps.names;
  can_stop = keeps.can_stop;
  over_net = keeps.over_net;
  net = keeps.net;
}

pub states-turn : (s : State) (trace : Trace) (b : Id) → Keeps s trace → IsPlayed trace → WellKept (start_of trace).kept →
    Keeps (turned_to b s) (trace turns b)
states-turn s trace b keeps p w = record {
  units = keeps-turns s.units trace b keeps.units;
  watch = watches-turn trace b s.watch p w keeps.watch;
  names = keeps.names;
  can_stop = keeps.can_stop;
  over_net = keeps.over_net;
  net = keeps.net;
}

without-none : (us : List Id) → without [] us ≡ us
without-none [] = refl
without-none (u ∷ us) = ap (λ l. u ∷ l) (without-none us)

-- a start
pub states-start : (k : Start) → Keeps (started k) (from k)
states-start k = record {
  units = keeps-start k;
  watch = record {
    locks = record { in_turn = []; rises = tt; locks = refl; same = λ n. ((λ i. i), (λ i. i)) };
    numbers = λ n i. absurd i;
    waits = refl;
    programs = ap in_order (without-none (map (λ (c : Cont). c.base) k.kept.conts));
    dependencies = record {
      writer = λ p. refl;
      reads = λ x y. ((λ t. cc), (λ r. absurd r.reads));
      finished = λ b. ((λ t. cc), (λ r. absurd r.finished));
    };
  };
  names = λ b. refl;
  can_stop = refl;
  over_net = refl;
  net = λ shape. refl;
}
