-- What is kept of a trace that is played can be read.
use Rattle.law_states.proofs.Askers.{waits-once}
use Rattle.law_states.proofs.EachTrace.{each-kept}
use Rattle.law_states.proofs.PlainGoesOn.{plain-reading}
use Rattle.law_states.specs.DependencyCalls.{AreSame}
use Rattle.law_states.specs.KeptSources.{Dependencies, IsDue, KeepsDependencies, Through}
use Rattle.law_states.specs.KeptWaits.{AreDistinct, Asker, asker}
use Rattle.law_states.specs.Laws.{IsSound}
use Rattle.law_states.specs.Members.{In}
use Rattle.law_states.specs.PlainStates.{PlainWatch, state_of, watch_of}
use Rattle.law_states.specs.Readings.{WatchReading}
use Rattle.law_states.specs.Watches.{Watch, Watches}
use Rattle.salt_model.specs.Trace.{Trace}
use Rattle.salt_model.specs.Units.{wait_list}
use Rattle.salt_values.specs.declared.id.Id.{Id}
use Rattle.salt_conflicts.proofs.Same.{same-dependencies}
use Rattle.std.proofs.Common.{ap, refl, subst, sym, ◌∙◌}
use Rattle.std.specs.Prelude.{List, [], map, ◌↔◌, ◌∷◌, ◌≡◌}

same-kept : (trace : Trace) (d e : Dependencies) → KeepsDependencies d trace → KeepsDependencies e trace → AreSame d e
same-kept trace d e k m = record {
  writer = λ q. m.writer q ∙ sym (k.writer q);
  reads = λ x y. ((λ t. (k.reads x y).1 ((m.reads x y).0 t)), (λ t. (m.reads x y).1 ((k.reads x y).0 t)));
  finished = λ b. ((λ t. (k.finished b).1 ((m.finished b).0 t)), (λ t. (m.finished b).1 ((k.finished b).0 t)));
}

pub readable : (w : Watch) (trace : Trace) → Watches w trace → IsSound trace → WatchReading w
readable w trace k s =
    let plain : PlainWatch = (state_of trace).watch in
    let shown : PlainWatch = record plain { table = k.locks.in_turn; taken = w.taken } in
    let r = plain-reading shown (record { rises = k.locks.rises; below = λ n i. k.numbers n ((k.locks.same n).1 i) }) in
    let e = same-dependencies (watch_of plain).dependencies w.dependencies (same-kept trace (watch_of plain).dependencies w.dependencies (each-kept trace s.played s.well).watch.dependencies k.dependencies) in
    record {
      sources = r.sources;
      due = r.due;
      part = r.part;
      closes = subst (λ (d : Dependencies). (c b : Id) → In b (r.sources c) ↔ Through d.reads c b) (sym e) r.closes;
      are_due = subst (λ (d : Dependencies). (b : Id) → In b r.due ↔ IsDue d b) (sym e) r.are_due;
      rises = r.rises;
      whose = λ o n. let h = r.whose o n in (
        (λ i. let m = h.0 i in ((k.locks.same n).1 m.0, m.1)),
        (λ i. h.1 ((k.locks.same n).0 i.0, i.1)),
      );
    }

names-of : (trace : Trace) (us : List Id) → us ≡ map (λ (a : Asker). a.unit) (map (asker trace) us)
names-of trace [] = refl
names-of trace (u ∷ us) = ap (λ l. u ∷ l) (names-of trace us)

pub distinct : (w : Watch) (trace : Trace) → Watches w trace → AreDistinct (map (λ (a : Asker). a.unit) w.waits)
distinct w trace k = subst AreDistinct (names-of trace (wait_list trace) ∙ ap (map (λ (a : Asker). a.unit)) k.waits) (waits-once trace)
