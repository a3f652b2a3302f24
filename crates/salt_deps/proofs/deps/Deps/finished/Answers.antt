use Rattle.salt_deps.proofs.Calls.{finishes}
use Rattle.salt_deps.proofs.Linking.{put-in}
use Rattle.salt_deps.proofs.Settling.{none-left, settled-come}
use Rattle.salt_deps.proofs.Showing.{over}
use Rattle.salt_deps.proofs.deps.Deps.finished.Goals as goal
use Rattle.salt_deps.specs.Kept.{kept_of}
use Rattle.salt_deps.specs.Group.{reads_in}
use Rattle.law_states.specs.DependencyCalls.{HasFinished}
use Rattle.law_states.specs.Rising.{Rising}
use Rattle.std.proofs.Common.{List, Option, ap, subst, sym, ◌∙◌, ◌≡◌}
use Rattle.std.specs.BTreeMap.{get}
use Rattle.law_states.specs.KeptSources.{unless_among}
use Rattle.salt_model.specs.Tables.{place_cmp}
use Rattle.salt_model.specs.declared.places.Place.{Place}
use Rattle.salt_values.specs.declared.id.Id.{Id}

-- those that are dropped are those that are due
forgets : (due released dropped : List Id) (old new : Place → Option Id) → released ≡ due → dropped ≡ released → ((q : Place) → new q ≡ unless_among dropped (old q)) → (q : Place) →
    new q ≡ unless_among due (old q)
forgets due released dropped old new list same out q = out q ∙ ap (λ (l : List Id). unless_among l (old q)) (same ∙ list)

pub due-requires : goal.due-requires
due-requires c t = let x = c.self.inside in settled-come (reads_in x.readings) x.finished.keys c.args.base (c.self.invariant t)

pub returns-clause-ok : goal.returns-clause-ok
returns-clause-ok c =
    let x = c.self.inside in
    over (HasFinished c.args.base c.from_vec.result) c.args.self.now x.writers.last c.drop_programs.new.self.last x.readings c.forget_all.new.self x.finished.keys c.take_out.new.set.keys c.self.view_is
    (subst (λ bs. HasFinished c.args.base bs (kept_of x.writers.last (reads_in x.readings) x.finished.keys) (kept_of c.drop_programs.new.self.last (reads_in c.forget_all.new.self) c.take_out.new.set.keys)) (sym c.from_vec.ensures)
    (finishes c.args.base c.in_ok-due.due.keys c.in_ok-released.released.items c.deref-2.result.now c.deref-3.result.now x.writers.last c.drop_programs.new.self.last (reads_in x.readings) (reads_in c.forget_all.new.self)
    x.finished.keys c.insert.new.self.keys c.take_out.new.set.keys c.in_ok-due.ensures c.in_ok-released.ensures.items c.deref-2.ensures.value c.deref-3.ensures.value
    (forgets c.in_ok-due.due.keys c.in_ok-released.released.items c.deref.result.now (get place_cmp x.writers.last) (get place_cmp c.drop_programs.new.self.last) c.in_ok-released.ensures.items c.deref.ensures.value c.drop_programs.ensures)
    c.forget_all.ensures (put-in c.args.base x.finished c.insert.new.self c.in_ok-insert.ensures.updates.0) c.take_out.ensures))

pub returns-clause-order : goal.returns-clause-order
returns-clause-order c = subst Rising (sym c.from_vec.ensures) c.in_ok-released.ensures.order

pub invariant_of-self-2 : goal.invariant_of-self-2
invariant_of-self-2 c t =
    let x = c.self.inside in
    none-left c.args.base c.in_ok-released.released.items (kept_of x.writers.last (reads_in x.readings) x.finished.keys)
    (kept_of c.drop_programs.new.self.last (reads_in c.forget_all.new.self) c.take_out.new.set.keys) c.take_out.new.set.keys (λ b h. h)
    (finishes c.args.base c.in_ok-due.due.keys c.in_ok-released.released.items c.deref-2.result.now c.deref-3.result.now x.writers.last c.drop_programs.new.self.last (reads_in x.readings) (reads_in c.forget_all.new.self)
    x.finished.keys c.insert.new.self.keys c.take_out.new.set.keys c.in_ok-due.ensures c.in_ok-released.ensures.items c.deref-2.ensures.value c.deref-3.ensures.value
    (forgets c.in_ok-due.due.keys c.in_ok-released.released.items c.deref.result.now (get place_cmp x.writers.last) (get place_cmp c.drop_programs.new.self.last) c.in_ok-released.ensures.items c.deref.ensures.value c.drop_programs.ensures)
    c.forget_all.ensures (put-in c.args.base x.finished c.insert.new.self c.in_ok-insert.ensures.updates.0) c.take_out.ensures)
