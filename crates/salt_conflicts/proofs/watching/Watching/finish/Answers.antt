use Rattle.salt_deps.specs.Kept.{dependencies}
use Rattle.salt_conflicts.specs.declared.watching.Watching.{Watching}
use Rattle.law_states.specs.DependencyCalls.{marked}
use Rattle.law_states.specs.Members.{SameMembers}
use Rattle.law_states.specs.WatchSteps.{table_by}
use Rattle.salt_values.specs.Id.{without}
use Rattle.salt_values.specs.declared.id.Id.{Id}
use Rattle.salt_model.specs.declared.events.Event.TheVariants.{Released}
use Rattle.salt_conflicts.proofs.Finishing.{due-told, leaves, none-due, no-owner}
use Rattle.salt_conflicts.proofs.Goes.{goes, plus-none, released}
use Rattle.salt_conflicts.proofs.Holding.{unknown}
use Rattle.salt_conflicts.proofs.Seen.{finishing-shown}
use Rattle.salt_conflicts.proofs.Told.{filter-all}
use Rattle.salt_conflicts.proofs.watching.Watching.finish.Goals as goal
use Rattle.salt_conflicts.specs.Calls.{is_unreleased}
use Rattle.std.proofs.Common.{[], ap, refl, subst, sym, true, ◌≡◌, ◌∙◌}
use Rattle.std.specs.List.{filter}
use Rattle.std.specs.Prelude.{false}

-- WHERE NONE IS RELEASED

pub returns-then-is_empty-clause-due : goal.returns-then-is_empty-clause-due
returns-then-is_empty-clause-due c w r h =
    let s = finishing-shown c.args.base _ _ w c.self.view_is h in
    let x = c.self.inside in
    let old : Watching = record { locks = x.locks; taken = x.taken; waits = x.waits.items; programs = x.programs.names; deps = x.deps } in
    let new : Watching = record { locks = x.locks; taken = x.taken; waits = x.waits.items; programs = x.programs.names; deps = c.finished.new.self } in
    due-told c.args.base old new w r c.in_ok-due.due s c.in_ok-due.ensures.order c.in_ok-due.ensures.ok

pub returns-then-is_empty-clause-none : goal.returns-then-is_empty-clause-none
returns-then-is_empty-clause-none c w h none =
    let s = finishing-shown c.args.base _ _ w c.self.view_is h in
    let x = c.self.inside in
    let old : Watching = record { locks = x.locks; taken = x.taken; waits = x.waits.items; programs = x.programs.names; deps = x.deps } in
    let new : Watching = record { locks = x.locks; taken = x.taken; waits = x.waits.items; programs = x.programs.names; deps = c.finished.new.self } in
    none-due c.args.base old new w c.in_ok-due.due none s c.in_ok-due.ensures.ok
    (sym (ap (λ bs. filter (is_unreleased bs) x.locks) none ∙ filter-all (is_unreleased []) x.locks (λ n i. no-owner n.lock.owner)))
    refl refl
    (sym (ap (λ bs. without bs x.programs.names) none ∙ filter-all (λ (u : Id). true) x.programs.names (λ n i. refl)))

pub returns-then-is_empty-clause-released : goal.returns-then-is_empty-clause-released
returns-then-is_empty-clause-released c w f h =
    let s = finishing-shown c.args.base _ _ w c.self.view_is h in
    let x = c.self.inside in
    let old : Watching = record { locks = x.locks; taken = x.taken; waits = x.waits.items; programs = x.programs.names; deps = x.deps } in
    let new : Watching = record { locks = x.locks; taken = x.taken; waits = x.waits.items; programs = x.programs.names; deps = c.finished.new.self } in
    let due = c.in_ok-due.due in
    let none : due ≡ [] = c.is_empty.ensures.0 c.if-is_empty.true in
    goes (marked c.args.base (dependencies x.deps)) old new w f (Released due) s
    (subst (λ ns. SameMembers ns (table_by f old.taken (Released due) old.locks))
    (ap (λ bs. filter (is_unreleased bs) x.locks) none ∙ filter-all (is_unreleased []) x.locks (λ n i. no-owner n.lock.owner)) (released f old.taken due old.locks))
    (plus-none old.taken) s.waits
    (sym (ap (λ bs. without bs x.programs.names) none ∙ filter-all (λ (u : Id). true) x.programs.names (λ n i. refl)))
    (leaves f c.args.base due (dependencies x.deps) (dependencies new.deps) c.in_ok-due.ensures.order c.in_ok-due.ensures.ok)

-- WHERE SOME ARE

pub returns-clause-due : goal.returns-clause-due
returns-clause-due c w r h =
    let s = finishing-shown c.args.base _ _ w c.self.view_is h in
    let x = c.self.inside in
    let old : Watching = record { locks = x.locks; taken = x.taken; waits = x.waits.items; programs = x.programs.names; deps = x.deps } in
    let new : Watching = record { locks = c.release.new.locks; taken = x.taken; waits = x.waits.items; programs = c.drop_all.new.self.names; deps = c.finished.new.self } in
    due-told c.args.base old new w r c.in_ok-due.due s c.in_ok-due.ensures.order c.in_ok-due.ensures.ok

pub returns-clause-none : goal.returns-clause-none
returns-clause-none c w h none =
    let s = finishing-shown c.args.base _ _ w c.self.view_is h in
    let x = c.self.inside in
    let old : Watching = record { locks = x.locks; taken = x.taken; waits = x.waits.items; programs = x.programs.names; deps = x.deps } in
    let new : Watching = record { locks = c.release.new.locks; taken = x.taken; waits = x.waits.items; programs = c.drop_all.new.self.names; deps = c.finished.new.self } in
    none-due c.args.base old new w c.in_ok-due.due none s c.in_ok-due.ensures.ok
    (c.in_ok-release.ensures ∙ ap (λ bs. filter (is_unreleased bs) x.locks) c.as_slice.ensures)
    refl refl
    (c.drop_all.ensures ∙ ap (λ bs. without bs x.programs.names) c.as_slice-2.ensures)

pub returns-clause-released : goal.returns-clause-released
returns-clause-released c w f h =
    let s = finishing-shown c.args.base _ _ w c.self.view_is h in
    let x = c.self.inside in
    let old : Watching = record { locks = x.locks; taken = x.taken; waits = x.waits.items; programs = x.programs.names; deps = x.deps } in
    let new : Watching = record { locks = c.release.new.locks; taken = x.taken; waits = x.waits.items; programs = c.drop_all.new.self.names; deps = c.finished.new.self } in
    let due = c.in_ok-due.due in
    goes (marked c.args.base (dependencies x.deps)) old new w f (Released due) s
    (subst (λ ns. SameMembers ns (table_by f old.taken (Released due) old.locks)) (sym (c.in_ok-release.ensures ∙ ap (λ bs. filter (is_unreleased bs) x.locks) c.as_slice.ensures)) (released f old.taken due old.locks))
    (plus-none old.taken) s.waits
    (c.drop_all.ensures ∙ ap (λ bs. without bs x.programs.names) c.as_slice-2.ensures)
    (leaves f c.args.base due (dependencies x.deps) (dependencies new.deps) c.in_ok-due.ensures.order c.in_ok-due.ensures.ok)

pub invariant_of-self : goal.invariant_of-self
invariant_of-self c = c.self.invariant

pub invariant_of-self-2 : goal.invariant_of-self-2
invariant_of-self-2 c = unknown false c.self.inside.holders.items c.release.new.locks c.self.inside.waits.items refl
