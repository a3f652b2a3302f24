use Rattle.salt_deps.specs.Kept.{dependencies}
use Rattle.salt_conflicts.specs.declared.watching.Watching.{Watching}
use Rattle.law_states.proofs.CallsFit.{unread-fits}
use Rattle.salt_model.specs.declared.events.Event.TheVariants.{Did}
use Rattle.salt_conflicts.proofs.Goes.{did-read, goes, has-left, plus-none, reached, reaches-none, reads-none, unreached, won-none, won-one}
use Rattle.salt_conflicts.proofs.Holding.{held-left}
use Rattle.salt_conflicts.proofs.Seen.{watch-shown}
use Rattle.salt_conflicts.proofs.watching.Watching.did.Goals as goal
use Rattle.std.proofs.Common.{ap, inr, refl, sym, ◌+◌, ◌∙◌}
use Rattle.std.proofs.lemmas.Result.{on_ok_weaker}
use Rattle.std.specs.Option.{option_copied}
use Rattle.std.specs.Prelude.{Err, IfOk, Ok, OnOk, Result}

if-both : {T E : Type 0} (r : Result T E) {A : Type 0} {B C : T → Type 0} → (A → (t : T) → B t → C t) → OnOk r A → IfOk r B → IfOk r C
if-both (Ok t) f a b = f a t b
if-both (Err e) f a b = tt

pub returns-in-Some-clause-goes : goal.returns-in-Some-clause-goes
returns-in-Some-clause-goes c =
    let x = c.self.inside in
    let old : Watching = record { locks = x.locks; taken = x.taken; waits = x.waits.items; programs = x.programs.names; deps = x.deps } in
    let new = c.reached.new.self in
    let d = dependencies x.deps in
    let u = c.args.unit in
    let r = c.in-Some.reach.now in
    on_ok_weaker c.reached.result
    (λ all w f st a h base family reach.
    let s = watch-shown _ _ w c.self.view_is h in
    let e = reach ∙ ap option_copied c.in-Some.is in
    goes d old new w f (Did u st a) s (reached f old.taken u st a c.args.family r old.locks new.locks e family all.table)
    (all.taken ∙ ap (λ n. old.taken + n) (sym (won-one f u st a r e)))
    (has-left u w.waits old.waits new.waits s.waits (all.waits ∙ c.leave.ensures))
    all.programs
    (did-read f u st a c.args.base r d (dependencies new.deps) base e all.reads))
    c.reached.ensures.all

pub returns-in-Some-clause-quiet : goal.returns-in-Some-clause-quiet
returns-in-Some-clause-quiet c =
    if-both c.reached.result
    (λ all more same none w f st a h base reach.
    let s = watch-shown _ _ w c.self.view_is h in
    reads-none f c.args.unit st a c.args.base c.in-Some.reach.now (dependencies c.self.inside.deps) (dependencies c.reached.new.self.deps) w s.dependencies base
    (reach ∙ ap option_copied c.in-Some.is) all.reads (same none))
    c.reached.ensures.all c.reached.ensures.same

pub returns-in-None-clause-goes : goal.returns-in-None-clause-goes
returns-in-None-clause-goes c w f st a h base family reach =
    let s = watch-shown _ _ w c.self.view_is h in
    let x = c.self.inside in
    let old : Watching = record { locks = x.locks; taken = x.taken; waits = x.waits.items; programs = x.programs.names; deps = x.deps } in
    let new : Watching = record { locks = x.locks; taken = x.taken; waits = c.leave.new.waits.items; programs = x.programs.names; deps = x.deps } in
    let u = c.args.unit in
    let e = reach ∙ ap option_copied c.in-None.is in
    goes (dependencies x.deps) old new w f (Did u st a) s (unreached f old.taken u st a old.locks e) (plus-none old.taken ∙ ap (λ n. old.taken + n) (sym (won-none f u st a e)))
    (has-left u w.waits old.waits new.waits s.waits c.leave.ensures)
    refl (unread-fits f u st a (dependencies x.deps) (inr e))

pub returns-in-None-clause-quiet : goal.returns-in-None-clause-quiet
returns-in-None-clause-quiet c none w f st a h base reach = reaches-none f c.args.unit st a w (reach ∙ ap option_copied c.in-None.is)

pub invariant_of-self : goal.invariant_of-self
invariant_of-self c =
    let x = c.self.inside in
    held-left c.args.unit x.held x.holders.items x.locks x.waits.items c.leave.new.waits.items c.leave.ensures c.self.invariant

pub invariant_of-self-in-None : goal.invariant_of-self-in-None
invariant_of-self-in-None c =
    let x = c.self.inside in
    held-left c.args.unit x.held x.holders.items x.locks x.waits.items c.leave.new.waits.items c.leave.ensures c.self.invariant
