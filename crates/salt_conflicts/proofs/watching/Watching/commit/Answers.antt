use Rattle.salt_deps.specs.Kept.{dependencies}
use Rattle.salt_conflicts.specs.declared.watching.Watching.{Watching}
use Rattle.law_states.proofs.CallsFit.{commit-fits}
use Rattle.law_states.specs.DependencyCalls.{WroteAll}
use Rattle.salt_model.specs.declared.events.End.TheVariants.{Committed}
use Rattle.salt_model.specs.declared.events.Event.TheVariants.{Ended}
use Rattle.salt_conflicts.proofs.Goes.{goes, handed, has-left, plus-none}
use Rattle.salt_conflicts.specs.Holders.{is_among}
use Rattle.salt_model.specs.declared.events.Owner.{Owner}
use Rattle.salt_conflicts.proofs.Holding.{held-handed}
use Rattle.salt_conflicts.proofs.Seen.{watch-shown}
use Rattle.salt_conflicts.proofs.watching.Watching.commit.Goals as goal
use Rattle.std.proofs.Common.{ap, map, refl, subst, sym, ◌∙◌}
use Rattle.std.specs.Prelude.{not, ◌&&◌}
use Rattle.std.proofs.lemmas.Result.{on_ok_weaker}

pub returns : goal.returns
returns c =
    let x = c.self.inside in
    let old : Watching = record { locks = x.locks; taken = x.taken; waits = x.waits.items; programs = x.programs.names; deps = x.deps } in
    let new : Watching = record { locks = c.hand_over.new.locks; taken = x.taken; waits = c.leave.new.waits.items; programs = x.programs.names; deps = c.wrote.new.deps } in
    let d = dependencies x.deps in
    let u = c.args.unit in
    let to = dependencies c.wrote.new.deps in
    on_ok_weaker c.wrote.result
    (λ wrote w f n h base places.
    let s = watch-shown _ _ w c.self.view_is h in
    goes d old new w f (Ended u (Committed n)) s (handed f old.taken n u c.args.base old.locks c.hand_over.new.locks base c.hand_over.ensures) (plus-none old.taken)
    (has-left u w.waits old.waits new.waits s.waits c.leave.ensures)
    refl
    (commit-fits f u n d to (subst (λ o. WroteAll o (map (λ e. e.0) f.changes) d to) (sym base) (subst (λ ps. WroteAll c.args.base ps d to) (sym places) wrote))))
    c.wrote.ensures

pub invariant_of-self : goal.invariant_of-self
invariant_of-self c =
    let x = c.self.inside in
    let u = c.args.unit in
    held-handed u c.args.base x.held c.holds_without-self-inside.result x.holders.items x.locks c.hand_over.new.locks x.waits.items c.leave.new.waits.items
    (c.holds_without-self-inside.ensures ∙ ap (λ os. x.held && not (is_among (Owner.Unit u) os)) c.deref.ensures.value) c.hand_over.ensures c.leave.ensures c.self.invariant
