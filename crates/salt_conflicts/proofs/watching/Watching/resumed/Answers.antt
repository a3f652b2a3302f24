use Rattle.salt_conflicts.proofs.Holding.{unknown}
use Rattle.salt_conflicts.proofs.Resuming.{resumes}
use Rattle.salt_conflicts.proofs.watching.Watching.resumed.Goals as goal
use Rattle.salt_conflicts.specs.declared.watching.Watching.{Watching}
use Rattle.law_states.specs.DependencyCalls.{AreSame}
use Rattle.law_states.specs.KeptCover.{group_of}
use Rattle.salt_conflicts.specs.Watched.{GoesBy}
use Rattle.salt_deps.specs.Kept.{dependencies}
use Rattle.salt_model.specs.declared.events.Event.TheVariants.{Early}
use Rattle.salt_values.specs.declared.id.Id.{Id}
use Rattle.std.proofs.Common.{List, refl, subst, sym}
use Rattle.std.specs.Prelude.{false}

pub returns : goal.returns
returns c w f locks taken group =
    let new : Watching = record { locks = c.args.locks; taken = c.args.taken; waits = c.new.result.items; programs = c.new-2.result.names; deps = c.args.deps } in
    subst (λ (bs : List Id). GoesBy f (Early bs) w new) c.new-2.ensures
    (resumes new w f c.new.ensures.items locks taken (subst (λ (bs : List Id). AreSame (group_of bs) (dependencies c.args.deps)) (sym c.new-2.ensures) group))

pub invariant_of-result : goal.invariant_of-result
invariant_of-result c = unknown false c.new-3.result.items c.args.locks c.new.result.items refl
