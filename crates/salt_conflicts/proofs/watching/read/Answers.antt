use Rattle.salt_deps.specs.Kept.{dependencies}
use Rattle.salt_conflicts.proofs.watching.read.Goals as goal
use Rattle.salt_conflicts.specs.Calls.{HasReadBy}
use Rattle.std.proofs.Common.{subst, sym}
use Rattle.std.proofs.lemmas.Result.{on_ok_weaker}

pub returns-in-Some-clause-reads : goal.returns-in-Some-clause-reads
returns-in-Some-clause-reads c =
    on_ok_weaker c.read.result
    (λ h. subst (λ o. HasReadBy o c.args.reach.now (dependencies c.args.deps.now) (dependencies c.read.new.self)) (sym c.in-Some.is) (h c.args.reach.now.mode))
    c.read.ensures.ok
