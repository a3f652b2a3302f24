use Rattle.salt_deps.specs.Kept.{dependencies}
use Rattle.law_states.specs.DependencyCalls.{WroteAll}
use Rattle.salt_conflicts.proofs.Steps.{mapped-more, wrote-more}
use Rattle.salt_conflicts.proofs.watching.wrote.Goals as goal
use Rattle.salt_conflicts.specs.Watched.{place_of}
use Rattle.std.proofs.Common.{arith, map, subst, sym, take}

pub loop-at-preserved : goal.loop-at-preserved
loop-at-preserved c =
    let changes = c.args.changes.now.items in
    let at = c.loop-at.at in
    let change = c.index-change.result.now in
    let old = dependencies c.args.deps.now in
    let new = dependencies c.wrote.new.self in
    subst (λ ps. WroteAll c.args.base ps old new) (sym (mapped-more place_of changes at change (omega (arith, c.loop-at-test.true, c.len-at-end.ensures, c.args.changes.now.ok.0)) c.index-change.ensures))
    (wrote-more c.args.base (map place_of (take at changes)) (place_of change) old (dependencies c.loop-at.deps) new c.loop-at.invariant c.in_ok-wrote.ensures.ok)
