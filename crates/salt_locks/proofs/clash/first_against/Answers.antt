use Rattle.salt_locks.proofs.Parts.{find_here, find_later, part_from}
use Rattle.salt_locks.proofs.clash.first_against.Goals as goal
use Rattle.salt_model.specs.Locks.{clashes}
use Rattle.std.proofs.Common.{ap, sym, ◌+◌, ◌-◌, ◌∙◌}
use Rattle.std.specs.List.{find}
use Rattle.std.specs.Prelude.{drop, take}

pub returns-then-clashes : goal.returns-then-clashes
returns-then-clashes c =
    let p = clashes c.args.owner c.args.family c.args.reach.now in
    let ls = c.args.locks.now.items in
    let at = c.loop-at.at in
    let to = c.args.part.1 in
    let l = c.index-lock.result.now in
    sym (ap (find p) (part_from ls at to l c.loop-at-test.true c.requires c.index-lock.ensures) ∙ find_here p l (take (to - (at + 1)) (drop (at + 1) ls)) (sym c.if-clashes.ensures))
    ∙ c.loop-at.invariant

pub loop-at-preserved : goal.loop-at-preserved
loop-at-preserved c =
    let p = clashes c.args.owner c.args.family c.args.reach.now in
    let ls = c.args.locks.now.items in
    let at = c.loop-at.at in
    let to = c.args.part.1 in
    let l = c.index-lock.result.now in
    sym (ap (find p) (part_from ls at to l c.loop-at-test.true c.requires c.index-lock.ensures) ∙ find_later p l (take (to - (at + 1)) (drop (at + 1) ls)) (sym c.if-clashes.ensures))
    ∙ c.loop-at.invariant
