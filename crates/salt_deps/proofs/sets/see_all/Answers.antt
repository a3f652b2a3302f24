use Rattle.salt_deps.proofs.Seeing.{sees-next, take-next}
use Rattle.salt_deps.proofs.sets.see_all.Goals as goal
use Rattle.salt_deps.specs.Walks.{SeesAll}
use Rattle.salt_values.specs.declared.id.Id.{Id}
use Rattle.std.proofs.Common.{get_or, subst, take}

pub loop-name-preserved : goal.loop-name-preserved
loop-name-preserved c =
    let zero : Id = record { boot = 0; seq = 0 } in
    let at = c.loop-name.name-index in
    let names = c.args.names.now in
    subst (λ l. SeesAll l c.args.seen.now.keys c.args.ahead.now.items c.see.new.seen.keys c.see.new.ahead.items) (take-next names at zero c.loop-name-test.true)
    (sees-next (take at names) (get_or names at zero) c.args.seen.now.keys c.args.ahead.now.items c.loop-name.seen.keys c.loop-name.ahead.items c.see.new.seen.keys c.see.new.ahead.items
    c.loop-name.invariant c.in_ok-see.ensures)
