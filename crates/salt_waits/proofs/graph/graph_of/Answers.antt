use Rattle.salt_waits.proofs.Targets.{one_more_vertex}
use Rattle.salt_waits.proofs.graph.graph_of.Goals as goal
use Rattle.salt_waits.specs.Graphs.{Graph, IsGraphBelow}
use Rattle.std.proofs.Common.{◌+◌, refl, subst, sym}
use Rattle.std.proofs.lemmas.Option.{slice_get_read}

pub loop-unit-preserved : goal.loop-unit-preserved
loop-unit-preserved c =
    let list = c.args.list.now in
    let is = slice_get_read list _ c.loop-unit.unit-index c.unit-item.result refl c.loop-unit-test.true c.unit-item.is in
    subst (IsGraphBelow (c.loop-unit.unit-index + 1) list) (sym {A = Graph} c.in_ok-push.ensures.items) (one_more_vertex c.loop-unit.unit-index list c.loop-unit.graph.items c.unit-item.result c.in_ok-targets.field-0 is c.in_ok-targets.ensures c.loop-unit.invariant)
