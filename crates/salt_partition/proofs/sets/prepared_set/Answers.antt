use Rattle.salt_codec.specs.declared.prepared.PreparedUnit.{PreparedUnit}
use Rattle.salt_partition.proofs.Names.{prepared_next}
use Rattle.salt_partition.proofs.sets.prepared_set.Goals as goal
use Rattle.salt_partition.specs.Contents.{units_of}
use Rattle.salt_stands.specs.Pieces.{is_prepared_in}
use Rattle.std.proofs.Common.{List, [], ap, sym, take, ◌++◌, ◌∙◌, ◌∷◌}
use Rattle.std.proofs.lemmas.List.{take_more}

pub loop-prepared-preserved : goal.loop-prepared-preserved
loop-prepared-preserved c q =
    let at = c.loop-prepared.prepared-index in
    let units = c.args.units.now in
    let x = c.prepared-item.result in
    let longer = take_more units at x c.loop-prepared-test.true ∙ ap (λ (y : PreparedUnit). take at units ++ y ∷ []) (sym c.prepared-item.is) in
    prepared_next (take at units) x q c.loop-prepared.set c.insert.new.self c.in_ok-insert.ensures.updates.0 (c.loop-prepared.invariant q)
    ∙ ap (λ (l : List PreparedUnit). is_prepared_in q (units_of l)) (sym longer)
