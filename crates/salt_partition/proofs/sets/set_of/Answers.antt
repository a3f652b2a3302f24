use Rattle.salt_values.specs.Id.{has_id}
use Rattle.salt_partition.proofs.Names.{put_next}
use Rattle.salt_partition.proofs.sets.set_of.Goals as goal
use Rattle.salt_values.specs.declared.id.Id.{Id}
use Rattle.std.proofs.Common.{ap, get_or, sym, take, ◌∙◌}
use Rattle.std.proofs.lemmas.List.{take_more}

pub loop-id-preserved : goal.loop-id-preserved
loop-id-preserved c q =
    let zero : Id = record { boot = 0; seq = 0 } in
    let at = c.loop-id.id-index in
    let ids = c.args.ids.now in
    put_next (get_or ids at zero) q (take at ids) c.loop-id.set c.insert.new.self c.in_ok-insert.ensures.updates.0 (c.loop-id.invariant q) ∙ ap (has_id q) (sym (take_more ids at zero c.loop-id-test.true))
