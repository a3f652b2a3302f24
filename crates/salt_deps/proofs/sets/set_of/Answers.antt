use Rattle.salt_deps.proofs.Linking.{put-in}
use Rattle.salt_deps.proofs.Seeing.{has-next, take-next}
use Rattle.salt_deps.proofs.sets.set_of.Goals as goal
use Rattle.salt_values.specs.Id.{has_id}
use Rattle.salt_values.specs.declared.id.Id.{Id}
use Rattle.std.proofs.Common.{ap, get_or, take, ◌∙◌}

pub loop-name-preserved : goal.loop-name-preserved
loop-name-preserved c q =
    let zero : Id = record { boot = 0; seq = 0 } in
    let at = c.loop-name.name-index in
    let names = c.args.names.now in
    has-next q (take at names) (get_or names at zero) c.loop-name.set.keys c.insert.new.self.keys (c.loop-name.invariant q)
    (put-in (get_or names at zero) c.loop-name.set c.insert.new.self c.in_ok-insert.ensures.updates.0 q) ∙ ap (has_id q) (take-next names at zero c.loop-name-test.true)
