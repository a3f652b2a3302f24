use Rattle.salt_deps.proofs.Linking.{taken-out, takes-next, takes-none}
use Rattle.salt_deps.proofs.Seeing.{take-next}
use Rattle.salt_deps.proofs.sets.take_out.Goals as goal
use Rattle.salt_values.specs.Id.{has_id}
use Rattle.salt_values.specs.declared.id.Id.{Id}
use Rattle.std.proofs.Common.{get_or, not, subst, take, ◌&&◌, ◌≡◌}

pub loop-name-init : goal.loop-name-init
loop-name-init c q = takes-none q c.args.set.now.keys

pub loop-name-preserved : goal.loop-name-preserved
loop-name-preserved c q =
    let zero : Id = record { boot = 0; seq = 0 } in
    let at = c.loop-name.name-index in
    let names = c.args.names.now in
    subst (λ l. has_id q c.remove.new.self.keys ≡ (has_id q c.args.set.now.keys && not (has_id q l))) (take-next names at zero c.loop-name-test.true)
    (takes-next q (take at names) (get_or names at zero) c.args.set.now.keys c.loop-name.set.keys c.remove.new.self.keys (c.loop-name.invariant q)
    (taken-out (get_or names at zero) c.loop-name.set c.remove.new.self c.remove.ensures.updates.0 q))
