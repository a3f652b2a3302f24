use Rattle.salt_queue.proofs.Drops.{drop-set}
use Rattle.salt_queue.proofs.queue.Queue.set.Goals as goal
use Rattle.std.proofs.Common.{ap, refl, ◌+◌, ◌∙◌}
use Rattle.std.specs.Prelude.{slice_set}

pub returns : goal.returns
returns g c =
    let q = c.self.inside in
    drop-set q.items.items q.gone c.args.at (q.gone + c.args.at) c.args.item refl ∙ ap (λ xs. slice_set xs c.args.at c.args.item) c.self.view_is
