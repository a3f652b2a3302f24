use Rattle.rows_runs.proofs.Counted.{either_way, run_count}
use Rattle.rows_runs.proofs.devices.Devices.run_between.Goals as goal
use Rattle.salt_disk.specs.MemDisks.{seen}
use Rattle.salt_disk.specs.declared.memory.MemDisks.{MemDisks}
use Rattle.std.proofs.Common.{ap, ◌∙◌}

pub invariant_of-self : goal.invariant_of-self
invariant_of-self c =
    either_way _ (λ is. run_count _ (c.run-ended.ensures.runs is)) (λ is. ap (λ (m : MemDisks). (seen m).count) (c.run-ended.ensures.audits is).3)
    ∙ c.restart.ensures.restarted.shape.count ∙ c.self.invariant
