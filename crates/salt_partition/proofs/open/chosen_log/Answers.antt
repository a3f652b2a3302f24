use Rattle.salt_partition.proofs.Opened.{has_chosen}
use Rattle.salt_partition.proofs.Steps.{unchanged}
use Rattle.salt_partition.proofs.open.chosen_log.Goals as goal
use Rattle.salt_partition.specs.Contents.{IsContent}
use Rattle.std.proofs.Common.{subst, ℕ, ◌+◌}

pub returns-in-Ok-clause-chosen : goal.returns-in-Ok-clause-chosen
returns-in-Ok-clause-chosen g c =
    let d0 = g.D.Disks.view c.args.disks.now in
    let d1 = g.D.Disks.view c.content_of.new.disks in
    let d2 = g.D.Disks.view c.content_of-2.new.disks in
    let part = c.args.part in
    has_chosen d0 d1 d2 part c.in_ok-a.a c.in_ok-b.b c.in-Ok.chosen.0 c.in-Ok.chosen.1 c.in_ok-a.ensures.kept.shape (unchanged d0 d1 c.in_ok-a.ensures.kept) c.in_ok-b.ensures.kept.shape (unchanged d1 d2 c.in_ok-b.ensures.kept)
    (subst (λ (k : ℕ). IsContent d0 d1 part k c.in_ok-a.a) c.log_a.ensures c.in_ok-a.ensures.content)
    (subst (λ (k : ℕ). IsContent d1 d2 part (k + 1) c.in_ok-b.b) c.log_a-2.ensures c.in_ok-b.ensures.content)
    c.in-Ok.ensures.0 c.in-Ok.ensures.1
