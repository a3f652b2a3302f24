use Rattle.rows_paged.proofs.Staged.{may_prepare, stands_then}
use Rattle.rows_paged.proofs.generations.commit.Goals as goal
use Rattle.salt_disk.specs.MemDisks.{seen}
use Rattle.salt_paged.proofs.Framed.{may_apply}
use Rattle.salt_partition.specs.Partitions.{prepared}
use Rattle.salt_stands.specs.Pieces.{with_prepared_unit}
use Rattle.std.proofs.Common.{[], ◌++◌, ◌∷◌}

pub prepare-requires : goal.prepare-requires
prepare-requires c = may_prepare (seen c.args.disks.now) c.args.part.now c.args.unit c.in_ok-changes.changes c.requires c.in_ok-changes.ensures.ordered c.in_ok-changes.ensures.put

pub apply-requires : goal.apply-requires
apply-requires c =
    let s = may_prepare (seen c.args.disks.now) c.args.part.now c.args.unit c.in_ok-changes.changes c.requires c.in_ok-changes.ensures.ordered c.in_ok-changes.ensures.put in
    record {
      p = s.p;
      v = with_prepared_unit s.v (prepared c.args.unit c.in_ok-changes.changes);
      applied = s.applied;
      is = c.in_ok-prepare.ensures.ok s.p s.v s.applied s.is s.may;
      last = may_apply s.v s.applied c.args.unit c.in_ok-changes.changes s.may;
    }

pub returns-clause-stands : goal.returns-clause-stands
returns-clause-stands c =
    let s = may_prepare (seen c.args.disks.now) c.args.part.now c.args.unit c.in_ok-changes.changes c.requires c.in_ok-changes.ensures.ordered c.in_ok-changes.ensures.put in
    let v = with_prepared_unit s.v (prepared c.args.unit c.in_ok-changes.changes) in
    stands_then c.apply.result (seen c.apply.new.disks) c.apply.new.self s.p v (s.applied ++ c.args.unit ∷ [])
    (c.apply.ensures.ok s.p v s.applied (c.in_ok-prepare.ensures.ok s.p s.v s.applied s.is s.may) (may_apply s.v s.applied c.args.unit c.in_ok-changes.changes s.may))
