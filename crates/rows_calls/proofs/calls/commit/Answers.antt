use Rattle.rows_calls.proofs.Same.{same_part}
use Rattle.rows_calls.proofs.calls.commit.Goals as goal
use Rattle.salt_partition.proofs.Framed.{may_apply}
use Rattle.salt_partition.specs.Partitions.{prepared}
use Rattle.salt_stands.specs.Pieces.{with_prepared_unit}

pub apply-requires : goal.apply-requires
apply-requires c =
    let r = c.requires in
    record {
      p = r.p;
      v = with_prepared_unit r.v (prepared c.args.unit c.args.changes.now);
      applied = r.applied;
      is = same_part c.begin-2.ensures (c.in_ok-prepare.ensures.ok r.p r.v r.applied (same_part c.begin.ensures r.is) r.may);
      last = may_apply r.v r.applied c.args.unit c.args.changes.now r.may;
    }
