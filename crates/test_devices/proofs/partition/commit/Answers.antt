use Rattle.salt_partition.proofs.Framed.{may_apply}
use Rattle.test_devices.proofs.partition.commit.Goals as goal
use Rattle.salt_partition.specs.Partitions.{prepared}
use Rattle.salt_stands.specs.Pieces.{with_prepared_unit}

pub apply-requires : goal.apply-requires
apply-requires c =
    let r = c.requires in
    let unit = prepared c.args.unit c.args.changes.now in
    record {
      p = r.p;
      v = with_prepared_unit r.v unit;
      applied = r.applied;
      is = c.in_ok-prepare.ensures.ok r.p r.v r.applied r.is r.may;
      last = may_apply r.v r.applied c.args.unit c.args.changes.now r.may;
    }

pub returns : goal.returns
returns c p v applied is may =
    c.apply.ensures.ok p (with_prepared_unit v (prepared c.args.unit c.args.changes.now)) applied (c.in_ok-prepare.ensures.ok p v applied is may) (may_apply v applied c.args.unit c.args.changes.now may)
