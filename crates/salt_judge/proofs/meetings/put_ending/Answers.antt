use Rattle.salt_values.specs.Id.{is_same_id}
use Rattle.salt_audit.proofs.Named.{one_put}
use Rattle.salt_judge.proofs.Meeting.{ending_put}
use Rattle.salt_judge.proofs.meetings.put_ending.Goals as goal
use Rattle.salt_judge.specs.Meetings.{is_ending}
use Rattle.std.proofs.Common.{Some, ap, ◌∙◌}

pub returns : goal.returns
returns c = λ u.
    ap is_ending (one_put c.args.endings.now c.insert.new.self c.args.unit (Some (record { committed = c.args.committed })) c.in_ok-insert.ensures.updates.0 u)
    ∙ ending_put c.args.endings.now u c.args.committed (is_same_id u c.args.unit)
