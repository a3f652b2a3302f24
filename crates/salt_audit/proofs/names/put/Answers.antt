use Rattle.salt_audit.proofs.Marking.{marked_more, popped}
use Rattle.salt_audit.proofs.names.put.Goals as goal
use Rattle.salt_audit.specs.Marks.{AreMarks}
use Rattle.salt_values.specs.Id.{has_id}
use Rattle.std.proofs.Common.{ap, subst, sym, ◌∙◌}

pub returns-in-Ok-clause-marks : goal.returns-in-Ok-clause-marks
returns-in-Ok-clause-marks c =
    subst (AreMarks c.mark.new.marks) (sym c.in_ok-push.ensures.ok) (marked_more c.args.marks.now c.mark.new.marks c.args.ids.now c.args.id c.requires c.in-Ok.ensures.ok)

pub returns-in-Err-clause-err : goal.returns-in-Err-clause-err
returns-in-Err-clause-err c = popped c.pop.result c.push.new.self c.pop.new.self c.args.ids.now c.args.id c.in_ok-push.ensures.ok c.pop.ensures

pub returns-in-Err-clause-marks : goal.returns-in-Err-clause-marks
returns-in-Err-clause-marks c = λ u.
    c.in-Err.ensures.err u ∙ c.requires u
    ∙ ap (has_id u) (sym (popped c.pop.result c.push.new.self c.pop.new.self c.args.ids.now c.args.id c.in_ok-push.ensures.ok c.pop.ensures))
