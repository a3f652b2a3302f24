use Rattle.salt_values.specs.declared.id.Id.{Id}
use Rattle.salt_audit.proofs.Marking.{marked_more}
use Rattle.salt_judge.proofs.search.add.Goals as goal
use Rattle.salt_audit.specs.Marks.{AreMarks}
use Rattle.std.proofs.Common.{List, subst, sym}

pub returns-clause-marks : goal.returns-clause-marks
returns-clause-marks c =
    subst (λ (found : List Id). AreMarks c.mark.new.marks found) (sym c.in_ok-push.ensures.ok)
    (marked_more c.args.marks.now c.mark.new.marks c.args.found.now c.args.unit c.requires c.in_ok-mark.ensures.ok)
