use Rattle.salt_model.specs.Tables.{with_changes}
use Rattle.salt_partition.proofs.Making.{row-put, row-removed}
use Rattle.salt_partition.proofs.rows.make_changes.Goals as goal
use Rattle.std.proofs.Common.{◌∙◌}

pub loop-change-init : goal.loop-change-init
unfolding with_changes
loop-change-init c = λ es same. same

pub loop-change-preserved-in_ok-insert-in-Some-row : goal.loop-change-preserved-in_ok-insert-in-Some-row
loop-change-preserved-in_ok-insert-in-Some-row c = λ es same.
    c.in_ok-insert-in-Some-row.ensures.entries
    ∙ row-put c.loop-change.yielded c.in-Some.change c.in-Some-row.row es c.loop-change.rows.entries c.in-Some-row.is (c.loop-change.invariant es same)

pub loop-change-preserved-in_ok-insert-in-Some-row-2 : goal.loop-change-preserved-in_ok-insert-in-Some-row-2
loop-change-preserved-in_ok-insert-in-Some-row-2 c = λ es same.
    c.in_ok-insert-in-Some-row.ensures.entries
    ∙ row-put c.loop-change.yielded c.in-Some.change c.in-Some-row.row es c.loop-change.rows.entries c.in-Some-row.is (c.loop-change.invariant es same)

pub loop-change-preserved-in-None-row : goal.loop-change-preserved-in-None-row
loop-change-preserved-in-None-row c = λ es same.
    c.remove.ensures.entries ∙ row-removed c.loop-change.yielded c.in-Some.change es c.loop-change.rows.entries c.in-None-row.is (c.loop-change.invariant es same)

pub loop-change-preserved : goal.loop-change-preserved
loop-change-preserved c = λ es same.
    c.remove.ensures.entries ∙ row-removed c.loop-change.yielded c.in-Some.change es c.loop-change.rows.entries c.in-None-row.is (c.loop-change.invariant es same)
