use Rattle.rows_pages.proofs.steps.first_rows.Goals as goal
use Rattle.std.proofs.Common.{refl, ◌∙◌}

pub loop-key-init : goal.loop-key-init
loop-key-init c = record { stands = c.requires; count = refl }

pub make-requires-clause-stands : goal.make-requires-clause-stands
make-requires-clause-stands c = c.loop-key.invariant.stands

pub loop-key-preserved : goal.loop-key-preserved
loop-key-preserved c = record { stands = c.in_ok-make.ensures.stands; count = c.make.ensures.count ∙ c.loop-key.invariant.count }
