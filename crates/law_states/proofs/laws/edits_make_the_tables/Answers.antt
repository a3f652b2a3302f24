use Rattle.law_states.proofs.OneUnit.{edits-in-order, run-tables}
use Rattle.law_states.proofs.Overlays.{edited-row, is-edited}
use Rattle.law_states.proofs.laws.edits_make_the_tables.Goals as goal

pub returns-clause-run : goal.returns-clause-run
returns-clause-run c = run-tables

pub returns-clause-rows : goal.returns-clause-rows
returns-clause-rows c = edited-row

pub returns-clause-made : goal.returns-clause-made
returns-clause-made c = is-edited

pub returns-clause-in_order : goal.returns-clause-in_order
returns-clause-in_order c = edits-in-order
