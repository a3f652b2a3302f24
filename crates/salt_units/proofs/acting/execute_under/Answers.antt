use Rattle.law_states.specs.Overlays.{edits_of}
use Rattle.salt_units.proofs.Keyed.{keyed-under}
use Rattle.salt_units.proofs.Overlaid.{rows-keyed}
use Rattle.salt_units.proofs.acting.execute_under.Goals as goal

pub invariant_of-overlay-clause-keyed : goal.invariant_of-overlay-clause-keyed
invariant_of-overlay-clause-keyed g c = rows-keyed (g.V.RowView.tables c.args.view.now) c.requires.keyed

pub execute_over-requires : goal.execute_over-requires
execute_over-requires g c = keyed-under (edits_of c.args.changes.now.items) (g.V.RowView.tables c.args.view.now) c.requires.in_order c.requires.have_keys c.requires.keyed
