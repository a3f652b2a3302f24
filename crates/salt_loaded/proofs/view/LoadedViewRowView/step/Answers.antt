use Rattle.salt_loaded.proofs.Viewed.{stepped}
use Rattle.salt_loaded.proofs.view.LoadedViewRowView.step.Goals as goal

pub returns-then-self-clause-row : goal.returns-then-self-clause-row
returns-then-self-clause-row c = stepped c.args.self.now.rows.now c.args.self.now.next c.args.self.now.end c.if-self.true c.args.self.now.within
