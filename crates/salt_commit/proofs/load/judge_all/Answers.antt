use Rattle.salt_commit.proofs.Loaded.{met_fit}
use Rattle.salt_commit.proofs.load.judge_all.Goals as goal
use Rattle.std.proofs.Common.{sym, ◌∙◌}

pub returns-then-branch-clause-typed : goal.returns-then-branch-clause-typed
returns-then-branch-clause-typed g c = met_fit c.args.schema.now c.args.rows.now (sym c.in_ok-meet.ensures ∙ c.if-branch.true) c.requires.keyed
