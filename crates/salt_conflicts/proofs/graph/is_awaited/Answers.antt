use Rattle.salt_deps.specs.Kept.{dependencies}
use Rattle.salt_conflicts.proofs.Awaiting.{no-base, some-awaited}
use Rattle.salt_conflicts.proofs.graph.is_awaited.Goals as goal
use Rattle.std.proofs.Common.{ap, false, not, sym, true, ◌∙◌}

pub returns-then-has_id : goal.returns-then-has_id
returns-then-has_id c =
    ap not c.is_finished.ensures
    ∙ some-awaited (dependencies c.args.deps.now).finished c.args.base c.in-Some.base c.args.among.now true c.in-Some.is (sym c.has_id.ensures ∙ c.if-has_id.true)

pub returns-else-has_id : goal.returns-else-has_id
returns-else-has_id c =
    c.if-has_id.false ∙ some-awaited (dependencies c.args.deps.now).finished c.args.base c.in-Some.base c.args.among.now false c.in-Some.is (sym c.has_id.ensures ∙ c.if-has_id.false)

pub returns-in-None : goal.returns-in-None
returns-in-None c = no-base (dependencies c.args.deps.now).finished c.args.base c.args.among.now c.in-None.is
