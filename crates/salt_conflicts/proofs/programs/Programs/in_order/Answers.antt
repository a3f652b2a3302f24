use Rattle.salt_conflicts.proofs.Finishing.{in-order-already}
use Rattle.salt_conflicts.proofs.Naming.{rising-of}
use Rattle.salt_conflicts.proofs.programs.Programs.in_order.Goals as goal
use Rattle.std.proofs.Common.{◌∙◌}
use Rattle.std.proofs.lemmas.Result.{IfOk-weaker}

pub returns-then-self : goal.returns-then-self
returns-then-self c =
    IfOk-weaker c.from_slice.result _ _
    (λ ids is. is ∙ (c.as_slice.ensures ∙ in-order-already c.args.self.now.names (rising-of c.args.self.now.names (c.args.self.now.known c.if-self.true))))
    c.from_slice.ensures.items
