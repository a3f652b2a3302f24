use Rattle.salt_values.specs.Id.{is_same_id}
use Rattle.salt_audit.proofs.Named.{one_put}
use Rattle.salt_verdict.proofs.acts.begin.Goals as goal
use Rattle.salt_verdict.specs.Ledger.{act_in}
use Rattle.salt_verdict.specs.declared.ledger.Act.{Act}
use Rattle.std.proofs.Common.{Some, ap, if◌then◌else◌, ◌∙◌}

pub returns : goal.returns
returns c = λ u.
    one_put c.args.acts.now c.insert.new.self c.args.unit (Some (record { vars = c.args.vars; done = c.new.result; answers = c.new-2.result })) c.in_ok-insert.ensures.updates.0 u
    ∙ ap (λ (a : Act). if is_same_id u c.args.unit then Some a else act_in u c.args.acts.now) (λ i. record { vars = c.args.vars; done = c.new.ensures i; answers = c.new-2.ensures i })
