use Rattle.salt_ast.specs.declared.trees.Statement.{Statement}
use Rattle.salt_model.specs.declared.events.Answer.{Answer}
use Rattle.salt_values.specs.Id.{is_same_id}
use Rattle.salt_audit.proofs.Named.{put_back}
use Rattle.salt_verdict.proofs.acts.note.Goals as goal
use Rattle.salt_verdict.specs.Ledger.{act_in, answers_in, done_in, vars_in}
use Rattle.salt_verdict.specs.declared.ledger.Act.{Act}
use Rattle.std.proofs.Common.{List, Some, [], ap, if◌then◌else◌, ◌++◌, ◌∙◌, ◌∷◌}

pub returns : goal.returns
returns c = λ u.
    let vars = c.taken-act.ensures.vars ∙ ap vars_in c.remove.ensures.value in
    let done = c.in_ok-push.ensures.ok ∙ ap (λ (l : List Statement). l ++ c.args.statement ∷ []) (c.taken-act.ensures.done ∙ ap done_in c.remove.ensures.value) in
    let answers = c.in_ok-push-2.ensures.ok ∙ ap (λ (l : List Answer). l ++ c.args.answer ∷ []) (c.taken-act.ensures.answers ∙ ap answers_in c.remove.ensures.value) in
    put_back c.args.acts.now c.remove.new.self c.insert.new.self c.args.unit
    (Some (record { vars = c.taken-act.result.vars; done = c.push.new.self; answers = c.push-2.new.self })) c.remove.ensures.updates.0 c.in_ok-insert.ensures.updates.0 u
    ∙ ap (λ (a : Act). if is_same_id u c.args.unit then Some a else act_in u c.args.acts.now) (λ i. record { vars = vars i; done = done i; answers = answers i })
