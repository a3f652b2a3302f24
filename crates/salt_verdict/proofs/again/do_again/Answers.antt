use Rattle.salt_verdict.proofs.Doing.{OfEdits, ended_gives, failed_first, made, serial_outcome}
use Rattle.salt_verdict.proofs.again.do_again.Goals as goal
use Rattle.law_states.specs.Overlays.{edits_of, with_edits}
use Rattle.salt_ast.specs.declared.trees.Statement.{Statement}
use Rattle.salt_model.specs.Statements.{outcome_of}
use Rattle.salt_model.specs.Tables.{Tables}
use Rattle.salt_model.specs.declared.events.Answer.{Answer}
use Rattle.salt_units.specs.Acting.{HasDone}
use Rattle.std.proofs.Common.{List, ap, subst, sym, ◌∙◌}

pub returns-in_default : goal.returns-in_default
returns-in_default g c =
    let laws : OfEdits = record { rows = λ ds es q o. c.edits_make_the_tables.ensures.rows ds es q o; made = λ ds es now o h. c.edits_make_the_tables.ensures.made ds es now o h } in
    record {
      outcome =
          ended_gives (g.V.RowView.tables c.args.view.now) c.args.schema.now c.statements.answers _ c.statements.unit.vars c.statements.left.now c.in_default.len_below
          ∙ c.statements.invariant.same
          ∙ serial_outcome laws (g.V.RowView.tables c.args.view.now) c.args.schema.now c.args.vars c.args.done.now;
    }

pub returns-then-failed : goal.returns-then-failed
returns-then-failed g c =
    let laws : OfEdits = record { rows = λ ds es q o. c.edits_make_the_tables.ensures.rows ds es q o; made = λ ds es now o h. c.edits_make_the_tables.ensures.made ds es now o h } in
    let es = g.V.RowView.tables c.args.view.now in
    let before = c.statements in
    let shown = subst
    (λ (t : Tables). HasDone (outcome_of c.args.schema.now (with_edits (edits_of before.unit.changes.items) t) before.unit.vars c.get-in-statements.result.now) c.in_ok-answer.answer
    (edits_of before.unit.changes.items) (edits_of c.act.new.self.changes.items) c.act.new.self.vars)
    before.invariant.kept c.in_ok-answer.ensures.done in
    let done = subst
    (λ (st : Statement). HasDone (outcome_of c.args.schema.now (with_edits (edits_of before.unit.changes.items) es) before.unit.vars st) c.in_ok-answer.answer
    (edits_of before.unit.changes.items) (edits_of c.act.new.self.changes.items) c.act.new.self.vars)
    c.get-in-statements.ensures shown in
    record {
      outcome =
          ap (λ (as_ : List Answer). made as_ c.act.new.self.vars (edits_of c.act.new.self.changes.items)) c.in_ok-push.ensures.ok
          ∙ failed_first es c.args.schema.now before.answers (edits_of before.unit.changes.items) before.unit.vars before.left.now c.statement-item.result c.in_ok-answer.answer
          (edits_of c.act.new.self.changes.items) c.act.new.self.vars c.in-len1-up.len_at_least c.statement-item.is done (sym c.if-failed.ensures)
          ∙ before.invariant.same
          ∙ serial_outcome laws es c.args.schema.now c.args.vars c.args.done.now;
    }
