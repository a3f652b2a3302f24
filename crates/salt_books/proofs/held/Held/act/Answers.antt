use Rattle.salt_books.proofs.Loaded.{loaded-views}
use Rattle.salt_books.proofs.held.Held.act.Goals as goal
use Rattle.salt_books.specs.Held.{seen}
use Rattle.salt_eval.specs.Scans.{IsKeyed}
use Rattle.law_states.specs.OpenUnits.{OpenUnit}
use Rattle.law_states.specs.Overlays.{put_all, with_edits}
use Rattle.law_states.specs.Steps.{outcome_under}
use Rattle.salt_model.specs.Statements.{Done, outcome_of}
use Rattle.std.proofs.Common.{None, ap, false, subst, sym, ◌∙◌, ◌≡◌}

pub act-requires-clause-keyed : goal.act-requires-clause-keyed
act-requires-clause-keyed c = subst IsKeyed (sym c.new-view.ensures) c.requires.keyed

pub returns-in-Ok : goal.returns-in-Ok
returns-in-Ok c = record {
  done = λ k schema loaded.
      let old : OpenUnit = seen c.args.self.now in
      let sorted = c.args.self.now.open.in_order in
      let rows = c.args.rows.now in
      let st = c.args.statement.now in
      let d = c.in-Ok.ensures.done in
      let law = c.statements_are_done_under_edits.ensures in
      let same : outcome_of c.args.schema.now (with_edits old.changes (_)) old.vars st ≡ outcome_under k old st =
      (λ i. outcome_of (schema i) (with_edits old.changes (c.new-view.ensures i)) old.vars st)
      ∙ (law.alike k old st sorted).in_views (with_edits old.changes rows) (loaded-views law.stored (_) old.changes k.tables rows sorted loaded) in
      record {
        answer = d.answers ∙ ap (λ (x : Done). x.answer) same;
        unit = λ i. record old {
          waiting = false;
          asks = None;
          done = c.in_ok-done.ensures i;
          unit = c.in-Ok.ensures.unit i;
          vars = (d.variables ∙ ap (λ (x : Done). x.vars) same) i;
          changes = (d.edits ∙ ap (λ (x : Done). put_all x.changes old.changes) same) i;
        };
      };
  unit = c.in-Ok.ensures.unit;
}
