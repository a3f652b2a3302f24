use Rattle.law_states.specs.Overlays.{edits_of, with_edits}
use Rattle.salt_model.specs.declared.vars.Binding.{Binding}
use Rattle.salt_values.specs.declared.change.Change.{Change}
use Rattle.salt_audit.specs.Standing.{begun_in}
use Rattle.salt_verdict.proofs.steps.take_commit.Goals as goal
use Rattle.salt_verdict.specs.Again.{Outcome}
use Rattle.salt_verdict.specs.Goings.{conts_noted}
use Rattle.salt_verdict.specs.Ledger.{act_in, done_in, vars_in}
use Rattle.salt_verdict.specs.Made.{tables_made}
use Rattle.std.proofs.Common.{List, ap, refl, sym, ◌∙◌}

pub returns-clause-after : goal.returns-clause-after
returns-clause-after c =
    let l = c.args.ledger.now in
    let u = c.args.unit in
    let same = c.in_ok-again.ensures.outcome in
    let es = tables_made l.rows in
    record {
      state = c.in_ok-tell_commit.ensures.behind;
      rows = c.in_ok-commit.ensures
          ∙ ap (λ (cs : List Change). with_edits (edits_of cs) es) c.into_changes.ensures.changes
          ∙ ap (λ (o : Outcome). with_edits o.edits es) same
          ∙ sym (c.runs_make_the_tables.ensures l.state.schema es (vars_in (act_in u l.acts)) (done_in (act_in u l.acts)));
      conts = c.in_ok-tell_commit.ensures.conts
          ∙ ap (λ (vars : List Binding). conts_noted l.state.catalogue c.args.number vars (begun_in u l.state.units) l.state.conts) (c.as_slice.ensures ∙ ap (λ (o : Outcome). o.vars) same);
      acts = λ v. c.forget.ensures v;
      order = refl;
      active = c.drop_ids.ensures;
    }
