use Rattle.law_states.specs.Overlays.{AreInOrder, Edit, edits_of, put_all, with_edits}
use Rattle.salt_model.specs.Words.{Every}
use Rattle.salt_model.specs.declared.vars.Binding.{Binding}
use Rattle.salt_units.proofs.Keeping.{statements-keep}
use Rattle.salt_units.proofs.Keyed.{in-order-put-all, keyed-under, keys-put-all}
use Rattle.salt_units.proofs.Variables.{outcome-stores}
use Rattle.salt_units.proofs.unit.OpenUnit.act.Goals as goal
use Rattle.salt_units.specs.Acting.{HaveTheirKeys, stored_by, vars_with}
use Rattle.salt_units.specs.Edited.{HasItsKey}
use Rattle.salt_values.specs.declared.change.Change.{Change}
use Rattle.std.proofs.Common.{List, Option, ap, subst, sym, ◌∙◌}

pub returns-clause-done : goal.returns-clause-done
returns-clause-done g c =
    let ds = edits_of c.args.self.now.changes.items in
    let es = with_edits ds (g.V.RowView.tables c.args.view.now) in
    let effect = c.in_ok-answer.ensures.done in
    record {
      answers = effect.answer;
      edits = c.in_ok-put_changes.ensures.put ∙ ap (λ (cs : List Change). put_all cs ds) effect.changes;
      variables =
          c.store.ensures
          ∙ ap (λ (s : Option Binding). vars_with s c.args.self.now.vars) (c.in_ok-stored.ensures ∙ ap (stored_by c.args.statement.now) effect.answer)
          ∙ sym (outcome-stores c.args.self.now.vars c.args.schema.now es c.args.statement.now);
    }

pub invariant_of-self-2-clause-in_order : goal.invariant_of-self-2-clause-in_order
invariant_of-self-2-clause-in_order g c =
    let ds = edits_of c.args.self.now.changes.items in
    subst (λ (l : List Edit). AreInOrder l) (sym c.in_ok-put_changes.ensures.put) (in-order-put-all c.in_ok-answer.changes ds c.args.self.now.in_order)

pub invariant_of-self-2-clause-have_keys : goal.invariant_of-self-2-clause-have_keys
invariant_of-self-2-clause-have_keys g c =
    let ds = edits_of c.args.self.now.changes.items in
    let es = with_edits ds (g.V.RowView.tables c.args.view.now) in
    let effect = c.in_ok-answer.ensures.done in
    let keyed = keyed-under ds (g.V.RowView.tables c.args.view.now) c.args.self.now.in_order c.args.self.now.have_keys c.requires.keyed in
    let each = statements-keep c.args.schema.now es c.args.self.now.vars c.args.statement.now c.requires.leaves_keys keyed in
    subst (λ (l : List Edit). HaveTheirKeys l) (sym c.in_ok-put_changes.ensures.put)
    (keys-put-all c.in_ok-answer.changes ds (subst (λ (cs : List Change). Every HasItsKey cs) (sym effect.changes) each) c.args.self.now.have_keys)
