use Rattle.law_definitions.specs.Texts.{definition_in}
use Rattle.salt_audit.proofs.Defining.{spells_other, spells_program, spells_table}
use Rattle.salt_audit.proofs.definitions.define_line.Goals as goal
use Rattle.salt_audit.specs.Telling.{with_program, with_table}
use Rattle.salt_model.specs.Kept.{Definition, OfProgram, OfTable}
use Rattle.salt_scheduler.specs.Refusals.{HasFewParts}
use Rattle.std.proofs.Common.{Option, Some, ap, refl, subst, sym, ◌∙◌, ◌≡◌}
use Rattle.std.proofs.lemmas.Result.{on_ok_weaker}

pub define_program-requires : goal.define_program-requires
define_program-requires c = subst HasFewParts c.in-Program.is c.requires

pub returns-in-Table-clause-behind : goal.returns-in-Table-clause-behind
returns-in-Table-clause-behind c = on_ok_weaker c.define_table.result (λ e n text spelled.
    let s = c.args.state.now in
    let is : definition_in text ≡ Some (OfTable c.in-Table.def) = spells_table (definition_in text) c.in-Table.def (spelled ∙ ap Some c.in-Table.is) in
    record {
      opened = refl;
      schema = e ∙ sym (ap (λ (o : Option Definition). with_table o s.schema) is);
      programs = sym (ap (λ (o : Option Definition). with_program o s.catalogue) is);
      conts = refl;
      units = λ u. refl;
      bases = refl;
      accepted = refl;
      finished = refl;
    }) c.define_table.ensures

pub returns-in-Program-clause-behind : goal.returns-in-Program-clause-behind
returns-in-Program-clause-behind c = on_ok_weaker c.define_program.result (λ e n text spelled.
    let s = c.args.state.now in
    let is : definition_in text ≡ Some (OfProgram c.in-Program.def) = spells_program (definition_in text) c.in-Program.def (spelled ∙ ap Some c.in-Program.is) in
    record {
      opened = refl;
      schema = sym (ap (λ (o : Option Definition). with_table o s.schema) is);
      programs = e ∙ sym (ap (λ (o : Option Definition). with_program o s.catalogue) is);
      conts = refl;
      units = λ u. refl;
      bases = refl;
      accepted = refl;
      finished = refl;
    }) c.define_program.ensures.defined

pub returns-in_default-clause-behind : goal.returns-in_default-clause-behind
returns-in_default-clause-behind c = λ n text spelled.
    absurd (spells_other (definition_in text) c.args.line.now spelled c.in_default.not-Table c.in_default.not-Program)
