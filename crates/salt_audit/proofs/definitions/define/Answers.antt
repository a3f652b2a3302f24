use Rattle.law_definitions.specs.Texts.{definition_in}
use Rattle.salt_audit.proofs.Defining.{spells_none}
use Rattle.salt_audit.proofs.Fewness.{few_parts}
use Rattle.salt_audit.proofs.definitions.define.Goals as goal
use Rattle.salt_audit.specs.Telling.{with_program, with_table}
use Rattle.salt_model.specs.Kept.{Definition}
use Rattle.std.proofs.Common.{None, Option, ap, refl, sym, ◌∙◌, ◌≡◌}
use Rattle.std.proofs.lemmas.Result.{on_ok_weaker}

pub define_line-requires : goal.define_line-requires
define_line-requires c =
    few_parts c.limited_are_few.ensures c.args.text.now (λ d e. (c.definitions_are_read.ensures c.args.text.now d).0 e) c.in-Some.line (definition_in c.args.text.now) refl
    (sym c.in-Some.is ∙ c.in_ok-line.ensures)

pub returns-in-Some-clause-behind : goal.returns-in-Some-clause-behind
returns-in-Some-clause-behind c =
    on_ok_weaker c.define_line.result (λ behind n. behind n c.args.text.now (sym c.in_ok-line.ensures ∙ c.in-Some.is)) c.define_line.ensures.behind

pub returns-in-None-clause-behind : goal.returns-in-None-clause-behind
returns-in-None-clause-behind c = λ n.
    let s = c.args.state.now in
    let is : definition_in c.args.text.now ≡ None = spells_none (definition_in c.args.text.now) (sym c.in_ok-line.ensures ∙ c.in-None.is) in
    record {
      opened = refl;
      schema = sym (ap (λ (o : Option Definition). with_table o s.schema) is);
      programs = sym (ap (λ (o : Option Definition). with_program o s.catalogue) is);
      conts = refl;
      units = λ u. refl;
      bases = refl;
      accepted = refl;
      finished = refl;
    }
