use Rattle.law_story.proofs.Ids.{is_same_id-true}
use Rattle.salt_conflicts.proofs.Naming.{differs}
use Rattle.salt_conflicts.proofs.programs.is_at.Goals as goal
use Rattle.salt_values.specs.declared.id.Id.{Id}
use Rattle.std.proofs.Common.{arith, sym, ◌∙◌}
use Rattle.std.proofs.lemmas.List.{get_or_default}
use Rattle.std.specs.Prelude.{get_or}

pub returns-then-at-names-clause-there : goal.returns-then-at-names-clause-there
returns-then-at-names-clause-there c = λ yes.
    let zero : Id = record { boot = 0; seq = 0 } in
    let at = c.args.at in
    let names = c.args.names.now in (
      c.if-at-names.true,
      λ d. get_or_default names at d zero c.if-at-names.true ∙ is_same_id-true (get_or names at zero) c.args.name (sym c.is_same_id.ensures ∙ yes),
    )

pub returns-then-at-names-clause-another : goal.returns-then-at-names-clause-another
returns-then-at-names-clause-another c = λ no h d is.
    let zero : Id = record { boot = 0; seq = 0 } in
    let at = c.args.at in
    let names = c.args.names.now in
    differs (get_or names at zero) c.args.name (sym c.is_same_id.ensures ∙ no) (get_or_default names at zero d h ∙ is)

pub returns-else-at-names-clause-another : goal.returns-else-at-names-clause-another
returns-else-at-names-clause-another c = λ no h d is. let out = c.if-at-names.false in absurd (omega (arith, h, out))
