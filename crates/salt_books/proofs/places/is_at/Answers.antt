use Rattle.salt_books.proofs.places.is_at.Goals as goal
use Rattle.salt_books.specs.Names.{has_name}
use Rattle.std.proofs.Common.{ap, arith, sym, ◌∙◌}
use Rattle.std.proofs.lemmas.List.{get_or_default}

pub returns-then-at-units-clause-there : goal.returns-then-at-units-clause-there
returns-then-at-units-clause-there c = λ yes.
    let x = c.index-units-at.result in (
      c.if-at-units.true,
      λ d. ap (has_name c.args.unit) (sym (get_or_default c.args.units.now c.args.at x d c.if-at-units.true) ∙ sym c.index-units-at.is) ∙ (sym c.is_named.ensures ∙ yes),
    )

pub returns-then-at-units-clause-another : goal.returns-then-at-units-clause-another
returns-then-at-units-clause-another c = λ no h d.
    let x = c.index-units-at.result in
    ap (has_name c.args.unit) (sym (get_or_default c.args.units.now c.args.at x d h) ∙ sym c.index-units-at.is) ∙ (sym c.is_named.ensures ∙ no)

pub returns-else-at-units-clause-another : goal.returns-else-at-units-clause-another
returns-else-at-units-clause-another c = λ no h d. let out = c.if-at-units.false in absurd (omega (arith, h, out))
