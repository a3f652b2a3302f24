use Rattle.salt_books.proofs.conts.is_at.Goals as goal
use Rattle.salt_values.specs.Id.{is_same_id}
use Rattle.salt_values.specs.declared.cont.Cont.{Cont}
use Rattle.std.proofs.Common.{ap, arith, sym, ◌∙◌}
use Rattle.std.proofs.lemmas.List.{get_or_default}

pub returns-then-at-conts-clause-there : goal.returns-then-at-conts-clause-there
returns-then-at-conts-clause-there c = λ yes.
    let x = c.index-conts-at.result in (
      c.if-at-conts.true,
      λ d. ap (λ (y : Cont). is_same_id c.args.base y.base) (sym (get_or_default c.args.conts.now c.args.at x d c.if-at-conts.true)) ∙ (sym c.is_same_id.ensures ∙ yes),
    )

pub returns-then-at-conts-clause-another : goal.returns-then-at-conts-clause-another
returns-then-at-conts-clause-another c = λ no h d.
    let x = c.index-conts-at.result in
    ap (λ (y : Cont). is_same_id c.args.base y.base) (sym (get_or_default c.args.conts.now c.args.at x d h)) ∙ (sym c.is_same_id.ensures ∙ no)

pub returns-else-at-conts-clause-another : goal.returns-else-at-conts-clause-another
returns-else-at-conts-clause-another c = λ no h d. let out = c.if-at-conts.false in absurd (omega (arith, h, out))
