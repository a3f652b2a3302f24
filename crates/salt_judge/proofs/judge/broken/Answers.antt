use Rattle.salt_audit.specs.Verdicts.{Break, breaking}
use Rattle.salt_audit.specs.declared.verdict.Law.TheVariants.{Honest, Salted, Whole}
use Rattle.salt_judge.proofs.judge.broken.Goals as goal
use Rattle.salt_values.specs.declared.id.Id.{Id}
use Rattle.std.proofs.Common.{List, Option, ap, ◌++◌, ◌∙◌}
use Rattle.std.specs.Option.{option_or}

pub returns : goal.returns
returns c =
    let honest = c.in_ok-first.ensures ∙ ap (breaking Honest) (c.as_slice.ensures ∙ c.in_ok-append.ensures ∙ ap (λ (us : List Id). us ++ c.args.amiss) c.in_ok-dishonest.ensures) in
    let salted = c.in_ok-second.ensures ∙ ap (breaking Salted) c.as_slice-2.ensures in
    let whole = c.in_ok-third.ensures ∙ ap (breaking Whole) (c.as_slice-3.ensures ∙ c.in_ok-whole.ensures) in
    c.or-2.ensures ∙ ap (λ (o : Option Break). option_or c.in_ok-first.first o) c.or.ensures ∙ (λ i. option_or (honest i) (option_or (salted i) (whole i)))
