use Rattle.salt_values.specs.declared.cont.Cont.{Cont}
use Rattle.salt_verdict.proofs.Putting.{none_there, set_there}
use Rattle.salt_verdict.proofs.goings.set_values.Goals as goal
use Rattle.std.proofs.Common.{None, Some, ap, sym, ◌∙◌, ◌≡◌}
use Rattle.std.specs.Option.{option_copied}
use Rattle.std.specs.Prelude.{set, slice_get}

pub returns-in_default : goal.returns-in_default
returns-in_default c =
    let none : slice_get c.args.conts.now c.args.at ≡ None = sym c.get.ensures.value ∙ ap option_copied c.in_default.is in
    none_there c.args.values c.args.conts.now c.args.at none

pub returns : goal.returns
returns c =
    let cs = c.args.conts.now in
    let cont = c.in-Some.cont.now in
    let there : slice_get cs c.args.at ≡ Some cont = sym c.get.ensures.value ∙ ap option_copied c.in-Some.is in
    c.set.ensures ∙ ap (λ (made : Cont). set cs c.args.at made) c.in_ok-made.ensures ∙ set_there c.args.values cs c.args.at cont there
