use Rattle.salt_decisions.proofs.Places.{ends_here, ends_nowhere}
use Rattle.salt_decisions.proofs.moves.finish.Goals as goal
use Rattle.salt_values.specs.Id.{is_same_id}
use Rattle.salt_values.specs.declared.cont.Cont.{Cont}
use Rattle.std.proofs.Common.{ap, sym, ◌∙◌}
use Rattle.std.specs.List.{position}

pub returns-in-Some : goal.returns-in-Some
returns-in-Some c rise cs e =
    let here = ap (position (λ (d : Cont). is_same_id c.args.base d.base)) (sym c.as_slice.ensures) ∙ sym c.place_of.ensures ∙ c.in-Some.is in
    c.remove.ensures.rest ∙ ends_here c.args.base c.args.conts.now cs c.in-Some.at c.remove.result here rise e

pub returns-in-None : goal.returns-in-None
returns-in-None c rise cs e =
    let here = ap (position (λ (d : Cont). is_same_id c.args.base d.base)) (sym c.as_slice.ensures) ∙ sym c.place_of.ensures ∙ c.in-None.is in
    ends_nowhere c.args.base c.args.conts.now cs here e
