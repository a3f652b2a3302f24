use Rattle.salt_decisions.proofs.Moving.{on_ok}
use Rattle.salt_decisions.proofs.Places.{goes_behind, goes_in_place}
use Rattle.salt_decisions.proofs.moves.go_to.Goals as goal
use Rattle.salt_values.specs.Id.{is_same_id}
use Rattle.salt_values.specs.declared.cont.Cont.{Cont}
use Rattle.std.proofs.Common.{[], ap, sym, ◌++◌, ◌≡◌, ◌∙◌, ◌∷◌}
use Rattle.std.specs.List.{position}

pub returns-in-Some : goal.returns-in-Some
returns-in-Some c rise cs e =
    let cont = c.args.cont in
    let here = ap (position (λ (d : Cont). is_same_id cont.base d.base)) (sym c.as_slice.ensures) ∙ sym c.place_of.ensures ∙ c.in-Some.is in
    c.set.ensures ∙ goes_in_place cont c.args.conts.now cs c.in-Some.at here rise e

pub returns-in-None : goal.returns-in-None
returns-in-None c rise cs e =
    let cont = c.args.cont in
    let here = ap (position (λ (d : Cont). is_same_id cont.base d.base)) (sym c.as_slice.ensures) ∙ sym c.place_of.ensures ∙ c.in-None.is in
    on_ok c.push.result (c.push.new.self ≡ c.args.conts.now ++ cont ∷ []) (c.push.new.self ≡ cs) c.push.ensures.ok (λ made. made ∙ goes_behind cont c.args.conts.now cs here e)
