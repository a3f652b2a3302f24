use Rattle.salt_books.proofs.ids.bases_in.Goals as goal
use Rattle.salt_books.specs.Bases.{bases_in}
use Rattle.salt_values.specs.declared.cont.Cont.{Cont}
use Rattle.salt_values.specs.declared.id.Id.{Id}
use Rattle.std.proofs.Common.{ap, arith, sym, take, ◌++◌, ◌∙◌, ◌∷◌, []}
use Rattle.std.proofs.lemmas.List.{map_more, take_all}

pub loop-cont-preserved : goal.loop-cont-preserved
loop-cont-preserved c =
    let base : Cont → Id = λ x. x.base in
    let conts = c.args.conts.now in
    let at = c.loop-cont.cont-index in
    let cont = c.cont-item.result in
    c.in_ok-push.ensures.items
    ∙ ap (λ ids. ids ++ base cont ∷ []) c.loop-cont.invariant
    ∙ sym (map_more base conts at cont c.loop-cont-test.true ∙ ap (λ x. bases_in (take at conts) ++ base x ∷ []) (sym c.cont-item.is))

pub returns : goal.returns
returns c = c.loop-cont.invariant ∙ ap bases_in (take_all c.loop-cont.cont-index c.args.conts.now (omega (arith, c.loop-cont-test.false)))
