use Rattle.salt_books.proofs.looks.names_of.Goals as goal
use Rattle.salt_books.specs.declared.held.Held.{Held}
use Rattle.salt_values.specs.declared.id.Id.{Id}
use Rattle.std.proofs.Common.{ap, arith, sym, take, ◌++◌, ◌∙◌, ◌∷◌, []}
use Rattle.std.proofs.lemmas.List.{map_more, take_all}
use Rattle.std.specs.Prelude.{map}

pub loop-held-preserved : goal.loop-held-preserved
loop-held-preserved c =
    let name : Held → Id = λ h. h.open.unit in
    let units = c.args.units.now in
    let at = c.loop-held.held-index in
    let held = c.held-item.result in
    c.in_ok-push.ensures.items
    ∙ ap (λ names. names ++ name held ∷ []) c.loop-held.invariant
    ∙ sym (map_more name units at held c.loop-held-test.true ∙ ap (λ h. map name (take at units) ++ name h ∷ []) (sym c.held-item.is))

pub returns : goal.returns
returns c =
    let name : Held → Id = λ h. h.open.unit in
    c.loop-held.invariant ∙ ap (map name) (take_all c.loop-held.held-index c.args.units.now (omega (arith, c.loop-held-test.false)))
