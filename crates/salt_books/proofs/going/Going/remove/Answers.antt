use Rattle.salt_books.proofs.going.Going.remove.Goals as goal
use Rattle.salt_queue.proofs.Drops.{drop-remove}
use Rattle.std.proofs.Common.{ap, arith, drop, length, refl, ◌+◌, ◌∙◌}
use Rattle.std.proofs.lemmas.List.{length-drop}
use Rattle.std.specs.List.{remove}

pub returns-else-at-eq0 : goal.returns-else-at-eq0
returns-else-at-eq0 c =
    let g = c.self.inside in
    ap (drop g.gone) c.remove-cont.ensures.rest
    ∙ (drop-remove g.items g.gone c.args.at (g.gone + c.args.at) refl ∙ ap (λ xs. remove xs c.args.at) c.self.view_is)

pub overflow_add-self-inside : goal.overflow_add-self-inside
overflow_add-self-inside c =
    let g = c.self.inside in
    omega (arith, c.requires, ap length c.self.view_is, length-drop g.gone g.items, c.len-count.ensures)
