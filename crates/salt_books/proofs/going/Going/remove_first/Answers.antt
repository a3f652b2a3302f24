use Rattle.salt_books.proofs.going.Going.remove_first.Goals as goal
use Rattle.salt_queue.proofs.Drops.{drop-first}
use Rattle.std.proofs.Common.{ap, arith, length, refl, ◌+◌, ◌∙◌}
use Rattle.std.proofs.lemmas.List.{length-drop}
use Rattle.std.specs.List.{remove}

pub overflow_add-self : goal.overflow_add-self
overflow_add-self c =
    let g = c.self.inside in
    omega (arith, c.requires, ap length c.self.view_is, length-drop g.gone g.items, c.len-count.ensures)

pub returns-else-self-count : goal.returns-else-self-count
returns-else-self-count c =
    let g = c.self.inside in
    drop-first g.items g.gone (g.gone + 1) refl ∙ ap (λ xs. remove xs 0) c.self.view_is
