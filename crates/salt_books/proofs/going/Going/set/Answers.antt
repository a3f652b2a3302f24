use Rattle.salt_books.proofs.going.Going.set.Goals as goal
use Rattle.salt_queue.proofs.Drops.{drop-set}
use Rattle.std.proofs.Common.{ap, arith, drop, length, refl, ◌+◌, ◌∙◌}
use Rattle.std.proofs.lemmas.List.{length-drop}
use Rattle.std.specs.Prelude.{slice_set}

pub returns : goal.returns
returns c =
    let g = c.self.inside in
    ap (drop g.gone) c.set.ensures
    ∙ (drop-set g.items g.gone c.args.at (g.gone + c.args.at) c.args.cont refl ∙ ap (λ xs. slice_set xs c.args.at c.args.cont) c.self.view_is)

pub overflow_add-self-inside : goal.overflow_add-self-inside
overflow_add-self-inside c =
    let g = c.self.inside in
    omega (arith, c.requires, ap length c.self.view_is, length-drop g.gone g.items, c.len-count.ensures)
