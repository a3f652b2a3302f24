use Rattle.salt_queue.proofs.Drops.{drop-first, drop-remove}
use Rattle.salt_queue.proofs.queue.Queue.remove.Goals as goal
use Rattle.std.proofs.Common.{ap, arith, drop, refl, ◌+◌, ◌∙◌, ◌≡◌}
use Rattle.std.specs.List.{remove}

pub returns-then-at-gt0 : goal.returns-then-at-gt0
returns-then-at-gt0 g c =
    let q = c.self.inside in
    ap (drop q.gone) c.remove-item.ensures.items
    ∙ (drop-remove q.items.items q.gone c.args.at (q.gone + c.args.at) refl ∙ ap (λ xs. remove xs c.args.at) c.self.view_is)

pub returns-then-self-len : goal.returns-then-self-len
returns-then-self-len g c =
    let q = c.self.inside in
    let first : 0 ≡ c.args.at = omega (arith, c.if-at-gt0.false) in
    c.sweep.ensures ∙ (drop-first q.items.items q.gone (q.gone + 1) refl ∙ (ap (λ xs. remove xs 0) c.self.view_is ∙ ap (remove c.args.self.now) first))

pub returns-else-self-len : goal.returns-else-self-len
returns-else-self-len g c =
    let q = c.self.inside in
    let first : 0 ≡ c.args.at = omega (arith, c.if-at-gt0.false) in
    drop-first q.items.items q.gone (q.gone + 1) refl ∙ (ap (λ xs. remove xs 0) c.self.view_is ∙ ap (remove c.args.self.now) first)
