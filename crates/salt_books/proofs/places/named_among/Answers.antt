use Rattle.salt_books.proofs.places.named_among.Goals as goal
use Rattle.std.proofs.Common.{Some, ap, rules, sym, ◌∙◌}

pub returns-in-Some : goal.returns-in-Some
returns-in-Some c = ap (λ x. Some x) c.index-units-at.is ∙ sym (c.in-Some.ensures.1 c.index-units-at.result)

pub returns-in-None : goal.returns-in-None
returns-in-None c = sym c.in-None.ensures

pub bounds-units-at : goal.bounds-units-at
bounds-units-at c = c.in-Some.ensures.0

pub offset_bounds-units-at : goal.offset_bounds-units-at
offset_bounds-units-at c = let below = c.in-Some.ensures.0 in search (rules, below)
