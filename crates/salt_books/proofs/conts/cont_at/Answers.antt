use Rattle.salt_books.proofs.Ordered.{found-there, none-found}
use Rattle.salt_books.proofs.conts.cont_at.Goals as goal
use Rattle.std.proofs.Common.{Some, ap, rules, sym, ◌∙◌}

pub returns-in-Some : goal.returns-in-Some
returns-in-Some c =
    let d = c.index-conts-at.result in
    let at = c.place_of.ensures.there c.in-Some.at c.in-Some.is in
    ap (λ x. Some x) c.index-conts-at.is ∙ sym (found-there c.args.base c.args.conts.now c.in-Some.at d c.requires at.0 (at.1 d))

pub returns-in-None : goal.returns-in-None
returns-in-None c = sym (none-found c.args.base c.args.conts.now (c.place_of.ensures.none c.in-None.is))

pub bounds-conts-at : goal.bounds-conts-at
bounds-conts-at c = (c.place_of.ensures.there c.in-Some.at c.in-Some.is).0

pub offset_bounds-conts-at : goal.offset_bounds-conts-at
offset_bounds-conts-at c = let below = (c.place_of.ensures.there c.in-Some.at c.in-Some.is).0 in search (rules, below)
