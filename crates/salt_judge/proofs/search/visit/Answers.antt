use Rattle.salt_judge.proofs.Searching.{visit_marked}
use Rattle.salt_judge.proofs.search.visit.Goals as goal
use Rattle.std.proofs.Common.{Bool, [], ap, if◌then◌else◌, ◌++◌, ◌∙◌, ◌∷◌}

pub returns-clause-found : goal.returns-clause-found
returns-clause-found c =
    let found = c.args.found.now in
    c.in_ok-add_new.ensures.found
    ∙ ap (λ (t : Bool). if t then found ++ c.args.unit ∷ [] else found) (c.is_new-is.ensures ∙ visit_marked c.args.ledger.now c.args.settled.now c.args.marks.now found c.args.unit c.requires)
