use Rattle.salt_judge.proofs.Searching.{visited_app}
use Rattle.salt_judge.proofs.search.visit_near.Goals as goal
use Rattle.salt_judge.specs.Reads.{parts_near, program_in, sources_in}
use Rattle.salt_judge.specs.Searching.{visited_all}
use Rattle.salt_values.specs.declared.id.Id.{Id}
use Rattle.std.proofs.Common.{List, Option, ap, ◌∙◌}

pub returns-clause-found : goal.returns-clause-found
returns-clause-found c =
    let l = c.args.ledger.now in
    let r = c.args.reads.now in
    let u = c.args.unit in
    let settled = c.args.settled.now in
    c.in_ok-visit_parts.ensures.found
    ∙ ap (λ (o : Option Id). visited_all l settled (parts_near r o) c.visit_all.new.found) c.program_in.ensures
    ∙ ap (visited_all l settled (parts_near r (program_in l u))) (c.in_ok-visit_all.ensures.found ∙ ap (λ (us : List Id). visited_all l settled us c.args.found.now) c.noted.ensures)
    ∙ visited_app l settled (sources_in u r.sources) (parts_near r (program_in l u)) c.args.found.now
