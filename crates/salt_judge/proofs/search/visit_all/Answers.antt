use Rattle.salt_judge.proofs.Searching.{visited_more}
use Rattle.salt_judge.proofs.search.visit_all.Goals as goal
use Rattle.salt_judge.specs.Searching.{visited}
use Rattle.salt_values.specs.declared.id.Id.{Id}
use Rattle.std.proofs.Common.{ap, arith, get_or, ◌∙◌}

pub loop-unit-preserved : goal.loop-unit-preserved
loop-unit-preserved c =
    let none : Id = record { boot = 0; seq = 0 } in
    let i = c.loop-unit.unit-index in
    let l = c.args.ledger.now in
    let settled = c.args.settled.now in
    record {
      marks = c.in_ok-visit.ensures.marks;
      found = c.in_ok-visit.ensures.found ∙ ap (visited l settled (get_or c.args.units.now i none)) c.loop-unit.invariant.found
          ∙ visited_more l settled c.args.units.now c.args.found.now i none (omega arith);
    }
