use Rattle.salt_judge.proofs.search.visit_all.Given as goal
use Rattle.salt_audit.specs.Marks.{AreMarks}
use Rattle.salt_judge.specs.Searching.{visited_all}
use Rattle.std.proofs.Common.{take, ◌≡◌}

abbrev pub invariant-loop-unit : goal.invariant-loop-unit
invariant-loop-unit l = record {
  marks : AreMarks l.marks l.found;
  found : l.found ≡ visited_all l.ledger l.settled (take l.unit-index l.units) l.initial.found;
}
