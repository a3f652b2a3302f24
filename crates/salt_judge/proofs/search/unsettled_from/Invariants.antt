use Rattle.salt_judge.proofs.search.unsettled_from.Given as goal
use Rattle.salt_audit.specs.Marks.{AreMarks}
use Rattle.salt_judge.specs.Searching.{IsLinked, Searched}
use Rattle.std.proofs.Common.{◌-◌, ◌^◌}

abbrev pub invariant-search : goal.invariant-search
invariant-search l = record {
  marks : AreMarks l.marks l.ids;
  searched : IsLinked l.ledger l.reads → Searched l.ledger l.reads l.settled l.fn.unit l.at l.ids;
}

abbrev pub decreases-search : goal.decreases-search
decreases-search l = 2 ^ 64 - l.at
