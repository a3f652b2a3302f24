use Rattle.salt_judge.proofs.judge.nothing_judged.Goals as goal
use Rattle.salt_verdict.specs.Ledger.{is_unfaithful}
use Rattle.std.proofs.Common.{ap, sym, true≢false, ◌∙◌}
use Rattle.std.specs.List.{filter}

pub returns-clause-holds : goal.returns-clause-holds
returns-clause-holds c = record {
  ledger = c.nothing_told.ensures.holds;
  reads = c.no_reads.ensures;
  meetings = c.no_meetings.ensures;
  faithful = ap (filter (is_unfaithful c.nothing_told.result)) (sym c.nothing_told.ensures.holds.active);
  settled = λ x is. absurd (true≢false (sym is ∙ c.no_marks.ensures x));
}
