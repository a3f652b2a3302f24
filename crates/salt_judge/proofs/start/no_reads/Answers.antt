use Rattle.salt_values.specs.Id.{has_id}
use Rattle.salt_judge.proofs.start.no_reads.Goals as goal
use Rattle.salt_judge.specs.Reads.{freed_in, writing_told}
use Rattle.std.proofs.Common.{ap, map, sym}

pub returns : goal.returns
returns c = record {
  last = ap (map writing_told) (sym c.new.ensures.items);
  sources = λ u. sym (c.no_sources.ensures u);
  released = λ b. sym (c.no_marks.ensures b);
  freed = λ bs. ap (freed_in bs) (sym c.new-2.ensures);
  parts = λ b v. ap (has_id v) (sym (c.no_sources-2.ensures b));
}
