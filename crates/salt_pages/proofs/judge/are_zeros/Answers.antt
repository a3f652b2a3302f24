use Rattle.salt_pages.proofs.Judged.{each_as_before}
use Rattle.salt_pages.proofs.judge.are_zeros.Goals as goal
use Rattle.std.proofs.Common.{◌∙◌}

pub returns-then-first-eq0 : goal.returns-then-first-eq0
returns-then-first-eq0 c = c.eq.ensures ∙ each_as_before c.args.bytes.now c.in-len1-up.len_at_least c.if-first-eq0.true
