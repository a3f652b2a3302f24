use Rattle.std.proofs.Common.{length, ◌≡◌}
use Rattle.salt_events.proofs.ArrowLaws.{place_of}
use Rattle.law_texts.specs.Arrow.{after, behind_arrow}
use Rattle.salt_events.proofs.statements.behind_arrow.Given as goal

abbrev pub invariant-loop-first : goal.invariant-loop-first
invariant-loop-first l = after (place_of l.inside l.dash) l.left ≡ behind_arrow l.fn.bytes

abbrev pub decreases-loop-first : goal.decreases-loop-first
decreases-loop-first l = length l.left
