use Rattle.salt_bytes.specs.Changes.{spell_change}
use Rattle.salt_codec.proofs.Values.{Puts}
use Rattle.salt_codec.proofs.changes.with_each_change.Given as goal

abbrev pub invariant-loop-change : goal.invariant-loop-change
invariant-loop-change l = Puts spell_change l.changes l.fn.out.items l.out.items l.change-index
