use Rattle.salt_bytes.specs.Spellable.{IsSpellableValue}
use Rattle.salt_bytes.specs.Values.{spell_value}
use Rattle.salt_codec.proofs.Values.{PutSo}
use Rattle.salt_codec.proofs.put.with_values.Given as goal
use Rattle.std.specs.Prelude.{true}

abbrev pub invariant-loop-value : goal.invariant-loop-value
invariant-loop-value l = PutSo spell_value (IsSpellableValue true) l.values l.fn.out.items l.out.items l.value-index
