use Rattle.salt_bytes.specs.Coordinator.{spell_numbered}
use Rattle.salt_bytes.specs.Spellable.{IsSpellableNumbered}
use Rattle.salt_codec.proofs.Values.{PutSo}
use Rattle.salt_decisions.proofs.header_payload.with_each_definition.Given as goal
use Rattle.salt_decisions.specs.Header.{numbered_of}

abbrev pub invariant-loop-definition : goal.invariant-loop-definition
invariant-loop-definition l = PutSo (λ d. spell_numbered (numbered_of d)) (λ d. IsSpellableNumbered (numbered_of d)) l.definitions l.fn.out.items l.out.items l.definition-index
