use Rattle.salt_bytes.specs.Coordinator.{spell_numbered}
use Rattle.salt_bytes.specs.Spellable.{IsSpellableNumbered}
use Rattle.salt_decisions.proofs.Each.{spell_each_as}
use Rattle.salt_codec.proofs.Values.{every_all, every_as, put_next, put_none, puts_all}
use Rattle.salt_decisions.proofs.header_payload.with_each_definition.Goals as goal
use Rattle.salt_decisions.specs.Header.{numbered_of}
use Rattle.std.proofs.Common.{ap, arith, ◌++◌, ◌∙◌}

pub loop-definition-init : goal.loop-definition-init
loop-definition-init c = put_none (λ d. spell_numbered (numbered_of d)) (λ d. IsSpellableNumbered (numbered_of d)) c.args.definitions.now c.args.out.items

pub loop-definition-preserved : goal.loop-definition-preserved
loop-definition-preserved c = put_next (λ d. spell_numbered (numbered_of d)) (λ d. IsSpellableNumbered (numbered_of d)) c.args.definitions.now c.args.out.items c.loop-definition.out.items c.in_ok-out.out.items c.loop-definition.definition-index c.definition-item.result c.loop-definition-test.true c.definition-item.is c.in_ok-out.ensures.put c.in_ok-out.ensures.spellable c.loop-definition.invariant

pub returns-clause-put : goal.returns-clause-put
returns-clause-put c =
    puts_all (λ d. spell_numbered (numbered_of d)) c.args.definitions.now c.args.out.items c.loop-definition.out.items c.loop-definition.definition-index (omega (arith, c.loop-definition-test.false)) c.loop-definition.invariant.puts
    ∙ ap (λ l. c.args.out.items ++ l) (spell_each_as numbered_of spell_numbered c.args.definitions.now)

pub returns-clause-spellable : goal.returns-clause-spellable
returns-clause-spellable c =
    every_as numbered_of IsSpellableNumbered c.args.definitions.now (every_all (λ d. IsSpellableNumbered (numbered_of d)) c.args.definitions.now c.loop-definition.definition-index (omega (arith, c.loop-definition-test.false)) c.loop-definition.invariant.every)
