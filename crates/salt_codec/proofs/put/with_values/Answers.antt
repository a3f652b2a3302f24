use Rattle.salt_bytes.specs.Spellable.{IsSpellableValue}
use Rattle.salt_bytes.specs.Values.{spell_value}
use Rattle.salt_codec.proofs.Values.{every_all, put_next, put_none, puts_all}
use Rattle.salt_codec.proofs.put.with_values.Goals as goal
use Rattle.std.proofs.Common.{arith}
use Rattle.std.specs.Prelude.{true}

pub loop-value-init : goal.loop-value-init
loop-value-init c = put_none spell_value (IsSpellableValue true) c.args.values.now c.args.out.items

pub loop-value-preserved : goal.loop-value-preserved
loop-value-preserved c = put_next spell_value (IsSpellableValue true) c.args.values.now c.args.out.items c.loop-value.out.items c.in_ok-out.out.items c.loop-value.value-index c.value-item.result c.loop-value-test.true c.value-item.is c.in_ok-out.ensures.put c.in_ok-out.ensures.spellable c.loop-value.invariant

pub returns-clause-put : goal.returns-clause-put
returns-clause-put c = puts_all spell_value c.args.values.now c.args.out.items c.loop-value.out.items c.loop-value.value-index (omega (arith, c.loop-value-test.false)) c.loop-value.invariant.puts

pub returns-clause-spellable : goal.returns-clause-spellable
returns-clause-spellable c = every_all (IsSpellableValue true) c.args.values.now c.loop-value.value-index (omega (arith, c.loop-value-test.false)) c.loop-value.invariant.every
