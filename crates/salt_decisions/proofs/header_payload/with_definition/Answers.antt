use Rattle.salt_bytes.specs.Coordinator.{spell_text}
use Rattle.salt_bytes.specs.Numbers.{spell_64}
use Rattle.salt_codec.proofs.Puts.{both_put}
use Rattle.salt_decisions.proofs.header_payload.with_definition.Goals as goal
use Rattle.std.proofs.Common.{ap}

pub returns-clause-put : goal.returns-clause-put
returns-clause-put c = both_put c.with_text.result (λ made. made.items) c.args.out.items c.in_ok-out.out.items (spell_64 c.args.definition.now.number) (spell_text c.args.definition.now.text) (spell_text c.as_slice.result.now) c.in_ok-out.ensures (ap spell_text c.as_slice.ensures) c.with_text.ensures
