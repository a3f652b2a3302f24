use Rattle.salt_bytes.specs.Partition.{spell_prepared}
use Rattle.salt_codec.proofs.Puts.{always}
use Rattle.salt_gatelog.proofs.Payloads.{front_stays, payload_put}
use Rattle.salt_partition.proofs.frame.prepared_frame.Goals as goal
use Rattle.salt_partition.specs.Partitions.{prepared}
use Rattle.std.proofs.Common.{arith}

pub returns-clause-payload : goal.returns-clause-payload
returns-clause-payload c =
    payload_put c.with_prepared.result (λ made. made.items) c.in_ok-frame.frame.items (spell_prepared (prepared c.args.unit c.args.changes.now)) c.in_ok-frame.ensures
    c.with_prepared.ensures.bytes

pub returns-clause-front : goal.returns-clause-front
returns-clause-front c =
    front_stays c.with_prepared.result (λ made. made.items) (spell_prepared (prepared c.args.unit c.args.changes.now)) (omega arith) (returns-clause-payload c)

pub returns-clause-read : goal.returns-clause-read
returns-clause-read c = always c.with_prepared.result _ c.with_prepared.ensures.read
