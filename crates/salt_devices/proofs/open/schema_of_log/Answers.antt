use Rattle.salt_decisions.specs.Opened.{IsPeeked, Peeks}
use Rattle.salt_devices.proofs.Opening.{map_err, peeked_refused}
use Rattle.salt_devices.proofs.open.schema_of_log.Goals as goal
use Rattle.salt_stands.specs.Coordinator.{coordinator_pair}
use Rattle.salt_stands.specs.Stands.{logs_of}
use Rattle.std.proofs.Common.{Ok, subst}

pub returns-in-Ok-Some-clause-err : goal.returns-in-Ok-Some-clause-err
returns-in-Ok-Some-clause-err g c told =
    let bytes = (g.D.Disks.view c.args.disks.now).bytes in
    let p : IsPeeked c.in-Ok-Some._shape c.in-Ok-Some.kept (coordinator_pair (logs_of bytes)) = subst (λ o. Peeks (Ok o) (coordinator_pair (logs_of bytes))) c.in-Ok-Some.field-0-is (c.in-Ok-Some.ensures.answer told) in
    map_err c.schema_kept.result _ _ (λ e h shape. peeked_refused shape c.in-Ok-Some._shape bytes c.in-Ok-Some.kept p e h) c.schema_kept.ensures.err
