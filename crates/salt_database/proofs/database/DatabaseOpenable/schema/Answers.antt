use Rattle.salt_database.proofs.Halved.{moving-never}
use Rattle.salt_database.proofs.FallDone.{seen-schema}
use Rattle.salt_database.proofs.database.DatabaseOpenable.schema.Goals as goal
use Rattle.salt_database.specs.Halves.{database_stands_for}
use Rattle.std.proofs.Common.{subst}
use Rattle.std.specs.Prelude.{None}

pub returns-in-Open-clause-serves : goal.returns-in-Open-clause-serves
returns-in-Open-clause-serves g c = λ p sound h.
    let v = g.D.Disks.view c.args._disks.now in
    let sees = subst (λ x. database_stands_for (g.S.Storage.holds v) (g.S.Storage.is_new v) v.can_stop x None p.state) c.in-Open.is h.0 in
    seen-schema _ _ c.in-Open.engine.stage p.state _ c.schema-in-Open.ensures sees.seen

pub unreachable-requires : goal.unreachable-requires
unreachable-requires g c = moving-never _ _ c.args.self.now c.in-Moving.is c.requires.able
