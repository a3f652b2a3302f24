use Rattle.salt_database.proofs.Halved.{closed-has, both-within, moving-never, open-has}
use Rattle.salt_database.proofs.database.DatabaseStepping.reject.Goals as goal
use Rattle.salt_database.specs.Halves.{IfEither}
use Rattle.std.proofs.Common.{subst, sym}

pub reject-requires-clause-able : goal.reject-requires-clause-able
reject-requires-clause-able g c = closed-has _ _ c.args.self.now c.in-Closed.opening c.in-Closed.is c.requires.able

pub reject-requires-in-Open-clause-able : goal.reject-requires-in-Open-clause-able
reject-requires-in-Open-clause-able g c = open-has _ _ c.args.self.now c.in-Open.engine c.in-Open.is c.requires.able

pub unreachable-requires : goal.unreachable-requires
unreachable-requires g c = moving-never _ _ c.args.self.now c.in-Moving.is c.requires.able

pub returns-in-Closed-clause-able : goal.returns-in-Closed-clause-able
returns-in-Closed-clause-able g c =
    subst (λ x. IfEither (λ o. g.S.Storage.able (g.D.Disks.view c.reject.new.disks) o.storage) (λ e. g.S.Storage.able (g.D.Disks.view c.reject.new.disks) e.storage) x) (sym c.in-Closed.is)
    c.reject.ensures.able

pub returns-in-Open-clause-able : goal.returns-in-Open-clause-able
returns-in-Open-clause-able g c =
    subst (λ x. IfEither (λ o. g.S.Storage.able (g.D.Disks.view c.reject-in-Open.new.disks) o.storage) (λ e. g.S.Storage.able (g.D.Disks.view c.reject-in-Open.new.disks) e.storage) x) (sym c.in-Open.is)
    c.reject-in-Open.ensures.able

pub returns-in-Closed-clause-within : goal.returns-in-Closed-clause-within
returns-in-Closed-clause-within g c = both-within _ _ _ c.args.self.now _ _ _ c.in-Closed.is c.reject.ensures.within

pub returns-in-Open-clause-within : goal.returns-in-Open-clause-within
returns-in-Open-clause-within g c = both-within _ _ _ c.args.self.now _ _ _ c.in-Open.is c.reject-in-Open.ensures.within
