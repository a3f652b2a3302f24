use Rattle.salt_database.proofs.reopening.strayed.Goals as goal
use Rattle.salt_engine.proofs.Counted.{cause-lost, same-cause}
use Rattle.salt_storage.proofs.Staying.{stays-same}
use Rattle.std.proofs.Common.{inl, inr, refl}

pub reject-requires-clause-untold : goal.reject-requires-clause-untold
reject-requires-clause-untold g c = c.requires.untold

pub reject-requires-clause-able : goal.reject-requires-clause-able
reject-requires-clause-able g c = c.requires.able

pub returns-in-Ok-clause-able : goal.returns-in-Ok-clause-able
returns-in-Ok-clause-able g c = c.reject.ensures.able

pub returns-in-Ok-clause-broken : goal.returns-in-Ok-clause-broken
returns-in-Ok-clause-broken g c = inr c.in-Ok.ensures.ok

pub returns-in-Ok-clause-within : goal.returns-in-Ok-clause-within
returns-in-Ok-clause-within g c = c.reject.ensures.within

pub returns-in-Ok-clause-cause : goal.returns-in-Ok-clause-cause
returns-in-Ok-clause-cause g c = c.reject.ensures.cause

pub returns-in-Err-clause-able : goal.returns-in-Err-clause-able
returns-in-Err-clause-able g c = c.requires.able

pub returns-in-Err-clause-broken : goal.returns-in-Err-clause-broken
returns-in-Err-clause-broken g c = inl (c.in-Err.ensures.err, refl)

pub returns-in-Err-clause-within : goal.returns-in-Err-clause-within
returns-in-Err-clause-within g c = stays-same _ (g.D.Disks.view c.args.disks.now)

pub returns-in-Err-clause-cause : goal.returns-in-Err-clause-cause
returns-in-Err-clause-cause g c = cause-lost _ _ (same-cause (g.D.Disks.view c.args.disks.now))
