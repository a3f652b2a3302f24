use Rattle.salt_database.proofs.OpeningActs.{on-err}
use Rattle.salt_database.proofs.reopening.end.Goals as goal
use Rattle.salt_engine.proofs.Outcome.{not-ok}
use Rattle.std.proofs.Common.{refl}

pub returns-clause-serves : goal.returns-clause-serves
returns-clause-serves c = c.in_ok-scheduler.ensures

pub returns-in_err-scheduler-clause-serves : goal.returns-in_err-scheduler-clause-serves
returns-in_err-scheduler-clause-serves c = not-ok _ _ c.from_residual.result c.from_residual.ensures.1

pub returns-in_err-scheduler-clause-tells : goal.returns-in_err-scheduler-clause-tells
returns-in_err-scheduler-clause-tells c = not-ok _ _ c.from_residual.result c.from_residual.ensures.1

pub returns-in_err-scheduler-clause-untold : goal.returns-in_err-scheduler-clause-untold
returns-in_err-scheduler-clause-untold c = on-err c.from_residual.result refl

pub returns-in_err-push-clause-serves : goal.returns-in_err-push-clause-serves
returns-in_err-push-clause-serves c = not-ok _ _ c.from_residual-in_err-push.result c.from_residual-in_err-push.ensures.1

pub returns-in_err-push-clause-tells : goal.returns-in_err-push-clause-tells
returns-in_err-push-clause-tells c = not-ok _ _ c.from_residual-in_err-push.result c.from_residual-in_err-push.ensures.1

pub returns-in_err-push-clause-untold : goal.returns-in_err-push-clause-untold
returns-in_err-push-clause-untold c = on-err c.from_residual-in_err-push.result c.in_err-push.ensures.err
