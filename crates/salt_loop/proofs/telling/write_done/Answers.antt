use Rattle.salt_loop.proofs.Texts.{no-write, not-short, wrote-all, wrote-none, wrote-passed, wrote-short}
use Rattle.salt_loop.proofs.telling.write_done.Goals as goal
use Rattle.std.proofs.Common.{sym, ◌∙◌}

pub returns-then-ran_short-clause-written : goal.returns-then-ran_short-clause-written
returns-then-ran_short-clause-written g c = wrote-none c.args.done _ _ (sym c.ran_short.ensures ∙ c.if-ran_short.true)

pub returns-then-ran_short-clause-fault : goal.returns-then-ran_short-clause-fault
returns-then-ran_short-clause-fault g c = λ is. absurd (no-write c.args.done c.requires is)

pub returns-in_err-write_events-clause-written : goal.returns-in_err-write_events-clause-written
returns-in_err-write_events-clause-written g c =
    let e = c.in_err-write_events.field-0.0 in
    wrote-passed c.args.done c.from_residual.result e _ _ _ c.from_residual.ensures.1
    (wrote-short c.args.done _ _ _ e (not-short c.args.done (sym c.ran_short.ensures ∙ c.if-ran_short.false)) c.in_err-write_events.ensures.stops)

pub returns-clause-written : goal.returns-clause-written
returns-clause-written g c =
    wrote-all c.args.done _ _ _ c.requires (not-short c.args.done (sym c.ran_short.ensures ∙ c.if-ran_short.false)) c.in_ok-write_events.ensures.ok

pub returns-clause-fault : goal.returns-clause-fault
returns-clause-fault g c = λ is. absurd (no-write c.args.done c.requires is)
