use Rattle.salt_run.proofs.Audited.{told_nothing, told_short, told_written}
use Rattle.salt_run.proofs.audits.tell.Goals as goal
use Rattle.salt_run.specs.Auditing.{IsVerdictTold}
use Rattle.salt_promise.specs.Given.{stream}
use Rattle.salt_promise.specs.declared.status.Status.{Status}
use Rattle.salt_io.specs.Streams.{Gains, GainsShort}
use Rattle.std.proofs.Common.{List, subst, sym, ℕ, ◌∙◌}

pub returns-in_default : goal.returns-in_default
returns-in_default g c = told_nothing c.args.verdict (g.K.Sink.held c.args.sink.now) (g.K.Sink.faults c.args.sink.now)

pub returns-in-Ok-write_whole : goal.returns-in-Ok-write_whole
returns-in-Ok-write_whole g c =
    let held = g.K.Sink.held in
    let faults = g.K.Sink.faults in
    let line = c.as_slice.ensures.value ∙ c.in-Ok.ensures in
    subst (λ (status : Status). IsVerdictTold c.args.verdict status (stream (held c.args.sink.now) (faults c.args.sink.now)) (stream (held c.write_whole.new.sink) (faults c.write_whole.new.sink)))
    (sym c.status_telling.ensures)
    (told_written c.args.verdict (held c.args.sink.now) (held c.write_whole.new.sink) (faults c.args.sink.now) (faults c.write_whole.new.sink)
    (subst (λ (bytes : List ℕ). Gains (held c.args.sink.now) bytes (held c.write_whole.new.sink)) line c.in-Ok-write_whole.ensures.ok) c.in-Ok-write_whole.ensures.same)

pub returns : goal.returns
returns g c =
    let held = g.K.Sink.held in
    let faults = g.K.Sink.faults in
    let line = c.as_slice.ensures.value ∙ c.in-Ok.ensures in
    told_short c.args.verdict (held c.args.sink.now) (held c.write_whole.new.sink) (faults c.args.sink.now) (faults c.write_whole.new.sink)
    (subst (λ (bytes : List ℕ). GainsShort (held c.args.sink.now) bytes (held c.write_whole.new.sink)) line c.in-Err.ensures.err) c.in-Err.ensures.later c.in-Err.ensures.failed
