use Rattle.salt_audit.specs.Transcripts.{IsVerdict}
use Rattle.salt_audit.specs.declared.verdict.Verdict.{Verdict}
use Rattle.salt_promise.specs.Given.{stream}
use Rattle.salt_run.proofs.Audited.{audits_fault, audits_found, audits_long, audits_nothing, found_three}
use Rattle.salt_run.proofs.audits.run_audit.Goals as goal
use Rattle.salt_run.specs.Auditing.{IsVerdictFound}
use Rattle.salt_transcript.specs.Stopping.{IsTooLong}
use Rattle.std.proofs.Common.{Err, List, ap, ℕ, ◌≡◌}

pub returns-in-Ok : goal.returns-in-Ok
returns-in-Ok g c =
    let left = g.S.Source.left in
    let faults = g.S.Source.faults in
    let v = c.in-Ok.verdict in
    audits_found v c.tell.result (stream (left c.args.source.now) (faults c.args.source.now)) (stream (left c.audit.new.source) (faults c.audit.new.source))
    (stream (g.K.Sink.held c.args.sink.now) (g.K.Sink.faults c.args.sink.now)) (stream (g.K.Sink.held c.tell.new.sink) (g.K.Sink.faults c.tell.new.sink))
    (found_three (λ (bytes : List ℕ). IsVerdict bytes v) (λ (bytes : List ℕ). (other : Verdict) → IsVerdict bytes other → other ≡ v) (λ (bytes : List ℕ). IsTooLong bytes → ⊥) (IsVerdictFound v)
    (left c.args.source.now) (λ bytes is only within. record { is = is; only = only; within = within }) c.in-Ok.ensures.verdict c.in-Ok.ensures.only c.in-Ok.ensures.within)
    (c.in-Ok.ensures.no_fault (λ is. cc)) c.tell.ensures

pub returns-in-Err-Memory : goal.returns-in-Err-Memory
returns-in-Err-Memory g c =
    audits_nothing (stream (g.S.Source.left c.args.source.now) (g.S.Source.faults c.args.source.now)) (stream (g.S.Source.left c.audit.new.source) (g.S.Source.faults c.audit.new.source))
    (stream (g.K.Sink.held c.args.sink.now) (g.K.Sink.faults c.args.sink.now)) (c.in-Err-Memory.ensures.no_fault (λ is. let other = c.in-Err-Memory.field-0-is in cc))

pub returns-in-Err-ReadFault : goal.returns-in-Err-ReadFault
returns-in-Err-ReadFault g c =
    audits_fault (stream (g.S.Source.left c.args.source.now) (g.S.Source.faults c.args.source.now)) (stream (g.S.Source.left c.audit.new.source) (g.S.Source.faults c.audit.new.source))
    (stream (g.K.Sink.held c.args.sink.now) (g.K.Sink.faults c.args.sink.now)) c.in-Err-ReadFault.ensures.later (c.in-Err-ReadFault.ensures.fault (ap Err c.in-Err-ReadFault.field-0-is))

pub returns-in-Err-TooLong : goal.returns-in-Err-TooLong
returns-in-Err-TooLong g c =
    audits_long (stream (g.S.Source.left c.args.source.now) (g.S.Source.faults c.args.source.now)) (stream (g.S.Source.left c.audit.new.source) (g.S.Source.faults c.audit.new.source))
    (stream (g.K.Sink.held c.args.sink.now) (g.K.Sink.faults c.args.sink.now)) (c.in-Err-TooLong.ensures.long (ap Err c.in-Err-TooLong.field-0-is))
    (c.in-Err-TooLong.ensures.no_fault (λ is. let other = c.in-Err-TooLong.field-0-is in cc))
