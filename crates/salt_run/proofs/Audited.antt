-- How an audit ends.
use Rattle.salt_io.specs.Streams.{Gains, GainsShort, Rose}
use Rattle.salt_promise.specs.Given.{Stream, stream}
use Rattle.salt_promise.specs.declared.status.Status.TheVariants.{Broken, Done, Memory, ReadFault, TranscriptTooLong, Unread, Usage, WriteFault}
use Rattle.salt_promise.specs.declared.status.Status.{Status}
use Rattle.salt_run.specs.Auditing.{AuditsTranscript, EndsAudit, IsVerdictFound, IsVerdictTold, line_telling, status_telling}
use Rattle.salt_audit.specs.declared.verdict.Verdict.TheVariants as verdict
use Rattle.salt_audit.specs.declared.verdict.Verdict.{Verdict}
use Rattle.salt_transcript.specs.Stopping.{IsTooLong}
use Rattle.std.proofs.Common.{List, None, Option, Some, refl, subst, ℕ, ◌≡◌, ◌≤◌}
use Rattle.std.specs.Prelude.{IfSome}

-- a verdict whose line is written, or in which the sink failed, or memory ran out
pub told_written : (v : Verdict) (before now : Option (List ℕ)) (faults later : ℕ) → Gains before (line_telling v) now → later ≡ faults →
    IsVerdictTold v (status_telling v) (stream before faults) (stream now later)
told_written (verdict.Yes events) before now faults later g same = record { ends = (refl, g); writes = same }
told_written (verdict.Broken law unit event) before now faults later g same = record { ends = (refl, g); writes = same }
told_written (verdict.NotText line) before now faults later g same = record { ends = (refl, g); writes = same }
told_written (verdict.Unformed event) before now faults later g same = record { ends = (refl, g); writes = same }

pub told_short : (v : Verdict) (before now : Option (List ℕ)) (faults later : ℕ) → GainsShort before (line_telling v) now → faults ≤ later → Rose faults later →
    IsVerdictTold v WriteFault (stream before faults) (stream now later)
told_short v before now faults later g le rose = record { ends = g; writes = (le, rose) }

pub told_nothing : (v : Verdict) (before : Option (List ℕ)) (faults : ℕ) → IsVerdictTold v Memory (stream before faults) (stream before faults)
told_nothing v before faults = record { ends = refl; writes = refl }

-- an audit that found a verdict
pub audits_found : (v : Verdict) (status : Status) (source source_now sink sink_now : Stream) → IfSome source.bytes (IsVerdictFound v) → source_now.faults ≡ source.faults →
    IsVerdictTold v status sink sink_now → AuditsTranscript status source source_now sink sink_now
audits_found v Done source source_now sink sink_now found same told =
    record { ends = record { verdict = v; found = found; tells = told.ends.0; written = told.ends.1 }; reads = same; writes = told.writes }
audits_found v Broken source source_now sink sink_now found same told =
    record { ends = record { verdict = v; found = found; tells = told.ends.0; written = told.ends.1 }; reads = same; writes = told.writes }
audits_found v Unread source source_now sink sink_now found same told =
    record { ends = record { verdict = v; found = found; tells = told.ends.0; written = told.ends.1 }; reads = same; writes = told.writes }
audits_found v WriteFault source source_now sink sink_now found same told =
    record { ends = record { verdict = v; found = found; written = told.ends }; reads = same; writes = told.writes }
audits_found v Memory source source_now sink sink_now found same told = record { ends = told.ends; reads = same; writes = told.writes }
audits_found v status source source_now sink sink_now found same told = absurd (other v told.ends.0)
  where
    other : (w : Verdict) → status ≡ status_telling w → ⊥
    other (verdict.Yes events) is = cc
    other (verdict.Broken law unit event) is = cc
    other (verdict.NotText line) is = cc
    other (verdict.Unformed event) is = cc

-- no audit ends as words do that say nothing
pub no_usage : (status : Status) (source source_now sink sink_now : Stream) → AuditsTranscript status source source_now sink sink_now → status ≡ Usage → ⊥
no_usage status source source_now sink sink_now h is = subst (λ (s : Status). EndsAudit s source.bytes sink.bytes sink_now.bytes) is h.ends

-- an audit that found none
pub audits_nothing : (source source_now sink : Stream) → source_now.faults ≡ source.faults → AuditsTranscript Memory source source_now sink sink
audits_nothing source source_now sink same = record { ends = refl; reads = same; writes = refl }

pub audits_fault : (source source_now sink : Stream) → source.faults ≤ source_now.faults → Rose source.faults source_now.faults → AuditsTranscript ReadFault source source_now sink sink
audits_fault source source_now sink later rose = record { ends = refl; reads = (later, rose); writes = refl }

pub audits_long : (source source_now sink : Stream) → IfSome source.bytes IsTooLong → source_now.faults ≡ source.faults →
    AuditsTranscript TranscriptTooLong source source_now sink sink
audits_long source source_now sink long same = record { ends = (long, refl); reads = same; writes = refl }

-- of one option, what is said of what it holds in three ways
pub found_three : {A : Type 0} (P Q R S : A → Type 0) (o : Option A) → ((x : A) → P x → Q x → R x → S x) → IfSome o P → IfSome o Q → IfSome o R → IfSome o S
found_three P Q R S None f p q r = tt
found_three P Q R S (Some x) f p q r = f x p q r
