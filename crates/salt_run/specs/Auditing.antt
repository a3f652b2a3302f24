-- WHAT AN AUDIT PROMISES: the verdict of the definitions on the bytes of the source, in one line.
use Rattle.salt_audit.specs.Transcripts.{IsVerdict}
use Rattle.salt_audit.specs.declared.verdict.Verdict.TheVariants as verdict
use Rattle.salt_audit.specs.declared.verdict.Verdict.{Verdict}
use Rattle.salt_io.specs.Streams.{Gains, GainsShort}
use Rattle.salt_promise.specs.Counting.{FailsOnly}
use Rattle.salt_promise.specs.Given.{Stream}
use Rattle.salt_promise.specs.Runs.{ends_reading, ends_writing}
use Rattle.salt_promise.specs.declared.status.Status.TheVariants.{Broken, Done, Memory, ReadFault, TranscriptTooLong, Unread, WriteFault}
use Rattle.salt_promise.specs.declared.status.Status.{Status}
use Rattle.salt_transcript.specs.Stopping.{IsTooLong}
use Rattle.salt_transcript.specs.Wording.{verdict_text}
use Rattle.std.specs.Prelude.{IfSome, List, Option, [], ℕ, ◌++◌, ◌∷◌, ◌≡◌}

-- how a run ends that tells a verdict
abbrev pub status_telling : Verdict → Status
status_telling (verdict.Yes events) = Done
status_telling (verdict.Broken law unit event) = Broken
status_telling (verdict.NotText line) = Unread
status_telling (verdict.Unformed event) = Unread

abbrev pub line_telling : Verdict → List ℕ
line_telling v = verdict_text v ++ 10 ∷ []

-- this is the verdict on the bytes, and no other is; it is found within the most bytes of a transcript
pub record IsVerdictFound (v : Verdict) (bytes : List ℕ) : Type 0 where
  pub is : IsVerdict bytes v
  pub only : (other : Verdict) → IsVerdict bytes other → other ≡ v
  pub within : IsTooLong bytes → ⊥

-- the source's bytes have this verdict, where it tells them, and its line is written
pub record TellsVerdict (bytes before now : Option (List ℕ)) (status : Status) : Type 0 where
  pub verdict : Verdict
  pub found : IfSome bytes (IsVerdictFound verdict)
  pub tells : status ≡ status_telling verdict
  pub written : Gains before (line_telling verdict) now

-- its line is not written whole
pub record TellsShort (bytes before now : Option (List ℕ)) : Type 0 where
  pub verdict : Verdict
  pub found : IfSome bytes (IsVerdictFound verdict)
  pub written : GainsShort before (line_telling verdict) now

abbrev pub EndsAudit : Status → (bytes before now : Option (List ℕ)) → Type 0
EndsAudit Done bytes before now = TellsVerdict bytes before now Done
EndsAudit Broken bytes before now = TellsVerdict bytes before now Broken
EndsAudit Unread bytes before now = TellsVerdict bytes before now Unread
EndsAudit TranscriptTooLong bytes before now = IfSome bytes IsTooLong × (now ≡ before)
EndsAudit WriteFault bytes before now = TellsShort bytes before now
EndsAudit ReadFault bytes before now = now ≡ before
EndsAudit Memory bytes before now = now ≡ before
EndsAudit status bytes before now = ⊥

-- how the line of a verdict is written
abbrev pub EndsTellingVerdict : Verdict → Status → (before now : Option (List ℕ)) → Type 0
EndsTellingVerdict v Memory before now = now ≡ before
EndsTellingVerdict v WriteFault before now = GainsShort before (line_telling v) now
EndsTellingVerdict v status before now = (status ≡ status_telling v) × Gains before (line_telling v) now

pub record IsVerdictTold (v : Verdict) (status : Status) (sink sink_now : Stream) : Type 0 where
  pub ends : EndsTellingVerdict v status sink.bytes sink_now.bytes
  pub writes : FailsOnly (ends_writing status) sink sink_now

-- and a stream fails only where the audit ends by that
pub record AuditsTranscript (status : Status) (source source_now sink sink_now : Stream) : Type 0 where
  pub ends : EndsAudit status source.bytes sink.bytes sink_now.bytes
  pub reads : FailsOnly (ends_reading status) source source_now
  pub writes : FailsOnly (ends_writing status) sink sink_now
