-- Where the reading of bytes stops: at the line that gives the verdict, or where too many came.
use Rattle.law_texts.specs.EventLines.{Inline}
use Rattle.salt_audit.specs.Transcripts.{BeginsWith, IsVerdict, SoFar}
use Rattle.salt_audit.specs.Verdicts.{found_in, sound}
use Rattle.salt_audit.specs.declared.verdict.Verdict.{Verdict}
use Rattle.salt_transcript.specs.declared.source.TheConstants.{TRANSCRIPT_MOST}
use Rattle.std.specs.Prelude.{List, length, ℕ, ◌+◌, ◌++◌, ◌<◌, ◌≡◌}

-- up to what is behind, bytes are a sound story, and then what may be of a line that has not ended
pub record IsSoundTo (bytes behind : List ℕ) : Type 0 where
  pub so_far : SoFar
  pub line : List ℕ
  pub begins : BeginsWith bytes so_far (line ++ behind)
  pub found : found_in so_far.story ≡ sound
  pub inline : Inline line

-- this is the verdict on the bytes, and what is before these last ones gives it: so far they are sound no more
pub record Settles (bytes more : List ℕ) (v : Verdict) : Type 0 where
  pub is : IsVerdict bytes v
  pub stops : (behind : List ℕ) → IsSoundTo bytes behind → length more < length behind

-- more bytes than a transcript may have, which are sound up to its most: no line before gives a verdict
pub record IsTooLong (bytes : List ℕ) : Type 0 where
  pub behind : List ℕ
  pub told : IsSoundTo bytes behind
  pub most : length bytes ≡ TRANSCRIPT_MOST + length behind
  pub longer : 0 < length behind
