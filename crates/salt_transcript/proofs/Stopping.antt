-- The line that gives a verdict, and bytes that are sound no more behind it.
use Rattle.law_texts.specs.EventLines.{Inline, is_inline}
use Rattle.salt_audit.specs.Transcripts.{text_so_far}
use Rattle.salt_audit.specs.declared.verdict.Verdict.{Verdict}
use Rattle.salt_transcript.specs.Reading.{HasCome}
use Rattle.salt_transcript.specs.Stopping.{IsSoundTo, IsTooLong, Settles}
use Rattle.salt_transcript.specs.declared.pieces.Pieces.{Pieces}
use Rattle.salt_transcript.specs.declared.source.TheConstants.{TRANSCRIPT_MOST}
use Rattle.std.proofs.Common.{List, [], ap, append_assoc, arith, length, sym, true, true≢false, ℕ, ◌+◌, ◌++◌, ◌<◌, ◌∙◌, ◌∷◌, ◌≡◌, ◌≤◌}
use Rattle.std.proofs.lemmas.List.{length-append}

-- what stands in one line ends before the line does
in_one_line : (line more rest behind : List ℕ) → line ++ (10 ∷ more) ≡ rest ++ behind → Inline rest → length more < length behind
in_one_line [] more [] behind e h = let long = ap length e in omega (arith, long)
in_one_line [] more (b ∷ rest) behind e h =
    let ten : 10 ≡ b = cc in
    absurd (ended b ten h.0)
  where
    ended : (b : ℕ) → 10 ≡ b → is_inline b ≡ true → ⊥
    ended b e i = true≢false (sym (ap is_inline e ∙ i))
in_one_line (a ∷ line) more [] behind e h =
    let long = ap length e in
    let parts = length-append line (10 ∷ more) in
    omega (arith, long, parts)
in_one_line (a ∷ line) more (b ∷ rest) behind e h =
    let same : line ++ (10 ∷ more) ≡ rest ++ behind = cc in
    in_one_line line more rest behind same h.1

-- the end of a line, and a part of one line that begins no later
pub stops_at : (told more other rest behind : List ℕ) → told ++ (10 ∷ more) ≡ other ++ (rest ++ behind) → Inline rest → length more < length (rest ++ behind) →
    length more < length behind
stops_at told more [] rest behind e h less = in_one_line told more rest behind e h
stops_at [] more (b ∷ other) rest behind e h less =
    let long = ap length e in
    let parts = length-append other (rest ++ behind) in
    omega (arith, long, parts, less)
stops_at (a ∷ told) more (b ∷ other) rest behind e h less =
    let same : told ++ (10 ∷ more) ≡ other ++ (rest ++ behind) = cc in
    stops_at told more other rest behind same h less

-- A VERDICT, OR TOO MANY BYTES

-- bytes that came are sound up to what is behind them
sound_to : (p : Pieces) (come piece behind : List ℕ) → HasCome p (come ++ piece) → IsSoundTo (come ++ (piece ++ behind)) behind
sound_to p come piece behind h =
    let told = text_so_far h.so_far in
    let text =
    sym (append_assoc come piece behind) ∙ ap (λ (l : List ℕ). l ++ behind) h.text ∙ append_assoc told p.rest.items behind in
    record {
      so_far = h.so_far;
      line = p.rest.items;
      begins = record { text = text; events = h.read.printable; items = h.read.showable };
      found = h.read.told.found;
      inline = h.inline;
    }

-- the most came, and more is there
pub too_long : (p : Pieces) (come piece behind : List ℕ) → HasCome p (come ++ piece) → length come + length piece ≡ TRANSCRIPT_MOST → 0 < length behind →
    IsTooLong (come ++ (piece ++ behind))
too_long p come piece behind h most longer =
    let first = length-append come (piece ++ behind) in
    let second = length-append piece behind in
    record { behind = behind; told = sound_to p come piece behind h; most = omega (arith, first, second, most); longer = longer }

-- bytes that settle it within the most are not too long
pub settled_within : (come piece more : List ℕ) (v : Verdict) → length come + length piece ≤ TRANSCRIPT_MOST → Settles (come ++ (piece ++ more)) more v →
    IsTooLong (come ++ (piece ++ more)) → ⊥
settled_within come piece more v within h long =
    let first = length-append come (piece ++ more) in
    let second = length-append piece more in
    let stops = h.stops long.behind long.told in
    omega (arith, first, second, stops, long.most, within)
