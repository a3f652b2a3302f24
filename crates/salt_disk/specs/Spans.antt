-- Where the bytes stand that covers keep.
use Rattle.salt_disk.specs.Marks.{Cover, kept_bytes}
use Rattle.salt_disk.specs.declared.covers.Span.{Span}
use Rattle.std.specs.Prelude.{All, List, drop, length, map, take, ℕ, ◌-◌, ◌≡◌, ◌≤◌}

abbrev pub cover_at : List ℕ → Span → Cover
cover_at was span = record { at = span.at; end = span.end; was = take (span.till - span.from) (drop span.from was) }

abbrev pub covers_at : List ℕ → List Span → List Cover
covers_at was spans = map (cover_at was) spans

pub record IsWithin (was : List ℕ) (span : Span) : Type 0 where
  pub order : span.from ≤ span.till
  pub end : span.till ≤ length was

-- The bytes of each are there, and no others.
pub record AreKept (was : List ℕ) (spans : List Span) : Type 0 where
  pub within : All (IsWithin was) spans
  pub size : length was ≡ kept_bytes (covers_at was spans)
