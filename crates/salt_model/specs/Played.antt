-- The relation between the lines done and the story.
use Rattle.salt_model.specs.Next.{next}
use Rattle.salt_model.specs.Phases.{Serving, phase}
use Rattle.salt_model.specs.Segments.{IsComplete, May}
use Rattle.salt_model.specs.Trace.{Start, Trace, from, start_of, story_of, ◌asks◌, ◌says◌, ◌turns◌}
use Rattle.salt_model.specs.Turns.{next_turn}
use Rattle.salt_model.specs.declared.events.Event.{Event}
use Rattle.std.specs.Prelude.{List, None, Some, ⊤, ◌≡◌}

-- each event may stand where it stands, and each segment is complete when the next line is asked
abbrev pub IsPlayed : Trace → Type 0
IsPlayed (from k) = ⊤
IsPlayed (trace asks asked) = IsPlayed trace × IsComplete trace
IsPlayed (trace turns b) = IsPlayed trace × (phase trace ≡ Serving) × (next trace ≡ None) × (next_turn trace ≡ Some b)
IsPlayed (trace says e) = IsPlayed trace × May trace e

-- the story is that of a trace which is played from this start
pub record Tells (start : Start) (trace : Trace) (story : List Event) : Type 0 where
  pub begins : start_of trace ≡ start
  pub told : story_of trace ≡ story
  pub played : IsPlayed trace
