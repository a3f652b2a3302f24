-- The trace of a run: its lines, each with the events of its segment after it, in the order in which they came.
use Rattle.salt_ast.specs.declared.lines.Line.TheVariants.{Nothing}
use Rattle.salt_ast.specs.declared.lines.Line.{Line}
use Rattle.salt_model.specs.Kept.{Kept}
use Rattle.salt_model.specs.declared.events.Event.TheVariants.{Opened}
use Rattle.salt_model.specs.declared.events.Event.{Event}
use Rattle.salt_model.specs.declared.events.Refusal.{Refusal}
use Rattle.salt_values.specs.declared.id.Id.{Id}
use Rattle.std.specs.Prelude.{Bool, List, [], ◌++◌, ◌∷◌}

-- what a run begins with: what is kept, whether its disks can be stopped, whether an opening may leave programs unfinished, and whether
-- its commits go over messages
pub record Start : Type 0 where
  pub kept : Kept
  pub can_stop : Bool
  pub early : Bool
  pub over_net : Bool

-- what a line asks: what its tree says, or, where its text is refused, this refusal
pub data Asked : Type 0 where
  Tree : Line → Asked
  Rejected : Refusal → Asked

-- a line without a tree asks nothing
abbrev pub line_asked : Asked → Line
line_asked (Tree line) = line
line_asked (Rejected r) = Nothing

infixl 40 ◌asks◌ ◌turns◌ ◌says◌
-- from a start; a line is asked; `go all` turns to a program; an event is said
pub data Trace : Type 0 where
  from : Start → Trace
  ◌asks◌ : Trace → Asked → Trace
  ◌turns◌ : Trace → Id → Trace
  ◌says◌ : Trace → Event → Trace

-- what is made of a start, and then by each event in turn, of the trace before it and of what was made so far
abbrev pub over_events : {A : Type 0} → (Start → A) → (Trace → Event → A → A) → Trace → A
over_events start step (from k) = start k
over_events start step (trace asks asked) = over_events start step trace
over_events start step (trace turns b) = over_events start step trace
over_events start step (trace says e) = step trace e (over_events start step trace)

-- the story: the events of a trace
abbrev pub story_of : Trace → List Event
story_of = over_events (λ k. []) (λ trace e story. story ++ e ∷ [])

-- the story before the segment in which the trace ends, which is that of a line or of an opening
abbrev pub story_before : Trace → List Event
story_before (from k) = []
story_before (trace asks asked) = story_of trace
story_before (trace turns b) = story_before trace
story_before (trace says Opened boot n) = story_of trace
story_before (trace says e) = story_before trace

-- what its lines ask
abbrev pub lines_asked : Trace → List Asked
lines_asked (from k) = []
lines_asked (trace asks asked) = lines_asked trace ++ asked ∷ []
lines_asked (trace turns b) = lines_asked trace
lines_asked (trace says e) = lines_asked trace

-- the line in whose segment the trace ends
abbrev pub line_of : Trace → Line
line_of (from k) = Nothing
line_of (trace asks asked) = line_asked asked
line_of (trace turns b) = line_of trace
line_of (trace says e) = line_of trace

abbrev pub start_of : Trace → Start
start_of = over_events (λ k. k) (λ trace e k. k)
