-- What a scheduler stands for: a state; and with an event at hand, which it has done, the state before that.
use Rattle.salt_ast.specs.declared.lines.Line.TheVariants.{GoAll, Program, Table}
use Rattle.salt_ast.specs.declared.lines.Line.{Line}
use Rattle.salt_books.specs.Books.{AreBooks, owes_turn, programs_in, tables_in, turns_in}
use Rattle.salt_books.specs.Called.{name_told}
use Rattle.salt_books.specs.Coming.{CanCome, event_meant}
use Rattle.law_states.specs.Circles.{NoneOnCircle}
use Rattle.law_states.specs.Follows.{settles_in}
use Rattle.law_states.specs.Members.{In}
use Rattle.law_states.specs.OpenUnits.{UnitState}
use Rattle.law_states.specs.Readings.{WatchReading, beside_by, first_parts, under_way_of}
use Rattle.law_states.specs.Refused.{refusal_in}
use Rattle.law_states.specs.States.{After, State}
use Rattle.law_states.specs.Watches.{Watch}
use Rattle.salt_model.specs.Next.{decision_in}
use Rattle.salt_model.specs.Phases.{Serving}
use Rattle.salt_model.specs.Trace.{Tree}
use Rattle.salt_model.specs.declared.events.Event.{Event}
use Rattle.salt_program.specs.Refusals.{program_refusal}
use Rattle.salt_scheduler.specs.Follows.{FollowsOn, event_of}
use Rattle.salt_schema.specs.Refusals.{table_refusal}
use Rattle.salt_scheduler.specs.Serving.{is_served}
use Rattle.salt_books.specs.Sound.{IsSoundState}
use Rattle.salt_books.specs.declared.books.Books.{Books}
use Rattle.salt_books.specs.declared.coming.Coming.TheVariants as coming
use Rattle.salt_books.specs.declared.coming.Coming.{Coming}
use Rattle.salt_scheduler.specs.declared.follow.Follow.TheVariants.{Accept, Release}
use Rattle.salt_scheduler.specs.declared.follow.Follow.{Follow}
use Rattle.salt_scheduler.specs.declared.scheduler.Scheduler.{Scheduler}
use Rattle.salt_values.specs.declared.id.Id.{Id}
use Rattle.salt_conflicts.specs.Watched.{IsFinishing, IsWatch, waiters_of}
use Rattle.salt_conflicts.specs.declared.watching.Watching.{Watching}
use Rattle.std.specs.Option.{option_or}
use Rattle.std.specs.Prelude.{Bool, IsTrue, List, None, Option, Some, [], map, true, ⊤, ◌++◌, ◌∷◌, ◌≡◌, ◌⊎◌}

-- WHAT IT HAS: the books, and what follows the event at hand; the watch, of it the units that wait, and programs to which `go all` has still to turn

abbrev pub books_of : Scheduler → Books
books_of x = x.books

abbrev pub follow_of : Scheduler → Follow
follow_of x = x.follow

abbrev pub watch_of : Scheduler → Watching
watch_of x = x.watch

abbrev pub waiting_of : Scheduler → List Id
waiting_of x = map (λ w. w.unit) (waiters_of (watch_of x))

abbrev pub turns_of : Scheduler → List Id
turns_of x = turns_in (books_of x)

abbrev pub owes_in : Scheduler → Bool
owes_in x = owes_turn (books_of x)

-- WHAT IT STANDS FOR

-- a program of which the event at hand was the first commit
abbrev pub accepting : Follow → List Id
accepting (Accept b) = b ∷ []
accepting f = []

-- the programs whose names are kept: unreleased, in their first part, or about to be accepted
abbrev pub bases_called : Follow → State → List Id
bases_called f s = s.watch.programs ++ (first_parts s.units.units ++ accepting f)

-- programs are to have a turn in a `go all` alone
abbrev pub IsTurning : UnitState → Type 0
IsTurning s = (s.to_go ≡ []) ⊎ (s.line ≡ GoAll)

-- the watch, seen in this way, with all else; where it is calm no units wait for each other in a circle
pub record StandsWith (watched : Watching → Watch → Type 0) (x : Scheduler) (s : State) : Type 0 where
  pub books : AreBooks (books_of x) s.units
  pub watch : watched x.watch s.watch
  pub called : (b : Id) → In b (bases_called (follow_of x) s) → name_told x.called b ≡ Some (s.names b)
  pub turns : IsTurning s.units
  pub calm : IsTrue x.calm → NoneOnCircle s.watch

abbrev pub StandsForState : Scheduler → State → Type 0
StandsForState x s = StandsWith IsWatch x s

-- what is watched where this follows: of a program that has finished the releases are not yet asked for
abbrev pub watched_by : Follow → Watching → Watch → Type 0
watched_by (Release b) x w = IsFinishing b x w
watched_by f x w = IsWatch x w

abbrev pub StandsBehindEvent : Scheduler → State → Type 0
StandsBehindEvent x s = StandsWith (watched_by (follow_of x)) x s

-- it has done an event
pub record HasDoneEvent (x : Scheduler) (e : Event) (s t : State) : Type 0 where
  pub served : is_served e ≡ true
  pub after : After e s t
  pub behind : StandsBehindEvent x t
  pub follows : FollowsOn (follow_of x) e s.units t.units

abbrev pub StandsAtEvent : Scheduler → Option Event → State → Type 0
StandsAtEvent x None s = StandsForState x s
StandsAtEvent x (Some e) s = (t : State) × HasDoneEvent x e s t

-- a state in which lines are served, this one now
pub record ServesLine (now : Line) (s : State) : Type 0 where
  pub sound : IsSoundState s
  pub phase : s.units.phase ≡ Serving
  pub line : s.units.line ≡ now

-- a state in which a line is served that is not refused
pub record ServesAllowed (now : Line) (s : State) : Type 0 where
  pub serves : ServesLine now s
  pub allowed : refusal_in s.units (under_way_of s) (Tree now) ≡ None

-- what is given is what the state tells, and it is done
pub record AnswersWith (s : State) (want : Option Event) (new : Scheduler) (given : Option Event) : Type 0 where
  pub told : given ≡ want
  pub done : StandsAtEvent new given s

-- it is done where it is an event that is done, which no decision makes; else nothing is
abbrev pub IsReady : Scheduler → State → Coming → Type 0
IsReady x s (coming.Told e) = StandsAtEvent x (Some e) s × (decision_in (Some e) ≡ None)
IsReady x s c = StandsForState x s × CanCome c s.units

-- what is to come is what the state tells
pub record AnswersWithComing (s : State) (want : Option Event) (new : Scheduler) (c : Coming) : Type 0 where
  pub meant : event_meant s.units c ≡ want
  pub ready : IsReady new s c

-- what a state tells of what comes next, in whatever way it is read
abbrev pub NextTold : Type 0
NextTold = (s : State) → WatchReading s.watch → Option Event

-- from a scheduler that stands for a state to one that has done what this tells of it, in a line
abbrev pub DoesNext : NextTold → Line → Scheduler → Scheduler → Event → Type 0
DoesNext want now old new e = (s : State) (r : WatchReading s.watch) → StandsForState old s → ServesLine now s → AnswersWith s (want s r) new (Some e)

-- to one that is ready for what this tells
abbrev pub ChoosesNext : NextTold → Line → Scheduler → Scheduler → Coming → Type 0
ChoosesNext want now old new c = (s : State) (r : WatchReading s.watch) → StandsForState old s → ServesLine now s → AnswersWithComing s (want s r) new c

-- in a line that is not refused
abbrev pub DoesAllowed : NextTold → Line → Scheduler → Scheduler → Event → Type 0
DoesAllowed want now old new e = (s : State) (r : WatchReading s.watch) → StandsForState old s → ServesAllowed now s → AnswersWith s (want s r) new (Some e)

abbrev pub ChoosesAllowed : NextTold → Line → Scheduler → Scheduler → Coming → Type 0
ChoosesAllowed want now old new c = (s : State) (r : WatchReading s.watch) → StandsForState old s → ServesAllowed now s → AnswersWithComing s (want s r) new c

-- what a line defines, if anything, is not refused by what the books know
abbrev pub IsDefinable : Line → Books → Type 0
IsDefinable (Table d) x = table_refusal (tables_in x) d ≡ None
IsDefinable (Program p) x = program_refusal (tables_in x) (programs_in x) p ≡ None
IsDefinable line x = ⊤

-- it stands for some state in which a line is served that is not refused
abbrev pub IsAllowed : Line → Scheduler → Type 0
IsAllowed now x = (s : State) × StandsForState x s × ServesAllowed now s

-- what comes behind an event: what follows it, or what settles
abbrev pub behind_in : (s : State) → WatchReading s.watch → Follow → Option Event
behind_in s r f = option_or (event_of f s.units (beside_by s r)) (settles_in s.units (beside_by s r))
