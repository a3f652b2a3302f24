-- What a recovery stands for: a state in an opening; and with an event at hand, which it has done, the state before that.
use Rattle.salt_books.specs.Asking.{IsAskedBy}
use Rattle.salt_books.specs.Books.{AreBooks}
use Rattle.salt_books.specs.Coming.{CanCome, event_meant}
use Rattle.salt_books.specs.Sound.{IsSoundState}
use Rattle.salt_books.specs.declared.books.Books.{Books}
use Rattle.salt_books.specs.declared.coming.Coming.TheVariants as coming
use Rattle.salt_books.specs.declared.coming.Coming.{Coming}
use Rattle.law_states.specs.Laws.{is_of_run}
use Rattle.law_states.specs.OpenUnits.{OpenUnit, UnitState, unit_named}
use Rattle.law_states.specs.States.{After, State}
use Rattle.salt_model.specs.Next.{decision_in}
use Rattle.salt_model.specs.Phases.{Opening, Serving}
use Rattle.salt_model.specs.Turns.{is_statement_line}
use Rattle.salt_model.specs.declared.events.Event.TheVariants.{Early, Ready}
use Rattle.salt_model.specs.declared.events.Event.{Event}
use Rattle.salt_model.specs.declared.events.UnitKind.TheVariants.{Later}
use Rattle.law_openings.specs.Draining.{statements_at}
use Rattle.salt_drain.specs.Follows.{FollowsOn}
use Rattle.salt_drain.specs.declared.behind.Behind.TheVariants.{Done, Turn}
use Rattle.salt_drain.specs.declared.behind.Behind.{Behind}
use Rattle.salt_drain.specs.declared.recovery.Recovery.{Recovery}
use Rattle.salt_values.specs.declared.id.Id.{Id}
use Rattle.std.specs.Prelude.{None, Option, Some, false, ℕ, ⊤, ◌≡◌}

-- the books of a recovery, and what follows its last event
abbrev pub books_of : Recovery → Books
books_of x = x.books

abbrev pub behind_of : Recovery → Behind
behind_of x = x.behind

-- a state in an opening of a sound trace
pub record IsRecovering (s : State) : Type 0 where
  pub sound : IsSoundState s
  pub phase : s.units.phase ≡ Opening

-- a unit goes on with a program
abbrev pub IsOfPart : OpenUnit → Type 0
IsOfPart o = (b : Id) × (part : ℕ) × (o.kind ≡ Later b part)

-- the unit of this name, if it is open, does
abbrev pub IsPartIfOpen : UnitState → Id → Type 0
IsPartIfOpen s u = (o : OpenUnit) → unit_named u s.units ≡ Some o → IsOfPart o

-- a unit that is to go on is one of the drain
abbrev pub IsOfDrain : Behind → UnitState → Type 0
IsOfDrain (Turn u) s = IsPartIfOpen s u
IsOfDrain (Done u failed) s = IsPartIfOpen s u
IsOfDrain b s = ⊤

pub record StandsForUnits (x : Recovery) (s : UnitState) : Type 0 where
  pub books : AreBooks (books_of x) s
  pub opening : s.phase ≡ Opening
  pub single : x.single ≡ is_statement_line s.line
  pub drain : IsOfDrain (behind_of x) s

abbrev pub StandsForState : Recovery → State → Type 0
StandsForState x s = StandsForUnits x s.units

-- behind its end the state serves
abbrev pub StandsBehindEvent : Event → Recovery → UnitState → Type 0
StandsBehindEvent Ready x s = AreBooks (books_of x) s × (s.phase ≡ Serving)
StandsBehindEvent (Early bs) x s = AreBooks (books_of x) s × (s.phase ≡ Serving)
StandsBehindEvent e x s = StandsForUnits x s

-- it has done an event
pub record HasDoneEvent (x : Recovery) (e : Event) (s t : State) : Type 0 where
  pub plain : is_of_run e ≡ false
  pub after : After e s t
  pub behind : StandsBehindEvent e x t.units
  pub follows : FollowsOn (behind_of x) e s.units t.units

abbrev pub StandsAtEvent : Recovery → Option Event → State → Type 0
StandsAtEvent x None s = StandsForState x s
StandsAtEvent x (Some e) s = (t : State) × HasDoneEvent x e s t

-- what is given is what the state tells, and it is done
pub record AnswersWith (s : State) (want : Option Event) (new : Recovery) (given : Option Event) : Type 0 where
  pub told : given ≡ want
  pub done : StandsAtEvent new given s

-- what is needed for it beside the devices; a statement is of a unit that goes on with a program
abbrev pub CanGoOn : Coming → UnitState → Type 0
CanGoOn (coming.Act a) s = (o : OpenUnit) × IsAskedBy a s o × IsOfPart o
CanGoOn c s = CanCome c s

-- nothing is asked for it: no decision makes it, and it does no statement
abbrev pub IsPlain : Option Event → Type 0
IsPlain want = (decision_in want ≡ None) × (statements_at want ≡ 0)

-- it is done where it is an event that is done, for which nothing is asked; else nothing is
abbrev pub IsReady : Recovery → State → Coming → Type 0
IsReady x s (coming.Told e) = StandsAtEvent x (Some e) s × IsPlain (Some e)
IsReady x s c = StandsForState x s × CanGoOn c s.units

-- what is to come is what the state tells
pub record AnswersWithComing (s : State) (want : Option Event) (new : Recovery) (c : Coming) : Type 0 where
  pub meant : event_meant s.units c ≡ want
  pub ready : IsReady new s c

-- what a state tells of what comes next
abbrev pub NextTold : Type 0
NextTold = UnitState → Option Event

-- from a recovery that stands for a state to one that has done what this tells of it
abbrev pub DoesNext : NextTold → Recovery → Recovery → Event → Type 0
DoesNext want old new e = (s : State) → StandsForState old s → IsRecovering s → AnswersWith s (want s.units) new (Some e)

-- to one that is ready for what this tells
abbrev pub ChoosesNext : NextTold → Recovery → Recovery → Coming → Type 0
ChoosesNext want old new c = (s : State) → StandsForState old s → IsRecovering s → AnswersWithComing s (want s.units) new c

-- the same of a unit that goes on with a program, if it is open
abbrev pub ChoosesOf : Id → NextTold → Recovery → Coming → Type 0
ChoosesOf u want x c = (s : State) → StandsForState x s → IsRecovering s → IsPartIfOpen s.units u → AnswersWithComing s (want s.units) x c
