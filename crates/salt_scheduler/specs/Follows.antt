-- What follows an event in its turn, kept in place of the event.
use Rattle.salt_ast.specs.declared.lines.Act.TheVariants.{Begin}
use Rattle.salt_ast.specs.declared.lines.Line.TheVariants.{Session}
use Rattle.salt_ast.specs.declared.lines.Line.{Line}
use Rattle.salt_books.specs.Ends.{done_of}
use Rattle.salt_scheduler.specs.declared.follow.Follow.{Follow}
use Rattle.salt_scheduler.specs.declared.follow.Follow.TheVariants.{Accept, Done, Finish, Nothing, Release, Turn}
use Rattle.law_states.specs.Follows.{follow_in, unit_of}
use Rattle.law_states.specs.OpenUnits.{UnitState, unit_named}
use Rattle.law_states.specs.Told.{Beside, finishes_in, turn_of_in}
use Rattle.salt_model.specs.Turns.{releases}
use Rattle.salt_model.specs.declared.events.Event.{Event}
use Rattle.salt_model.specs.declared.events.Event.TheVariants.{Accepted}
use Rattle.salt_model.specs.declared.events.UnitKind.TheVariants.{Acid, First, Later}
use Rattle.salt_model.specs.declared.events.UnitKind.{UnitKind}
use Rattle.std.specs.Prelude.{Bool, None, Option, Some, false, true, ◌≡◌}

-- the line lets a unit of this kind begin without a turn
abbrev pub is_acid : UnitKind → Bool
is_acid (Acid t) = true
is_acid kind = false

abbrev pub opens_alone : Line → UnitKind → Bool
opens_alone (Session t Begin) kind = is_acid kind
opens_alone line kind = false

-- what it stands for, by the state behind the event
abbrev pub event_of : Follow → UnitState → Beside → Option Event
event_of Nothing s x = None
event_of (Turn u) s x = turn_of_in s x.clash (unit_named u s.units)
event_of (Done u failed) s x = done_of s failed (unit_named u s.units)
event_of (Accept b) s x = Some (Accepted b)
event_of (Finish b) s x = finishes_in s b
event_of (Release b) s x = releases x.due

-- it stands for what follows an event between these states
abbrev pub FollowsOn : Follow → Event → UnitState → UnitState → Type 0
FollowsOn f e old new = (x : Beside) → follow_in new x e (unit_of e old new) ≡ event_of f new x

-- what follows a decided end, by its unit's kind
abbrev pub behind_commit : UnitKind → Follow
behind_commit (First t b n args) = Accept b
behind_commit (Later b part) = Finish b
behind_commit kind = Nothing

abbrev pub behind_branch : UnitKind → Follow
behind_branch (Later b part) = Finish b
behind_branch kind = Nothing
