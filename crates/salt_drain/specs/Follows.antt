-- What follows an event of an opening, kept in place of the event.
use Rattle.salt_books.specs.Ends.{done_of}
use Rattle.law_states.specs.Follows.{cut_in, cuts_or_drains_in, follow_opening_in, unit_of}
use Rattle.law_states.specs.OpenUnits.{UnitState, unit_named}
use Rattle.law_states.specs.Told.{finishes_in, serve_in}
use Rattle.salt_model.specs.declared.events.Event.TheVariants.{Accepted}
use Rattle.salt_model.specs.declared.events.Event.{Event}
use Rattle.salt_model.specs.declared.events.UnitKind.TheVariants.{First, Later}
use Rattle.salt_model.specs.declared.events.UnitKind.{UnitKind}
use Rattle.salt_drain.specs.declared.behind.Behind.TheVariants.{Accept, Done, Finish, Nothing, Turn}
use Rattle.salt_drain.specs.declared.behind.Behind.{Behind}
use Rattle.std.specs.Option.{option_or}
use Rattle.std.specs.Prelude.{None, Option, Some, option_and_then, ◌≡◌}

-- what it stands for, by the state behind the event
abbrev pub event_of : Behind → UnitState → Option Event
event_of Nothing s = None
event_of (Turn u) s = option_and_then (serve_in s) (unit_named u s.units)
event_of (Done u failed) s = option_or (done_of s failed (unit_named u s.units)) (option_and_then (serve_in s) (unit_named u s.units))
event_of (Accept b) s = Some (Accepted b)
event_of (Finish b) s = finishes_in s b

-- it stands for what follows an event between these states
abbrev pub FollowsOn : Behind → Event → UnitState → UnitState → Type 0
FollowsOn b e old new = follow_opening_in new e (unit_of e old new) ≡ event_of b new

-- what follows a commit, by its unit's kind
abbrev pub behind_commit : UnitKind → Behind
behind_commit (First t b n args) = Accept b
behind_commit (Later b part) = Finish b
behind_commit kind = Nothing

-- what an opening goes on with where nothing follows: a unit is cut, the next part of a program begins, or it is done
abbrev pub rest_in : UnitState → Option Event
rest_in s = cuts_or_drains_in s (cut_in s)

abbrev pub comes_behind : Behind → UnitState → Option Event
comes_behind b s = option_or (event_of b s) (rest_in s)
