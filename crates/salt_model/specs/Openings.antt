-- The complete segment of an opening, after its Opened: the flight where it stands, the Cuts, then the drain, or an early end.
use Rattle.salt_model.specs.After.{kept}
use Rattle.salt_model.specs.Trace.{Trace, start_of}
use Rattle.salt_model.specs.Turns.{after_did, after_end, begins, does_next, finishes, next_number}
use Rattle.salt_model.specs.Units.{kind_of, open_units}
use Rattle.salt_model.specs.Words.{is_empty}
use Rattle.salt_model.specs.declared.events.End.TheVariants.{Cut}
use Rattle.salt_model.specs.declared.events.Event.{Event}
use Rattle.salt_model.specs.declared.events.Event.TheVariants.{Accepted, Began, Did, Early, Ended, Ready}
use Rattle.salt_model.specs.declared.events.UnitKind.TheVariants.{Later}
use Rattle.salt_values.specs.Id.{in_order}
use Rattle.salt_values.specs.declared.cont.Cont.{Cont}
use Rattle.salt_values.specs.declared.id.Id.{Id}
use Rattle.std.specs.Bool.{then_some}
use Rattle.std.specs.List.{filter}
use Rattle.std.specs.Option.{option_or}
use Rattle.std.specs.Prelude.{Bool, List, None, Option, Some, [], false, map, nat_lt, true, ℕ, ◌==◌, ◌∷◌, option_and_then}

-- open units of earlier boots, in order of names
abbrev pub to_cut : Trace → List Id
to_cut trace = in_order (filter (λ u. nat_lt u.boot (kept trace).boot) (open_units trace))

-- What follows an event of the opening: a unit does its next statement, or ends with its last; a program that has ended is finished.
-- Nothing is locked, and none is released.
abbrev pub follow_opening : Trace → Event → Option Event
follow_opening trace (Began u kind) = does_next trace u
follow_opening trace (Did u st answer) = option_or (after_did trace u answer) (does_next trace u)
follow_opening trace (Ended u end) = after_end trace end (kind_of u trace)
follow_opening trace (Accepted b) = finishes trace b
follow_opening trace e = None

-- an early opening names the unfinished programs, in order of names; else they run to their ends, in order of acceptance
abbrev pub unfinished : Bool → Trace → Cont → List Cont → Event
unfinished true trace c cs = Early (in_order (map (λ d. d.base) (c ∷ cs)))
unfinished false trace c cs = begins trace (Later c.base c.next)

abbrev pub drains : Trace → List Cont → Event
drains trace [] = Ready
drains trace (c ∷ cs) = unfinished (start_of trace).early trace c cs

-- the drain goes on, and comes to its end, where nothing is open
abbrev pub cuts_or_drains : Trace → List Id → Option Event
cuts_or_drains trace (u ∷ us) = Some (Ended u Cut)
cuts_or_drains trace [] = then_some (is_empty (open_units trace)) (drains trace (kept trace).conts)

-- the decision in flight stands where the Opened carries the number after the last
abbrev pub stands_now : Trace → ℕ → Option Event → Option Event
stands_now trace n pending = option_and_then (λ decision. then_some (n == next_number trace) decision) pending

-- directly after the Opened
abbrev pub after_opened : Trace → ℕ → Option Event → Option Event
after_opened trace n pending = option_or (stands_now trace n pending) (cuts_or_drains trace (to_cut trace))
