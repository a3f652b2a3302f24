-- What follows an event, while serving and in an opening, told by the states before and after it.
use Rattle.law_states.specs.OpenUnits.{OpenUnit, UnitState, names_in, unit_named}
use Rattle.law_states.specs.Told.{Beside, after_began_in, after_did_in, after_end_in, begins_in, finishes_in, next_decision_number, serve_in, settle_in}
use Rattle.salt_model.specs.Phases.{Fallen, Opening, Phase, Serving}
use Rattle.salt_model.specs.Turns.{releases}
use Rattle.salt_model.specs.Words.{is_empty}
use Rattle.salt_model.specs.declared.events.End.TheVariants.{Cut}
use Rattle.salt_model.specs.declared.events.Event.{Event}
use Rattle.salt_model.specs.declared.events.Event.TheVariants.{Accepted, Began, Did, Early, Ended, Finished, Ready}
use Rattle.salt_model.specs.declared.events.UnitKind.TheVariants.{Later}
use Rattle.salt_values.specs.Id.{in_order}
use Rattle.salt_values.specs.declared.cont.Cont.{Cont}
use Rattle.salt_values.specs.declared.id.Id.{Id}
use Rattle.std.specs.Bool.{then_some}
use Rattle.std.specs.List.{filter}
use Rattle.std.specs.Option.{option_or}
use Rattle.std.specs.Prelude.{Bool, List, None, Option, Some, [], false, map, nat_lt, option_and_then, true, ℕ, ◌==◌, ◌∷◌}

-- IN AN OPENING units of earlier boots are cut, and then programs go on, one after another.

abbrev pub cut_in : UnitState → List Id
cut_in s = in_order (filter (λ u. nat_lt u.boot s.kept.boot) (names_in s.units))

abbrev pub unfinished_in : Bool → UnitState → Cont → List Cont → Event
unfinished_in true s c cs = Early (in_order (map (λ (d : Cont). d.base) (c ∷ cs)))
unfinished_in false s c cs = begins_in s (Later c.base c.next)

abbrev pub drains_in : UnitState → List Cont → Event
drains_in s [] = Ready
drains_in s (c ∷ cs) = unfinished_in s.early s c cs

abbrev pub cuts_or_drains_in : UnitState → List Id → Option Event
cuts_or_drains_in s (u ∷ us) = Some (Ended u Cut)
cuts_or_drains_in s [] = then_some (is_empty s.units) (drains_in s s.kept.conts)

-- WHAT FOLLOWS an event of a unit.

-- the unit that an event is of, as it is after the event; one that ends, as it was before
abbrev pub unit_of : Event → UnitState → UnitState → Option OpenUnit
unit_of (Began u kind) before after = unit_named u after.units
unit_of (Did u st answer) before after = unit_named u after.units
unit_of (Ended u end) before after = unit_named u before.units
unit_of e before after = None

-- what follows an event of this unit in its turn
abbrev pub follow_in : UnitState → Beside → Event → Option OpenUnit → Option Event
follow_in s x (Began u kind) (Some o) = after_began_in s x.clash o s.line kind
follow_in s x (Did u st answer) (Some o) = after_did_in s o answer
follow_in s x (Ended u end) (Some o) = after_end_in s end o.kind
follow_in s x (Accepted b) o = finishes_in s b
follow_in s x (Finished b) o = releases x.due
follow_in s x e o = None

abbrev pub settles_in : UnitState → Beside → Option Event
settles_in s x = settle_in s x.victim (option_and_then (λ u. unit_named u s.units) x.served)

abbrev pub serving_in : UnitState → Beside → Event → Option OpenUnit → Option Event
serving_in s x Ready o = None
serving_in s x (Early bs) o = None
serving_in s x e o = option_or (follow_in s x e o) (settles_in s x)

abbrev pub follow_opening_in : UnitState → Event → Option OpenUnit → Option Event
follow_opening_in s (Began u kind) (Some o) = serve_in s o
follow_opening_in s (Did u st answer) (Some o) = option_or (after_did_in s o answer) (serve_in s o)
follow_opening_in s (Ended u end) (Some o) = after_end_in s end o.kind
follow_opening_in s (Accepted b) o = finishes_in s b
follow_opening_in s e o = None

abbrev pub opening_in : UnitState → Event → Option OpenUnit → Option Event
opening_in s e o = option_or (follow_opening_in s e o) (cuts_or_drains_in s (cut_in s))

-- what comes after an event
abbrev pub said_in : Phase → UnitState → Beside → Event → Option OpenUnit → Option Event
said_in Serving s x e o = serving_in s x e o
said_in Opening s x e o = opening_in s e o
said_in Fallen s x e o = None

-- what comes after an Opened that tells this number, with what is in flight
abbrev pub stands_in : UnitState → ℕ → Option Event → Option Event
stands_in s n None = None
stands_in s n (Some decision) = then_some (n == next_decision_number s) decision

abbrev pub opened_in : UnitState → ℕ → Option Event → Option Event
opened_in s n pending = option_or (stands_in s n pending) (cuts_or_drains_in s (cut_in s))
