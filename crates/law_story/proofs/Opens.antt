-- Whose an event is, which units are open, and whose statement has just failed.
use Rattle.salt_model.specs.Honest.{cause_in}
use Rattle.salt_model.specs.Locks.{family_of}
use Rattle.salt_model.specs.Trace.{Trace, ◌says◌}
use Rattle.salt_model.specs.Units.{is_open, kind_of}
use Rattle.salt_model.specs.declared.events.Cause.{Cause}
use Rattle.salt_model.specs.declared.events.End.TheVariants.{Cut}
use Rattle.salt_model.specs.declared.events.Event.TheVariants.{Began, Did, Down, Ended, Opened}
use Rattle.salt_model.specs.declared.events.Event.{Event}
use Rattle.salt_model.specs.declared.locks.Family.TheVariants.{Alkaline}
use Rattle.salt_values.specs.Id.{is_same_id}
use Rattle.salt_values.specs.declared.id.Id.{Id}
use Rattle.std.specs.Prelude.{Bool, None, Option, false, if◌then◌else◌, true, ⊤, ◌||◌, ◌≡◌}

abbrev pub Open : Trace → Id → Type 0
Open trace u = is_open trace u ≡ true

-- the cause of the statement that came last, where it is the unit's and failed; it stays through a stop
abbrev pub failing : Id → Trace → Option Cause
failing u (trace says Did v st a) = if is_same_id u v then cause_in a else None
failing u (trace says Down why) = failing u trace
failing u (trace says Opened boot n) = failing u trace
failing u (trace says Ended v Cut) = failing u trace
failing u trace = None

-- the events through which it stays
abbrev pub lasts : Event → Bool
lasts (Down why) = true
lasts (Opened boot n) = true
lasts (Ended v Cut) = true
lasts e = false

abbrev pub is_ended : Id → Event → Bool
is_ended u (Ended v end) = is_same_id u v
is_ended u e = false

abbrev pub is_cut : Event → Bool
is_cut (Ended v Cut) = true
is_cut e = false

-- an event that ends the unit, or cuts another
abbrev pub Closes : Id → Event → Type 0
Closes u e = (is_ended u e || is_cut e) ≡ true

-- no other unit is open, and this one is a subtransaction
abbrev pub Alone : Trace → Id → Type 0
Alone trace u = ((v : Id) → Open trace v → is_same_id u v ≡ true) × (family_of (kind_of u trace) ≡ Alkaline)

-- in an opening, only the unit that the last event is of is open
abbrev pub Sole : Trace → Type 0
Sole (trace says Began u kind) = Alone (trace says Began u kind) u
Sole (trace says Did u st a) = Alone (trace says Did u st a) u
Sole trace = ⊤
