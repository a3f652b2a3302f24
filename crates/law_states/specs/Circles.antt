-- Circles of units that wait for each other, by ways and not by search; and when an event can close none.
use Rattle.law_states.specs.KeptSources.{Dependencies, Through}
use Rattle.law_states.specs.KeptWaits.{Asker, clash_owners, is_base_of}
use Rattle.law_states.specs.Members.{In}
use Rattle.law_states.specs.Readings.{locks_in}
use Rattle.law_states.specs.UnitFacts.{UnitFacts}
use Rattle.law_states.specs.WatchSteps.{ReadsBy, base_by}
use Rattle.law_states.specs.Watches.{Watch}
use Rattle.salt_model.specs.declared.events.End.TheVariants.{Committed}
use Rattle.salt_model.specs.declared.events.Event.{Event}
use Rattle.salt_model.specs.declared.events.Event.TheVariants.{Did, Ended, Waits}
use Rattle.salt_model.specs.declared.events.Owner.{Owner}
use Rattle.salt_model.specs.declared.events.Owner.TheVariants.{Base, Unit}
use Rattle.salt_values.specs.declared.id.Id.{Id}
use Rattle.std.specs.Prelude.{IsTrue, List, None, false, true, ⊤, ◌≡◌, ◌⊎◌}

-- whom a lock of an owner makes wait for: the unit, or each waiting unit of an unfinished program to which the program comes
abbrev pub HoldsUp : Dependencies → List Asker → Owner → Id → Type 0
HoldsUp d ws (Unit u) v = u ≡ v
HoldsUp d ws (Base c) v = (b : Id) × Through d.reads c b × (d.finished b ≡ false) × ((w : Asker) × In w ws × (w.unit ≡ v) × (is_base_of w.base b ≡ true))

-- a waiting unit waits for another, for a lock that clashes with what it asks
abbrev pub WaitsFor : Watch → Id → Id → Type 0
WaitsFor x u v = (w : Asker) × In w x.waits × (w.unit ≡ u) × ((o : Owner) × In o (clash_owners (locks_in x) w) × HoldsUp x.dependencies x.waits o v)

-- at once, or through others
pub data WaitsThrough (x : Watch) : Id → Id → Type 0 where
  at_once : {u v : Id} → WaitsFor x u v → WaitsThrough x u v
  onward : {u v w : Id} → WaitsFor x u v → WaitsThrough x v w → WaitsThrough x u w

-- no unit waits for itself
abbrev pub NoneOnCircle : Watch → Type 0
NoneOnCircle x = (u : Id) → WaitsThrough x u u → ⊥

-- a waiting unit waits for a lock of this unit
abbrev pub IsAwaited : Watch → Id → Type 0
IsAwaited x u = (w : Asker) × In w x.waits × In (Unit u) (clash_owners (locks_in x) w)

-- an event adds no wait, gives no lock that is waited for to a program, and adds no pair of programs; an early opening adds pairs, but
-- nothing waits behind it
abbrev pub BringsNoWait : UnitFacts → Event → Watch → Type 0
BringsNoWait f (Waits u owners) x = ⊥
BringsNoWait f (Did u st a) x = (b c : Id) → ReadsBy f (Did u st a) x.dependencies b c → IsTrue (x.dependencies.reads b c)
BringsNoWait f (Ended u (Committed n)) x = (base_by f ≡ None) ⊎ (IsAwaited x u → ⊥)
BringsNoWait f e x = ⊤
