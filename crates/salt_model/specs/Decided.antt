-- Decision numbers, boots, and what an opening tells of what a stop left.
use Rattle.salt_model.specs.After.{kept}
use Rattle.salt_model.specs.Trace.{Trace, ◌says◌}
use Rattle.salt_model.specs.Next.{flight, number_in}
use Rattle.salt_model.specs.Phases.{Fallen, Opening, Phase, phase}
use Rattle.salt_model.specs.Stops.{MayOpen}
use Rattle.salt_model.specs.Everywhere.{Each}
use Rattle.salt_model.specs.Units.{is_open}
use Rattle.salt_model.specs.declared.events.End.TheVariants.{Cut}
use Rattle.salt_model.specs.declared.events.Event.TheVariants.{Began, Defined, Did, Down, Ended, Opened, Waits}
use Rattle.salt_model.specs.declared.events.Event.{Event}
use Rattle.salt_values.specs.Id.{is_older}
use Rattle.salt_values.specs.declared.id.Id.{Id}
use Rattle.std.specs.Prelude.{Bool, IsTrue, None, Option, Some, false, true, ⊤, ◌+◌, ◌<◌, ◌==◌, ◌≡◌}

-- decisions carry the numbers after the start's, one by one
abbrev pub NumbersOn : Trace → Event → Type 0
NumbersOn trace e = elim (number_in e) [ None ↦ ⊤ | Some n ↦ n ≡ (kept trace).decisions + 1 ]

-- an Opened has a boot and a number that it may have
abbrev pub OpensRight : Trace → Event → Type 0
OpensRight trace (Opened boot n) = MayOpen Fallen trace boot n
OpensRight trace e = ⊤

-- the trace ends with an Opened that counts the decision in flight
abbrev pub counts_flight : Trace → Bool
counts_flight (trace says Opened boot n) = n == (kept trace).decisions + 1
counts_flight trace = false

abbrev pub OnlyAfter : Bool → Option Event → Event → Type 0
OnlyAfter true f e = f ≡ Some e
OnlyAfter false f e = number_in e ≡ None

-- directly after an Opened the flight is told where the number counts it, and else no decision
abbrev pub TellsFlight : Trace → Event → Type 0
TellsFlight trace (Down why) = ⊤
TellsFlight (trace says Opened boot n) e = OnlyAfter (counts_flight (trace says Opened boot n)) (flight trace) e
TellsFlight trace e = ⊤

-- an event of a unit is of a unit of this boot, but any may be cut
abbrev pub IsOfBoot : Trace → Event → Type 0
IsOfBoot trace (Began u kind) = u.boot ≡ (kept trace).boot
IsOfBoot trace (Did u st answer) = u.boot ≡ (kept trace).boot
IsOfBoot trace (Waits u owners) = u.boot ≡ (kept trace).boot
IsOfBoot trace (Ended u Cut) = ⊤
IsOfBoot trace (Ended u end) = u.boot ≡ (kept trace).boot
IsOfBoot trace e = ⊤

-- and nothing is defined in an opening
abbrev pub IsOwnIn : Phase → Trace → Event → Type 0
IsOwnIn Opening trace (Defined n text) = ⊥
IsOwnIn phase trace e = IsOfBoot trace e

-- but for the flight, which stands directly after its Opened, nothing is told of units of earlier boots but that they are cut
abbrev pub TellsOwn : Trace → Event → Type 0
TellsOwn trace e = counts_flight trace ≡ false → IsOwnIn (phase trace) trace e

-- open, and of an earlier boot
abbrev pub IsLeftOpen : Trace → Id → Type 0
IsLeftOpen trace u = IsTrue (is_open trace u) × (u.boot < (kept trace).boot)

-- a Cut comes in openings alone, to the unit with the least name of those that are left open
abbrev pub CutsRight : Trace → Event → Type 0
CutsRight trace (Ended u Cut) = (phase trace ≡ Opening) × IsLeftOpen trace u × ((v : Id) → IsLeftOpen trace v → is_older v u ≡ false)
CutsRight trace e = ⊤

pub record IsKept (trace : Trace) : Type 0 where
  pub numbers : Each NumbersOn trace
  pub opens : Each OpensRight trace
  pub flight : Each TellsFlight trace
  pub own : Each TellsOwn trace
  pub cuts : Each CutsRight trace
