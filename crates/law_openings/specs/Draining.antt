-- What an opening can carry to its end, and how much is left of it: the units still to cut, and the statements of the programs that go on.
use Rattle.salt_ast.specs.Paths.{at_number}
use Rattle.salt_ast.specs.ProgramJudgement.{branch_fault}
use Rattle.salt_ast.specs.declared.programs.PartDef.{PartDef}
use Rattle.salt_ast.specs.declared.programs.ProgramDef.{ProgramDef}
use Rattle.salt_ast.specs.declared.trees.Statement.{Statement}
use Rattle.law_states.specs.OpenUnits.{OpenUnit, UnitState}
use Rattle.law_states.specs.Steps.{units_after}
use Rattle.salt_model.specs.After.{defined_by}
use Rattle.salt_model.specs.Kept.{Kept, block_of_kind, kept_program, parts_of, program_of_definition, programs_of}
use Rattle.salt_model.specs.Next.{decision_in}
use Rattle.salt_model.specs.Rests.{rests_of, statements_in}
use Rattle.salt_model.specs.Stops.{is_just_opened}
use Rattle.salt_model.specs.Trace.{Trace}
use Rattle.salt_model.specs.Words.{Every}
use Rattle.salt_model.specs.declared.events.End.TheVariants.{Cut}
use Rattle.salt_model.specs.declared.events.Event.{Event}
use Rattle.salt_model.specs.declared.events.Event.TheVariants.{Accepted, Began, Defined, Did, Down, Early, Ended, Finished, Opened, Ready}
use Rattle.salt_model.specs.declared.events.UnitKind.TheVariants.{Later}
use Rattle.salt_values.specs.declared.cont.Cont.{Cont}
use Rattle.salt_values.specs.declared.id.Id.{Id}
use Rattle.std.specs.List.{filter, filter_map}
use Rattle.std.specs.Prelude.{Bool, List, None, Option, Some, [], false, if◌then◌else◌, length, nat_lt, true, ℕ, ◌*◌, ◌+◌, ◌-◌, ◌<◌, ◌∷◌, ◌≡◌, ◌≤◌, ◌⊎◌}

-- a program's ways lead on, and each of its parts has a statement
pub record LeadsOn (p : ProgramDef) : Type 0 where
  pub ways : branch_fault p.body ≡ None
  pub blocks : Every (λ (part : PartDef). 0 < length part.block) (parts_of p)

-- a program stands at one of its parts
pub record StandsAtPart (k : Kept) (c : Cont) : Type 0 where
  pub program : ProgramDef
  pub part : PartDef
  pub found : kept_program c.program k ≡ Some program
  pub there : at_number c.next (parts_of program) ≡ Some part

-- what is kept can be drained
pub record CanDrain (k : Kept) : Type 0 where
  pub programs : Every LeadsOn (programs_of k)
  pub conts : Every (StandsAtPart k) k.conts

-- the rests of the programs that go on behind this event
abbrev pub rests_behind : Event → UnitState → ℕ
rests_behind e s = let k = (units_after e s).kept in rests_of (programs_of k) k.conts

-- a unit of an earlier boot
abbrev pub is_earlier : ℕ → OpenUnit → Bool
is_earlier boot o = nat_lt o.unit.boot boot

-- the statements of these rests that units of this boot have done
abbrev pub done_now : ℕ → List OpenUnit → ℕ
done_now boot [] = 0
done_now boot (o ∷ os) = (if is_earlier boot o then 0 else o.done) + done_now boot os

-- the statements that the drain may still do, at most
abbrev pub statements_left : UnitState → ℕ
statements_left s = rests_of (programs_of s.kept) s.kept.conts - done_now s.kept.boot s.units

abbrev pub units_to_cut : UnitState → ℕ
units_to_cut s = length (filter (is_earlier s.kept.boot) s.units)

-- between two of these, events follow in this order
abbrev pub opening_stage : Event → ℕ
opening_stage (Did u st answer) = 5
opening_stage (Accepted b) = 3
opening_stage (Finished b) = 2
opening_stage (Began u kind) = 1
opening_stage Ready = 1
opening_stage (Early bs) = 1
opening_stage e = 4

-- by the units, and what comes next
abbrev pub left_to_open : UnitState → Option Event → ℕ
left_to_open s None = 0
left_to_open s (Some e) = 8 * (units_to_cut (units_after e s) + statements_left (units_after e s)) + opening_stage e

-- the statements that the event at hand does, if there is one
abbrev pub statements_at : Option Event → ℕ
statements_at None = 0
statements_at (Some e) = statements_in e

-- whether it cuts a unit, as a number
abbrev pub cuts_in : Event → ℕ
cuts_in (Ended u Cut) = 1
cuts_in e = 0

-- the programs that an event defines
abbrev pub defined_in : UnitState → Event → List ProgramDef
defined_in s (Defined n text) = filter_map program_of_definition (defined_by s.line)
defined_in s e = []

-- the decision in flight, which may follow an Opened, isn't what comes next
abbrev pub IsBehindFlight : Trace → Option Event → Type 0
IsBehindFlight trace next = (is_just_opened trace ≡ false) ⊎ (decision_in next ≡ None)

-- THE UNITS between two events of an opening.

-- a unit of the drain is open: alone, of this boot, and of the program that was accepted first, at its part; openings are not early
pub record DrainsAt (s : UnitState) (u : Id) : Type 0 where
  pub unit : OpenUnit
  pub cont : Cont
  pub others : List Cont
  pub only : s.units ≡ record unit { kind = Later cont.base cont.next } ∷ []
  pub conts : s.kept.conts ≡ cont ∷ others
  pub name : unit.unit ≡ u
  pub boot : unit.unit.boot ≡ s.kept.boot
  pub late : s.early ≡ false
  pub within : (block : List Statement) → block_of_kind s.kept (Later cont.base cont.next) ≡ Some block → unit.done ≤ length block

-- each open unit is of an earlier boot
abbrev pub AreEarlier : UnitState → Type 0
AreEarlier s = Every (λ o. is_earlier s.kept.boot o ≡ true) s.units

-- by the event that came last
abbrev pub Stands : UnitState → Event → Type 0
Stands s (Began u kind) = (d : DrainsAt s u) × (d.unit.done ≡ 0)
Stands s (Did u st a) = DrainsAt s u
Stands s e = AreEarlier s

-- an event behind which an opening goes on, its Opened aside
abbrev pub is_within : Event → Bool
is_within (Down why) = false
is_within (Opened boot n) = false
is_within Ready = false
is_within (Early bs) = false
is_within e = true
