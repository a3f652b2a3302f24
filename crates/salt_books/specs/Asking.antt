-- What an open unit asks for.
use Rattle.salt_books.specs.declared.asking.Asking.{Asking}
use Rattle.law_states.specs.OpenUnits.{OpenUnit, UnitState, asks_next, unit_named}
use Rattle.law_states.specs.UnitFacts.{reach_under}
use Rattle.salt_model.specs.Locks.{family_of}
use Rattle.salt_model.specs.Units.{program_of_kind}
use Rattle.salt_values.specs.declared.id.Id.{Id}
use Rattle.std.specs.Prelude.{None, Option, Some, option_and_then, ◌≡◌}

-- what this open unit asks for, its statement and what that would reach
pub record IsAskedBy (a : Asking) (s : UnitState) (o : OpenUnit) : Type 0 where
  pub named : unit_named a.unit s.units ≡ Some o
  pub asks : asks_next s o ≡ Some a.statement
  pub base : a.base ≡ program_of_kind o.kind
  pub family : a.family ≡ family_of (Some o.kind)
  pub reach : a.reach ≡ reach_under s.kept o a.statement

-- what the unit of this name asks for, if it is open and asks
abbrev pub IsAsked : UnitState → Id → Option Asking → Type 0
IsAsked s u None = option_and_then (asks_next s) (unit_named u s.units) ≡ None
IsAsked s u (Some a) = (a.unit ≡ u) × ((o : OpenUnit) × IsAskedBy a s o)
