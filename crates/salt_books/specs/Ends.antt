-- How units end.
use Rattle.law_states.specs.OpenUnits.{OpenUnit, UnitState}
use Rattle.law_states.specs.Told.{commits_in, fails_in, is_at_end_in}
use Rattle.salt_model.specs.Kept.{block_of_kind}
use Rattle.salt_model.specs.declared.events.Cause.{Cause}
use Rattle.salt_model.specs.declared.events.End.{End}
use Rattle.salt_model.specs.declared.events.End.TheVariants.{Branched, Committed}
use Rattle.salt_model.specs.declared.events.Event.{Event}
use Rattle.std.specs.Bool.{then_some}
use Rattle.std.specs.Prelude.{None, Option, Some, ⊤}

-- an end that no decision makes
abbrev pub IsUndecided : End → Type 0
IsUndecided (Committed n) = ⊥
IsUndecided (Branched n c) = ⊥
IsUndecided end = ⊤

-- how a unit ends that has done a statement: by the cause of its failure, or behind its last statement
abbrev pub done_by : UnitState → Option Cause → OpenUnit → Option Event
done_by s (Some c) o = Some (fails_in s o c o.kind)
done_by s None o = then_some (is_at_end_in o (block_of_kind s.kept o.kind)) (commits_in s o)

abbrev pub done_of : UnitState → Option Cause → Option OpenUnit → Option Event
done_of s failed None = None
done_of s failed (Some o) = done_by s failed o
