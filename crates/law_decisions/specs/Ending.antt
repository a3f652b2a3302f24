-- What comes next is a decided end, and what it leaves may be kept.
use Rattle.salt_bytes.specs.declared.moves.Move.{Move}
use Rattle.law_states.specs.Keeps.{KeepsUnits}
use Rattle.law_states.specs.Laws.{IsSound}
use Rattle.law_states.specs.OpenUnits.{OpenUnit, UnitState, unit_named}
use Rattle.law_states.specs.Steps.{units_after}
use Rattle.salt_model.specs.Next.{next}
use Rattle.salt_model.specs.Trace.{Trace, lines_asked, start_of}
use Rattle.salt_model.specs.Words.{Every}
use Rattle.salt_model.specs.declared.events.End.{End}
use Rattle.salt_model.specs.declared.events.Event.TheVariants.{Ended}
use Rattle.salt_storage.specs.Storing.{IsSoundKept, MayDecide, decided}
use Rattle.law_types.specs.Played.{HasKey}
use Rattle.law_types.specs.Typed.{IsTyped}
use Rattle.salt_values.specs.declared.change.Change.{Change}
use Rattle.salt_values.specs.declared.cont.Cont.{Cont}
use Rattle.std.specs.Prelude.{List, Some, ◌≡◌}

-- The state of a trace that is played, from a start that fits its definitions and over lines whose tables have keys; and what is
-- kept there may be kept.
pub record IsSoundState (s : UnitState) (trace : Trace) : Type 0 where
  pub keeps : KeepsUnits s trace
  pub sound : IsSound trace
  pub typed : IsTyped (start_of trace).kept
  pub keyed : Every HasKey (lines_asked trace)
  pub may_be_kept : IsSoundKept s.kept

-- such a state, and next an open unit ends there so
pub record EndsNext (s : UnitState) (trace : Trace) (o : OpenUnit) (end : End) : Type 0 where
  pub state : IsSoundState s trace
  pub is_open : unit_named o.unit s.units ≡ Some o
  pub comes : next trace ≡ Some (Ended o.unit end)

-- the end may be decided with these changes and this move, and what is kept behind the decision is what the event leaves
pub record MayEnd (s : UnitState) (o : OpenUnit) (end : End) (cs : List Change) (m : Move) (conts : List Cont) : Type 0 where
  pub may : MayDecide s.kept o.unit cs m conts
  pub leaves : decided s.kept cs conts ≡ (units_after (Ended o.unit end) s).kept
