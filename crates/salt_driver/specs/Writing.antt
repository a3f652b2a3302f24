-- What is written where a run halts: the decision that comes next.
use Rattle.salt_bytes.specs.declared.moves.Move.{Move}
use Rattle.law_states.specs.OpenUnits.{OpenUnit, UnitState, unit_named}
use Rattle.law_states.specs.Points.{Point}
use Rattle.law_states.specs.Steps.{units_after}
use Rattle.salt_model.specs.declared.events.End.TheVariants.{Branched, Committed}
use Rattle.salt_model.specs.declared.events.End.{End}
use Rattle.salt_model.specs.declared.events.Event.TheVariants.{Defined, Ended}
use Rattle.salt_model.specs.declared.events.Event.{Event}
use Rattle.salt_stands.specs.OpenConts.{make_move}
use Rattle.salt_storage.specs.Writing.{OfDefinition, OfUnit, ToWrite}
use Rattle.salt_values.specs.declared.change.Change.{Change}
use Rattle.salt_values.specs.declared.id.Id.{Id}
use Rattle.std.specs.Prelude.{List, Option, Some, [], map, ◌≡◌}
use Rattle.salt_stands.specs.Turning.{change_at}

-- the changes that an end decides: a commit those of its unit, any other none
abbrev pub changes_decided : End → Option OpenUnit → List Change
changes_decided (Committed n) (Some o) = map change_at o.changes
changes_decided end o = []

-- the unit with these changes, and with a move to the continuations that are kept behind its end
pub record IsUnitWritten (s : UnitState) (u : Id) (end : End) (w : ToWrite) : Type 0 where
  pub made : Move
  pub moves : make_move s.kept.conts made ≡ Some (units_after (Ended u end) s).kept.conts
  pub writes : w ≡ OfUnit u (changes_decided end (unit_named u s.units)) made

-- what is written of the event that comes next: decisions are, and nothing else
abbrev pub IsWrittenBy : UnitState → Option Event → ToWrite → Type 0
IsWrittenBy s (Some (Ended u (Committed n))) w = IsUnitWritten s u (Committed n) w
IsWrittenBy s (Some (Ended u (Branched n cause))) w = IsUnitWritten s u (Branched n cause) w
IsWrittenBy s (Some (Defined n text)) w = w ≡ OfDefinition text
IsWrittenBy s next w = ⊥

abbrev pub IsWrittenAt : Point → ToWrite → Type 0
IsWrittenAt p w = IsWrittenBy p.state.units p.next w
