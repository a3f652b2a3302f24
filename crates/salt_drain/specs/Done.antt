-- What calls make of a recovery: it has done the event that the state tells.
use Rattle.law_states.specs.OpenUnits.{OpenUnit, unit_named}
use Rattle.law_states.specs.States.{State}
use Rattle.law_states.specs.Told.{commits_in, does_in, next_decision_number}
use Rattle.salt_ast.specs.declared.lines.Line.{Line}
use Rattle.salt_books.specs.Asking.{IsAskedBy}
use Rattle.salt_books.specs.Books.{AreLoaded}
use Rattle.salt_books.specs.Moves.{MovesTo}
use Rattle.salt_books.specs.declared.asking.Asking.{Asking}
use Rattle.salt_cont.specs.Move.{Move}
use Rattle.salt_drain.specs.Recovering.{AnswersWith, IsOfPart, IsRecovering, NextTold, StandsForState}
use Rattle.salt_drain.specs.declared.recovery.Recovery.{Recovery}
use Rattle.salt_model.specs.Kept.{conts_branched, conts_committed}
use Rattle.salt_model.specs.Tables.{Tables}
use Rattle.salt_model.specs.declared.events.Cause.{Cause}
use Rattle.salt_model.specs.declared.events.End.TheVariants.{Branched}
use Rattle.salt_model.specs.declared.events.Event.TheVariants.{Defined, Ended}
use Rattle.salt_model.specs.declared.events.Event.{Event}
use Rattle.salt_model.specs.declared.events.UnitKind.TheVariants.{Later}
use Rattle.salt_values.specs.declared.id.Id.{Id}
use Rattle.std.specs.Prelude.{List, Some, [], ℕ, ◌≡◌}

-- the statement that a unit asks for which goes on with a program, over these rows
abbrev pub HasDone : Asking → Tables → (old new : Recovery) → Event → Type 0
HasDone a rows old new e = (s : State) (o : OpenUnit) → StandsForState old s → IsRecovering s → IsAskedBy a s.units o → IsOfPart o → AreLoaded a.reach rows s.units.kept.tables →
    AnswersWith s (Some (does_in s.units o a.statement)) new (Some e)

-- the commit of a unit by the next decision, of this number, with this move of its program
abbrev pub HasCommitted : Id → Move → (number : ℕ) → (old new : Recovery) → Event → Type 0
HasCommitted u made number old new e = (s : State) (o : OpenUnit) → number ≡ next_decision_number s.units → StandsForState old s → IsRecovering s → unit_named u s.units.units ≡ Some o →
    MovesTo made s.units.kept (conts_committed s.units.kept (next_decision_number s.units) o.kind o.vars) → AnswersWith s (Some (commits_in s.units o)) new (Some e)

-- the branch of a unit of a later part
abbrev pub HasBranched : Id → (base : Id) → Cause → Move → (number : ℕ) → (old new : Recovery) → Event → Type 0
HasBranched u base cause made number old new e = (s : State) (o : OpenUnit) (part : ℕ) → number ≡ next_decision_number s.units → StandsForState old s → IsRecovering s → unit_named u s.units.units ≡ Some o → o.kind ≡ Later base part →
    MovesTo made s.units.kept (conts_branched s.units.kept o.kind) → AnswersWith s (Some (Ended u (Branched (next_decision_number s.units) cause))) new (Some e)

-- what the last line defines, by this text
abbrev pub HasDefined : Line → List ℕ → (old new : Recovery) → Event → Type 0
HasDefined line text old new e = (s : State) → StandsForState old s → IsRecovering s → s.units.line ≡ line → AnswersWith s (Some (Defined (next_decision_number s.units) text)) new (Some e)

-- what this tells where no unit is open
abbrev pub DoesAlone : NextTold → (old new : Recovery) → Event → Type 0
DoesAlone want old new e = (s : State) → StandsForState old s → IsRecovering s → s.units.units ≡ [] → AnswersWith s (want s.units) new (Some e)
