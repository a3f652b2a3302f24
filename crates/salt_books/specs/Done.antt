-- What calls make of the books: a unit has done its statement, or has ended by a decision.
use Rattle.law_states.specs.OpenUnits.{OpenUnit, UnitState, names_in, unit_named}
use Rattle.law_states.specs.Rising.{Rising}
use Rattle.law_states.specs.Steps.{outcome_under, units_after}
use Rattle.law_states.specs.Told.{next_decision_number}
use Rattle.salt_ast.specs.declared.trees.Statement.{Statement}
use Rattle.salt_books.specs.Books.{AreBooks, AreLoaded, IsUnitAtPart}
use Rattle.salt_books.specs.Moves.{CanMove, MovesTo}
use Rattle.salt_books.specs.declared.books.Books.{Books}
use Rattle.salt_cont.specs.Move.{Move}
use Rattle.salt_model.specs.Kept.{conts_branched, conts_committed, schema_of}
use Rattle.salt_model.specs.Reaches.{reach}
use Rattle.salt_model.specs.Tables.{Tables}
use Rattle.salt_model.specs.declared.events.Answer.{Answer}
use Rattle.salt_model.specs.declared.events.Cause.{Cause}
use Rattle.salt_model.specs.declared.events.End.TheVariants.{Branched, Committed}
use Rattle.salt_model.specs.declared.events.Event.TheVariants.{Did, Ended}
use Rattle.salt_values.specs.declared.cont.Cont.{Cont}
use Rattle.salt_values.specs.declared.id.Id.{Id}
use Rattle.std.specs.Prelude.{List, Some, ℕ, ◌≡◌}

-- what a unit's statement answers over rows that are those in its reach, and what it makes
abbrev pub AnswersTo : Id → Statement → Tables → Books → Answer → Type 0
AnswersTo u st rows x answer = (s : UnitState) (o : OpenUnit) → AreBooks x s → Rising (names_in s.units) → unit_named u s.units ≡ Some o →
    AreLoaded (reach (schema_of s.kept) o.vars st) rows s.kept.tables → answer ≡ (outcome_under s.kept o st).answer

abbrev pub HasDone : Id → Statement → Tables → (old new : Books) → Type 0
HasDone u st rows old new = (s : UnitState) (o : OpenUnit) (answer : Answer) → AreBooks old s → Rising (names_in s.units) → unit_named u s.units ≡ Some o →
    AreLoaded (reach (schema_of s.kept) o.vars st) rows s.kept.tables → AreBooks new (units_after (Did u st answer) s)

-- the move of a unit's program that its commit will make, or its branch; the part of the unit is the one at which its program stands
abbrev pub IsMoveOfCommit : Books → Id → Move → Type 0
IsMoveOfCommit x u made = (s : UnitState) (o : OpenUnit) → AreBooks x s → unit_named u s.units ≡ Some o → IsUnitAtPart s u → CanMove s.kept o.kind →
    MovesTo made s.kept (conts_committed s.kept (next_decision_number s) o.kind o.vars)

abbrev pub IsMoveOfBranch : Books → Id → Move → Type 0
IsMoveOfBranch x u made = (s : UnitState) (o : OpenUnit) → AreBooks x s → unit_named u s.units ≡ Some o → IsUnitAtPart s u → CanMove s.kept o.kind →
    MovesTo made s.kept (conts_branched s.kept o.kind)

-- the unit has committed by the next decision, of this number, with this move, or has ended by a branch
abbrev pub HasCommitted : Id → Move → (number : ℕ) → (old new : Books) → Type 0
HasCommitted u made number old new = (s : UnitState) (o : OpenUnit) (conts : List Cont) → number ≡ next_decision_number s → AreBooks old s → Rising (names_in s.units) → unit_named u s.units ≡ Some o → MovesTo made s.kept conts →
    conts ≡ conts_committed s.kept (next_decision_number s) o.kind o.vars → AreBooks new (units_after (Ended u (Committed (next_decision_number s))) s)

abbrev pub HasBranched : Id → Move → (number : ℕ) → (old new : Books) → Type 0
HasBranched u made number old new = (s : UnitState) (o : OpenUnit) (conts : List Cont) (cause : Cause) → number ≡ next_decision_number s → AreBooks old s → Rising (names_in s.units) → unit_named u s.units ≡ Some o → MovesTo made s.kept conts →
    conts ≡ conts_branched s.kept o.kind → AreBooks new (units_after (Ended u (Branched (next_decision_number s) cause)) s)
