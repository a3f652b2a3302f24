-- A decision that was in flight is told: what the recovery's call asks for, and what it gives.
use Rattle.salt_ast.specs.ProgramTexts.{program_text}
use Rattle.salt_ast.specs.Texts.{table_text}
use Rattle.salt_ast.specs.declared.programs.ProgramDef.{ProgramDef}
use Rattle.salt_ast.specs.declared.trees.TableDef.{TableDef}
use Rattle.salt_books.proofs.AtParts.{at-part}
use Rattle.salt_books.proofs.CanMoves.{can-move}
use Rattle.salt_books.proofs.Shown.{have-unit}
use Rattle.salt_books.specs.Books.{AreBooks, HaveUnit, IsUnitAtPart, programs_in, tables_in}
use Rattle.salt_books.specs.Coming.{IsLaterUnit}
use Rattle.salt_books.specs.declared.books.Books.{Books}
use Rattle.salt_cont.specs.Move.{Move}
use Rattle.salt_database.specs.Finding.{Flies}
use Rattle.salt_engine.specs.Deciding.{branches_in}
use Rattle.salt_engine.specs.Flights.{IsInFlight, IsProgramToCome, IsTableToCome}
use Rattle.salt_engine.specs.declared.flights.InFlight.{InFlight}
use Rattle.salt_engine.specs.declared.flights.InFlight.TheVariants as asked
use Rattle.law_states.specs.OpenUnits.{OpenUnit, UnitState, unit_named}
use Rattle.law_states.specs.States.{State}
use Rattle.law_states.specs.Told.{commits_in, next_decision_number}
use Rattle.salt_books.specs.Moves.{CanMove}
use Rattle.salt_model.specs.Kept.{conts_branched, conts_committed}
use Rattle.salt_model.specs.declared.events.Cause.{Cause}
use Rattle.salt_model.specs.declared.events.Event.{Event}
use Rattle.salt_model.specs.declared.events.Event.TheVariants.{Defined}
use Rattle.salt_program.specs.Refusals.{program_refusal}
use Rattle.salt_drain.proofs.Chosen.{gives-same}
use Rattle.salt_drain.specs.Recovering.{AnswersWith, books_of}
use Rattle.salt_drain.specs.declared.recovery.Recovery.{Recovery}
use Rattle.salt_schema.specs.Refusals.{table_refusal}
use Rattle.salt_stands.specs.OpenConts.{make_move}
use Rattle.salt_values.specs.declared.id.Id.{Id}
use Rattle.std.proofs.Common.{ap, subst, sym, ◌∙◌}
use Rattle.std.specs.Prelude.{List, None, Some, ℕ, ◌≡◌}

module _ (x : Recovery) (i : InFlight) (f : Event) (s : State) (h : Flies x i f s) where
  module _ (u : Id) (is : i ≡ asked.Commit u) where
    pub commit-flies : (o : OpenUnit) × (unit_named u s.units.units ≡ Some o) × (Some f ≡ Some (commits_in s.units o))
    commit-flies = subst (λ (j : InFlight). IsInFlight (Some j) (Some f) s.units) is h.flies

    pub commit-there : (y : Books) → y ≡ books_of x → HaveUnit y u
    commit-there y same = have-unit y s.units u commit-flies.0 (subst (λ (z : Books). AreBooks z s.units) (sym same) h.rests.stands.books) commit-flies.1

    pub commit-moves : (y : Books) → y ≡ books_of x → (m : Move) → ((s : UnitState) (o : OpenUnit) → AreBooks y s → unit_named u s.units ≡ Some o → IsUnitAtPart s u → CanMove s.kept o.kind →
        make_move s.kept.conts m ≡ Some (conts_committed s.kept (next_decision_number s) o.kind o.vars)) →
        make_move s.units.kept.conts m ≡ Some (conts_committed s.units.kept (next_decision_number s.units) commit-flies.0.kind commit-flies.0.vars)
    commit-moves y same m made =
        let sound = h.rests.recovers.sound in
        made s.units commit-flies.0 (subst (λ (z : Books). AreBooks z s.units) (sym same) h.rests.stands.books) commit-flies.1
        (at-part s.units sound.trace u sound.keeps.units sound.sound)
        (can-move s.units sound.trace u commit-flies.0 sound.keeps.units sound.sound h.rests.sound.rise commit-flies.1)

    pub commit-told : (new : Recovery) (e : Event) → AnswersWith s (Some (commits_in s.units commit-flies.0)) new (Some e) → AnswersWith s (Some f) new (Some e)
    commit-told new e g = gives-same s _ _ _ new (sym commit-flies.2) g

  module _ (u b : Id) (cause : Cause) (is : i ≡ asked.Branch u b cause) where
    pub branch-flies : IsLaterUnit s.units u b × (Some f ≡ Some (branches_in s.units u cause))
    branch-flies = subst (λ (j : InFlight). IsInFlight (Some j) (Some f) s.units) is h.flies

    pub branch-there : (y : Books) → y ≡ books_of x → HaveUnit y u
    branch-there y same = have-unit y s.units u branch-flies.0.unit (subst (λ (z : Books). AreBooks z s.units) (sym same) h.rests.stands.books) branch-flies.0.named

    pub branch-moves : (y : Books) → y ≡ books_of x → (m : Move) → ((s : UnitState) (o : OpenUnit) → AreBooks y s → unit_named u s.units ≡ Some o → IsUnitAtPart s u → CanMove s.kept o.kind →
        make_move s.kept.conts m ≡ Some (conts_branched s.kept o.kind)) →
        make_move s.units.kept.conts m ≡ Some (conts_branched s.units.kept branch-flies.0.unit.kind)
    branch-moves y same m made =
        let sound = h.rests.recovers.sound in
        made s.units branch-flies.0.unit (subst (λ (z : Books). AreBooks z s.units) (sym same) h.rests.stands.books) branch-flies.0.named
        (at-part s.units sound.trace u sound.keeps.units sound.sound)
        (can-move s.units sound.trace u branch-flies.0.unit sound.keeps.units sound.sound h.rests.sound.rise branch-flies.0.named)

    pub branch-told : (new : Recovery) (e : Event) → AnswersWith s (Some (branches_in s.units u cause)) new (Some e) → AnswersWith s (Some f) new (Some e)
    branch-told new e g = gives-same s _ _ _ new (sym branch-flies.1) g

  module _ (d : TableDef) (text : List ℕ) (is : i ≡ asked.Table d text) where
    table-is : IsTableToCome s.units d × (text ≡ table_text d) × (Some f ≡ Some (Defined (next_decision_number s.units) text))
    table-is = subst (λ (j : InFlight). IsInFlight (Some j) (Some f) s.units) is h.flies

    pub table-flies : IsTableToCome s.units d
    table-flies = table-is.0

    pub table-allowed : table_refusal (tables_in (books_of x)) d ≡ None
    table-allowed = ap (λ (ts : List TableDef). table_refusal ts d) h.rests.stands.books.known.schema ∙ table-flies.allowed

    pub table-told : (new : Recovery) (e : Event) → AnswersWith s (Some (Defined (next_decision_number s.units) (table_text d))) new (Some e) → AnswersWith s (Some f) new (Some e)
    table-told new e g =
        gives-same s _ _ _ new (sym (table-is.2 ∙ ap (λ (t : List ℕ). Some (Defined (next_decision_number s.units) t)) table-is.1)) g

  module _ (p : ProgramDef) (text : List ℕ) (is : i ≡ asked.Program p text) where
    program-is : IsProgramToCome s.units p × (text ≡ program_text p) × (Some f ≡ Some (Defined (next_decision_number s.units) text))
    program-is = subst (λ (j : InFlight). IsInFlight (Some j) (Some f) s.units) is h.flies

    pub program-flies : IsProgramToCome s.units p
    program-flies = program-is.0

    pub program-allowed : program_refusal (tables_in (books_of x)) (programs_in (books_of x)) p ≡ None
    program-allowed = (λ i. program_refusal (h.rests.stands.books.known.schema i) (h.rests.stands.books.known.catalogue i) p) ∙ program-flies.allowed

    pub program-told : (new : Recovery) (e : Event) → AnswersWith s (Some (Defined (next_decision_number s.units) (program_text p))) new (Some e) → AnswersWith s (Some f) new (Some e)
    program-told new e g =
        gives-same s _ _ _ new (sym (program-is.2 ∙ ap (λ (t : List ℕ). Some (Defined (next_decision_number s.units) t)) program-is.1)) g
