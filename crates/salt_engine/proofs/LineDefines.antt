-- A line that is not refused defines a table or a program: what the storage has to know, and what comes of it.
use Rattle.salt_ast.specs.ProgramTexts.{program_text}
use Rattle.salt_ast.specs.Texts.{table_text}
use Rattle.salt_ast.specs.declared.lines.Line.TheVariants as line_of
use Rattle.salt_ast.specs.declared.lines.Line.{Line}
use Rattle.salt_ast.specs.declared.programs.ProgramDef.{ProgramDef}
use Rattle.salt_ast.specs.declared.trees.TableDef.{TableDef}
use Rattle.salt_books.specs.Books.{AreBooks}
use Rattle.salt_books.specs.declared.books.Books.{Books}
use Rattle.salt_engine.proofs.Broken.{breaks, breaks-behind}
use Rattle.salt_engine.proofs.Decided.{stored-behind}
use Rattle.salt_engine.proofs.Performed.{serves-by}
use Rattle.salt_engine.specs.Deciding.{LeavesEventUndone}
use Rattle.salt_engine.specs.Flights.{IsInFlight, definition_of, text_of}
use Rattle.salt_model.specs.Refusals.{defines}
use Rattle.salt_engine.specs.Performing.{AsksLine, BreaksOff, DefinesSomething, PerformsEvent, WasBroken}
use Rattle.salt_engine.specs.Stored.{Stored}
use Rattle.salt_engine.specs.declared.flights.InFlight.TheVariants as asked
use Rattle.salt_engine.specs.declared.flights.InFlight.{InFlight}
use Rattle.salt_engine.specs.declared.stage.Stage.TheVariants as at
use Rattle.salt_engine.specs.declared.stage.Stage.{Stage}
use Rattle.law_states.proofs.NextTold.{may-stand}
use Rattle.law_states.specs.Laws.{IsSound, is_of_run}
use Rattle.law_states.specs.OpenUnits.{UnitState}
use Rattle.law_states.specs.Readings.{WatchReading, clash_by, items_by, under_way_of}
use Rattle.law_states.specs.Refused.{known_in}
use Rattle.law_states.specs.States.{State}
use Rattle.law_states.specs.Steps.{units_after}
use Rattle.law_states.specs.Told.{line_in, next_decision_number}
use Rattle.salt_model.specs.Kept.{Definition, Kept, OfProgram, OfTable, programs_of, schema_of}
use Rattle.salt_model.specs.Printable.{IsSpelledProgram, IsSpelledTable}
use Rattle.salt_model.specs.Trace.{◌says◌}
use Rattle.salt_model.specs.declared.events.Event.TheVariants.{Armed, Defined, Down, Opened}
use Rattle.salt_model.specs.declared.events.Event.{Event}
use Rattle.salt_program.specs.Refusals.{program_refusal}
use Rattle.salt_scheduler.proofs.Allowing.{allowed-faultless, program-allowed, table-allowed}
use Rattle.salt_scheduler.proofs.LinesDone.{program-may, table-may}
use Rattle.salt_scheduler.specs.Standing as scheduling
use Rattle.salt_scheduler.specs.Standing.{IsAllowed, IsDefinable, books_of}
use Rattle.salt_scheduler.specs.declared.scheduler.Scheduler.{Scheduler}
use Rattle.salt_schema.specs.Refusals.{table_refusal}
use Rattle.law_decisions.proofs.Reading.{few-parts}
use Rattle.law_decisions.specs.Defining.{MayBeDefined}
use Rattle.salt_driver.specs.Counting.{armed_at}
use Rattle.salt_storage.specs.Storing.{IsSoundKept, defined}
use Rattle.salt_storage.specs.Writing.{OfDefinition, ToWrite}
use Rattle.salt_storage.specs.declared.halt.Halt.TheVariants.{DeviceFull, Memory}
use Rattle.salt_storage.specs.declared.halt.Halt.{Halt}
use Rattle.salt_values.specs.declared.id.Id.{Id}
use Rattle.std.proofs.Common.{ap, inl, inr, subst, sym, ◌∙◌}
use Rattle.std.specs.Prelude.{Bool, List, None, Ok, Option, Result, Some, [], false, refl, true, ℕ, ◌≡◌}
use Rattle.salt_engine.specs.Standing.{StandsAtEventIn}

-- the laws of definitions of law_decisions
abbrev pub TableLaw : Type 0
TableLaw = (s : UnitState) (d : TableDef) → IsSoundKept s.kept → s.line ≡ line_of.Table d → IsSpelledTable d → table_refusal (schema_of s.kept) d ≡ None → MayBeDefined s (table_text d) (OfTable d)

abbrev pub ProgramLaw : Type 0
ProgramLaw = (s : UnitState) (p : ProgramDef) → IsSoundKept s.kept → s.line ≡ line_of.Program p → IsSpelledProgram p →
    program_refusal (schema_of s.kept) (programs_of s.kept) p ≡ None → MayBeDefined s (program_text p) (OfProgram p)

-- by what is asked of the storage, which may be made, and is the event that comes
pub record Defines (line : Line) (asked : InFlight) (s : State) : Type 0 where
  pub definition : Definition
  pub may : MayBeDefined s.units (text_of asked) definition
  pub meant : (r : WatchReading s.watch) → line_in s.units (clash_by s) (items_by s r) line ≡ Some (Defined (next_decision_number s.units) (text_of asked))
  pub flies : IsInFlight (Some asked) (Some (Defined (next_decision_number s.units) (text_of asked))) s.units

module _ (holds : Kept → Type 0) (is_new : Id → Type 0) (stoppable : Bool) (x : Scheduler) (s : State) (tables : TableLaw) (programs : ProgramLaw)
    (may : (k : Kept) → holds k → IsSoundKept k) where
  table-defines : (d : TableDef) → AsksLine holds is_new stoppable (line_of.Table d) x s → Defines (line_of.Table d) (asked.Table d (table_text d)) s
  table-defines d h =
      let right : table_refusal (schema_of s.units.kept) d ≡ None =
      table-allowed (known_in s.units (under_way_of s)) d (allowed-faultless s.units (under_way_of s) (line_of.Table d) h.allowed.allowed) in
      record {
        definition = OfTable d;
        may = tables s.units d (may s.units.kept h.stored.holding) h.allowed.serves.line h.served right;
        meant = λ r. refl;
        flies = (record { line = h.allowed.serves.line; allowed = right }, refl, refl);
      }

  program-defines : (p : ProgramDef) → AsksLine holds is_new stoppable (line_of.Program p) x s → Defines (line_of.Program p) (asked.Program p (program_text p)) s
  program-defines p h =
      let right : program_refusal (schema_of s.units.kept) (programs_of s.units.kept) p ≡ None =
      program-allowed (known_in s.units (under_way_of s)) p (allowed-faultless s.units (under_way_of s) (line_of.Program p) h.allowed.allowed) in
      record {
        definition = OfProgram p;
        may = programs s.units p (may s.units.kept h.stored.holding) h.allowed.serves.line h.served right;
        meant = λ r. refl;
        flies = (record { line = h.allowed.serves.line; allowed = right; few = few-parts p h.served }, refl, refl);
      }

  pub line-defines : (line : Line) (f : InFlight) → AsksLine holds is_new stoppable line x s → definition_of line ≡ Some f → Defines line f s
  line-defines (line_of.Table d) f h is =
      let same : asked.Table d (table_text d) ≡ f = cc in
      subst (λ (a : InFlight). Defines (line_of.Table d) a s) same (table-defines d h)
  line-defines (line_of.Program p) f h is =
      let same : asked.Program p (program_text p) ≡ f = cc in
      subst (λ (a : InFlight). Defines (line_of.Program p) a s) same (program-defines p h)
  line-defines line f h is = cc

module _ (holds : Kept → Type 0) (is_new : Id → Type 0) (stoppable : Bool) (line : Line) (x : Scheduler) (s : State) (h : AsksLine holds is_new stoppable line x s)
    (f : InFlight) (d : Defines line f s) where
  abbrev event : Event
  event = Defined (next_decision_number s.units) (text_of f)

  sound-behind : (r : WatchReading s.watch) → IsSound ((h.played r).trace says event)
  sound-behind r =
      let p = h.played r in
      record { played = (p.sound.played, may-stand p.trace event refl (p.next ∙ d.meant r)); well = p.sound.well }

  defined-stored : (now : Kept → Type 0) (new_now : Id → Type 0) → WatchReading s.watch → now (defined s.units.kept d.definition) → ((u : Id) → is_new u → new_now u) →
      Stored now new_now (units_after event s.units)
  defined-stored now new_now r holding stays =
      stored-behind holds now is_new new_now s.units (h.played r).trace event (h.played r).keeps.units (sound-behind r) refl h.stored
      (subst now d.may.leaves holding) (λ u i n. stays u n)

  pub defined-performs : (now : Kept → Type 0) (new_now : Id → Type 0) (y : Scheduler) (e : Event) (r : WatchReading s.watch) → now (defined s.units.kept d.definition) →
      ((u : Id) → is_new u → new_now u) → scheduling.AnswersWith s (line_in s.units (clash_by s) (items_by s r) line) y (Some e) →
      PerformsEvent (StandsAtEventIn now new_now (at.Going y)) (Some f) (line_in s.units (clash_by s) (items_by s r) line) (Some e) s
  defined-performs now new_now y e r holding stays g =
      serves-by now new_now (at.Going y) (Some f) (line_in s.units (clash_by s) (items_by s r) line) s y event e d.flies refl (d.meant r)
      (subst (λ (m : Option Event). scheduling.AnswersWith s m y (Some e)) (d.meant r) g) h.allowed.serves.phase (defined-stored now new_now r holding stays)

  module _ (leaves : Kept → Kept → Type 0) (fills : ToWrite → ℕ → Type 0) (stage : Stage Scheduler) (r : WatchReading s.watch) where
    -- memory ran out behind it
    pub defined-lost : stage ≡ at.Lost → leaves (defined s.units.kept d.definition) (defined s.units.kept d.definition) →
        BreaksOff leaves fills Memory stage (Some f) (line_in s.units (clash_by s) (items_by s r) line) s.units
    defined-lost there left =
        breaks-behind leaves fills stage (Some f) (line_in s.units (clash_by s) (items_by s r) line) s.units event (d.meant r) refl d.flies
        (subst (λ (k : Kept). leaves k k) d.may.leaves left) there

    undone : (halt : Halt) → leaves s.units.kept (defined s.units.kept d.definition) → ((dev : ℕ) → halt ≡ DeviceFull dev → fills (OfDefinition (text_of f)) dev) →
        LeavesEventUndone leaves fills halt s.units event
    undone halt left full = record {
      left = record {
        one = s.units.kept;
        other = (units_after event s.units).kept;
        left = subst (leaves s.units.kept) d.may.leaves left;
        is_one = inl refl;
        is_other = inr (tt, refl);
      };
      reason = inr refl;
      full = λ dev is. (OfDefinition (text_of f), refl, full dev is);
    }

    pub defined-breaks : (halt : Halt) (y : Books) → y ≡ books_of x → leaves s.units.kept (defined s.units.kept d.definition) →
        ((dev : ℕ) → halt ≡ DeviceFull dev → fills (OfDefinition (text_of f)) dev) → WasBroken halt y stage →
        BreaksOff leaves fills halt stage (Some f) (line_in s.units (clash_by s) (items_by s r) line) s.units
    defined-breaks halt y same left full broken =
        breaks leaves fills stage (Some f) (line_in s.units (clash_by s) (items_by s r) line) s.units event (d.meant r) refl d.flies halt y (undone halt left full) broken
        (subst (λ (z : Books). AreBooks z s.units) (sym same) h.stands.books)

-- WHAT IS TOLD of a definition is what its line brings

module _ (line : Line) (x y : Scheduler) (e : Event) where
  pub table-allows : (d : TableDef) → line ≡ line_of.Table d → scheduling.DoesAllowed (λ s r. Some (Defined (next_decision_number s.units) (table_text d))) line x y e →
      scheduling.DoesAllowed (λ s r. line_in s.units (clash_by s) (items_by s r) line) line x y e
  table-allows d is allows s r stands h =
      subst (λ (m : Option Event). scheduling.AnswersWith s m y (Some e)) (sym (ap (line_in s.units (clash_by s) (items_by s r)) is)) (allows s r stands h)

  pub program-allows : (p : ProgramDef) → line ≡ line_of.Program p → scheduling.DoesAllowed (λ s r. Some (Defined (next_decision_number s.units) (program_text p))) line x y e →
      scheduling.DoesAllowed (λ s r. line_in s.units (clash_by s) (items_by s r) line) line x y e
  program-allows p is allows s r stands h =
      subst (λ (m : Option Event). scheduling.AnswersWith s m y (Some e)) (sym (ap (line_in s.units (clash_by s) (items_by s r)) is)) (allows s r stands h)

pub no-definition : (line : Line) → ((d : TableDef) → line ≡ line_of.Table d → ⊥) → ((p : ProgramDef) → line ≡ line_of.Program p → ⊥) → defines line ≡ true → ⊥
no-definition (line_of.Table d) no_table no_program is = no_table d refl
no-definition (line_of.Program p) no_table no_program is = no_program p refl
no-definition line no_table no_program is = cc

-- WHATEVER THE DISKS TELL

pub by-ok : {A E : Type 0} {r : Result A E} {x y : A} → r ≡ Ok x → x ≡ y → r ≡ Ok y
by-ok was is = was ∙ ap Ok is

pub defines-event : (e : Event) (n : ℕ) (text : List ℕ) → e ≡ Defined n text → DefinesSomething e
defines-event e n text is = subst DefinesSomething (sym is) tt

pub defining-unarmed : (line : Line) (e : Event) → DefinesSomething e → armed_at line (Some e) ≡ []
defining-unarmed line (Defined n text) h = refl
defining-unarmed line (Armed pairs) h = absurd h
defining-unarmed line e h = refl

pub defining-plain : (e : Event) → DefinesSomething e → is_of_run e ≡ false
defining-plain (Defined n text) h = refl
defining-plain (Down why) h = absurd h
defining-plain (Opened boot n) h = absurd h
defining-plain e h = refl

-- a definition that is allowed is not refused
pub allows-defining : (line : Line) (x : Scheduler) → IsAllowed line x → IsDefinable line (books_of x)
allows-defining (line_of.Table d) x h = table-may (line_of.Table d) x d h refl
allows-defining (line_of.Program p) x h = program-may (line_of.Program p) x p h refl
allows-defining line x h = tt
