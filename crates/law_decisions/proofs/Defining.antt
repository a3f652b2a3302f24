-- A definition that is not refused may be made over what may be kept.
use Rattle.salt_ast.specs.Judgement.{kept_limit, table_fault}
use Rattle.salt_ast.specs.ProgramJudgement.{line_fault, program_fault, program_kept_limit}
use Rattle.salt_ast.specs.declared.programs.ProgramDef.{ProgramDef}
use Rattle.salt_ast.specs.declared.trees.TableDef.{TableDef}
use Rattle.law_definitions.specs.Texts.{definition_in}
use Rattle.salt_stands.specs.Fitting.{is_refused, line_defining}
use Rattle.law_states.specs.OpenUnits.{UnitState}
use Rattle.law_states.specs.Steps.{units_after}
use Rattle.law_states.specs.Told.{next_decision_number}
use Rattle.law_story.proofs.Defined.{named-stays}
use Rattle.law_story.proofs.Every.{every-append}
use Rattle.salt_model.specs.After.{defined_by}
use Rattle.salt_model.specs.Kept.{Definition, IsWithinTries, Kept, OfProgram, OfTable, Rise, WellKept, kept_program, programs_of, retries_of, schema_of}
use Rattle.salt_model.specs.Words.{Every}
use Rattle.salt_model.specs.declared.events.Event.TheVariants.{Defined}
use Rattle.salt_program.specs.Refusals as program
use Rattle.salt_program.specs.declared.error.DefineErr.TheVariants as program_error
use Rattle.salt_schema.specs.Refusals as table
use Rattle.salt_schema.specs.declared.error.SchemaErr.TheVariants as table_error
use Rattle.law_decisions.specs.Defining.{MayBeDefined}
use Rattle.salt_storage.specs.Storing.{IsSoundKept, IsSpelledDefinition, MayDefine, defined}
use Rattle.law_types.specs.Typed.{IsTyped}
use Rattle.salt_values.specs.declared.cont.Cont.{Cont}
use Rattle.std.proofs.Common.{arith, subst, sym, ◌∙◌}
use Rattle.std.specs.Option.{option_or}
use Rattle.std.specs.Prelude.{IsSome, List, None, Option, Some, [], false, is_some, option_map, refl, ℕ, ◌++◌, ◌+◌, ◌∷◌, ◌≡◌, ◌≤◌}

-- NOTHING IS REFUSED

first-none : {A : Type 0} (a b : Option A) → option_or a b ≡ None → a ≡ None
first-none None b h = refl
first-none (Some x) b h = cc

second-none : {A : Type 0} (a b : Option A) → option_or a b ≡ None → b ≡ None
second-none None b h = h
second-none (Some x) b h = cc

unmapped : {A B : Type 0} (f : A → B) (o : Option A) → option_map f o ≡ None → o ≡ None
unmapped f None h = refl
unmapped f (Some x) h = cc

-- what one word tells of a limit and a fault, another tells
none-told : {A B C D : Type 0} (f : A → C) (g : B → C) (f' : A → D) (g' : B → D) (a : Option A) (b : Option B) →
    option_or (option_map f a) (option_map g b) ≡ None → is_some (option_or (option_map f' a) (option_map g' b)) ≡ false
none-told f g f' g' None None h = refl
none-told f g f' g' None (Some y) h = cc
none-told f g f' g' (Some x) b h = cc

pub table-free : (k : Kept) (d : TableDef) → table.table_refusal (schema_of k) d ≡ None → table_fault (schema_of k) d ≡ None
table-free k d h = unmapped table.fault_error (table_fault (schema_of k) d) (second-none (option_map (λ _. table_error.Tables) (kept_limit (schema_of k))) _ h)

pub table-accepted : (k : Kept) (d : TableDef) → table.table_refusal (schema_of k) d ≡ None → is_refused k.definitions (OfTable d) ≡ false
unfolding line_fault
table-accepted k d h = none-told (λ _. table_error.Tables) table.fault_error _ _ (kept_limit (schema_of k)) (table_fault (schema_of k) d) h

pub program-free : (k : Kept) (p : ProgramDef) → program.program_refusal (schema_of k) (programs_of k) p ≡ None → program_fault (schema_of k) (programs_of k) p ≡ None
program-free k p h =
    unmapped program.fault_error (program_fault (schema_of k) (programs_of k) p) (second-none (option_map (λ _. program_error.Programs) (program_kept_limit (programs_of k))) _ h)

pub program-accepted : (k : Kept) (p : ProgramDef) → program.program_refusal (schema_of k) (programs_of k) p ≡ None → is_refused k.definitions (OfProgram p) ≡ false
unfolding line_fault
program-accepted k p h =
    none-told (λ _. program_error.Programs) program.fault_error _ _ (program_kept_limit (programs_of k)) (program_fault (schema_of k) (programs_of k) p) h

-- WHAT IS KEPT BEHIND IT

rise-up : (n : ℕ) (cs : List Cont) → Rise n cs → Rise (n + 1) cs
rise-up n [] h = tt
rise-up n (c ∷ cs) h = (h.0, within c.accepted h.1, rise-up n cs h.2)
  where
    within : (m : ℕ) → m ≤ n → m ≤ n + 1
    within m g = omega (arith, g)

module _ (k : Kept) (d : Definition) where
  program-stays : (n : List ℕ) → IsSome (kept_program n k) → kept_program n (defined k d) ≡ kept_program n k
  program-stays n h = by (kept_program n k) refl h
    where
      by : (o : Option ProgramDef) → kept_program n k ≡ o → IsSome o → kept_program n (defined k d) ≡ kept_program n k
      by None e g = absurd cc
      by (Some p) e g = named-stays k.definitions (d ∷ []) n p e ∙ sym e

  cont-stays : (c : Cont) → IsSome (kept_program c.program k) × IsWithinTries k c → IsSome (kept_program c.program (defined k d)) × IsWithinTries (defined k d) c
  cont-stays c h =
      let same = sym (program-stays c.program h.0) in
      (subst (λ (o : Option ProgramDef). IsSome o) same h.0, subst (λ (o : Option ProgramDef). c.tries ≤ retries_of o c.next) same h.1)

  conts-stay : (cs : List Cont) → Every (λ (c : Cont). IsSome (kept_program c.program k)) cs → Every (IsWithinTries k) cs →
      Every (λ (c : Cont). IsSome (kept_program c.program (defined k d))) cs × Every (IsWithinTries (defined k d)) cs
  conts-stay [] h g = (tt, tt)
  conts-stay (c ∷ cs) h g =
      let here = cont-stays c (h.0, g.0) in
      let more = conts-stay cs h.1 g.1 in
      ((here.0, more.0), (here.1, more.1))

  well-defined : WellKept k → WellKept (defined k d)
  well-defined h =
      let conts = conts-stay k.conts h.defined h.tries in
      record { boots = h.boots; accepted = rise-up k.decisions k.conts h.accepted; defined = conts.0; tries = conts.1 }

  typed-defined : IsTyped (record k { definitions = (defined k d).definitions }) → IsTyped (defined k d)
  typed-defined h = record { tables = h.tables; programs = h.programs; rows = h.rows; conts = h.conts }

  pub may-define : IsSoundKept k → is_refused k.definitions d ≡ false → IsSpelledDefinition d → IsTyped (record k { definitions = (defined k d).definitions }) → MayDefine k d
  may-define sound accepted spelled typed = record {
    accepted = accepted;
    sound = record {
      typed = typed-defined typed;
      well = well-defined sound.well;
      rise = sound.rise;
      spelled = every-append IsSpelledDefinition k.definitions (d ∷ []) sound.spelled (spelled, tt);
    };
  }

pub defines : (s : UnitState) (text : List ℕ) (d : Definition) → s.line ≡ line_defining d → definition_in text ≡ Some d → MayDefine s.kept d → MayBeDefined s text d
defines s text d line reads may = record { reads = reads; may = may; leaves = by d line }
  where
    by : (d : Definition) → s.line ≡ line_defining d → defined s.kept d ≡ (units_after (Defined (next_decision_number s) text) s).kept
    by (OfTable t) e = λ i. record s.kept { decisions = s.kept.decisions + 1; definitions = s.kept.definitions ++ defined_by (sym e i) }
    by (OfProgram p) e = λ i. record s.kept { decisions = s.kept.decisions + 1; definitions = s.kept.definitions ++ defined_by (sym e i) }
