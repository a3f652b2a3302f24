-- A text that the parser reads, compared with what is printed of the tree.
use Rattle.salt_ast.specs.Limits.{table_limit}
use Rattle.salt_ast.specs.ProgramLimits.{program_limit}
use Rattle.salt_ast.specs.ProgramTexts.{program_text}
use Rattle.salt_ast.specs.Spelling.{IsProgramWithinLimits, IsTableWithinLimits, Passes, ProgramPasses, SpellsProgram, SpellsShallowProgram, SpellsShallowTable, SpellsTable, TablePasses, by_parentheses, by_tree}
use Rattle.salt_ast.specs.Texts.{table_text}
use Rattle.salt_ast.specs.declared.limit.LimitName.{LimitName}
use Rattle.salt_ast.specs.declared.programs.ProgramDef.{ProgramDef}
use Rattle.salt_ast.specs.declared.trees.TableDef.{TableDef}
use Rattle.law_definitions.specs.Texts.{IsTextOf, definition_in}
use Rattle.salt_events.proofs.PartLaws.{same_back}
use Rattle.salt_events.proofs.StatementLaws.{not_same}
use Rattle.salt_ast.specs.declared.lines.Line.TheVariants as line
use Rattle.salt_events.specs.Definitions.{TellsProgram, TellsTable, line_defining}
use Rattle.std.specs.Bool.{then_some}
use Rattle.std.proofs.Common.{option_map}
use Rattle.salt_model.specs.Kept.{Definition, OfProgram, OfTable}
use Rattle.salt_parse.specs.Settling.{DeepProgram, DeepTable, ShallowProgram, ShallowTable}
use Rattle.salt_ast.specs.TokenSpelling.{same_bytes}
use Rattle.salt_ast.specs.Symbols.{Symbols}
use Rattle.std.proofs.Common.{Bool, List, None, Option, Some, false, refl, subst, sym, true, ℕ, ◌∙◌, ◌≡◌}

module _ {T : Type 0} (limit_of : T → Option LimitName) (Deep Shallow : List ℕ → T → Type 0) (text_of : T → List ℕ)
    (canonical : (bytes : List ℕ) (x : T) → Deep bytes x → limit_of x ≡ None → Shallow (text_of x) x)
    (one : (bytes : List ℕ) (a b : T) → Deep bytes a → Deep bytes b → a ≡ b)
    (deepens : (bytes : List ℕ) (x : T) → Shallow bytes x → Deep bytes x) (bytes : List ℕ) where
  shallow : (x : T) (text : List ℕ) → Deep text x → limit_of x ≡ None → bytes ≡ text_of x → Shallow bytes x
  shallow x text s w e = subst (λ b. Shallow b x) (sym e) (canonical text x s w)

  differs : (x : T) → Shallow bytes x → (text_of x ≡ bytes → ⊥) → (y : T) (text : List ℕ) → Deep text y → limit_of y ≡ None → bytes ≡ text_of y → ⊥
  differs x h other y text s w e =
      other (subst (λ z. text_of z ≡ bytes) (one bytes y x (deepens bytes y (shallow y text s w e)) (deepens bytes x h)) (sym e))

  unspelled : ((x : T) → Deep bytes x → ⊥) → (y : T) (text : List ℕ) → Deep text y → limit_of y ≡ None → bytes ≡ text_of y → ⊥
  unspelled h y text s w e = h y (deepens bytes y (shallow y text s w e))

  passes_none : (y : T) (l : LimitName) → limit_of y ≡ None → Shallow bytes y → Passes (limit_of y) (Shallow bytes y) l → ⊥
  passes_none y l w s (by_tree e) = let z : Some l ≡ None = sym e ∙ w in cc
  passes_none y l w s (by_parentheses e n) = n s

  passed : (l : LimitName) (x : T) → Deep bytes x → Passes (limit_of x) (Shallow bytes x) l → (y : T) (text : List ℕ) → Deep text y → limit_of y ≡ None →
      bytes ≡ text_of y → ⊥
  passed l x h p y text s w e =
      let there = shallow y text s w e in
      passes_none y l w there (subst (λ z. Passes (limit_of z) (Shallow bytes z) l) (one bytes x y h (deepens bytes y there)) p)

pub record OfTables : Type 0 where
  pub canonical : (bytes : List ℕ) (d : TableDef) → SpellsTable bytes d → table_limit d ≡ None → SpellsShallowTable (table_text d) d
  pub one : (bytes : List ℕ) (a b : TableDef) → SpellsTable bytes a → SpellsTable bytes b → a ≡ b
  pub deepens : (ts : Symbols) (d : TableDef) → ShallowTable ts d → DeepTable ts d

pub record OfPrograms : Type 0 where
  pub canonical : (bytes : List ℕ) (p : ProgramDef) → SpellsProgram bytes p → program_limit p ≡ None → SpellsShallowProgram (program_text p) p
  pub one : (bytes : List ℕ) (a b : ProgramDef) → SpellsProgram bytes a → SpellsProgram bytes b → a ≡ b
  pub deepens : (ts : Symbols) (p : ProgramDef) → ShallowProgram ts p → DeepProgram ts p

module _ (laws : OfTables) (bytes : List ℕ) where
  table_deep : (text : List ℕ) (d : TableDef) → SpellsShallowTable text d → SpellsTable text d
  table_deep text d s = record { tokens = s.tokens; lexes = s.lexes; spelled = laws.deepens _ d s.spelled }

  pub table_told : (d : TableDef) → IsTableWithinLimits bytes d → (t : Bool) → same_bytes (table_text d) bytes ≡ t → TellsTable (then_some t d) bytes
  table_told d h true e = (record { text = bytes; spells = table_deep bytes d h.parentheses; within = h.tree }, sym (same_back (table_text d) bytes e))
  table_told d h false e = λ y is.
      differs table_limit SpellsTable SpellsShallowTable table_text laws.canonical laws.one table_deep bytes d h.parentheses (not_same (table_text d) bytes e) y is.0.text is.0.spells is.0.within is.1

  pub table_unspelled : ((d : TableDef) → SpellsTable bytes d → ⊥) → TellsTable None bytes
  table_unspelled h = λ y is. unspelled table_limit SpellsTable SpellsShallowTable table_text laws.canonical laws.one table_deep bytes h y is.0.text is.0.spells is.0.within is.1

  pub table_passed : (l : LimitName) (d : TableDef) → SpellsTable bytes d → TablePasses bytes d l → TellsTable None bytes
  table_passed l d s p = λ y is. passed table_limit SpellsTable SpellsShallowTable table_text laws.canonical laws.one table_deep bytes l d s p y is.0.text is.0.spells is.0.within is.1

module _ (laws : OfPrograms) (bytes : List ℕ) where
  program_deep : (text : List ℕ) (p : ProgramDef) → SpellsShallowProgram text p → SpellsProgram text p
  program_deep text p s = record { tokens = s.tokens; lexes = s.lexes; spelled = laws.deepens _ p s.spelled }

  pub program_told : (p : ProgramDef) → IsProgramWithinLimits bytes p → (t : Bool) → same_bytes (program_text p) bytes ≡ t → TellsProgram (then_some t p) bytes
  program_told p h true e = (record { text = bytes; spells = program_deep bytes p h.parentheses; within = h.tree }, sym (same_back (program_text p) bytes e))
  program_told p h false e = λ y is.
      differs program_limit SpellsProgram SpellsShallowProgram program_text laws.canonical laws.one program_deep bytes p h.parentheses (not_same (program_text p) bytes e) y is.0.text is.0.spells
      is.0.within is.1

  pub program_unspelled : ((p : ProgramDef) → SpellsProgram bytes p → ⊥) → TellsProgram None bytes
  program_unspelled h = λ y is.
      unspelled program_limit SpellsProgram SpellsShallowProgram program_text laws.canonical laws.one program_deep bytes h y is.0.text is.0.spells is.0.within is.1

  pub program_passed : (l : LimitName) (p : ProgramDef) → SpellsProgram bytes p → ProgramPasses bytes p l → TellsProgram None bytes
  program_passed l p s q = λ y is.
      passed program_limit SpellsProgram SpellsShallowProgram program_text laws.canonical laws.one program_deep bytes l p s q y is.0.text is.0.spells is.0.within is.1

-- EITHER

abbrev pub ReadsDefinitions : Type 0
ReadsDefinitions = (text : List ℕ) (d : Definition) → (definition_in text ≡ Some d → IsTextOf d text) × (IsTextOf d text → definition_in text ≡ Some d)

module _ (reads : ReadsDefinitions) (text : List ℕ) where
  pub some_table : (d : TableDef) → TellsTable (Some d) text → Some (line.Table d) ≡ option_map line_defining (definition_in text)
  some_table d h = rw ((reads text (OfTable d)).1 h) refl

  pub some_program : (p : ProgramDef) → TellsProgram (Some p) text → Some (line.Program p) ≡ option_map line_defining (definition_in text)
  some_program p h = rw ((reads text (OfProgram p)).1 h) refl

  none_at : (o : Option Definition) → definition_in text ≡ o → TellsTable None text → TellsProgram None text → None ≡ option_map line_defining o
  none_at None e h k = refl
  none_at (Some (OfTable d)) e h k = absurd (h d ((reads text (OfTable d)).0 e))
  none_at (Some (OfProgram p)) e h k = absurd (k p ((reads text (OfProgram p)).0 e))

  pub no_definition : TellsTable None text → TellsProgram None text → None ≡ option_map line_defining (definition_in text)
  no_definition h k = none_at (definition_in text) refl h k
