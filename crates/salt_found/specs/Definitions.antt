-- Texts, one after another, and the definitions that they are read as.
use Rattle.salt_ast.specs.declared.programs.ProgramDef.{ProgramDef}
use Rattle.salt_ast.specs.declared.trees.TableDef.{TableDef}
use Rattle.law_definitions.specs.Texts.{IsTextOf, definition_in}
use Rattle.salt_stands.specs.Fitting.{definitions_reading, programs_defined, tables_defined}
use Rattle.salt_found.specs.declared.error.RecoverErr.TheVariants.{Memory, NotSalt}
use Rattle.salt_found.specs.declared.error.RecoverErr.{RecoverErr}
use Rattle.salt_model.specs.Kept.{Definition, OfProgram, OfTable}
use Rattle.salt_stands.specs.Reading.{Reading}
use Rattle.std.specs.Prelude.{Bool, Err, List, None, Ok, Option, Result, Some, [], false, not, true, ℕ, ⊤, ◌++◌, ◌==◌, ◌∷◌, ◌≡◌, option_and_then}
use Rattle.std.specs.Bool.{then_some}

-- definitions are read from their canonical texts
abbrev pub reading : Reading Definition
reading = definitions_reading definition_in

-- the definitions with that of one more text, which is read and not refused
abbrev pub define_text : {D : Type 0} → Reading D → List ℕ → Option (List D) → Option (List D)
define_text r text defined = option_and_then (λ ds. option_and_then (λ d. then_some (not (r.is_refused ds d)) (ds ++ d ∷ [])) (r.read text)) defined

abbrev pub defined_by_texts : {D : Type 0} → Reading D → Option (List D) → List (List ℕ) → Option (List D)
defined_by_texts r defined [] = defined
defined_by_texts r defined (text ∷ texts) = defined_by_texts r (define_text r text defined) texts

-- these are the tables and programs of the definitions
pub record AreOf (schema : List TableDef) (catalogue : List ProgramDef) (ds : List Definition) : Type 0 where
  pub tables : schema ≡ tables_defined ds
  pub programs : catalogue ≡ programs_defined ds

-- there are definitions, of which these are the tables and programs
pub record AreOfSome (schema : List TableDef) (catalogue : List ProgramDef) (defined : Option (List Definition)) : Type 0 where
  pub definitions : List Definition
  pub is : defined ≡ Some definitions
  pub are : AreOf schema catalogue definitions

-- what an answer says of a definition
abbrev pub IsJudged : {A : Type 0} → Result A RecoverErr → (is_refused : Bool) → Type 0
IsJudged (Ok x) is_refused = is_refused ≡ false
IsJudged (Err NotSalt) is_refused = is_refused ≡ true
IsJudged (Err Memory) is_refused = ⊤

-- what is refused is not defined
abbrev pub FailsToDefine : RecoverErr → Option (List Definition) → Type 0
FailsToDefine NotSalt defined = defined ≡ None
FailsToDefine Memory defined = ⊤

-- tables and programs that an answer leaves
abbrev pub Defines : {A : Type 0} → Result A RecoverErr → List TableDef → List ProgramDef → Option (List Definition) → Type 0
Defines (Ok x) schema catalogue defined = AreOfSome schema catalogue defined
Defines (Err e) schema catalogue defined = FailsToDefine e defined

abbrev pub OpensDefinitions : Result (List TableDef × List ProgramDef) RecoverErr → Option (List Definition) → Type 0
OpensDefinitions (Ok made) defined = AreOfSome made.0 made.1 defined
OpensDefinitions (Err e) defined = FailsToDefine e defined

-- a text begins with the first letter of `create`
abbrev pub is_of_table : List ℕ → Bool
is_of_table [] = false
is_of_table (first ∷ text) = first == 99

-- the tree whose canonical text this is, or none
abbrev pub IsTableIn : List ℕ → Option TableDef → Type 0
IsTableIn text None = (d : TableDef) → ¬ (IsTextOf (OfTable d) text)
IsTableIn text (Some d) = IsTextOf (OfTable d) text

abbrev pub IsProgramIn : List ℕ → Option ProgramDef → Type 0
IsProgramIn text None = (p : ProgramDef) → ¬ (IsTextOf (OfProgram p) text)
IsProgramIn text (Some p) = IsTextOf (OfProgram p) text
