-- What is of its declared types: what expressions give, variables, rows, changes, and what is kept.
use Rattle.salt_ast.specs.Judgement.{Kind, doubled_name, field_names, statement_fault, truths, values}
use Rattle.salt_ast.specs.Paths.{body_statements}
use Rattle.salt_ast.specs.ProgramJudgement.{are_arguments, branch_fault, fits, program_scope, session_scope}
use Rattle.salt_ast.specs.declared.programs.ProgramDef.{ProgramDef}
use Rattle.salt_ast.specs.declared.trees.Field.{Field}
use Rattle.salt_ast.specs.declared.trees.Scope.{Scope}
use Rattle.salt_ast.specs.declared.trees.Statement.{Statement}
use Rattle.salt_ast.specs.declared.trees.TableDef.{TableDef}
use Rattle.salt_stands.specs.Fitting.{is_cont_of, is_key_of, is_of_column, is_row_of}
use Rattle.salt_model.specs.Eval.{Datum, Gives, Holds, named_values}
use Rattle.salt_model.specs.Kept.{Kept, cont_of, kept_program, programs_of, schema_of}
use Rattle.salt_model.specs.Statements.{Done, UnitRun}
use Rattle.salt_model.specs.Tables.{Entry, Tables, changed_at}
use Rattle.salt_model.specs.Words.{Every}
use Rattle.salt_model.specs.declared.events.UnitKind.TheVariants.{Acid, Call, First, Later}
use Rattle.salt_model.specs.declared.events.UnitKind.{UnitKind}
use Rattle.salt_model.specs.declared.places.Place.{Place}
use Rattle.salt_model.specs.declared.vars.Binding.{Binding}
use Rattle.salt_values.specs.declared.change.Change.{Change}
use Rattle.salt_values.specs.declared.cont.Cont.{Cont}
use Rattle.salt_values.specs.declared.value.Value.{Value}
use Rattle.std.specs.Prelude.{Bool, List, None, Option, Some, [], false, not, option_and_then, option_map, true, ⊤, ◌++◌, ◌∷◌, ◌≡◌, slice_get}
use Rattle.salt_values.specs.Value.{key_of}

-- what an expression of the kind gives: a value of its type, or NULL where it may be; or a truth value
abbrev pub is_datum_of : (nullable : Bool) → Kind → Datum → Bool
is_datum_of nullable (values t) (Gives v) = is_of_column (record { name = []; kind = t; nullable = nullable }) v
is_datum_of nullable truths (Holds u) = true
is_datum_of nullable (values t) (Holds u) = false
is_datum_of nullable truths (Gives v) = false

-- variables of these fields: their names in order, each with a value of its type
pub record AreVariables (fields : List Field) (vars : List Binding) : Type 0 where
  pub values : List Value
  pub named : vars ≡ named_values fields values
  pub typed : are_arguments fields values ≡ true

-- the row fits its table, and stands at the place of its key
pub record IsRowAt (schema : List TableDef) (p : Place) (row : List Value) : Type 0 where
  pub fits : is_row_of (slice_get schema p.table) row ≡ true
  pub key : p.key ≡ key_of row

abbrev pub AreRowsOf : List TableDef → Tables → Type 0
AreRowsOf schema es = Every (λ (e : Entry). IsRowAt schema e.0 e.1) es.list

-- what a change puts: a row that fits; what it removes has a key of its table
abbrev pub FitsAt : List TableDef → Place → Option (List Value) → Type 0
FitsAt schema p None = is_key_of (slice_get schema p.table) p.key ≡ true
FitsAt schema p (Some row) = IsRowAt schema p row

abbrev pub AreChangesOf : List TableDef → List Change → Type 0
AreChangesOf schema cs = Every (λ (c : Change). FitsAt schema (changed_at c) c.row) cs

abbrev pub AreEditsOf : List TableDef → List (Place × Option (List Value)) → Type 0
AreEditsOf schema ds = Every (λ (d : Place × Option (List Value)). FitsAt schema d.0 d.1) ds

-- no two have one name
abbrev pub AreApart : List Field → Type 0
AreApart fields = doubled_name [] (field_names fields) ≡ None

-- there is a key, which may not be NULL
abbrev pub has_key : List Field → Bool
has_key [] = false
has_key (f ∷ fs) = not f.nullable

pub record IsProperTable (d : TableDef) : Type 0 where
  pub apart : AreApart d.columns
  pub key : has_key d.columns ≡ true

-- none of its statements is refused under these tables
pub record IsProperProgram (schema : List TableDef) (p : ProgramDef) : Type 0 where
  pub apart : AreApart (p.params ++ p.vars)
  pub judged : Every (λ (st : Statement). statement_fault schema (program_scope p) st ≡ None) (body_statements p.body)
  pub branches : branch_fault p.body ≡ None

abbrev pub IsContOf : Kept → Cont → Type 0
IsContOf k c = is_cont_of (kept_program c.program k) c ≡ true

-- what is kept fits the definitions that are kept
pub record IsTyped (k : Kept) : Type 0 where
  pub tables : Every IsProperTable (schema_of k)
  pub programs : Every (IsProperProgram (schema_of k)) (programs_of k)
  pub rows : AreRowsOf (schema_of k) k.tables
  pub conts : Every (IsContOf k) k.conts

-- a statement's changes fit their tables, and leave variables of these fields
pub record IsTypedDone (schema : List TableDef) (fields : List Field) (d : Done) : Type 0 where
  pub changes : AreChangesOf schema d.changes
  pub vars : AreVariables fields d.vars

-- so do those of statements one after another
pub record IsTypedRun (schema : List TableDef) (fields : List Field) (r : UnitRun) : Type 0 where
  pub rows : AreRowsOf schema r.tables
  pub changes : AreEditsOf schema r.changes.list
  pub vars : AreVariables fields r.vars

-- where the statements of a unit of this kind are judged
abbrev pub scope_of_program : Option ProgramDef → Scope
scope_of_program None = session_scope
scope_of_program (Some p) = program_scope p

abbrev pub program_of_unit : Kept → UnitKind → Option ProgramDef
program_of_unit k (Acid s) = None
program_of_unit k (Call s n args) = kept_program n k
program_of_unit k (First s b n args) = kept_program n k
program_of_unit k (Later b part) = option_and_then (λ (c : Cont). kept_program c.program k) (cont_of b k)

abbrev pub scope_of_kind : Kept → UnitKind → Scope
scope_of_kind k kind = scope_of_program (program_of_unit k kind)

-- its arguments are of its program's parameters; its part is that at which its program stands
abbrev pub IsKindFor : Kept → UnitKind → Type 0
IsKindFor k (Acid s) = ⊤
IsKindFor k (Call s n args) = fits (programs_of k) n args ≡ true
IsKindFor k (First s b n args) = fits (programs_of k) n args ≡ true
IsKindFor k (Later b part) = option_map (λ (c : Cont). c.next) (cont_of b k) ≡ Some part

-- a statement of a unit of this kind is not refused
abbrev pub IsJudgedFor : Kept → UnitKind → Statement → Type 0
IsJudgedFor k kind st = statement_fault (schema_of k) (scope_of_kind k kind) st ≡ None
