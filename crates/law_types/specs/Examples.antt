-- What is kept of a table and a program, which fits them; and statements on it.
use Rattle.salt_ast.specs.Trees.{number, operation}
use Rattle.salt_ast.specs.declared.programs.Body.TheVariants.{Base}
use Rattle.salt_ast.specs.declared.programs.Next.TheVariants as next
use Rattle.salt_ast.specs.declared.programs.ProgramDef.{ProgramDef}
use Rattle.salt_ast.specs.declared.trees.Bound.TheVariants as bound
use Rattle.salt_ast.specs.declared.trees.ColType.TheVariants as kind
use Rattle.salt_ast.specs.declared.trees.ColType.{ColType}
use Rattle.salt_ast.specs.declared.trees.Expr.{Column, Lit, Variable}
use Rattle.salt_ast.specs.declared.trees.Field.{Field}
use Rattle.salt_ast.specs.declared.trees.Op.TheVariants as op
use Rattle.salt_ast.specs.declared.trees.Statement.TheVariants.{Delete, Insert, SelectInto}
use Rattle.salt_ast.specs.declared.trees.TableDef.{TableDef}
use Rattle.salt_model.specs.Computing.{computing}
use Rattle.salt_model.specs.Kept.{Kept, OfProgram, OfTable, schema_of}
use Rattle.salt_model.specs.Statements.{outcome_of}
use Rattle.salt_model.specs.Tables.{Tables, place}
use Rattle.salt_model.specs.declared.vars.Binding.{Binding}
use Rattle.law_types.specs.Typed.{AreVariables, IsTyped, IsTypedDone}
use Rattle.salt_values.specs.declared.value.Value.TheVariants.{Int, Null}
use Rattle.std.specs.Prelude.{Bool, List, None, Some, [], codes, false, pos, refl, true, ℕ, ◌∷◌, ◌≡◌}

abbrev field : List ℕ → ColType → (nullable : Bool) → Field
field name kind nullable = record { name = name; kind = kind; nullable = nullable }

-- create table t (id int key, v int null, check (v > 0))
abbrev table : TableDef
table = record {
  name = codes "t";
  columns = field (codes "id") kind.Int false ∷ field (codes "v") kind.Int true ∷ [];
  checks = operation op.Greater (Column (codes "v")) (number (pos 0)) ∷ [];
}

-- program p (x int) var y int: part 1 inserts, part 2 may fail and is the last
abbrev program : ProgramDef
program = record {
  name = codes "p";
  params = field (codes "x") kind.Int false ∷ [];
  vars = field (codes "y") kind.Int false ∷ [];
  body = Base (
      record { block = Insert (codes "t") (Variable (codes "x") ∷ Lit Null ∷ []) ∷ []; then = None; retry = None; on_failure = None }
      ∷ record { block = []; then = None; retry = None; on_failure = Some next.End } ∷ []);
}

-- the row 1, NULL
abbrev rows : Tables
rows = record { list = (place 0 (Int (pos 1)), Int (pos 1) ∷ Null ∷ []) ∷ []; sorted = tt }

-- the program goes on at part 2, called with 7, where its variable has 3
abbrev kept : Kept
kept = record {
  boot = 1;
  decisions = 3;
  definitions = OfTable table ∷ OfProgram program ∷ [];
  tables = rows;
  conts = record { base = record { boot = 1; seq = 1 }; accepted = 3; program = codes "p"; args = Int (pos 7) ∷ []; vars = Int (pos 3) ∷ []; next = 2; tries = 0 } ∷ [];
}

all_fits : IsTyped kept
unfolding computing
all_fits = record {
  tables = (record { apart = refl; key = refl }, tt);
  programs = (record { apart = refl; judged = (refl, tt); branches = refl }, tt);
  rows = (record { fits = refl; key = refl }, tt);
  conts = (refl, tt);
}

abbrev fields : List Field
fields = field (codes "x") kind.Int false ∷ field (codes "y") kind.Int false ∷ []

abbrev vars : (x y : ℕ) → List Binding
vars x y = record { name = codes "x"; value = Int (pos x) } ∷ record { name = codes "y"; value = Int (pos y) } ∷ []

held : AreVariables fields (vars 7 3)
held = record { values = Int (pos 7) ∷ Int (pos 3) ∷ []; named = refl; typed = refl }

inserts : IsTypedDone (schema_of kept) fields (outcome_of (schema_of kept) rows (vars 7 3) (Insert (codes "t") (Variable (codes "x") ∷ Variable (codes "y") ∷ [])))
unfolding computing
inserts = record { changes = (record { fits = refl; key = refl }, tt); vars = held }

-- what it removes has a key of its table
deletes : IsTypedDone (schema_of kept) fields (outcome_of (schema_of kept) rows (vars 7 3) (Delete (codes "t") (record { bound = bound.All; filter = None })))
unfolding computing
deletes = record { changes = (refl, tt); vars = held }

-- the key of the row is kept in the variable
keeps : (outcome_of (schema_of kept) rows (vars 7 3) (SelectInto (codes "id") (codes "y") (codes "t") (number (pos 1)))).vars ≡ vars 7 1
unfolding computing
keeps = refl
