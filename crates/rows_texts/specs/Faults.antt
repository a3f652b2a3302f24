-- What is refused of names, types and arguments; others stand beside the definitions.
use Rattle.salt_ast.specs.Judgement.{exists, mistyped, statement_fault, table_fault, unknown}
use Rattle.salt_ast.specs.ProgramJudgement.{fits, program_fault, in_text}
use Rattle.salt_ast.specs.Sample.{field, scan, set}
use Rattle.salt_ast.specs.Trees.{null, number, operation}
use Rattle.salt_ast.specs.declared.programs.Body.TheVariants as body
use Rattle.salt_ast.specs.declared.programs.ProgramDef.{ProgramDef}
use Rattle.salt_ast.specs.declared.trees.Bound.TheVariants as bound
use Rattle.salt_ast.specs.declared.trees.ColType.TheVariants as kind
use Rattle.salt_ast.specs.declared.trees.Expr.{Column, Expr, Variable}
use Rattle.salt_ast.specs.declared.trees.Field.{Field}
use Rattle.salt_ast.specs.declared.trees.Op.TheVariants as op
use Rattle.salt_ast.specs.declared.trees.Scope.{Scope}
use Rattle.salt_ast.specs.declared.trees.Statement.TheVariants as statement
use Rattle.salt_ast.specs.declared.trees.Statement.{Statement}
use Rattle.salt_ast.specs.declared.trees.TableDef.{TableDef}
use Rattle.salt_values.specs.declared.value.Value.TheVariants.{Null}
use Rattle.salt_values.specs.declared.value.Value.{Value}
use Rattle.std.specs.Prelude.{List, None, Some, [], codes, false, map, pos, refl, true, ℕ, ◌∷◌, ◌≡◌}
use Rattle.rows_texts.specs.Keys.{at, word}

-- ---- a table of two numbers and a text that may be NULL, and more tables

abbrev i : Field
i = field (codes "i") kind.Int

abbrev b : Field
b = field (codes "b") kind.Int

abbrev n : Field
n = record { name = codes "n"; kind = kind.Text; nullable = true }

abbrev less_than_9 : List ℕ → Expr
less_than_9 column = operation op.Less (Column column) (number (pos 9))

abbrev table : List ℕ → List Field → List Expr → TableDef
table name columns checks = record { name = name; columns = columns; checks = checks }

abbrev schema : List TableDef
schema = table (codes "t") (i ∷ b ∷ n ∷ []) (less_than_9 (codes "b") ∷ []) ∷ []

abbrev more_tables : List TableDef
more_tables =
    table (codes "t") (i ∷ i ∷ []) (less_than_9 (codes "x") ∷ [])
    ∷ table (codes "t") (i ∷ i ∷ []) (less_than_9 (codes "i") ∷ [])
    ∷ table (codes "u") (i ∷ b ∷ b ∷ i ∷ []) (less_than_9 (codes "i") ∷ [])
    ∷ table (codes "u") (i ∷ n ∷ []) (less_than_9 (codes "n") ∷ [])
    ∷ table (codes "u") (i ∷ n ∷ []) (less_than_9 (codes "i") ∷ [])
    ∷ []

tables_are_refused_in_order :
    map (table_fault schema) more_tables
    ≡ Some (unknown (codes "x")) ∷ Some (exists (codes "t")) ∷ Some (exists (codes "b")) ∷ Some mistyped ∷ None ∷ []
unfolding table_fault
tables_are_refused_in_order = refl

-- ---- statements of a program with a parameter p and a variable v

abbrev scope : Scope
scope = record { params = field (codes "p") kind.Int ∷ []; vars = field (codes "v") kind.Int ∷ [] }

abbrev insert : Expr → Statement
insert last = statement.Insert (codes "t") (number (pos 1) ∷ Variable (codes "p") ∷ last ∷ [])

abbrev update : List (List ℕ) → Statement
update columns = statement.Update (codes "t") (map (λ column. set column (Variable (codes "v"))) columns) (scan (bound.Key (number (pos 1))) None)

abbrev into : (column var table : List ℕ) → Statement
into column var table = statement.SelectInto column var table (number (pos 1))

abbrev statements : List Statement
statements =
    insert null
    ∷ insert (number (pos 1))
    ∷ update (codes "b" ∷ [])
    ∷ update (codes "i" ∷ codes "b" ∷ codes "b" ∷ [])
    ∷ update (codes "i" ∷ [])
    ∷ into (codes "b") (codes "v") (codes "t")
    ∷ into (codes "b") (codes "p") (codes "t")
    ∷ into (codes "n") (codes "v") (codes "t")
    ∷ into (codes "b") (codes "v") (codes "y")
    ∷ []

statements_are_refused_in_order :
    map (statement_fault schema scope) statements
    ≡ None ∷ Some mistyped ∷ None ∷ Some (exists (codes "b")) ∷ Some mistyped ∷ None ∷ Some (unknown (codes "p")) ∷ Some mistyped ∷ Some (unknown (codes "b")) ∷ []
unfolding statement_fault
statements_are_refused_in_order = refl

-- ---- programs, and arguments for them

abbrev program : List Field → ProgramDef
program params = record { name = codes "p"; params = params; vars = []; body = body.Acid (statement.Ensure (less_than_9 (codes "a")) ∷ []) }

abbrev a : Field
a = field (codes "a") kind.Int

parameter_twice : program_fault [] [] (record (program (a ∷ b ∷ a ∷ [])) { body = body.Base [] }) ≡ Some (in_text (exists (codes "a")))
unfolding program_fault
parameter_twice = refl

abbrev number_and_text : List ProgramDef
number_and_text = program (a ∷ field (codes "t") kind.Text ∷ []) ∷ []

abbrev arguments : List (List Value)
arguments = (at 1 ∷ word (codes "x") ∷ []) ∷ (at 1 ∷ at 2 ∷ []) ∷ (at 1 ∷ Null ∷ []) ∷ [] ∷ []

arguments_fit_by_their_types : map (fits number_and_text (codes "p")) arguments ≡ true ∷ false ∷ false ∷ false ∷ []
arguments_fit_by_their_types = refl
