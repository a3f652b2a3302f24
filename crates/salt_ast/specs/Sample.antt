-- A table of accounts and two programs on it, of which examples speak.
use Rattle.salt_ast.specs.Trees.{negation, number, operation}
use Rattle.salt_ast.specs.declared.programs.Body.TheVariants as body
use Rattle.salt_ast.specs.declared.programs.Next.{Next}
use Rattle.salt_ast.specs.declared.programs.Next.TheVariants as next
use Rattle.salt_ast.specs.declared.programs.PartDef.{PartDef}
use Rattle.salt_ast.specs.declared.programs.ProgramDef.{ProgramDef}
use Rattle.salt_ast.specs.declared.trees.Bound.{Bound}
use Rattle.salt_ast.specs.declared.trees.Bound.TheVariants as bound
use Rattle.salt_ast.specs.declared.trees.ColType.{ColType}
use Rattle.salt_ast.specs.declared.trees.ColType.TheVariants as kind
use Rattle.salt_ast.specs.declared.trees.Expr.{Column, Expr, Variable}
use Rattle.salt_ast.specs.declared.trees.Field.{Field}
use Rattle.salt_ast.specs.declared.trees.Op.{Op}
use Rattle.salt_ast.specs.declared.trees.Op.TheVariants as op
use Rattle.salt_ast.specs.declared.trees.Scan.{Scan}
use Rattle.salt_ast.specs.declared.trees.Set.{Set}
use Rattle.salt_ast.specs.declared.trees.Statement.{Statement}
use Rattle.salt_ast.specs.declared.trees.Statement.TheVariants as statement
use Rattle.salt_ast.specs.declared.trees.TableDef.{TableDef}
use Rattle.std.specs.Prelude.{List, None, Option, Some, [], codes, false, pos, suc, zero, ℕ, ◌∷◌}

abbrev pub id : List ℕ
id = codes "id"

abbrev pub bal : List ℕ
bal = codes "bal"

abbrev pub acct : List ℕ
acct = codes "acct"

abbrev pub field : List ℕ → ColType → Field
field n k = record { name = n; kind = k; nullable = false }

abbrev pub in_range : Expr
in_range = operation op.And (operation op.AtLeast (Column bal) (number (pos 0))) (operation op.AtMost (Column bal) (number (pos 1000)))

abbrev pub acct_def : TableDef
acct_def = record { name = acct; columns = field id kind.Int ∷ field bal kind.Int ∷ []; checks = in_range ∷ [] }

abbrev pub scan : Bound → Option Expr → Scan
scan b f = record { bound = b; filter = f }

abbrev pub set : List ℕ → Expr → Set
set c e = record { column = c; value = e }

abbrev pub schema : List TableDef
schema = acct_def ∷ []

abbrev pub all_rows : Scan
all_rows = scan bound.All None

-- 1 = 1
abbrev pub true_sum : Expr
true_sum = operation op.Equal (number (pos 1)) (number (pos 1))

-- as many negations of this
abbrev pub negations : ℕ → Expr → Expr
negations zero e = e
negations (suc k) e = negation (negations k e)

-- A transfer in three parts: what the first takes, the second brings, or else the third brings back.

-- the balance of an account, by this operation with the amount
abbrev pub move : Op → List ℕ → Statement
move o key =
    statement.Update acct (set bal (operation o (Column bal) (Variable (codes "amt"))) ∷ []) (scan (bound.Key (Variable key)) None)

abbrev pub part : List Statement → Option Next → Option Next → PartDef
part b commit failure = record { block = b; then = commit; retry = None; on_failure = failure }

abbrev pub amounts : List Field
amounts = field (codes "a") kind.Int ∷ field (codes "b") kind.Int ∷ field (codes "amt") kind.Int ∷ []

abbrev pub transfer_parts : List PartDef
transfer_parts =
    part (move op.Sub (codes "a") ∷ []) None None ∷
    part (move op.Add (codes "b") ∷ []) (Some next.End) (Some (next.Part 3)) ∷
    part (move op.Add (codes "a") ∷ []) None (Some next.End) ∷ []

abbrev pub transfer : ProgramDef
transfer = record { name = codes "transfer"; params = amounts; vars = []; body = body.Base transfer_parts }

-- The same, whose second part is tried once more before the third.

abbrev pub pay_parts : List PartDef
pay_parts =
    part (move op.Sub (codes "a") ∷ []) None None ∷
    record (part (move op.Add (codes "b") ∷ []) (Some next.End) (Some (next.Part 3))) { retry = Some 1 } ∷
    part (move op.Add (codes "a") ∷ []) None (Some next.End) ∷ []

abbrev pub pay : ProgramDef
pay = record { name = codes "pay"; params = amounts; vars = []; body = body.Base pay_parts }

-- A program of one unit, with a variable and two statements.

abbrev pub spare_block : List Statement
spare_block =
    statement.SelectInto bal (codes "x") acct (number (pos 1)) ∷
    statement.Ensure (operation op.AtLeast (Variable (codes "x")) (number (pos 0))) ∷ []

abbrev pub spare : ProgramDef
spare = record {
  name = codes "spare";
  params = [];
  vars = field (codes "x") kind.Int ∷ field (codes "s") kind.Text ∷ [];
  body = body.Acid spare_block;
}
