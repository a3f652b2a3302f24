-- The lines of a workload: a table of a hundred accounts, and n transfers between them, with turns and sums on the way.
use Rattle.salt_ast.specs.Sample.{acct, bal, field, scan}
use Rattle.salt_ast.specs.Sample.{transfer as transfer_def}
use Rattle.salt_ast.specs.Trees.{number, operation}
use Rattle.salt_ast.specs.declared.lines.Act.TheVariants as act
use Rattle.salt_ast.specs.declared.lines.Line.{Line}
use Rattle.salt_ast.specs.declared.lines.Line.TheVariants as line
use Rattle.salt_ast.specs.declared.trees.Bound.TheVariants as bound
use Rattle.salt_ast.specs.declared.trees.ColType.TheVariants as kind
use Rattle.salt_ast.specs.declared.trees.Expr.{Column}
use Rattle.salt_ast.specs.declared.trees.Op.TheVariants as op
use Rattle.salt_ast.specs.declared.trees.Statement.TheVariants as statement
use Rattle.salt_ast.specs.declared.trees.TableDef.{TableDef}
use Rattle.salt_ast.specs.declared.trees.What.TheVariants as what
use Rattle.salt_values.specs.declared.limits.TheConstants.{SESSION_MOST}
use Rattle.salt_values.specs.declared.value.Value.{Value}
use Rattle.salt_values.specs.declared.value.Value.TheVariants as value
use Rattle.std.specs.List.{flat_map, range_with_len}
use Rattle.std.specs.Prelude.{List, None, [], codes, cond, eqb, map, pos, ℕ, ◌%◌, ◌*◌, ◌++◌, ◌+◌, ◌∷◌}

-- a balance does not fall below 0
abbrev pub account_def : TableDef
account_def = record {
  name = acct;
  columns = field (codes "id") kind.Int ∷ field bal kind.Int ∷ [];
  checks = operation op.AtLeast (Column bal) (number (pos 0)) ∷ [];
}

-- account k, with 1000 in it
abbrev pub deposit : ℕ → Line
deposit k = line.Session 1 (act.Do (statement.Insert acct (number (pos k) ∷ number (pos 1000) ∷ [])))

-- the i-th call's account to take from, account to bring to, and amount
abbrev pub transfer_args : ℕ → List Value
transfer_args i = value.Int (pos (7 * i % 100)) ∷ value.Int (pos ((7 * i + 13) % 100)) ∷ value.Int (pos (1 + i % 50)) ∷ []

-- the i-th call, by one of the sessions 1 to 63 in turn
abbrev pub transfer : ℕ → Line
transfer i = line.Session (1 + i % 63) (act.Call (codes "transfer") (transfer_args i))

-- a turn of each program that is under way
abbrev pub turn : Line
turn = line.GoAll

-- the sum over all accounts, asked by a session that calls nothing
abbrev pub balance : Line
balance = line.Session SESSION_MOST (act.Do (statement.Select (what.Sum bal) acct (scan bound.All None)))

-- what follows each eighth call
abbrev pub behind_eighth : ℕ → List Line
behind_eighth i = cond (eqb (i % 8) 0) (turn ∷ []) []

-- what follows each fiftieth
abbrev pub behind_fiftieth : ℕ → List Line
behind_fiftieth i = cond (eqb (i % 50) 0) (balance ∷ turn ∷ turn ∷ []) []

-- what follows the i-th call
abbrev pub behind : ℕ → List Line
behind i = behind_eighth i ++ behind_fiftieth i

abbrev pub call_lines : ℕ → List Line
call_lines i = transfer i ∷ behind i

-- the table, the program and the hundred accounts. What the program takes from one account in its first part it brings to another in the
-- second, or else back in the third.
unfoldable pub opening : List Line
opening = line.Table account_def ∷ line.Program transfer_def ∷ map deposit (range_with_len 0 100)

-- the calls 1 to n, each with what follows it
abbrev pub calls : (n : ℕ) → List Line
calls n = flat_map call_lines (range_with_len 1 n)

-- the turns that end the last transfers, and the sum
abbrev pub closing : List Line
closing = turn ∷ turn ∷ balance ∷ []

-- the lines of the workload with n calls
abbrev pub load_lines : (n : ℕ) → List Line
load_lines n = opening ++ (calls n ++ closing)
