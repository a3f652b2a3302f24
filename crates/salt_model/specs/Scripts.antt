-- Lines of scripts, of which worked rows are made.
use Rattle.salt_ast.specs.Sample.{acct, acct_def, bal, scan, set, transfer}
use Rattle.salt_ast.specs.Trees.{number, operation}
use Rattle.salt_ast.specs.declared.lines.Act.TheVariants as act
use Rattle.salt_ast.specs.declared.lines.Line.TheVariants as line
use Rattle.salt_ast.specs.declared.lines.Line.{Line}
use Rattle.salt_ast.specs.declared.trees.Bound.TheVariants as bound
use Rattle.salt_ast.specs.declared.trees.Expr.{Column, Expr}
use Rattle.salt_ast.specs.declared.trees.Op.TheVariants as op
use Rattle.salt_ast.specs.declared.trees.Scan.{Scan}
use Rattle.salt_ast.specs.declared.trees.Statement.TheVariants as statement
use Rattle.salt_ast.specs.declared.trees.Statement.{Statement}
use Rattle.salt_ast.specs.declared.trees.What.TheVariants as what
use Rattle.salt_values.specs.declared.id.Id.{Id}
use Rattle.salt_values.specs.declared.value.Value.TheVariants as value
use Rattle.salt_values.specs.declared.value.Value.{Value}
use Rattle.std.specs.Prelude.{List, None, [], codes, map, pos, ℕ, ℤ, ◌∷◌}

abbrev pub int : ℕ → Expr
int n = number (pos n)

abbrev pub key_is : ℕ → Scan
key_is k = scan (bound.Key (int k)) None

abbrev pub all_rows : Scan
all_rows = scan bound.All None

-- a session does a statement
abbrev pub at : ℕ → Statement → Line
at s st = line.Session s (act.Do st)

abbrev pub begin : ℕ → Line
begin s = line.Session s act.Begin

abbrev pub commit : ℕ → Line
commit s = line.Session s act.Commit

abbrev pub rollback : ℕ → Line
rollback s = line.Session s act.Rollback

abbrev pub step : ℕ → Line
step s = line.Session s act.Step

abbrev pub numbers : List ℤ → List Value
numbers zs = map value.Int zs

-- a session calls a program with numbers
abbrev pub call : ℕ → List ℕ → List ℤ → Line
call s program args = line.Session s (act.Call program (numbers args))

abbrev pub insert_into : List ℕ → List ℤ → Statement
insert_into table zs = statement.Insert table (map number zs)

-- On the accounts.

abbrev pub insert_acct : ℕ → ℕ → Statement
insert_acct k v = insert_into acct (pos k ∷ pos v ∷ [])

abbrev pub bal_at : ℕ → Statement
bal_at k = statement.Select (what.Columns (bal ∷ [])) acct (key_is k)

abbrev pub set_bal : ℕ → ℕ → Statement
set_bal k v = statement.Update acct (set bal (int v) ∷ []) (key_is k)

abbrev pub raise_all : Statement
raise_all = statement.Update acct (set bal (operation op.Add (Column bal) (int 1)) ∷ []) all_rows

abbrev pub call_transfer : (session from_key to_key amount : ℕ) → Line
call_transfer s a b amt = call s (codes "transfer") (pos a ∷ pos b ∷ pos amt ∷ [])

-- the n-th unit, and the n-th program, of the first boot
abbrev pub unit : ℕ → Id
unit n = record { boot = 1; seq = n }

abbrev pub base : ℕ → Id
base n = record { boot = 1; seq = n }

abbrev pub go : ℕ → Line
go n = line.Go (base n)

-- two accounts, and the program of transfers
abbrev pub accounts : List Line
accounts = line.Table acct_def ∷ line.Program transfer ∷ at 1 (insert_acct 1 100) ∷ at 1 (insert_acct 2 50) ∷ []
