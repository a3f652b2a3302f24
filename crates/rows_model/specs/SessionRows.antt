-- Worked rows of tables and sessions, computed from script to printed lines.
use Rattle.salt_values.specs.declared.id.Id.{Id}
use Rattle.salt_model.specs.Units.{history_of}
use Rattle.salt_ast.specs.Sample.{acct, field, id, scan, set}
use Rattle.salt_ast.specs.Trees.{operation}
use Rattle.salt_ast.specs.declared.lines.Line.TheVariants as line
use Rattle.salt_ast.specs.declared.lines.Line.{Line}
use Rattle.salt_ast.specs.declared.trees.Bound.TheVariants as bound
use Rattle.salt_ast.specs.declared.trees.ColType.TheVariants as kind
use Rattle.salt_ast.specs.declared.trees.Expr.{Column}
use Rattle.salt_ast.specs.declared.trees.Op.TheVariants as op
use Rattle.salt_ast.specs.declared.trees.Statement.TheVariants as statement
use Rattle.salt_ast.specs.declared.trees.TableDef.{TableDef}
use Rattle.salt_ast.specs.declared.trees.What.TheVariants as what
use Rattle.salt_model.specs.Computing.{computing}
use Rattle.salt_model.specs.Scripts.{accounts, all_rows, at, bal_at, begin, call_transfer, commit, insert_acct, insert_into}
use Rattle.salt_model.specs.Scripts.{int, key_is, raise_all, rollback, set_bal, step}
use Rattle.salt_model.specs.Walk.{printed, walk}
use Rattle.std.specs.Prelude.{List, None, [], codes, drop, negsuc, pos, refl, ℕ, ℤ, ◌++◌, ◌∷◌, ◌≡◌}

-- A row is put in, asked for, and put in a second time.

abbrev t : List ℕ
t = codes "t"

abbrev t_def : TableDef
t_def = record { name = t; columns = field id kind.Int ∷ field (codes "v") kind.Int ∷ []; checks = [] }

abbrev first_row : List Line
first_row =
    line.Table t_def ∷
    at 1 (insert_into t (pos 5 ∷ negsuc 2 ∷ [])) ∷
    at 1 (statement.Select what.All t (key_is 5)) ∷
    at 1 (insert_into t (pos 5 ∷ pos 0 ∷ [])) ∷ []

first_row_printed : printed first_row ≡
    codes "opened 1 0" ∷
    codes "ready" ∷
    codes "defined 1 create table t (id int key, v int)" ∷
    codes "u1.1 began @1" ∷
    codes "u1.1 did insert into t values (5, -3) -> count 1" ∷
    codes "u1.1 committed 2" ∷
    codes "u1.2 began @1" ∷
    codes "u1.2 did select * from t where key = 5 -> rows (5, -3)" ∷
    codes "u1.2 committed 3" ∷
    codes "u1.3 began @1" ∷
    codes "u1.3 did insert into t values (5, 0) -> failed duplicate" ∷
    codes "u1.3 failed duplicate" ∷ []
unfolding computing
first_row_printed = refl

-- Nothing but an opening: of no line, and of lines that do nothing.

no_line_printed : printed [] ≡ codes "opened 1 0" ∷ codes "ready" ∷ []
unfolding computing
no_line_printed = refl

blank_printed : printed (line.Nothing ∷ line.Nothing ∷ []) ≡ codes "opened 1 0" ∷ codes "ready" ∷ []
unfolding computing
blank_printed = refl

-- A count reaches the keys between its bounds, whether rows are there or not: an insert into them waits, one outside does not.

abbrev counted_range : List Line
counted_range =
    accounts ++ begin 1 ∷ at 1 (statement.Select what.Count acct (scan (bound.Between (int 1) (int 9)) None)) ∷
    at 2 (insert_acct 5 1) ∷ at 3 (insert_acct 10 1) ∷ commit 1 ∷ []

counted_range_printed : drop 10 (printed counted_range) ≡
    codes "u1.3 began @1" ∷
    codes "u1.3 did select count(*) from acct where key between 1 and 9 -> value 2" ∷
    codes "u1.4 began @2" ∷
    codes "u1.4 waits u1.3" ∷
    codes "u1.5 began @3" ∷
    codes "u1.5 did insert into acct values (10, 1) -> count 1" ∷
    codes "u1.5 committed 5" ∷
    codes "u1.3 committed 6" ∷
    codes "u1.4 did insert into acct values (5, 1) -> count 1" ∷
    codes "u1.4 committed 7" ∷ []
unfolding computing
counted_range_printed = refl

-- A range that is empty reaches nothing. A rollback lets the reader go on.

abbrev nothing_reached : List Line
nothing_reached =
    accounts ++ begin 1 ∷ at 1 (statement.Select what.All acct (scan (bound.Between (int 9) (int 1)) None)) ∷
    line.ShowLocks ∷ at 1 raise_all ∷ line.ShowLocks ∷ at 2 (bal_at 2) ∷ rollback 1 ∷ []

nothing_reached_printed : drop 10 (printed nothing_reached) ≡
    codes "u1.3 began @1" ∷
    codes "u1.3 did select * from acct where key between 9 and 1 -> rows" ∷
    codes "shown 0" ∷
    codes "u1.3 did update acct set bal = (bal + 1) -> count 2" ∷
    (codes "lock u1.3 acid write acct all" ++ 10 ∷ codes "shown 1") ∷
    codes "u1.4 began @2" ∷
    codes "u1.4 waits u1.3" ∷
    codes "u1.3 rolled back" ∷
    codes "u1.4 did select bal from acct where key = 2 -> rows (50)" ∷
    codes "u1.4 committed 5" ∷ []
unfolding computing
nothing_reached_printed = refl

-- Two sessions that wait for each other: the younger is the victim.

abbrev deadlock : List Line
deadlock = accounts ++ begin 1 ∷ begin 2 ∷ at 1 (set_bal 1 1) ∷ at 2 (set_bal 2 2) ∷ at 2 (set_bal 1 3) ∷ at 1 (set_bal 2 4) ∷ commit 1 ∷ []

deadlock_printed : drop 10 (printed deadlock) ≡
    codes "u1.3 began @1" ∷
    codes "u1.4 began @2" ∷
    codes "u1.3 did update acct set bal = 1 where key = 1 -> count 1" ∷
    codes "u1.4 did update acct set bal = 2 where key = 2 -> count 1" ∷
    codes "u1.4 waits u1.3" ∷
    codes "u1.3 waits u1.4" ∷
    codes "u1.4 victim" ∷
    codes "u1.3 did update acct set bal = 4 where key = 2 -> count 1" ∷
    codes "u1.3 committed 5" ∷ []
unfolding computing
deadlock_printed = refl

abbrev unit : ℕ → Id
unit n = record { boot = 1; seq = n }

deadlock_history : history_of (walk deadlock) ≡ unit 1 ∷ unit 2 ∷ unit 4 ∷ unit 3 ∷ []
unfolding computing
deadlock_history = refl

-- A number outside 64 bits fails its statement; a sum is exact.

abbrev num : List ℕ
num = codes "num"

abbrev v : List ℕ
v = codes "v"

abbrev num_def : TableDef
num_def = record { name = num; columns = field id kind.Int ∷ field v kind.Int ∷ []; checks = [] }

abbrev insert_num : ℤ → ℤ → Line
insert_num k z = at 1 (insert_into num (k ∷ z ∷ []))

abbrev overflow : List Line
overflow =
    line.Table num_def ∷
    insert_num (pos 1) (pos 9223372036854775807) ∷
    insert_num (pos 2) (pos 1) ∷
    insert_num (pos 3) (negsuc 0) ∷
    at 1 (statement.Update num (set v (operation op.Add (Column v) (int 1)) ∷ []) all_rows) ∷
    at 1 (statement.Select (what.Sum v) num all_rows) ∷ []

overflow_printed : drop 12 (printed overflow) ≡
    codes "u1.4 began @1" ∷
    codes "u1.4 did update num set v = (v + 1) -> failed overflow" ∷
    codes "u1.4 failed overflow" ∷
    codes "u1.5 began @1" ∷
    codes "u1.5 did select sum(v) from num -> value 9223372036854775807" ∷
    codes "u1.5 committed 5" ∷ []
unfolding computing
overflow_printed = refl

-- What the state of a session refuses.

abbrev wrong_state : List Line
wrong_state = accounts ++ begin 1 ∷ call_transfer 1 1 2 1 ∷ step 1 ∷ []

wrong_state_printed : drop 10 (printed wrong_state) ≡
    codes "u1.3 began @1" ∷
    codes "refused 9 state" ∷
    codes "refused 9 state" ∷ []
unfolding computing
wrong_state_printed = refl

-- A condition that does not hold.

abbrev ensured : List Line
ensured = accounts ++ at 1 (statement.Ensure (operation op.Equal (int 1) (int 2))) ∷ []

ensured_printed : drop 10 (printed ensured) ≡
    codes "u1.3 began @1" ∷
    codes "u1.3 did ensure (1 = 2) -> failed ensure" ∷
    codes "u1.3 failed ensure" ∷ []
unfolding computing
ensured_printed = refl
