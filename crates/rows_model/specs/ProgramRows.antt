-- Worked rows of programs, computed from script to printed lines.
use Rattle.salt_model.specs.declared.events.Event.{Event}
use Rattle.salt_model.specs.Trace.{story_of}
use Rattle.salt_model.specs.Summary.{summary_of}
use Rattle.salt_ast.specs.Sample.{acct, bal, field, scan, set}
use Rattle.salt_ast.specs.Trees.{operation}
use Rattle.salt_ast.specs.declared.lines.Line.TheVariants as line
use Rattle.salt_ast.specs.declared.lines.Line.{Line}
use Rattle.salt_ast.specs.declared.programs.Body.TheVariants as body
use Rattle.salt_ast.specs.declared.programs.ProgramDef.{ProgramDef}
use Rattle.salt_ast.specs.declared.trees.Bound.TheVariants as bound
use Rattle.salt_ast.specs.declared.trees.ColType.TheVariants as kind
use Rattle.salt_ast.specs.declared.trees.Expr.{Expr, Variable}
use Rattle.salt_ast.specs.declared.trees.Op.TheVariants as op
use Rattle.salt_ast.specs.declared.trees.Statement.TheVariants as statement
use Rattle.salt_ast.specs.declared.trees.What.TheVariants as what
use Rattle.salt_model.specs.Computing.{computing}
use Rattle.salt_model.specs.Scripts.{accounts, all_rows, at, call, call_transfer, go, insert_acct, int, step}
use Rattle.salt_model.specs.Walk.{printed, walk}
use Rattle.std.specs.Prelude.{List, None, [], codes, drop, pos, refl, ℕ, ◌++◌, ◌∷◌, ◌≡◌}

-- Two accounts and the program of transfers.

accounts_printed : printed accounts ≡
    codes "opened 1 0" ∷
    codes "ready" ∷
    codes "defined 1 create table acct (id int key, bal int, check ((bal >= 0) and (bal <= 1000)))" ∷
    (codes "defined 2 program transfer(a int, b int, amt int) base part { update acct set bal = (bal - :amt) where key = :a }" ++
    codes " part { update acct set bal = (bal + :amt) where key = :b } then end on failure go 3" ++
    codes " part { update acct set bal = (bal + :amt) where key = :a } on failure end end") ∷
    codes "u1.1 began @1" ∷
    codes "u1.1 did insert into acct values (1, 100) -> count 1" ∷
    codes "u1.1 committed 3" ∷
    codes "u1.2 began @1" ∷
    codes "u1.2 did insert into acct values (2, 50) -> count 1" ∷
    codes "u1.2 committed 4" ∷ []
unfolding computing
accounts_printed = refl

-- A transfer: part 1 is accepted at once, part 2 finishes it.

abbrev one_transfer : List Line
one_transfer = accounts ++ call_transfer 1 1 2 30 ∷ go 1 ∷ []

one_transfer_printed : drop 10 (printed one_transfer) ≡
    codes "u1.3 began @1 b1.1 part 1 of transfer(1, 2, 30)" ∷
    codes "u1.3 did update acct set bal = (bal - :amt) where key = :a -> count 1" ∷
    codes "u1.3 committed 5" ∷
    codes "b1.1 accepted" ∷
    codes "u1.4 began b1.1 part 2" ∷
    codes "u1.4 did update acct set bal = (bal + :amt) where key = :b -> count 1" ∷
    codes "u1.4 committed 6" ∷
    codes "b1.1 finished" ∷
    codes "released b1.1" ∷ []
unfolding computing
one_transfer_printed = refl

-- BASE programs do not wait for each other.

abbrev side_by_side : List Line
side_by_side = accounts ++ call_transfer 1 1 2 30 ∷ call_transfer 2 1 2 10 ∷ line.ShowLocks ∷ line.ShowBases ∷ []

side_by_side_printed : drop 10 (printed side_by_side) ≡
    codes "u1.3 began @1 b1.1 part 1 of transfer(1, 2, 30)" ∷
    codes "u1.3 did update acct set bal = (bal - :amt) where key = :a -> count 1" ∷
    codes "u1.3 committed 5" ∷
    codes "b1.1 accepted" ∷
    codes "u1.4 began @2 b1.2 part 1 of transfer(1, 2, 10)" ∷
    codes "u1.4 did update acct set bal = (bal - :amt) where key = :a -> count 1" ∷
    codes "u1.4 committed 6" ∷
    codes "b1.2 accepted" ∷
    (codes "lock b1.1 saline write acct 1..1" ++ 10 ∷ codes "lock b1.2 saline write acct 1..1" ++ 10 ∷ codes "shown 2") ∷
    (codes "base b1.1 transfer next 2" ++ 10 ∷ codes "base b1.2 transfer next 2" ++ 10 ∷ codes "shown 2") ∷ []
unfolding computing
side_by_side_printed = refl

-- A part that fails goes on at its branch.

abbrev branched : List Line
branched = accounts ++ at 1 (insert_acct 3 990) ∷ call_transfer 1 1 3 30 ∷ go 1 ∷ go 1 ∷ []

branched_printed : drop 10 (printed branched) ≡
    codes "u1.3 began @1" ∷
    codes "u1.3 did insert into acct values (3, 990) -> count 1" ∷
    codes "u1.3 committed 5" ∷
    codes "u1.4 began @1 b1.1 part 1 of transfer(1, 3, 30)" ∷
    codes "u1.4 did update acct set bal = (bal - :amt) where key = :a -> count 1" ∷
    codes "u1.4 committed 6" ∷
    codes "b1.1 accepted" ∷
    codes "u1.5 began b1.1 part 2" ∷
    codes "u1.5 did update acct set bal = (bal + :amt) where key = :b -> failed check" ∷
    codes "u1.5 branched 7 check" ∷
    codes "u1.6 began b1.1 part 3" ∷
    codes "u1.6 did update acct set bal = (bal + :amt) where key = :a -> count 1" ∷
    codes "u1.6 committed 8" ∷
    codes "b1.1 finished" ∷
    codes "released b1.1" ∷ []
unfolding computing
branched_printed = refl

-- A program whose first part fails.

abbrev never_accepted : List Line
never_accepted = accounts ++ call_transfer 1 1 2 200 ∷ line.ShowLocks ∷ go 1 ∷ []

never_accepted_printed : drop 10 (printed never_accepted) ≡
    codes "u1.3 began @1 b1.1 part 1 of transfer(1, 2, 200)" ∷
    codes "u1.3 did update acct set bal = (bal - :amt) where key = :a -> failed check" ∷
    codes "u1.3 failed check" ∷
    codes "shown 0" ∷
    codes "refused 5 unknown b1.1" ∷ []
unfolding computing
never_accepted_printed = refl

-- An ACID program, step by step, with a variable.

abbrev x : List ℕ
x = codes "x"

abbrev k : Expr
k = Variable (codes "k")

abbrev take10 : ProgramDef
take10 = record {
  name = codes "take10";
  params = field (codes "k") kind.Int ∷ [];
  vars = field x kind.Int ∷ [];
  body = body.Acid (
      statement.SelectInto bal x acct k ∷
      statement.Ensure (operation op.AtLeast (Variable x) (int 10)) ∷
      statement.Update acct (set bal (operation op.Sub (Variable x) (int 10)) ∷ []) (scan (bound.Key k) None) ∷ []);
}

abbrev in_steps : List Line
in_steps = accounts ++ line.Program take10 ∷ call 3 (codes "take10") (pos 1 ∷ []) ∷ step 3 ∷ step 3 ∷ []

in_steps_printed : drop 10 (printed in_steps) ≡
    (codes "defined 5 program take10(k int) var x int acid { select bal into :x from acct where key = :k;" ++
    codes " ensure (:x >= 10); update acct set bal = (:x - 10) where key = :k } end") ∷
    codes "u1.3 began @3 call take10(1)" ∷
    codes "u1.3 did select bal into :x from acct where key = :k -> stored 100" ∷
    codes "u1.3 did ensure (:x >= 10) -> true" ∷
    codes "u1.3 did update acct set bal = (:x - 10) where key = :k -> count 1" ∷
    codes "u1.3 committed 6" ∷ []
unfolding computing
in_steps_printed = refl

-- One turn of each program.

abbrev go_all : List Line
go_all = accounts ++ call_transfer 1 1 2 30 ∷ call_transfer 2 2 1 10 ∷ line.GoAll ∷ []

go_all_printed : drop 10 (printed go_all) ≡
    codes "u1.3 began @1 b1.1 part 1 of transfer(1, 2, 30)" ∷
    codes "u1.3 did update acct set bal = (bal - :amt) where key = :a -> count 1" ∷
    codes "u1.3 committed 5" ∷
    codes "b1.1 accepted" ∷
    codes "u1.4 began @2 b1.2 part 1 of transfer(2, 1, 10)" ∷
    codes "u1.4 did update acct set bal = (bal - :amt) where key = :a -> count 1" ∷
    codes "u1.4 committed 6" ∷
    codes "b1.2 accepted" ∷
    codes "u1.5 began b1.1 part 2" ∷
    codes "u1.5 did update acct set bal = (bal + :amt) where key = :b -> count 1" ∷
    codes "u1.5 committed 7" ∷
    codes "b1.1 finished" ∷
    codes "u1.6 began b1.2 part 2" ∷
    codes "u1.6 did update acct set bal = (bal + :amt) where key = :b -> count 1" ∷
    codes "u1.6 committed 8" ∷
    codes "b1.2 finished" ∷
    codes "released b1.1 b1.2" ∷ []
unfolding computing
go_all_printed = refl

-- The summary of the two transfers that one turn each has finished, and of a sum behind them.

abbrev summed : List Event
summed = story_of (walk (go_all ++ at 1 (statement.Select (what.Sum bal) acct all_rows) ∷ []))

summary : summary_of 2 8 summed ≡ codes "load 2 lines 8 units 7 committed 7 accepted 2 released 2 waits 0 victims 0 total 150" ++ 10 ∷ []
unfolding computing
summary = refl
