-- Worked rows of early openings. Where the run goes down and what each opening finds are given; `next` and `next_turn` give all else.
use Rattle.salt_ast.specs.Sample.{acct_def, field, id, transfer}
use Rattle.salt_ast.specs.declared.lines.Line.{Line}
use Rattle.salt_ast.specs.declared.trees.TableDef.{TableDef}
use Rattle.salt_model.specs.Computing.{computing}
use Rattle.salt_model.specs.Scripts.{accounts, at, bal_at, begin, call_transfer, go, insert_acct, insert_into}
use Rattle.salt_model.specs.Trace.{Rejected, Trace, Tree, ◌asks◌, ◌says◌}
use Rattle.salt_model.specs.Turns.{next_turn}
use Rattle.salt_model.specs.Walk.{completed, opened, opened_early, printed_of, walk_on}
use Rattle.std.specs.Prelude.{List, None, [], codes, drop, map, pos, refl, ℕ, ◌++◌, ◌∷◌, ◌≡◌}
use Rattle.salt_ast.specs.declared.lines.Line.TheVariants as line
use Rattle.salt_ast.specs.declared.trees.ColType.TheVariants as kind
use Rattle.salt_model.specs.declared.events.Event.TheVariants as event
use Rattle.salt_model.specs.declared.events.Refusal.TheVariants as refused
use Rattle.salt_model.specs.declared.events.Why.TheVariants as why

-- behind these lines a unit has done its single statement, and the run goes down before its commit; the opening tells this number
abbrev reopened : Trace → List Line → ℕ → Trace
reopened from_here lines n =
    completed 9 (completed 2 (walk_on (map Tree (lines ++ line.Crash ((1, 0) ∷ []) ∷ [])) from_here asks Tree (at 2 (insert_acct 7 1))) says event.Down why.Stopped says event.Opened 2 n)

abbrev lines_on : Trace → List Line → Trace
lines_on trace lines = walk_on (map Tree lines) trace

-- AN ACID READER of a base table waits until the program is released, and that line gives the program its turn.

abbrev called : List Line
called = accounts ++ call_transfer 1 1 2 30 ∷ []

reader_printed : drop 14 (printed_of (lines_on (reopened opened_early called 5) (at 3 (bal_at 1) ∷ []))) ≡
    codes "armed 1 0" ∷
    codes "u1.4 began @2" ∷
    codes "u1.4 did insert into acct values (7, 1) -> count 1" ∷
    codes "down stopped" ∷
    codes "opened 2 5" ∷
    codes "u1.4 cut" ∷
    codes "early b1.1" ∷
    codes "u2.1 began @3" ∷
    codes "u2.1 waits b1.1" ∷
    codes "u2.2 began b1.1 part 2" ∷
    codes "u2.2 did update acct set bal = (bal + :amt) where key = :b -> count 1" ∷
    codes "u2.2 committed 6" ∷
    codes "b1.1 finished" ∷
    codes "released b1.1" ∷
    codes "u2.1 did select bal from acct where key = 1 -> rows (70)" ∷
    codes "u2.1 committed 7" ∷ []
unfolding computing
reader_printed = refl

-- A TABLE THAT NO BASE PROGRAM NAMES is free at once.

abbrev o : List ℕ
o = codes "o"

abbrev o_def : TableDef
o_def = record { name = o; columns = field id kind.Int ∷ []; checks = [] }

abbrev called_beside : List Line
called_beside =
    line.Table acct_def ∷ line.Program transfer ∷ line.Table o_def ∷ at 1 (insert_acct 1 100) ∷ at 1 (insert_acct 2 50) ∷ call_transfer 1 1 2 30 ∷ []

other_table_printed : drop 20 (printed_of (lines_on (reopened opened_early called_beside 6) (at 3 (insert_into o (pos 1 ∷ [])) ∷ []))) ≡
    codes "u1.4 cut" ∷
    codes "early b1.1" ∷
    codes "u2.1 began @3" ∷
    codes "u2.1 did insert into o values (1) -> count 1" ∷
    codes "u2.1 committed 7" ∷
    codes "u2.2 began b1.1 part 2" ∷
    codes "u2.2 did update acct set bal = (bal + :amt) where key = :b -> count 1" ∷
    codes "u2.2 committed 8" ∷
    codes "b1.1 finished" ∷
    codes "released b1.1" ∷ []
unfolding computing
other_table_printed = refl

-- NO BASE PROGRAM IS CALLED until the release; a line that is refused gives no turn.

held_back_printed : drop 20 (printed_of (lines_on (reopened opened_early called 5) (call_transfer 3 2 1 5 ∷ go 1 ∷ call_transfer 3 2 1 5 ∷ []))) ≡
    codes "early b1.1" ∷
    codes "refused 9 state" ∷
    codes "u2.1 began b1.1 part 2" ∷
    codes "u2.1 did update acct set bal = (bal + :amt) where key = :b -> count 1" ∷
    codes "u2.1 committed 6" ∷
    codes "b1.1 finished" ∷
    codes "released b1.1" ∷
    codes "u2.2 began @3 b2.1 part 1 of transfer(2, 1, 5)" ∷
    codes "u2.2 did update acct set bal = (bal - :amt) where key = :a -> count 1" ∷
    codes "u2.2 committed 7" ∷
    codes "b2.1 accepted" ∷ []
unfolding computing
held_back_printed = refl

-- THE PROGRAMS OF ONE EARLY OPENING are released together, though neither read from the other, and the least of them has the cover; each line
-- gives one turn, `begin` too.

abbrev two_called : List Line
two_called = accounts ++ call_transfer 1 1 1 30 ∷ call_transfer 3 2 2 5 ∷ []

together_printed : drop 23 (printed_of (lines_on (reopened opened_early two_called 6) (line.ShowLocks ∷ begin 1 ∷ []))) ≡
    codes "u1.5 cut" ∷
    codes "early b1.1 b1.2" ∷
    (codes "lock b1.1 saline write acct all" ++ 10 ∷ codes "shown 1") ∷
    codes "u2.1 began b1.1 part 2" ∷
    codes "u2.1 did update acct set bal = (bal + :amt) where key = :b -> count 1" ∷
    codes "u2.1 committed 7" ∷
    codes "b1.1 finished" ∷
    codes "u2.2 began @1" ∷
    codes "u2.3 began b1.2 part 2" ∷
    codes "u2.3 did update acct set bal = (bal + :amt) where key = :b -> count 1" ∷
    codes "u2.3 committed 8" ∷
    codes "b1.2 finished" ∷
    codes "released b1.1 b1.2" ∷ []
unfolding computing
together_printed = refl

-- A FINISHED PROGRAM that an early opening does not name holds nothing, is not shown, and keeps definitions away until the named ones are released.

abbrev one_finished : List Line
one_finished = accounts ++ at 1 (insert_acct 3 0) ∷ call_transfer 1 1 2 30 ∷ call_transfer 3 1 3 10 ∷ go 2 ∷ []

left_out_printed : drop 30 (printed_of (lines_on (reopened opened_early one_finished 8) (line.Table o_def ∷ line.ShowBases ∷ line.Table o_def ∷ []))) ≡
    codes "u1.7 cut" ∷
    codes "early b1.1" ∷
    codes "refused 10 busy" ∷
    (codes "base b1.1 transfer next 2" ++ 10 ∷ codes "shown 1") ∷
    codes "u2.1 began b1.1 part 2" ∷
    codes "u2.1 did update acct set bal = (bal + :amt) where key = :b -> count 1" ∷
    codes "u2.1 committed 9" ∷
    codes "b1.1 finished" ∷
    codes "released b1.1" ∷
    codes "defined 10 create table o (id int key)" ∷ []
unfolding computing
left_out_printed = refl

-- A LINE THAT DOES NOTHING, and one whose text is refused, gives no turn; a later one does.

idle : next_turn (walk_on (Tree line.Nothing ∷ Rejected refused.Syntax ∷ []) (reopened opened_early called 5)) ≡ None
unfolding computing
idle = refl

-- A STOP in a turn: the line gives no further turn, and the next opening names what is still unfinished.

abbrev second_stop : Trace
second_stop = completed 4 (reopened opened_early two_called 6 asks Tree (begin 1)) says event.Down why.Stopped says event.Opened 3 6

again_printed : drop 25 (printed_of (completed 9 second_stop)) ≡
    codes "u2.1 began @1" ∷
    codes "u2.2 began b1.1 part 2" ∷
    codes "u2.2 did update acct set bal = (bal + :amt) where key = :b -> count 1" ∷
    codes "down stopped" ∷
    codes "opened 3 6" ∷
    codes "u2.1 cut" ∷
    codes "u2.2 cut" ∷
    codes "early b1.1 b1.2" ∷ []
unfolding computing
again_printed = refl

-- WITHOUT the word that allows it no opening is early; and none is where nothing is unfinished.

late_printed : drop 20 (printed_of (reopened opened called 5)) ≡
    codes "u2.1 began b1.1 part 2" ∷
    codes "u2.1 did update acct set bal = (bal + :amt) where key = :b -> count 1" ∷
    codes "u2.1 committed 6" ∷
    codes "b1.1 finished" ∷
    codes "ready" ∷ []
unfolding computing
late_printed = refl

nothing_unfinished_printed : drop 16 (printed_of (reopened opened_early accounts 4)) ≡ codes "ready" ∷ []
unfolding computing
nothing_unfinished_printed = refl
