-- Worked rows of a part that is tried again, computed from script to printed lines.
use Rattle.salt_ast.specs.Sample.{acct, acct_def, bal, pay, set}
use Rattle.salt_ast.specs.Trees.{operation}
use Rattle.salt_ast.specs.declared.lines.Line.TheVariants as line
use Rattle.salt_ast.specs.declared.lines.Line.{Line}
use Rattle.salt_ast.specs.declared.trees.Expr.{Column}
use Rattle.salt_ast.specs.declared.trees.Op.TheVariants as op
use Rattle.salt_ast.specs.declared.trees.Statement.TheVariants as statement
use Rattle.salt_model.specs.After.{kept}
use Rattle.salt_model.specs.Computing.{computing}
use Rattle.salt_model.specs.Kept.{IsWithinTries, WellKept}
use Rattle.salt_model.specs.Scripts.{at, base, begin, call, go, insert_acct, int, key_is, set_bal}
use Rattle.salt_model.specs.Trace.{Trace, Tree, ◌asks◌, ◌says◌}
use Rattle.salt_model.specs.Walk.{completed, printed, printed_of, walk}
use Rattle.salt_model.specs.declared.events.Event.TheVariants as event
use Rattle.salt_model.specs.declared.events.Why.TheVariants as why
use Rattle.salt_values.specs.declared.cont.Cont.{Cont}
use Rattle.std.proofs.Common.{lit≤}
use Rattle.std.proofs.Math.Nat.{not-suc-le_self}
use Rattle.std.specs.Prelude.{List, [], codes, drop, map, pos, refl, ℕ, ◌++◌, ◌∷◌, ◌≡◌}

-- An account that is nearly full, and a payment into it: its second part fails, and is to be tried once more.

abbrev accepted : List Line
accepted =
    line.Table acct_def ∷ line.Program pay ∷ at 1 (insert_acct 1 100) ∷ at 1 (insert_acct 3 990) ∷
    call 1 (codes "pay") (pos 1 ∷ pos 3 ∷ pos 30 ∷ []) ∷ []

abbrev failed_once : List Line
failed_once = accepted ++ go 1 ∷ []

failed_once_printed : drop 3 (printed failed_once) ≡
    (codes "defined 2 program pay(a int, b int, amt int) base part { update acct set bal = (bal - :amt) where key = :a }" ++
    codes " part { update acct set bal = (bal + :amt) where key = :b } then end on failure retry 1 then go 3" ++
    codes " part { update acct set bal = (bal + :amt) where key = :a } on failure end end") ∷
    codes "u1.1 began @1" ∷
    codes "u1.1 did insert into acct values (1, 100) -> count 1" ∷
    codes "u1.1 committed 3" ∷
    codes "u1.2 began @1" ∷
    codes "u1.2 did insert into acct values (3, 990) -> count 1" ∷
    codes "u1.2 committed 4" ∷
    codes "u1.3 began @1 b1.1 part 1 of pay(1, 3, 30)" ∷
    codes "u1.3 did update acct set bal = (bal - :amt) where key = :a -> count 1" ∷
    codes "u1.3 committed 5" ∷
    codes "b1.1 accepted" ∷
    codes "u1.4 began b1.1 part 2" ∷
    codes "u1.4 did update acct set bal = (bal + :amt) where key = :b -> failed check" ∷
    codes "u1.4 branched 6 check" ∷ []
unfolding computing
failed_once_printed = refl

-- where a program stands: its part, and the tries that it has left
abbrev standing : Trace → List (ℕ × ℕ)
standing trace = map (λ (c : Cont). (c.next, c.tries)) (kept trace).conts

accepted_standing : standing (walk accepted) ≡ (2, 1) ∷ []
unfolding computing
accepted_standing = refl

-- what is kept here is as a start has to be
accepted_well_kept : WellKept (kept (walk accepted))
unfolding computing
accepted_well_kept = record { boots = (lit≤ tt, tt); accepted = (tt, lit≤ tt, tt); defined = (refl, tt); tries = (lit≤ tt, tt) }

-- more tries than the part's are not
too_many : IsWithinTries (kept (walk accepted)) (record { base = base 1; accepted = 5; program = codes "pay"; args = []; vars = []; next = 2; tries = 2 }) → ⊥
unfolding computing
too_many h = not-suc-le_self 1 h

failed_once_standing : standing (walk failed_once) ≡ (2, 0) ∷ []
unfolding computing
failed_once_standing = refl

-- There is room the second time.

abbrev tried_again : List Line
tried_again =
    failed_once ++ at 2 (statement.Update acct (set bal (operation op.Sub (Column bal) (int 30)) ∷ []) (key_is 3)) ∷ go 1 ∷ []

tried_again_printed : drop 17 (printed tried_again) ≡
    codes "u1.5 began @2" ∷
    codes "u1.5 did update acct set bal = (bal - 30) where key = 3 -> count 1" ∷
    codes "u1.5 committed 7" ∷
    codes "u1.6 began b1.1 part 2" ∷
    codes "u1.6 did update acct set bal = (bal + :amt) where key = :b -> count 1" ∷
    codes "u1.6 committed 8" ∷
    codes "b1.1 finished" ∷
    codes "released b1.1" ∷ []
unfolding computing
tried_again_printed = refl

-- There is none, and the payment goes back.

abbrev failed_twice : List Line
failed_twice = failed_once ++ go 1 ∷ []

failed_twice_standing : standing (walk failed_twice) ≡ (3, 0) ∷ []
unfolding computing
failed_twice_standing = refl

failed_twice_printed : drop 17 (printed (failed_twice ++ go 1 ∷ [])) ≡
    codes "u1.5 began b1.1 part 2" ∷
    codes "u1.5 did update acct set bal = (bal + :amt) where key = :b -> failed check" ∷
    codes "u1.5 branched 7 check" ∷
    codes "u1.6 began b1.1 part 3" ∷
    codes "u1.6 did update acct set bal = (bal + :amt) where key = :a -> count 1" ∷
    codes "u1.6 committed 8" ∷
    codes "b1.1 finished" ∷
    codes "released b1.1" ∷ []
unfolding computing
failed_twice_printed = refl

-- A stop uses no try: the opening cuts the part, which waits here, and its drain tries it.

abbrev waiting : Trace
waiting = walk (accepted ++ begin 2 ∷ at 2 (set_bal 3 990) ∷ go 1 ∷ [])

abbrev stopped : Trace
stopped = waiting says event.Down why.Stopped says event.Opened 2 5

cut_standing : standing (completed 2 stopped) ≡ (2, 1) ∷ []
unfolding computing
cut_standing = refl

drained_printed : drop 14 (printed_of (completed 40 stopped)) ≡
    codes "u1.4 began @2" ∷
    codes "u1.4 did update acct set bal = 990 where key = 3 -> count 1" ∷
    codes "u1.5 began b1.1 part 2" ∷
    codes "u1.5 waits u1.4" ∷
    codes "down stopped" ∷
    codes "opened 2 5" ∷
    codes "u1.4 cut" ∷
    codes "u1.5 cut" ∷
    codes "u2.1 began b1.1 part 2" ∷
    codes "u2.1 did update acct set bal = (bal + :amt) where key = :b -> failed check" ∷
    codes "u2.1 branched 6 check" ∷
    codes "u2.2 began b1.1 part 2" ∷
    codes "u2.2 did update acct set bal = (bal + :amt) where key = :b -> failed check" ∷
    codes "u2.2 branched 7 check" ∷
    codes "u2.3 began b1.1 part 3" ∷
    codes "u2.3 did update acct set bal = (bal + :amt) where key = :a -> count 1" ∷
    codes "u2.3 committed 8" ∷
    codes "b1.1 finished" ∷
    codes "ready" ∷ []
unfolding computing
drained_printed = refl

-- A stop at the decision of a failure: the opening finds it undone, and no try is used, or done.

abbrev at_failure : Trace
at_failure = completed 2 (walk accepted asks Tree (go 1)) says event.Down why.Stopped

failure_undone : standing (completed 1 (at_failure says event.Opened 2 5)) ≡ (2, 1) ∷ []
unfolding computing
failure_undone = refl

failure_done : standing (completed 1 (at_failure says event.Opened 2 6)) ≡ (2, 0) ∷ []
unfolding computing
failure_done = refl

failure_done_printed : drop 16 (printed_of (completed 2 (at_failure says event.Opened 2 6))) ≡
    codes "down stopped" ∷ codes "opened 2 6" ∷ codes "u1.4 branched 6 check" ∷ codes "u2.1 began b1.1 part 2" ∷ []
unfolding computing
failure_done_printed = refl
