-- Worked rows with stops and faults. Where the run goes down and what each opening finds are given; `next` gives all else.
use Rattle.salt_ast.specs.declared.lines.Line.TheVariants as line
use Rattle.salt_model.specs.Computing.{computing}
use Rattle.salt_model.specs.Trace.{Trace, Tree, ◌asks◌, ◌says◌}
use Rattle.salt_model.specs.Next.{flight, next}
use Rattle.salt_model.specs.Decided.{TellsOwn}
use Rattle.salt_model.specs.Scripts.{accounts, at, begin, call_transfer, commit, insert_acct, raise_all, unit}
use Rattle.salt_model.specs.Walk.{completed, opened, printed_of, walk, walk_on}
use Rattle.salt_model.specs.declared.events.End.TheVariants as end
use Rattle.salt_model.specs.declared.events.Event.TheVariants as event
use Rattle.salt_model.specs.declared.events.Why.TheVariants as why
use Rattle.std.specs.Prelude.{None, Some, [], codes, drop, map, refl, ◌++◌, ◌∷◌, ◌≡◌}

-- A commit over two partitions that a stop cuts: the opening finds it undone, or done.

abbrev raised : Trace
raised = walk_on (map Tree (accounts ++ begin 1 ∷ at 1 raise_all ∷ line.Crash ((11, 1) ∷ []) ∷ [])) opened

-- the commit's first event is the next; the stop falls before it
abbrev cut_short : Trace
cut_short = raised asks Tree (commit 1) says event.Down why.Stopped

undone_printed : drop 12 (printed_of (completed 9 (cut_short says event.Opened 2 4))) ≡
    codes "armed 11 1" ∷ codes "down stopped" ∷ codes "opened 2 4" ∷ codes "u1.3 cut" ∷ codes "ready" ∷ []
unfolding computing
undone_printed = refl

done_printed : drop 12 (printed_of (completed 9 (cut_short says event.Opened 2 5))) ≡
    codes "armed 11 1" ∷ codes "down stopped" ∷ codes "opened 2 5" ∷ codes "u1.3 committed 5" ∷ codes "ready" ∷ []
unfolding computing
done_printed = refl

-- behind the flight no other decision of an earlier boot is told
abbrev told_flight : Trace
told_flight = cut_short says event.Opened 2 5 says event.Ended (unit 3) (end.Committed 5)

another_told : TellsOwn told_flight (event.Ended (unit 4) (end.Committed 6)) → ⊥
unfolding computing
another_told h = let own = h refl in cc

-- Two stops: a unit is cut, and the drain begins its part anew.

abbrev before_stop : Trace
before_stop = completed 2 (walk (accounts ++ call_transfer 1 1 2 30 ∷ line.Crash ((1, 0) ∷ (9, 0) ∷ []) ∷ []) asks Tree (at 2 (insert_acct 7 1)))

abbrev second_stop : Trace
second_stop = completed 3 (before_stop says event.Down why.Stopped says event.Opened 2 5)

abbrev drained : Trace
drained = completed 40 (second_stop says event.Down why.Stopped says event.Opened 3 5)

drained_printed : drop 14 (printed_of drained) ≡
    codes "armed 1 0 9 0" ∷
    codes "u1.4 began @2" ∷
    codes "u1.4 did insert into acct values (7, 1) -> count 1" ∷
    codes "down stopped" ∷
    codes "opened 2 5" ∷
    codes "u1.4 cut" ∷
    codes "u2.1 began b1.1 part 2" ∷
    codes "u2.1 did update acct set bal = (bal + :amt) where key = :b -> count 1" ∷
    codes "down stopped" ∷
    codes "opened 3 5" ∷
    codes "u2.1 cut" ∷
    codes "u3.1 began b1.1 part 2" ∷
    codes "u3.1 did update acct set bal = (bal + :amt) where key = :b -> count 1" ∷
    codes "u3.1 committed 6" ∷
    codes "b1.1 finished" ∷
    codes "ready" ∷ []
unfolding computing
drained_printed = refl

-- the first stop falls with the insert's commit in flight
in_flight : flight (before_stop says event.Down why.Stopped) ≡ Some (event.Ended (unit 4) (end.Committed 6))
unfolding computing
in_flight = refl

nothing_more : next drained ≡ None
unfolding computing
nothing_more = refl
