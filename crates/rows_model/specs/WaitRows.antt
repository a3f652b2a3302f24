-- Worked rows of waits for programs, and of their releases.
use Rattle.salt_ast.specs.declared.lines.Line.{Line}
use Rattle.salt_model.specs.Computing.{computing}
use Rattle.salt_model.specs.Scripts.{accounts, at, bal_at, begin, call_transfer, go, insert_acct}
use Rattle.salt_model.specs.Walk.{printed}
use Rattle.std.specs.Prelude.{List, [], codes, drop, refl, ◌++◌, ◌∷◌, ◌≡◌}

-- An ACID reader waits until the program is released.

abbrev reader_waits : List Line
reader_waits = accounts ++ call_transfer 1 1 2 30 ∷ at 2 (bal_at 1) ∷ go 1 ∷ []

reader_waits_printed : drop 10 (printed reader_waits) ≡
    codes "u1.3 began @1 b1.1 part 1 of transfer(1, 2, 30)" ∷
    codes "u1.3 did update acct set bal = (bal - :amt) where key = :a -> count 1" ∷
    codes "u1.3 committed 5" ∷
    codes "b1.1 accepted" ∷
    codes "u1.4 began @2" ∷
    codes "u1.4 waits b1.1" ∷
    codes "u1.5 began b1.1 part 2" ∷
    codes "u1.5 did update acct set bal = (bal + :amt) where key = :b -> count 1" ∷
    codes "u1.5 committed 6" ∷
    codes "b1.1 finished" ∷
    codes "released b1.1" ∷
    codes "u1.4 did select bal from acct where key = 1 -> rows (70)" ∷
    codes "u1.4 committed 7" ∷ []
unfolding computing
reader_waits_printed = refl

-- A program that read from an unfinished one is released with it.

abbrev late_release : List Line
late_release = accounts ++ at 1 (insert_acct 3 0) ∷ call_transfer 1 1 2 30 ∷ call_transfer 2 1 3 10 ∷ go 2 ∷ at 3 (bal_at 3) ∷ go 1 ∷ []

late_release_printed : drop 10 (printed late_release) ≡
    codes "u1.3 began @1" ∷
    codes "u1.3 did insert into acct values (3, 0) -> count 1" ∷
    codes "u1.3 committed 5" ∷
    codes "u1.4 began @1 b1.1 part 1 of transfer(1, 2, 30)" ∷
    codes "u1.4 did update acct set bal = (bal - :amt) where key = :a -> count 1" ∷
    codes "u1.4 committed 6" ∷
    codes "b1.1 accepted" ∷
    codes "u1.5 began @2 b1.2 part 1 of transfer(1, 3, 10)" ∷
    codes "u1.5 did update acct set bal = (bal - :amt) where key = :a -> count 1" ∷
    codes "u1.5 committed 7" ∷
    codes "b1.2 accepted" ∷
    codes "u1.6 began b1.2 part 2" ∷
    codes "u1.6 did update acct set bal = (bal + :amt) where key = :b -> count 1" ∷
    codes "u1.6 committed 8" ∷
    codes "b1.2 finished" ∷
    codes "u1.7 began @3" ∷
    codes "u1.7 waits b1.2" ∷
    codes "u1.8 began b1.1 part 2" ∷
    codes "u1.8 did update acct set bal = (bal + :amt) where key = :b -> count 1" ∷
    codes "u1.8 committed 9" ∷
    codes "b1.1 finished" ∷
    codes "released b1.1 b1.2" ∷
    codes "u1.7 did select bal from acct where key = 3 -> rows (10)" ∷
    codes "u1.7 committed 10" ∷ []
unfolding computing
late_release_printed = refl

-- Two programs that read from each other are released in one event.

abbrev released_together : List Line
released_together = accounts ++ call_transfer 1 1 2 30 ∷ call_transfer 2 2 1 10 ∷ go 1 ∷ go 2 ∷ []

released_together_printed : drop 10 (printed released_together) ≡
    codes "u1.3 began @1 b1.1 part 1 of transfer(1, 2, 30)" ∷
    codes "u1.3 did update acct set bal = (bal - :amt) where key = :a -> count 1" ∷
    codes "u1.3 committed 5" ∷
    codes "b1.1 accepted" ∷
    codes "u1.4 began @2 b1.2 part 1 of transfer(2, 1, 10)" ∷
    codes "u1.4 did update acct set bal = (bal - :amt) where key = :a -> count 1" ∷
    codes "u1.4 committed 6" ∷
    codes "b1.2 accepted" ∷
    codes "u1.5 began b1.1 part 2" ∷
    codes "u1.5 did update acct set bal = (bal + :amt) where key = :b -> count 1" ∷
    codes "u1.5 committed 7" ∷
    codes "b1.1 finished" ∷
    codes "u1.6 began b1.2 part 2" ∷
    codes "u1.6 did update acct set bal = (bal + :amt) where key = :b -> count 1" ∷
    codes "u1.6 committed 8" ∷
    codes "b1.2 finished" ∷
    codes "released b1.1 b1.2" ∷ []
unfolding computing
released_together_printed = refl

-- A reader and a program that wait for each other: the ACID unit is given up.

abbrev reader_given_up : List Line
reader_given_up = accounts ++ call_transfer 1 1 2 30 ∷ begin 2 ∷ at 2 (bal_at 2) ∷ go 1 ∷ at 2 (bal_at 1) ∷ []

reader_given_up_printed : drop 10 (printed reader_given_up) ≡
    codes "u1.3 began @1 b1.1 part 1 of transfer(1, 2, 30)" ∷
    codes "u1.3 did update acct set bal = (bal - :amt) where key = :a -> count 1" ∷
    codes "u1.3 committed 5" ∷
    codes "b1.1 accepted" ∷
    codes "u1.4 began @2" ∷
    codes "u1.4 did select bal from acct where key = 2 -> rows (50)" ∷
    codes "u1.5 began b1.1 part 2" ∷
    codes "u1.5 waits u1.4" ∷
    codes "u1.4 waits b1.1" ∷
    codes "u1.4 victim" ∷
    codes "u1.5 did update acct set bal = (bal + :amt) where key = :b -> count 1" ∷
    codes "u1.5 committed 6" ∷
    codes "b1.1 finished" ∷
    codes "released b1.1" ∷ []
unfolding computing
reader_given_up_printed = refl

-- A reader that waits for a finished program waits for the unfinished one that it reads from.

abbrev through_a_source : List Line
through_a_source =
    accounts ++ at 1 (insert_acct 3 0) ∷ call_transfer 1 1 2 30 ∷ call_transfer 2 1 3 10 ∷ go 2 ∷
    begin 3 ∷ at 3 (bal_at 2) ∷ go 1 ∷ at 3 (bal_at 3) ∷ []

through_a_source_printed : drop 21 (printed through_a_source) ≡
    codes "u1.6 began b1.2 part 2" ∷
    codes "u1.6 did update acct set bal = (bal + :amt) where key = :b -> count 1" ∷
    codes "u1.6 committed 8" ∷
    codes "b1.2 finished" ∷
    codes "u1.7 began @3" ∷
    codes "u1.7 did select bal from acct where key = 2 -> rows (50)" ∷
    codes "u1.8 began b1.1 part 2" ∷
    codes "u1.8 waits u1.7" ∷
    codes "u1.7 waits b1.2" ∷
    codes "u1.7 victim" ∷
    codes "u1.8 did update acct set bal = (bal + :amt) where key = :b -> count 1" ∷
    codes "u1.8 committed 9" ∷
    codes "b1.1 finished" ∷
    codes "released b1.1 b1.2" ∷ []
unfolding computing
through_a_source_printed = refl
