-- Worked rows of an opening: what can be drained, and what is left of it, event by event.
use Rattle.salt_ast.specs.Sample.{acct_def, part, pay}
use Rattle.salt_ast.specs.declared.lines.Line.TheVariants as line
use Rattle.salt_ast.specs.declared.lines.Line.{Line}
use Rattle.salt_ast.specs.declared.programs.Body.TheVariants as body
use Rattle.law_states.specs.Steps.{units_of}
use Rattle.salt_model.specs.After.{kept}
use Rattle.salt_model.specs.Computing.{computing}
use Rattle.salt_model.specs.Next.{next}
use Rattle.salt_model.specs.Scripts.{at, begin, call, insert_acct, set_bal}
use Rattle.salt_model.specs.Trace.{Trace, Tree, ◌says◌}
use Rattle.salt_model.specs.Walk.{completed, opened_early, printed_of, walk, walk_on}
use Rattle.salt_model.specs.declared.events.Event.TheVariants as event
use Rattle.salt_model.specs.declared.events.Why.TheVariants as why
use Rattle.law_openings.specs.Draining.{CanDrain, LeadsOn, left_to_open, statements_left}
use Rattle.std.proofs.Common.{lit≤}
use Rattle.std.proofs.Math.Nat.{not-suc-le_self}
use Rattle.std.specs.Prelude.{List, None, [], codes, drop, map, pos, refl, ℕ, ◌∷◌, ◌≡◌}

-- A payment whose second part fails, is tried once more, fails again, and goes back by its third; beside it a unit that a stop leaves open.

abbrev accepted : List Line
accepted =
    line.Table acct_def ∷ line.Program pay ∷ at 1 (insert_acct 1 100) ∷ at 1 (insert_acct 3 990) ∷
    call 1 (codes "pay") (pos 1 ∷ pos 3 ∷ pos 30 ∷ []) ∷ begin 2 ∷ at 2 (set_bal 1 70) ∷ []

abbrev reopened : Trace
reopened = walk accepted says event.Down why.Stopped says event.Opened 2 5

reopened_printed : drop 17 (printed_of (completed 20 reopened)) ≡
    codes "opened 2 5" ∷
    codes "u1.4 cut" ∷
    codes "u2.1 began b1.1 part 2" ∷
    codes "u2.1 did update acct set bal = (bal + :amt) where key = :b -> failed check" ∷
    codes "u2.1 branched 6 check" ∷
    codes "u2.2 began b1.1 part 2" ∷
    codes "u2.2 did update acct set bal = (bal + :amt) where key = :b -> failed check" ∷
    codes "u2.2 branched 7 check" ∷
    codes "u2.3 began b1.1 part 3" ∷
    codes "u2.3 did update acct set bal = (bal + :amt) where key = :a -> count 1" ∷
    codes "u2.3 committed 8" ∷
    codes "b1.1 finished" ∷
    codes "ready" ∷ []
unfolding computing
reopened_printed = refl

-- what is kept here can be drained
reopened_can_drain : CanDrain (kept reopened)
unfolding computing
reopened_can_drain = record {
  programs = (record { ways = refl; blocks = (lit≤ tt, (lit≤ tt, (lit≤ tt, tt))) }, tt);
  conts = (record { program = pay; part = _; found = refl; there = refl }, tt);
}

-- a program with a part that does nothing doesn't lead on
no_statement : LeadsOn (record pay { body = body.Base (part [] None None ∷ []) }) → ⊥
no_statement h = not-suc-le_self 0 h.blocks.0

-- behind each of these events
abbrev statements_left_after : ℕ → ℕ
statements_left_after n = statements_left (units_of (completed n reopened))

abbrev left_after : ℕ → ℕ
left_after n = let trace = completed n reopened in left_to_open (units_of trace) (next trace)

reopened_statements : map statements_left_after (0 ∷ 1 ∷ 2 ∷ 3 ∷ 4 ∷ 5 ∷ 6 ∷ 7 ∷ 8 ∷ 9 ∷ 10 ∷ 11 ∷ 12 ∷ [])
    ≡ 3 ∷ 3 ∷ 3 ∷ 2 ∷ 2 ∷ 2 ∷ 1 ∷ 1 ∷ 1 ∷ 0 ∷ 0 ∷ 0 ∷ 0 ∷ []
unfolding computing
reopened_statements = refl

reopened_left : map left_after (0 ∷ 1 ∷ 2 ∷ 3 ∷ 4 ∷ 5 ∷ 6 ∷ 7 ∷ 8 ∷ 9 ∷ 10 ∷ 11 ∷ 12 ∷ [])
    ≡ 28 ∷ 25 ∷ 21 ∷ 20 ∷ 17 ∷ 13 ∷ 12 ∷ 9 ∷ 5 ∷ 4 ∷ 2 ∷ 1 ∷ 0 ∷ []
unfolding computing
reopened_left = refl

-- THE SAME where openings may be early: the unit is cut, and the program's statements are left to the lines behind

abbrev reopened_early : Trace
reopened_early = walk_on (map Tree accepted) opened_early says event.Down why.Stopped says event.Opened 2 5

reopened_early_printed : drop 17 (printed_of (completed 20 reopened_early)) ≡ codes "opened 2 5" ∷ codes "u1.4 cut" ∷ codes "early b1.1" ∷ []
unfolding computing
reopened_early_printed = refl

abbrev early_statements_left_after : ℕ → ℕ
early_statements_left_after n = statements_left (units_of (completed n reopened_early))

abbrev early_left_after : ℕ → ℕ
early_left_after n = let trace = completed n reopened_early in left_to_open (units_of trace) (next trace)

reopened_early_statements : map early_statements_left_after (0 ∷ 1 ∷ 2 ∷ []) ≡ 3 ∷ 3 ∷ 3 ∷ []
unfolding computing
reopened_early_statements = refl

reopened_early_left : map early_left_after (0 ∷ 1 ∷ 2 ∷ []) ≡ 28 ∷ 25 ∷ 0 ∷ []
unfolding computing
reopened_early_left = refl
