-- Worked rows behind an early opening: what is held back, whose turns stand, and what is no such story.
use Rattle.salt_ast.specs.declared.lines.Line.TheVariants as line
use Rattle.salt_ast.specs.declared.lines.Line.{Line}
use Rattle.salt_model.specs.Computing.{computing}
use Rattle.salt_model.specs.Scripts.{accounts, at, bal_at, base, begin, call_transfer, insert_acct, unit}
use Rattle.salt_model.specs.Trace.{Trace, Tree, from, ◌asks◌, ◌says◌, ◌turns◌}
use Rattle.salt_model.specs.Walk.{completed, opened_early, walk_on}
use Rattle.salt_model.specs.declared.events.Answer.TheVariants as answer
use Rattle.salt_model.specs.declared.events.Event.TheVariants as event
use Rattle.salt_model.specs.declared.events.UnitKind.TheVariants as kind
use Rattle.salt_model.specs.declared.events.Why.TheVariants as why
use Rattle.salt_promise.specs.EarlyOpenings.{GivesTurns, HidesHeldBack, held_back}
use Rattle.salt_values.specs.declared.id.Id.{Id}
use Rattle.std.proofs.Common.{ap, arith}
use Rattle.std.specs.Prelude.{IsTrue, List, None, Option, Some, [], false, map, refl, ℕ, ◌++◌, ◌∷◌, ◌≡◌}

-- two programs are called; the run goes down before the commit of the line behind them, and the opening finds both unfinished
abbrev two_called : List Line
two_called = accounts ++ call_transfer 1 1 1 30 ∷ call_transfer 3 2 2 5 ∷ line.Crash ((1, 0) ∷ []) ∷ []

abbrev reopened : Trace
reopened = completed 9 (completed 2 (walk_on (map Tree two_called) opened_early asks Tree (at 2 (insert_acct 7 1))) says event.Down why.Stopped says event.Opened 2 6)

-- its lines behind that
abbrev lines_on : List Line → Trace
lines_on lines = walk_on (map Tree lines) reopened

-- the programs that have had turns
abbrev turned : Trace → List Id
turned (from k) = []
turned (trace asks asked) = turned trace
turned (trace turns b) = turned trace ++ b ∷ []
turned (trace says e) = turned trace

-- BOTH ARE HELD BACK, until they are released; and each line gives one turn

held_at_first : held_back reopened ≡ base 1 ∷ base 2 ∷ []
unfolding computing
held_at_first = refl

held_with_one_finished : held_back (lines_on (line.ShowLocks ∷ [])) ≡ base 1 ∷ base 2 ∷ []
unfolding computing
held_with_one_finished = refl

held_no_longer : held_back (lines_on (line.ShowLocks ∷ begin 1 ∷ [])) ≡ []
unfolding computing
held_no_longer = refl

turned_at_first : turned (lines_on (line.ShowLocks ∷ [])) ≡ base 1 ∷ []
unfolding computing
turned_at_first = refl

turned_to_both : turned (lines_on (line.ShowLocks ∷ line.Nothing ∷ begin 1 ∷ begin 2 ∷ [])) ≡ base 1 ∷ base 2 ∷ []
unfolding computing
turned_to_both = refl

-- WRONG STORIES: the next line is asked while a turn is owed, the turn is another program's, or it comes without a line

first_is_some : Some (base 1) ≡ None → ⊥
first_is_some h = cc

abbrev place_of : Option Id → ℕ
place_of None = 0
place_of (Some b) = b.seq

first_is_first : Some (base 1) ≡ Some (base 2) → ⊥
first_is_first h =
    let same : ◌≡◌ {A = ℕ} 1 2 = ap place_of h in
    omega (arith, same)

none_is_first : None ≡ Some (base 1) → ⊥
none_is_first h = cc

never : IsTrue false → ⊥
never h = cc

abbrev shown : Trace
shown = completed 1 (reopened asks Tree line.ShowLocks)

asked_too_early : GivesTurns (shown asks Tree (begin 1)) → ⊥
unfolding computing
asked_too_early h = first_is_some h.1

turned_to_another : GivesTurns (shown turns base 2) → ⊥
unfolding computing
turned_to_another h = first_is_first (h.1 refl)

turned_unasked : GivesTurns (reopened turns base 1) → ⊥
unfolding computing
turned_unasked h = none_is_first (h.1 refl)

-- an ACID unit reads what a program has written that is held back

abbrev reader : Id
reader = record { boot = 2; seq = 1 }

abbrev begun : Trace
begun = reopened asks Tree (at 3 (bal_at 1)) says event.Began reader (kind.Acid 3)

read_too_early : HidesHeldBack begun (event.Did reader (bal_at 1) (answer.Rows [])) → ⊥
unfolding computing
read_too_early h = never (h refl (unit 3 ∷ []) (refl, tt))
