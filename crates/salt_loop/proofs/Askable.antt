-- A line that a text asks may be asked of a database.
use Rattle.salt_ast.specs.Limits.{above, height_passed, passed_in_list}
use Rattle.salt_ast.specs.ProgramLimits.{line_exprs, line_limit, line_passed, stop_passed}
use Rattle.salt_ast.specs.declared.limit.LimitName.TheVariants as limit
use Rattle.salt_ast.specs.declared.limit.LimitName.{LimitName}
use Rattle.salt_ast.specs.declared.lines.Line.TheVariants.{Crash, Go, GoAll, Net, Nothing, Program, Session, ShowBases, ShowLocks, Table}
use Rattle.salt_ast.specs.declared.lines.Line.{Line}
use Rattle.salt_model.specs.Lines.{Asks, has_other_byte, is_idle, is_line, is_long, is_no_line, passes}
use Rattle.salt_model.specs.Trace.{Asked, Tree}
use Rattle.salt_model.specs.Words.{Every}
use Rattle.salt_loop.specs.Serving.{IsAskable}
use Rattle.law_decisions.specs.Spelled.{IsSpelledLine}
use Rattle.salt_values.specs.declared.limits.TheConstants.{PAIRS_MOST, PICK_MOST}
use Rattle.std.proofs.Common.{refl, subst, suc, zero}
use Rattle.std.proofs.lemmas.Bool.{ltb-false}
use Rattle.std.specs.Bool.{then_some}
use Rattle.std.specs.Option.{option_or}
use Rattle.std.specs.Prelude.{Bool, List, None, Option, Some, [], false, nat_lt, true, ℕ, ◌∷◌, ◌≡◌, ◌≤◌}

first : (a b : Option LimitName) → option_or a b ≡ None → a ≡ None
first None b h = refl
first (Some l) b h = absurd cc

second : (a b : Option LimitName) → option_or a b ≡ None → b ≡ None
second None b h = h
second (Some l) b h = absurd cc

not-above : (most n : ℕ) (l : LimitName) → above most l n ≡ None → n ≤ most
not-above most n l h = by (nat_lt most n) refl h
  where
    by : (t : Bool) → nat_lt most n ≡ t → then_some t l ≡ None → n ≤ most
    by true e h = absurd cc
    by false e h = ltb-false most n e

each-pick : (room : ℕ) (l : LimitName) (pairs : List (ℕ × ℕ)) → passed_in_list room l stop_passed pairs ≡ None → Every (λ (p : ℕ × ℕ). p.1 ≤ PICK_MOST) pairs
each-pick room l [] h = tt
each-pick zero l (p ∷ pairs) h = absurd cc
each-pick (suc room) l (p ∷ pairs) h = (
  not-above PICK_MOST p.1 limit.Pick (second _ (above PICK_MOST limit.Pick p.1) (first (stop_passed p) (passed_in_list room l stop_passed pairs) h)),
  each-pick room l pairs (second (stop_passed p) (passed_in_list room l stop_passed pairs) h),
)

within : (line : Line) → line_limit line ≡ None → line_passed line ≡ None
unfolding line_limit
within line h = first (line_passed line) (height_passed (line_exprs line)) h

picks : (text : List ℕ) (asked : Asked) (pairs : List (ℕ × ℕ)) → Asks text asked → asked ≡ Tree (Crash pairs) → Every (λ (p : ℕ × ℕ). p.1 ≤ PICK_MOST) pairs
picks text asked pairs (is_idle a b) e = absurd cc
picks text asked pairs (is_line {line = other} r w) e = each-pick PAIRS_MOST limit.Pairs pairs (within (Crash pairs) (subst (λ l. line_limit l ≡ None) (same other (Crash pairs) e) w.tree))
  where
    same : (a b : Line) → Tree a ≡ Tree b → a ≡ b
    same a b e = cc
picks text asked pairs (is_long a) e = absurd cc
picks text asked pairs (has_other_byte a b d) e = absurd cc
picks text asked pairs (is_no_line a b) e = absurd cc
picks text asked pairs (passes a b d) e = absurd cc

pub askable : (text : List ℕ) (line : Line) → Asks text (Tree line) → IsSpelledLine line → IsAskable line
askable text (Crash pairs) asks spelled = picks text (Tree (Crash pairs)) pairs asks refl
askable text (Table d) asks spelled = spelled
askable text (Program p) asks spelled = spelled
askable text Nothing asks spelled = tt
askable text (Session s act) asks spelled = tt
askable text (Go b) asks spelled = tt
askable text GoAll asks spelled = tt
askable text ShowLocks asks spelled = tt
askable text ShowBases asks spelled = tt
askable text (Net pairs) asks spelled = tt
