-- Worked rows of refusals, and wrong rows.
use Rattle.salt_ast.specs.Sample.{acct, field, id, part, set}
use Rattle.salt_ast.specs.Trees.{operation}
use Rattle.salt_ast.specs.declared.limit.LimitName.TheVariants as limit
use Rattle.salt_ast.specs.declared.lines.Line.TheVariants as line
use Rattle.salt_ast.specs.declared.lines.Line.{Line}
use Rattle.salt_ast.specs.declared.programs.Body.TheVariants as body
use Rattle.salt_ast.specs.declared.programs.ProgramDef.{ProgramDef}
use Rattle.salt_ast.specs.declared.trees.ColType.TheVariants as kind
use Rattle.salt_ast.specs.declared.trees.Expr.{Expr}
use Rattle.salt_ast.specs.declared.trees.Op.TheVariants as op
use Rattle.salt_ast.specs.declared.trees.Statement.TheVariants as statement
use Rattle.salt_ast.specs.declared.trees.Statement.{Statement}
use Rattle.salt_ast.specs.declared.trees.What.TheVariants as what
use Rattle.salt_model.specs.AsDeclared.{DoesDeclared}
use Rattle.salt_model.specs.Computing.{computing}
use Rattle.salt_model.specs.Isolation.{TouchesWhole}
use Rattle.salt_model.specs.Trace.{Trace, Tree, Rejected, from, ◌asks◌, ◌says◌}
use Rattle.salt_model.specs.Segments.{May}
use Rattle.salt_model.specs.Refusals.{refusal}
use Rattle.salt_model.specs.Scripts.{accounts, all_rows, at, bal_at, base, begin, call_transfer, commit, go, insert_acct, insert_into, int, raise_all, unit}
use Rattle.salt_model.specs.Kept.{nothing_kept}
use Rattle.salt_model.specs.Walk.{completed, opened, printed, printed_of, walk, walk_on}
use Rattle.salt_model.specs.declared.events.Answer.TheVariants as answer
use Rattle.salt_model.specs.declared.events.End.TheVariants as end
use Rattle.salt_model.specs.declared.events.Event.TheVariants as event
use Rattle.salt_model.specs.declared.events.Owner.TheVariants as owner
use Rattle.salt_model.specs.declared.events.Refusal.TheVariants as refused
use Rattle.salt_model.specs.declared.events.UnitKind.TheVariants as unit_kind
use Rattle.std.specs.Prelude.{List, None, Some, [], codes, drop, false, pos, refl, suc, true, zero, ℕ, ◌++◌, ◌∷◌, ◌≡◌}

-- Each of these lines is refused where the accounts and the program of transfers stand.

abbrev one : Expr
one = int 1

abbrev holds : Statement
holds = statement.Ensure (operation op.Equal one one)

abbrev no_branch : ProgramDef
no_branch = record {
  name = codes "p";
  params = [];
  vars = [];
  body = body.Base (part (holds ∷ []) None None ∷ part (holds ∷ []) None None ∷ []);
}

abbrev table_of : List ℕ → Line
table_of n = line.Table (record { name = n; columns = field id kind.Int ∷ []; checks = [] })

abbrev refused_lines : List Line
refused_lines =
    at 1 (statement.Select what.All (codes "nosuch") all_rows) ∷
    table_of acct ∷
    at 1 (insert_into acct (pos 1 ∷ [])) ∷
    at 1 (statement.Update acct (set id (int 3) ∷ []) all_rows) ∷
    line.Program no_branch ∷
    commit 1 ∷
    go 1 ∷
    begin 1 ∷
    table_of (codes "x") ∷
    commit 1 ∷
    call_transfer 1 1 2 30 ∷
    table_of (codes "x") ∷ []

refused_printed : drop 10 (printed (accounts ++ refused_lines)) ≡
    codes "refused 5 unknown nosuch" ∷
    codes "refused 6 exists acct" ∷
    codes "refused 7 type" ∷
    codes "refused 7 type" ∷
    codes "refused 8 branch 2" ∷
    codes "refused 9 state" ∷
    codes "refused 5 unknown b1.1" ∷
    codes "u1.3 began @1" ∷
    codes "refused 10 busy" ∷
    codes "u1.3 committed 5" ∷
    codes "u1.4 began @1 b1.1 part 1 of transfer(1, 2, 30)" ∷
    codes "u1.4 did update acct set bal = (bal - :amt) where key = :a -> count 1" ∷
    codes "u1.4 committed 6" ∷
    codes "b1.1 accepted" ∷
    codes "refused 10 busy" ∷ []
unfolding computing
refused_printed = refl

-- What a text is refused for is told as it is.
rejected_printed : drop 2 (printed_of (walk_on (Rejected refused.Long ∷ Rejected refused.Byte ∷ Rejected refused.Syntax ∷ []) opened)) ≡
    codes "refused 1 long" ∷ codes "refused 2 byte" ∷ codes "refused 3 syntax" ∷ []
unfolding computing
rejected_printed = refl

-- A stop can't be armed where the disks can't be stopped.
unstopped : refusal (completed 9 (from (record { kept = nothing_kept; can_stop = false; early = false; over_net = false }) says event.Opened 1 0))
    (Tree (line.Crash ((1, 0) ∷ []))) ≡ Some refused.State
unfolding computing
unstopped = refl

-- Pairs of messages can't be armed where commits do not go over messages; where they do, it is told as stops are.
unsent : refusal opened (Tree (line.Net ((1, 0) ∷ []))) ≡ Some refused.State
unfolding computing
unsent = refl

abbrev over_messages : Trace
over_messages = completed 9 (from (record { kept = nothing_kept; can_stop = true; early = false; over_net = true }) says event.Opened 1 0)

sent_printed : drop 2 (printed_of (walk_on (Tree (line.Net ((1, 0) ∷ (2, 1) ∷ (3, 2) ∷ [])) ∷ []) over_messages)) ≡ codes "armed 1 0 2 1 3 2" ∷ []
unfolding computing
sent_printed = refl

-- At most 1,024 programs are under way.

abbrev accepting : ℕ → Trace
accepting zero = walk accounts
accepting (suc n) = accepting n says event.Accepted (base (suc n))

one_program_more : refusal (accepting 1023) (Tree (call_transfer 1 1 2 0)) ≡ None
unfolding computing
one_program_more = refl

one_program_too_many : refusal (accepting 1024) (Tree (call_transfer 1 1 2 0)) ≡ Some (refused.Limit limit.Bases)
unfolding computing
one_program_too_many = refl

-- WRONG ROWS, each of one event that may not stand where it stands.

-- a reader waits for the program that holds what it asks for
abbrev asking : Trace
asking = completed 1 (walk (accounts ++ call_transfer 1 1 2 30 ∷ []) asks Tree (at 2 (bal_at 1)))

waits_for_it : May asking (event.Waits (unit 4) (owner.Base (base 1) ∷ []))
unfolding computing
waits_for_it = refl

-- and for no other
wrong_owner : May asking (event.Waits (unit 4) (owner.Unit (unit 3) ∷ [])) → ⊥
unfolding computing
wrong_owner h = cc

-- a program that read from an unfinished one finishes, and is not released
abbrev finishing : Trace
finishing = completed 4 (walk (accounts ++ at 1 (insert_acct 3 0) ∷ call_transfer 1 1 2 30 ∷ call_transfer 2 1 3 10 ∷ []) asks Tree (go 2))

finished_last : drop 24 (printed_of finishing) ≡ codes "b1.2 finished" ∷ []
unfolding computing
finished_last = refl

too_early : May finishing (event.Released (base 2 ∷ [])) → ⊥
unfolding computing
too_early h = cc

-- a decision number that is too high
abbrev committing : Trace
committing = walk (accounts ++ begin 1 ∷ []) asks Tree (commit 1)

commits_next : May committing (event.Ended (unit 3) (end.Committed 5))
unfolding computing
commits_next = refl

too_high : May committing (event.Ended (unit 3) (end.Committed 6)) → ⊥
unfolding computing
too_high h = cc

-- a unit that a statement's line began does another statement
abbrev reading : Trace
reading = completed 1 (walk accounts asks Tree (at 1 (bal_at 1)))

reads_next : DoesDeclared reading (event.Did (unit 3) (bal_at 1) (answer.Count 1))
unfolding computing
reads_next = (refl, (refl, refl))

differ : raise_all ≡ bal_at 1 → ⊥
differ e = cc

other_statement : DoesDeclared reading (event.Did (unit 3) raise_all (answer.Count 1)) → ⊥
unfolding computing
other_statement h = differ h.1.0

-- a part commits, and its statement is not done
abbrev calling : Trace
calling = completed 1 (walk accounts asks Tree (call_transfer 1 1 2 30))

left_undone : DoesDeclared calling (event.Ended (unit 3) (end.Committed 5)) → ⊥
unfolding computing
left_undone h = cc

-- an ACID unit reads what a part of a program has changed, and may still change
abbrev part_open : Trace
part_open = completed 2 (walk accounts asks Tree (call_transfer 1 1 2 30)) says event.Began (unit 4) (unit_kind.Acid 2)

reads_elsewhere : TouchesWhole part_open (event.Did (unit 4) (bal_at 2) (answer.Count 1))
unfolding computing
reads_elsewhere acid = refl

reads_in_between : TouchesWhole part_open (event.Did (unit 4) (bal_at 1) (answer.Count 1)) → ⊥
unfolding computing
reads_in_between h = let x = h refl in cc
