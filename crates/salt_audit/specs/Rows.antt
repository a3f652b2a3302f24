-- Worked rows of audits: stories, and what is found of them.
use Rattle.salt_ast.specs.Judgement.{statement_fault, table_fault}
use Rattle.salt_ast.specs.Limits.{statement_limit, table_limit}
use Rattle.salt_ast.specs.ProgramJudgement.{call_fault, line_fault, program_fault}
use Rattle.salt_ast.specs.ProgramLimits.{program_limit}
use Rattle.salt_ast.specs.ProgramTexts.{program_text}
use Rattle.salt_ast.specs.Sample.{acct_def, move, transfer}
use Rattle.salt_ast.specs.Texts.{table_text}
use Rattle.salt_ast.specs.declared.trees.Op.TheVariants as op
use Rattle.salt_ast.specs.declared.trees.Statement.{Statement}
use Rattle.salt_audit.specs.Transcripts.{text_on}
use Rattle.salt_audit.specs.Retelling.{retold}
use Rattle.salt_audit.specs.Verdicts.{broken, found_in, sound, unformed}
use Rattle.salt_audit.specs.declared.verdict.Law.TheVariants.{Honest, Salted, Whole}
use Rattle.law_definitions.specs.Texts.{definition_in}
use Rattle.salt_model.specs.Reaches.{reach}
use Rattle.salt_model.specs.Scripts.{bal_at, base, insert_acct, numbers, unit}
use Rattle.salt_model.specs.Statements.{outcome_of}
use Rattle.salt_model.specs.Tables.{with_changes}
use Rattle.salt_model.specs.declared.events.Answer.TheVariants as answer
use Rattle.salt_model.specs.declared.events.End.TheVariants as end
use Rattle.salt_model.specs.declared.events.Event.TheVariants as event
use Rattle.salt_model.specs.declared.events.Event.{Event}
use Rattle.salt_model.specs.declared.events.Owner.TheVariants as owner
use Rattle.salt_model.specs.declared.events.UnitKind.TheVariants as kind
use Rattle.salt_parse.specs.Lists.{following_at}
use Rattle.salt_parse.specs.ProgramReading.{program_at}
use Rattle.salt_parse.specs.Reading.{after, atom_at, left_at, nots_at, once_at, tail_at, text_at, within_at}
use Rattle.salt_parse.specs.StatementReading.{statement_at}
use Rattle.salt_parse.specs.TableReading.{table_at}
use Rattle.salt_ast.specs.Scanning.{first_at, lex, quoted_at}
use Rattle.salt_ast.specs.TokenSpelling.{keyword_of, sign_of}
use Rattle.salt_values.specs.declared.value.Value.TheVariants.{Int}
use Rattle.salt_ast.specs.Sample.{acct, bal, field, part, scan, set}
use Rattle.salt_ast.specs.Trees.{operation}
use Rattle.salt_ast.specs.declared.programs.Body.TheVariants as body
use Rattle.salt_ast.specs.declared.programs.ProgramDef.{ProgramDef}
use Rattle.salt_ast.specs.declared.trees.Bound.TheVariants as bound
use Rattle.salt_ast.specs.declared.trees.ColType.TheVariants as column
use Rattle.salt_ast.specs.declared.trees.Expr.{Column, Expr, Variable}
use Rattle.salt_ast.specs.declared.trees.Field.{Field}
use Rattle.salt_ast.specs.declared.trees.Statement.TheVariants as statement
use Rattle.salt_audit.specs.Laws.{changers_in}
use Rattle.salt_model.specs.After.{reach_now}
use Rattle.salt_model.specs.Isolation.{touches_unreleased}
use Rattle.salt_model.specs.Reads.{writers_in}
use Rattle.salt_model.specs.Scripts.{int}
use Rattle.salt_model.specs.declared.locks.Mode.TheVariants as mode
use Rattle.salt_ranges.specs.Ranges.{one_key}
use Rattle.std.specs.Prelude.{None, Option, take, true}
use Rattle.std.specs.Fmt.{digits}
use Rattle.std.specs.Prelude.{List, Some, [], codes, length, pos, refl, ℕ, ℤ, ◌++◌, ◌∷◌, ◌≡◌}

-- two accounts and the program of transfers
abbrev pub accounts_told : List Event
accounts_told =
    event.Opened 1 0 ∷ event.Ready ∷
    event.Defined 1 (table_text acct_def) ∷ event.Defined 2 (program_text transfer) ∷
    event.Began (unit 1) (kind.Acid 1) ∷ event.Did (unit 1) (insert_acct 1 100) (answer.Count 1) ∷ event.Ended (unit 1) (end.Committed 3) ∷
    event.Began (unit 2) (kind.Acid 1) ∷ event.Did (unit 2) (insert_acct 2 50) (answer.Count 1) ∷ event.Ended (unit 2) (end.Committed 4) ∷ []

-- a transfer that is accepted
abbrev pub accepted_told : List Event
accepted_told =
    event.Began (unit 3) (kind.First 1 (base 1) (codes "transfer") (numbers (pos 1 ∷ pos 2 ∷ pos 30 ∷ []))) ∷
    event.Did (unit 3) (move op.Sub (codes "a")) (answer.Count 1) ∷ event.Ended (unit 3) (end.Committed 5) ∷ event.Accepted (base 1) ∷ []

abbrev pub balance : ℤ → Event
balance n = event.Did (unit 4) (bal_at 1) (answer.Rows ((Int n ∷ []) ∷ []))

abbrev pub reader_begins : Event
reader_begins = event.Began (unit 4) (kind.Acid 2)

-- the reader waits until the transfer is released
abbrev pub waiting_told : List Event
waiting_told =
    accounts_told ++ (accepted_told ++
    (reader_begins ∷ event.Waits (unit 4) (owner.Base (base 1) ∷ []) ∷
    event.Began (unit 5) (kind.Later (base 1) 2) ∷ event.Did (unit 5) (move op.Add (codes "b")) (answer.Count 1) ∷
    event.Ended (unit 5) (end.Committed 6) ∷ event.Finished (base 1) ∷ event.Released (base 1 ∷ []) ∷
    balance (pos 70) ∷ event.Ended (unit 4) (end.Committed 7) ∷ []))

waiting_found : (found_in waiting_told ≡ sound) × (length waiting_told ≡ 23)
unfolding digits definition_in lex first_at quoted_at keyword_of sign_of after atom_at left_at nots_at once_at tail_at text_at within_at table_at following_at program_at statement_at table_limit program_limit statement_limit reach outcome_of with_changes statement_fault table_fault program_fault call_fault line_fault
waiting_found = (refl, refl)

-- it reads before: what it reads is of a program that is not released
abbrev pub early_told : List Event
early_told = accounts_told ++ (accepted_told ++ (reader_begins ∷ balance (pos 70) ∷ []))

early_found : found_in early_told ≡ broken Salted (unit 4) 16
unfolding digits definition_in lex first_at quoted_at keyword_of sign_of after atom_at left_at nots_at once_at tail_at text_at within_at table_at following_at program_at statement_at table_limit program_limit statement_limit reach outcome_of with_changes statement_fault table_fault program_fault call_fault line_fault
early_found = refl

-- it reads what was there before
abbrev pub stale_told : List Event
stale_told = accounts_told ++ (accepted_told ++ (reader_begins ∷ balance (pos 100) ∷ []))

stale_found : found_in stale_told ≡ broken Honest (unit 4) 16
unfolding digits definition_in lex first_at quoted_at keyword_of sign_of after atom_at left_at nots_at once_at tail_at text_at within_at table_at following_at program_at statement_at table_limit program_limit statement_limit reach outcome_of with_changes statement_fault table_fault program_fault call_fault line_fault
stale_found = refl

ready_found : found_in (event.Ready ∷ []) ≡ unformed 1
unfolding digits definition_in lex first_at quoted_at keyword_of sign_of after atom_at left_at nots_at once_at tail_at text_at within_at table_at following_at program_at statement_at table_limit program_limit statement_limit reach outcome_of with_changes statement_fault table_fault program_fault call_fault line_fault
ready_found = refl

nothing_found : found_in [] ≡ sound
nothing_found = refl

-- the lines of a story
abbrev pub line_ended : List ℕ → List ℕ
line_ended text = text ++ 10 ∷ []

waiting_text : text_on (retold []) waiting_told ≡
    line_ended (codes "opened 1 0") ++ (line_ended (codes "ready") ++
    (line_ended (codes "defined 1 create table acct (id int key, bal int, check ((bal >= 0) and (bal <= 1000)))") ++
    (line_ended (codes "defined 2 program transfer(a int, b int, amt int) base part { update acct set bal = (bal - :amt) where key = :a }" ++
    (codes " part { update acct set bal = (bal + :amt) where key = :b } then end on failure go 3" ++
    codes " part { update acct set bal = (bal + :amt) where key = :a } on failure end end")) ++
    (line_ended (codes "u1.1 began @1") ++ (line_ended (codes "u1.1 did insert into acct values (1, 100) -> count 1") ++ (line_ended (codes "u1.1 committed 3") ++
    (line_ended (codes "u1.2 began @1") ++ (line_ended (codes "u1.2 did insert into acct values (2, 50) -> count 1") ++ (line_ended (codes "u1.2 committed 4") ++
    (line_ended (codes "u1.3 began @1 b1.1 part 1 of transfer(1, 2, 30)") ++
    (line_ended (codes "u1.3 did update acct set bal = (bal - :amt) where key = :a -> count 1") ++
    (line_ended (codes "u1.3 committed 5") ++ (line_ended (codes "b1.1 accepted") ++
    (line_ended (codes "u1.4 began @2") ++ (line_ended (codes "u1.4 waits b1.1") ++
    (line_ended (codes "u1.5 began b1.1 part 2") ++
    (line_ended (codes "u1.5 did update acct set bal = (bal + :amt) where key = :b -> count 1") ++
    (line_ended (codes "u1.5 committed 6") ++ (line_ended (codes "b1.1 finished") ++ (line_ended (codes "released b1.1") ++
    (line_ended (codes "u1.4 did select bal from acct where key = 1 -> rows (70)") ++ line_ended (codes "u1.4 committed 7"))))))))))))))))))))))
unfolding digits definition_in lex first_at quoted_at keyword_of sign_of after atom_at left_at nots_at once_at tail_at text_at within_at table_at following_at program_at statement_at table_limit program_limit statement_limit reach outcome_of with_changes statement_fault table_fault program_fault call_fault line_fault
waiting_text = refl

-- An ACID unit meets an open part. It breaks nothing there; the part's commit does, and names the ACID unit.

abbrev pub meeting_told : List Event
meeting_told =
    accounts_told ++
    (event.Began (unit 3) (kind.First 1 (base 1) (codes "transfer") (numbers (pos 1 ∷ pos 2 ∷ pos 30 ∷ []))) ∷
    event.Did (unit 3) (move op.Sub (codes "a")) (answer.Count 1) ∷
    reader_begins ∷ balance (pos 100) ∷ event.Ended (unit 4) (end.Committed 5) ∷ [])

meeting_found : found_in meeting_told ≡ sound
unfolding digits definition_in lex first_at quoted_at keyword_of sign_of after atom_at left_at nots_at once_at tail_at text_at within_at table_at following_at program_at statement_at table_limit program_limit statement_limit reach outcome_of with_changes statement_fault table_fault program_fault call_fault line_fault
meeting_found = refl

met_and_committed : found_in (meeting_told ++ event.Ended (unit 3) (end.Committed 6) ∷ []) ≡ broken Whole (unit 4) 16
unfolding digits definition_in lex first_at quoted_at keyword_of sign_of after atom_at left_at nots_at once_at tail_at text_at within_at table_at following_at program_at statement_at table_limit program_limit statement_limit reach outcome_of with_changes statement_fault table_fault program_fault call_fault line_fault
met_and_committed = refl

met_and_given_up : found_in (meeting_told ++ event.Ended (unit 3) end.RolledBack ∷ []) ≡ sound
unfolding digits definition_in lex first_at quoted_at keyword_of sign_of after atom_at left_at nots_at once_at tail_at text_at within_at table_at following_at program_at statement_at table_limit program_limit statement_limit reach outcome_of with_changes statement_fault table_fault program_fault call_fault line_fault
met_and_given_up = refl

-- as a played trace may not have it: an ACID unit may not touch what an open part has done
met_while_open : touches_unreleased (retold (take 13 meeting_told)) (reach_now (unit 4) (retold (take 13 meeting_told)) (bal_at 1)) ≡ true
unfolding digits definition_in lex first_at quoted_at keyword_of sign_of after atom_at left_at nots_at once_at tail_at text_at within_at table_at following_at program_at statement_at table_limit program_limit statement_limit reach outcome_of with_changes statement_fault table_fault program_fault call_fault line_fault
met_while_open = refl

-- What a unit changed is told where it commits: a part's statement found account 1, and would find account 2 where it commits.

abbrev changes_bal : Expr → Option Expr → Statement
changes_bal e filter = statement.Update acct (set bal e ∷ []) (scan bound.All filter)

abbrev raised : Statement
raised = changes_bal (operation op.Add (Column bal) (int 1)) (Some (operation op.Equal (Column bal) (Variable (codes "x"))))

abbrev turned : Statement
turned = changes_bal (operation op.Sub (int 150) (Column bal)) None

abbrev one_part : List ℕ → List Field → Statement → ProgramDef
one_part n params st = record { name = n; params = params; vars = []; body = body.Base (part (st ∷ []) None None ∷ []) }

abbrev raising : ProgramDef
raising = one_part (codes "raising") (field (codes "x") column.Int ∷ []) raised

abbrev turning : ProgramDef
turning = one_part (codes "turning") [] turned

abbrev moved_told : List Event
moved_told =
    accounts_told ++
    (event.Defined 5 (program_text raising) ∷ event.Defined 6 (program_text turning) ∷
    event.Began (unit 3) (kind.First 1 (base 1) (codes "raising") (numbers (pos 100 ∷ []))) ∷ event.Did (unit 3) raised (answer.Count 1) ∷
    event.Began (unit 4) (kind.First 2 (base 2) (codes "turning") []) ∷ event.Did (unit 4) turned (answer.Count 2) ∷
    event.Ended (unit 4) (end.Committed 7) ∷ event.Released (base 2 ∷ []) ∷ event.Ended (unit 3) (end.Committed 8) ∷
    event.Began (unit 5) (kind.Acid 3) ∷ [])

abbrev reads_second : Event
reads_second = event.Did (unit 5) (bal_at 2) (answer.Rows ((Int (pos 101) ∷ []) ∷ []))

-- account 2 was written last by the part, whose program is not released
moved_found : found_in (moved_told ++ reads_second ∷ []) ≡ broken Salted (unit 5) 21
unfolding digits definition_in lex first_at quoted_at keyword_of sign_of after atom_at left_at nots_at once_at tail_at text_at within_at table_at following_at program_at statement_at table_limit program_limit statement_limit reach outcome_of with_changes statement_fault table_fault program_fault call_fault line_fault
moved_found = refl

-- by its statement where it was done, account 1 was, and account 2 by the program that is released
written_elsewhere :
    (writers_in (retold moved_told) (Some (record { table = 0; range = one_key (Int (pos 2)); mode = mode.Read })) ≡ unit 4 ∷ []) ×
    (changers_in (retold moved_told) (Some (record { table = 0; range = one_key (Int (pos 2)); mode = mode.Read })) ≡ unit 3 ∷ [])
unfolding digits definition_in lex first_at quoted_at keyword_of sign_of after atom_at left_at nots_at once_at tail_at text_at within_at table_at following_at program_at statement_at table_limit program_limit statement_limit reach outcome_of with_changes statement_fault table_fault program_fault call_fault line_fault
written_elsewhere = (refl, refl)
