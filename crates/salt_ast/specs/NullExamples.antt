-- Examples of NULL and of retries, computed from the definitions.
use Rattle.salt_ast.specs.Grammar.{Within, alone, named, one, plain, plus_int}
use Rattle.salt_ast.specs.Grammar as grammar
use Rattle.salt_ast.specs.Judgement.{Fault, mistyped, statement_fault, table_fault}
use Rattle.salt_ast.specs.Lines as lines
use Rattle.salt_ast.specs.Lines.{IsLine}
use Rattle.salt_ast.specs.Paths.{Position, next_on_branch, next_on_commit, next_on_failure, rest_of}
use Rattle.salt_ast.specs.ProgramJudgement.{backward, branch_fault, no_branch}
use Rattle.salt_ast.specs.ProgramLimits.{program_limit}
use Rattle.salt_ast.specs.Programs as program
use Rattle.salt_ast.specs.Programs.{IsProgram}
use Rattle.salt_ast.specs.ProgramTexts.{program_text}
use Rattle.salt_ast.specs.Sample.{all_rows, field, id, part, pay, pay_parts, scan, set, true_sum}
use Rattle.salt_ast.specs.Statements as form
use Rattle.salt_ast.specs.Statements.{IsStatement}
use Rattle.salt_ast.specs.Tables as table
use Rattle.salt_ast.specs.Tables.{IsTable}
use Rattle.salt_ast.specs.Texts.{statement_text, table_text}
use Rattle.salt_ast.specs.Trees.{null, null_test, number, operation}
use Rattle.salt_ast.specs.declared.limit.LimitName.TheVariants as limit
use Rattle.salt_ast.specs.declared.lines.Act.TheVariants as act
use Rattle.salt_ast.specs.declared.lines.Line.TheVariants as line
use Rattle.salt_ast.specs.declared.programs.Body.TheVariants as body
use Rattle.salt_ast.specs.declared.programs.Next.TheVariants as next
use Rattle.salt_ast.specs.declared.programs.ProgramDef.{ProgramDef}
use Rattle.salt_ast.specs.declared.trees.Bound.TheVariants as bound
use Rattle.salt_ast.specs.declared.trees.ColType.TheVariants as kind
use Rattle.salt_ast.specs.declared.trees.Expr.{Column, Expr, Variable}
use Rattle.salt_ast.specs.declared.trees.Field.{Field}
use Rattle.salt_ast.specs.declared.trees.Op.TheVariants as op
use Rattle.salt_ast.specs.declared.trees.Statement.{Statement}
use Rattle.salt_ast.specs.declared.trees.Statement.TheVariants as statement
use Rattle.salt_ast.specs.declared.trees.TableDef.{TableDef}
use Rattle.salt_ast.specs.declared.trees.What.TheVariants as what
use Rattle.salt_ast.specs.Symbols.{Symbols, int, key, name, sign}
use Rattle.salt_ast.specs.declared.keyword.Keyword.TheVariants as word
use Rattle.salt_ast.specs.declared.sign.Sign.TheVariants as mark
use Rattle.salt_values.specs.declared.value.Value.TheVariants as value
use Rattle.std.specs.Fmt.{digits}
use Rattle.std.specs.Prelude.{List, None, Option, Some, [], codes, false, neg_ℤ, pos, refl, true, ℕ, ◌++◌, ◌^◌, ◌∷◌, ◌≡◌}

-- A table with a column that may hold NULL.

abbrev n : List ℕ
n = codes "n"

abbrev v : List ℕ
v = codes "v"

abbrev v_above_0 : Expr
v_above_0 = operation op.Greater (Column v) (number (pos 0))

abbrev null_column : List ℕ → Field
null_column c = record (field c kind.Int) { nullable = true }

abbrev null_table : TableDef
null_table = record { name = n; columns = field id kind.Int ∷ null_column v ∷ field (codes "w") kind.Int ∷ []; checks = v_above_0 ∷ [] }

abbrev null_table_row : Symbols
null_table_row =
    key word.Create ∷ key word.Table ∷ name n ∷ sign mark.Open ∷ name id ∷ key word.Int ∷ key word.Key ∷ sign mark.Comma ∷ name v ∷ key word.Int ∷
    key word.Null ∷ sign mark.Comma ∷ name (codes "w") ∷ key word.Int ∷ sign mark.Comma ∷ key word.Check ∷ name v ∷ sign mark.Greater ∷ int 0 ∷
    sign mark.Close ∷ []

null_table_spelled : IsTable (Within 0) null_table_row null_table
null_table_spelled =
    table.is_table table.int_field
    (form.one_more (table.is_nullable table.int_field) (form.one_more (table.is_plain table.int_field) form.no_more))
    (form.one_more
    (table.is_check (one (one (plain (grammar.pair (one (one named)) (sign mark.Greater) refl refl (one (one plus_int)))))))
    form.no_more)

null_table_text : table_text null_table ≡ codes "create table n (id int key, v int null, w int, check (v > 0))"
unfolding digits
null_table_text = refl

null_table_fault : table_fault [] null_table ≡ None
unfolding table_fault
null_table_fault = refl

-- Statements with NULL.

abbrev is_null_select : Statement
is_null_select = statement.Select (what.Columns (id ∷ [])) n (scan bound.All (Some (operation op.Or (operation op.Greater (Column v) (number (pos 1))) (null_test false (Column v)))))

is_null_text : statement_text is_null_select ≡ codes "select id from n where ((v > 1) or (v is null))"
unfolding digits
is_null_text = refl

abbrev is_not_null : Statement
is_not_null = statement.Ensure (null_test true (number (pos 1)))

is_not_null_text : statement_text is_not_null ≡ codes "ensure (1 is not null)"
unfolding digits
is_not_null_text = refl

is_not_null_spelled : IsStatement (Within 0) (Within 0) (key word.Ensure ∷ int 1 ∷ key word.Is ∷ key word.Not ∷ key word.Null ∷ []) is_not_null
is_not_null_spelled = form.is_ensure (one (one (plain (grammar.is_not_null (one (one plus_int))))))

abbrev puts : List Expr → Statement
puts es = statement.Insert n es

null_insert_text : statement_text (puts (number (pos 1) ∷ null ∷ number (pos 2) ∷ [])) ≡ codes "insert into n values (1, null, 2)"
unfolding digits
null_insert_text = refl

null_insert_spelled : IsStatement (Within 0) (Within 0)
    (key word.Insert ∷ key word.Into ∷ name n ∷ key word.Values ∷ sign mark.Open ∷ int 1 ∷ sign mark.Comma ∷ key word.Null ∷ sign mark.Close ∷ [])
    (puts (number (pos 1) ∷ null ∷ []))
null_insert_spelled =
    form.is_insert (form.items (form.is_expression (one (one (plain (alone (one (one plus_int))))))) (form.one_more form.is_null form.no_more))

-- What a column takes.

abbrev fault_of : Statement → Option Fault
fault_of st = statement_fault (null_table ∷ []) (record { params = []; vars = field (codes "x") kind.Int ∷ [] }) st

null_where_it_may_stand : fault_of (puts (number (pos 1) ∷ null ∷ number (pos 2) ∷ [])) ≡ None
unfolding statement_fault
null_where_it_may_stand = refl

null_key : fault_of (puts (null ∷ number (pos 1) ∷ number (pos 2) ∷ [])) ≡ Some mistyped
unfolding statement_fault
null_key = refl

null_elsewhere : fault_of (puts (number (pos 1) ∷ null ∷ null ∷ [])) ≡ Some mistyped
unfolding statement_fault
null_elsewhere = refl

abbrev updates : List ℕ → Expr → Statement
updates c e = statement.Update n (set c e ∷ []) all_rows

abbrev v_and_1 : Expr
v_and_1 = operation op.Add (Column v) (number (pos 1))

takes_what_may_be_null : fault_of (updates v v_and_1) ≡ None
unfolding statement_fault
takes_what_may_be_null = refl

takes_no_null : fault_of (updates (codes "w") v_and_1) ≡ Some mistyped
unfolding statement_fault
takes_no_null = refl

null_set : fault_of (updates v null) ≡ None
unfolding statement_fault
null_set = refl

into_of_nullable : fault_of (statement.SelectInto v (codes "x") n (number (pos 1))) ≡ Some mistyped
unfolding statement_fault
into_of_nullable = refl

into_of_other : fault_of (statement.SelectInto (codes "w") (codes "x") n (number (pos 1))) ≡ None
unfolding statement_fault
into_of_other = refl

truth_is_no_value : fault_of (statement.Ensure (null_test false true_sum)) ≡ Some mistyped
unfolding statement_fault
truth_is_no_value = refl

value_of_variable : fault_of (statement.Ensure (null_test false (Variable (codes "x")))) ≡ None
unfolding statement_fault
value_of_variable = refl

-- Retries.

pay_text :
    program_text pay
    ≡ codes "program pay(a int, b int, amt int) base part { update acct set bal = (bal - :amt) where key = :a } " ++
    (codes "part { update acct set bal = (bal + :amt) where key = :b } then end on failure retry 1 then go 3 " ++
    codes "part { update acct set bal = (bal + :amt) where key = :a } on failure end end")
unfolding digits
pay_text = refl

abbrev at : (part tries : ℕ) → Position
at k t = record { part = k; tries = t }

-- a way to part 2 gives it its try, which a failure uses
ways_of_pay :
    (next_on_commit pay_parts 1 ∷ next_on_failure pay_parts 2 1 ∷ next_on_failure pay_parts 2 0 ∷ next_on_branch pay_parts 3 ∷ [])
    ≡ (Some (at 2 1) ∷ Some (at 2 0) ∷ Some (at 3 0) ∷ None ∷ [])
ways_of_pay = refl

rests_of_pay : (rest_of pay_parts (Some (at 2 1)) ∷ rest_of pay_parts (Some (at 2 0)) ∷ rest_of pay_parts (Some (at 1 0)) ∷ []) ≡ (3 ∷ 2 ∷ 4 ∷ [])
rests_of_pay = refl

abbrev retrying : ℕ → Option ℕ → ProgramDef
retrying k tries = record {
  name = n;
  params = [];
  vars = [];
  body = body.Base (part (is_not_null ∷ []) None None ∷ record (part (is_not_null ∷ []) None (Some (next.Part k))) { retry = tries } ∷ []);
}

never_tried : program_limit (retrying 3 (Some 0)) ≡ Some limit.Retry
unfolding program_limit
never_tried = refl

most_tries : program_limit (retrying 3 (Some 9)) ≡ None
unfolding program_limit
most_tries = refl

-- too many tries come before the part that they stand before
too_many_tries : program_limit (retrying (2 ^ 63) (Some 10)) ≡ Some limit.Retry
unfolding program_limit
too_many_tries = refl

-- a retry is no way
retry_alone : branch_fault (body.Base (part [] None None ∷ record (part [] None None) { retry = Some 1 } ∷ [])) ≡ Some (no_branch 2)
retry_alone = refl

retry_back : branch_fault (retrying 1 (Some 1)).body ≡ Some (backward 2)
retry_back = refl

-- A program and a line, spelled.

abbrev short_row : Symbols
short_row =
    key word.Program ∷ name n ∷ sign mark.Open ∷ name id ∷ key word.Int ∷ sign mark.Close ∷ key word.Base ∷ key word.Part ∷ sign mark.OpenBrace ∷
    key word.Ensure ∷ int 1 ∷ key word.Is ∷ key word.Not ∷ key word.Null ∷ sign mark.CloseBrace ∷ key word.Then ∷ key word.End ∷ key word.Part ∷
    sign mark.OpenBrace ∷ key word.Ensure ∷ int 1 ∷ key word.Is ∷ key word.Not ∷ key word.Null ∷ sign mark.CloseBrace ∷ key word.On ∷
    key word.Failure ∷ key word.Retry ∷ int 2 ∷ key word.Then ∷ key word.Go ∷ int 3 ∷ key word.End ∷ []

abbrev short : ProgramDef
short = record {
  name = n;
  params = field id kind.Int ∷ [];
  vars = [];
  body = body.Base (part (is_not_null ∷ []) (Some next.End) None ∷ record (part (is_not_null ∷ []) None (Some (next.Part 3))) { retry = Some 2 } ∷ []);
}

short_spelled : IsProgram (Within 0) (Within 0) short_row short
short_spelled =
    program.is_program (program.some_items (form.items table.int_field form.no_more)) program.no_variables
    (program.is_base
    (program.and_more (program.is_part (program.is_block (form.items is_not_null_spelled form.no_more)) (program.then_way program.to_end) program.no_branch)
    (program.last_one (program.is_part (program.is_block (form.items is_not_null_spelled form.no_more)) program.no_then (program.retried program.to_part)))))

call_spelled : IsLine (Within 0) (Within 0)
    (sign mark.At ∷ int 3 ∷ key word.Call ∷ name n ∷ sign mark.Open ∷ sign mark.Minus ∷ int 1 ∷ sign mark.Close ∷ [])
    (line.Session 3 (act.Call n (value.Int (neg_ℤ (pos 1)) ∷ [])))
call_spelled = lines.of_session (lines.calls (program.some_items (form.items lines.minus_int form.no_more)))
