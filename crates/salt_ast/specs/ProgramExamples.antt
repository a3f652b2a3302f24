-- Examples of programs and lines, computed from the definitions.
use Rattle.salt_ast.specs.Judgement.{exists, mistyped, statement_fault, table_fault, unknown}
use Rattle.salt_ast.specs.Paths.{Position, blocks, next_on_commit, next_on_failure, rest_of}
use Rattle.salt_ast.specs.ProgramJudgement.{Known, LineFault, ProgramFault, backward, branch, call_fault, fits, faulty, in_branches, in_text, kept}
use Rattle.salt_ast.specs.ProgramJudgement.{line_fault, no_branch, program_fault, program_kept_limit}
use Rattle.salt_ast.specs.ProgramLimits.{line_limit, program_limit}
use Rattle.salt_ast.specs.ProgramTexts.{line_text, program_text}
use Rattle.salt_ast.specs.Sample.{acct, acct_def, all_rows, bal, field, id, negations, part, scan, schema, set, spare}
use Rattle.salt_ast.specs.Sample.{spare_block, transfer, transfer_parts, true_sum}
use Rattle.salt_ast.specs.Trees.{number}
use Rattle.salt_ast.specs.declared.limit.LimitName.TheVariants as limit
use Rattle.salt_ast.specs.declared.lines.Act.{Act}
use Rattle.salt_ast.specs.declared.lines.Act.TheVariants as act
use Rattle.salt_ast.specs.declared.lines.Line.{Line}
use Rattle.salt_ast.specs.declared.lines.Line.TheVariants as line
use Rattle.salt_ast.specs.declared.programs.Body.TheVariants as body
use Rattle.salt_ast.specs.declared.programs.Next.TheVariants as next
use Rattle.salt_ast.specs.declared.programs.PartDef.{PartDef}
use Rattle.salt_ast.specs.declared.programs.ProgramDef.{ProgramDef}
use Rattle.salt_ast.specs.declared.trees.Bound.TheVariants as bound
use Rattle.salt_ast.specs.declared.trees.ColType.TheVariants as kind
use Rattle.salt_ast.specs.declared.trees.Expr.{Variable}
use Rattle.salt_ast.specs.declared.trees.Field.{Field}
use Rattle.salt_ast.specs.declared.trees.Statement.{Statement}
use Rattle.salt_ast.specs.declared.trees.Statement.TheVariants as statement
use Rattle.salt_ast.specs.declared.trees.What.TheVariants as what
use Rattle.salt_values.specs.declared.id.Id.{Id}
use Rattle.salt_values.specs.declared.value.Value.{Value}
use Rattle.salt_values.specs.declared.value.Value.TheVariants as value
use Rattle.std.specs.Fmt.{digits}
use Rattle.std.specs.Prelude.{List, None, Option, Some, [], codes, false, neg_ℤ, pos, refl, replicate, ℕ, ◌++◌, ◌∷◌, ◌≡◌}

-- Texts of programs.

transfer_text :
    program_text transfer
    ≡ codes "program transfer(a int, b int, amt int) base part { update acct set bal = (bal - :amt) where key = :a } " ++
    (codes "part { update acct set bal = (bal + :amt) where key = :b } then end on failure go 3 " ++
    codes "part { update acct set bal = (bal + :amt) where key = :a } on failure end end")
unfolding digits
transfer_text = refl

spare_text :
    program_text spare
    ≡ codes "program spare() var x int, s text acid { select bal into :x from acct where key = 1; ensure (:x >= 0) } end"
unfolding digits
spare_text = refl

-- Texts of lines.

abbrev b_1_1 : Id
b_1_1 = record { boot = 1; seq = 1 }

abbrev session : ℕ → Act → Line
session k a = line.Session k a

abbrev numbers : List ℕ → List Value
numbers [] = []
numbers (k ∷ ks) = value.Int (pos k) ∷ numbers ks

abbrev call : List ℕ → List Value → Line
call program args = session 1 (act.Call program args)

abbrev call_transfer : Line
call_transfer = call (codes "transfer") (numbers (1 ∷ 2 ∷ 30 ∷ []))

call_text_of_it : line_text call_transfer ≡ codes "@1 call transfer(1, 2, 30)"
unfolding digits
call_text_of_it = refl

empty_call_text : line_text (call (codes "spare") []) ≡ codes "@1 call spare()"
unfolding digits
empty_call_text = refl

values_call_text : line_text (session 64 (act.Call (codes "p") (value.Int (neg_ℤ (pos 3)) ∷ value.Text (codes "it's") ∷ []))) ≡ codes "@64 call p(-3, 'it''s')"
unfolding digits
values_call_text = refl

begin_text : line_text (session 1 act.Begin) ≡ codes "@1 begin"
unfolding digits
begin_text = refl

commit_text : line_text (session 2 act.Commit) ≡ codes "@2 commit"
unfolding digits
commit_text = refl

rollback_text : line_text (session 1 act.Rollback) ≡ codes "@1 rollback"
unfolding digits
rollback_text = refl

step_text : line_text (session 1 act.Step) ≡ codes "@1 step"
unfolding digits
step_text = refl

select_line_text :
    line_text (session 2 (act.Do (statement.Select (what.Columns (bal ∷ [])) acct (scan (bound.Key (number (pos 1))) None))))
    ≡ codes "@2 select bal from acct where key = 1"
unfolding digits
select_line_text = refl

go_text : line_text (line.Go b_1_1) ≡ codes "go 1.1"
unfolding digits
go_text = refl

go_all_text : line_text line.GoAll ≡ codes "go all"
go_all_text = refl

show_texts : line_text line.ShowLocks ++ line_text line.ShowBases ≡ codes "show locksshow bases"
show_texts = refl

crash_text : line_text (line.Crash ((1, 0) ∷ (9, 0) ∷ [])) ≡ codes "crash 1 0 9 0"
unfolding digits
crash_text = refl

net_text : line_text (line.Net ((1, 0) ∷ (2, 1) ∷ (3, 2) ∷ [])) ≡ codes "net 1 0 2 1 3 2"
unfolding digits
net_text = refl

table_line_text : line_text (line.Table acct_def) ≡ codes "create table acct (id int key, bal int, check ((bal >= 0) and (bal <= 1000)))"
unfolding digits
table_line_text = refl

-- The transfer's path.

abbrev at : (part tries : ℕ) → Position
at k t = record { part = k; tries = t }

next_parts :
    (next_on_commit transfer_parts 1 ∷ next_on_commit transfer_parts 2 ∷ next_on_commit transfer_parts 3 ∷ [])
    ≡ (Some (at 2 0) ∷ None ∷ None ∷ [])
next_parts = refl

branches_of_parts : (next_on_failure transfer_parts 2 0 ∷ next_on_failure transfer_parts 3 0 ∷ []) ≡ (Some (at 3 0) ∷ None ∷ [])
branches_of_parts = refl

-- behind its first part two statements may still run: the second part's, and then the third's
rests_of_parts :
    (rest_of transfer_parts (Some (at 1 0)) ∷ rest_of transfer_parts (Some (at 2 0)) ∷ rest_of transfer_parts (Some (at 3 0)) ∷
    rest_of transfer_parts None ∷ [])
    ≡ (3 ∷ 2 ∷ 1 ∷ 0 ∷ [])
rests_of_parts = refl

-- the greater of two ways counts: part 1 skips to part 3, part 2 is reached by none
abbrev skipping : List PartDef
skipping =
    part (replicate 1 (statement.Ensure true_sum)) (Some (next.Part 3)) None ∷
    part (replicate 10 (statement.Ensure true_sum)) None (Some next.End) ∷
    part (replicate 2 (statement.Ensure true_sum)) (Some next.End) (Some (next.Part 4)) ∷
    part (replicate 5 (statement.Ensure true_sum)) None (Some next.End) ∷ []

rests_that_skip : (rest_of skipping (Some (at 1 0)) ∷ rest_of skipping (Some (at 2 0)) ∷ rest_of skipping (Some (at 3 0)) ∷ []) ≡ (8 ∷ 17 ∷ 7 ∷ [])
rests_that_skip = refl

blocks_of_spare : blocks spare.body ≡ spare_block ∷ []
blocks_of_spare = refl

-- Limits of programs and lines.

transfer_limit : program_limit transfer ≡ None
unfolding program_limit
transfer_limit = refl

abbrev true_block : ℕ → List Statement
true_block k = replicate k (statement.Ensure true_sum)

abbrev acid : List Statement → ProgramDef
acid block = record { name = codes "p"; params = []; vars = []; body = body.Acid block }

abbrev base : List PartDef → ProgramDef
base parts = record { name = codes "p"; params = []; vars = []; body = body.Base parts }

most_statements : program_limit (acid (true_block 64)) ≡ None
unfolding program_limit
most_statements = refl

too_many_statements : program_limit (base (part (true_block 65) None None ∷ [])) ≡ Some limit.Statements
unfolding program_limit
too_many_statements = refl

abbrev one_statement : PartDef
one_statement = part (true_block 1) None (Some next.End)

most_parts : program_limit (base (replicate 32 one_statement)) ≡ None
unfolding program_limit
most_parts = refl

-- the 33rd part is too many before its statements are
too_many_parts : program_limit (base (replicate 32 one_statement ++ part (true_block 65) None None ∷ [])) ≡ Some limit.Parts
unfolding program_limit
too_many_parts = refl

abbrev with_names : (params vars : List Field) → ProgramDef
with_names ps vs = record { name = codes "p"; params = ps; vars = vs; body = body.Acid (true_block 65) }

abbrev fields : ℕ → List Field
fields k = replicate k (field (codes "x") kind.Int)

too_many_parameters : program_limit (with_names (fields 17) (fields 17)) ≡ Some limit.Parameters
unfolding program_limit
too_many_parameters = refl

too_many_variables : program_limit (with_names (fields 16) (fields 17)) ≡ Some limit.Variables
unfolding program_limit
too_many_variables = refl

most_names : program_limit (with_names (fields 16) (fields 16)) ≡ Some limit.Statements
unfolding program_limit
most_names = refl

-- the depth comes last, also behind a way's number that is too large
deep_and_far :
    program_limit (base (part (statement.Ensure (negations 64 true_sum) ∷ []) None None ∷ part (true_block 1) (Some (next.Part 9223372036854775808)) None ∷ []))
    ≡ Some limit.Number
unfolding program_limit
deep_and_far = refl

deep : program_limit (acid (statement.Ensure (negations 64 true_sum) ∷ [])) ≡ Some limit.Depth
unfolding program_limit
deep = refl

sessions :
    (line_limit (session 0 act.Begin) ∷ line_limit (session 1 act.Begin) ∷ line_limit (session 64 act.Begin) ∷ line_limit (session 65 act.Begin) ∷ [])
    ≡ (Some limit.Session ∷ None ∷ None ∷ Some limit.Session ∷ [])
unfolding line_limit
sessions = refl

long_argument : line_limit (call (codes "p") (value.Text (replicate 256 97) ∷ [])) ≡ Some limit.Text
unfolding line_limit
long_argument = refl

large_base : line_limit (line.Go (record { boot = 1; seq = 9223372036854775808 })) ≡ Some limit.Number
unfolding line_limit
large_base = refl

stops :
    (line_limit (line.Crash ((0, 0) ∷ [])) ∷ line_limit (line.Crash ((1000000, 4) ∷ [])) ∷ line_limit (line.Crash ((1, 5) ∷ (0, 0) ∷ [])) ∷
    line_limit (line.Crash (replicate 8 (1, 0) ++ (0, 9) ∷ [])) ∷ [])
    ≡ (Some limit.Crash ∷ None ∷ Some limit.Pick ∷ Some limit.Pairs ∷ [])
unfolding line_limit
stops = refl

twists :
    (line_limit (line.Net ((0, 0) ∷ [])) ∷ line_limit (line.Net ((1000000, 2) ∷ [])) ∷ line_limit (line.Net ((1000001, 0) ∷ [])) ∷
    line_limit (line.Net ((1, 3) ∷ (0, 0) ∷ [])) ∷ line_limit (line.Net (replicate 8 (1, 0) ++ (0, 9) ∷ [])) ∷ [])
    ≡ (Some limit.Net ∷ None ∷ Some limit.Net ∷ Some limit.Act ∷ Some limit.Pairs ∷ [])
unfolding line_limit
twists = refl

-- What is refused, where the table and the two programs are defined.

abbrev known : Known
known = record { schema = schema; catalogue = transfer ∷ spare ∷ []; unfinished = b_1_1 ∷ []; unreleased = 1 }

abbrev nothing_accepted : Known
nothing_accepted = record { schema = schema; catalogue = transfer ∷ spare ∷ []; unfinished = []; unreleased = 0 }

abbrev fault_of : Line → Option LineFault
fault_of l = line_fault known l

new_programs : (program_fault schema [] transfer ∷ program_fault schema (transfer ∷ []) spare ∷ []) ≡ (None ∷ None ∷ [])
unfolding program_fault
new_programs = refl

unknown_table : fault_of (session 1 (act.Do (statement.Select what.All (codes "nosuch") all_rows))) ≡ Some (faulty (unknown (codes "nosuch")))
unfolding line_fault statement_fault
unknown_table = refl

known_table : fault_of (line.Table acct_def) ≡ Some (faulty (exists acct))
unfolding line_fault table_fault
known_table = refl

one_value : fault_of (session 1 (act.Do (statement.Insert acct (number (pos 1) ∷ [])))) ≡ Some (faulty mistyped)
unfolding line_fault statement_fault
one_value = refl

key_set : fault_of (session 1 (act.Do (statement.Update acct (set id (number (pos 3)) ∷ []) all_rows))) ≡ Some (faulty mistyped)
unfolding line_fault statement_fault
key_set = refl

-- the second part says nothing of its failure

abbrev without_branch : ProgramDef
without_branch = base (part (true_block 1) None None ∷ part (true_block 1) None None ∷ [])

text_without_branch : program_text without_branch ≡ codes "program p() base part { ensure (1 = 1) } part { ensure (1 = 1) } end"
unfolding digits
text_without_branch = refl

no_branch_in_line : fault_of (line.Program without_branch) ≡ Some (branch 2)
unfolding line_fault program_fault
no_branch_in_line = refl

calls :
    (fault_of call_transfer ∷ fault_of (call (codes "transfer") (numbers (1 ∷ 2 ∷ []))) ∷ fault_of (call (codes "nosuch") []) ∷
    fault_of (call (codes "spare") (value.Text [] ∷ [])) ∷ fault_of (call (codes "spare") []) ∷ [])
    ≡ (None ∷ Some (faulty mistyped) ∷ Some (faulty (unknown (codes "nosuch"))) ∷ Some (faulty mistyped) ∷ None ∷ [])
unfolding line_fault call_fault
calls = refl

text_for_number : fits (transfer ∷ []) (codes "transfer") (value.Int (pos 1) ∷ value.Int (pos 2) ∷ value.Text (codes "a") ∷ []) ≡ false
text_for_number = refl

-- a program that is not accepted, or is finished, is not known to go
goes :
    (fault_of (line.Go b_1_1) ∷ fault_of (line.Go (record { boot = 1; seq = 2 })) ∷ line_fault nothing_accepted (line.Go b_1_1) ∷ [])
    ≡ (None ∷ Some (faulty (unknown (codes "b1.2"))) ∷ Some (faulty (unknown (codes "b1.1"))) ∷ [])
unfolding line_fault digits
goes = refl

-- at 1,024 programs that are not released, a call of a BASE program is one too many, whatever its arguments

abbrev crowded : Known
crowded = record { schema = schema; catalogue = transfer ∷ spare ∷ []; unfinished = []; unreleased = 1024 }

crowded_calls :
    (line_fault crowded call_transfer ∷ line_fault crowded (call (codes "transfer") []) ∷ line_fault crowded (call (codes "spare") []) ∷
    line_fault crowded (call (codes "nosuch") []) ∷ [])
    ≡ (Some (kept limit.Bases) ∷ Some (kept limit.Bases) ∷ None ∷ Some (faulty (unknown (codes "nosuch"))) ∷ [])
unfolding line_fault call_fault
crowded_calls = refl

most_programs : (program_kept_limit (replicate 255 spare) ∷ program_kept_limit (replicate 256 spare) ∷ []) ≡ (None ∷ Some limit.Programs ∷ [])
most_programs = refl

-- Faults of programs: names that are not known, then those that come twice, then types, then branches.

abbrev fault_of_program : ProgramDef → Option ProgramFault
fault_of_program p = program_fault schema (transfer ∷ []) p

abbrev named_as : List ℕ → (params vars : List Field) → List PartDef → ProgramDef
named_as n ps vs parts = record { name = n; params = ps; vars = vs; body = body.Base parts }

abbrev x : List ℕ
x = codes "x"

unknown_before_doubled :
    fault_of_program (named_as (codes "transfer") (fields 2) [] (part (statement.Ensure (Variable bal) ∷ []) None None ∷ [])) ≡ Some (in_text (unknown bal))
unfolding program_fault
unknown_before_doubled = refl

name_before_parameters :
    fault_of_program (named_as (codes "transfer") (fields 2) [] (part (true_block 1) None None ∷ [])) ≡ Some (in_text (exists (codes "transfer")))
unfolding program_fault
name_before_parameters = refl

-- a program may have a table's name, a variable not a parameter's
variable_as_parameter : fault_of_program (named_as acct (fields 1) (fields 1) (part (true_block 1) None None ∷ [])) ≡ Some (in_text (exists x))
unfolding program_fault
variable_as_parameter = refl

-- a parameter takes no column's value
into_parameter :
    fault_of_program (named_as (codes "p") (fields 1) [] (part (statement.SelectInto bal x acct (Variable x) ∷ []) None None ∷ [])) ≡ Some (in_text (unknown x))
unfolding program_fault
into_parameter = refl

type_before_branch :
    fault_of_program (named_as (codes "p") (fields 1) [] (part (statement.Ensure (Variable x) ∷ []) None (Some next.End) ∷ [])) ≡ Some (in_text mistyped)
unfolding program_fault
type_before_branch = refl

abbrev branch_fault_of : List PartDef → Option ProgramFault
branch_fault_of parts = fault_of_program (named_as (codes "p") [] [] parts)

first_part_branches : branch_fault_of (part (true_block 1) None (Some next.End) ∷ []) ≡ Some (in_branches (backward 1))
unfolding program_fault
first_part_branches = refl

-- a part that says nothing of its failure is told so before its way is
same_part_twice : branch_fault_of (part (true_block 1) None None ∷ part (true_block 1) (Some (next.Part 2)) None ∷ []) ≡ Some (in_branches (no_branch 2))
unfolding program_fault
same_part_twice = refl

-- the least part is told
least_part :
    branch_fault_of (part (true_block 1) None None ∷ part (true_block 1) None (Some (next.Part 2)) ∷ part (true_block 1) None None ∷ [])
    ≡ Some (in_branches (backward 2))
unfolding program_fault
least_part = refl

-- there is no fourth part
past_the_last :
    branch_fault_of (part (true_block 1) (Some (next.Part 4)) None ∷ one_statement ∷ one_statement ∷ []) ≡ Some (in_branches (backward 1))
unfolding program_fault
past_the_last = refl
