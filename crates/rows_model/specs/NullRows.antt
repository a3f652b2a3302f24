-- Worked rows of NULL: the three truth values, and tables with a column that may hold it.
use Rattle.salt_ast.specs.Sample.{field, id, scan, set}
use Rattle.salt_ast.specs.Trees.{letters, negation, null, null_test, number, operation}
use Rattle.salt_ast.specs.declared.lines.Line.TheVariants as line
use Rattle.salt_ast.specs.declared.lines.Line.{Line}
use Rattle.salt_ast.specs.declared.trees.Bound.TheVariants as bound
use Rattle.salt_ast.specs.declared.trees.ColType.TheVariants as kind
use Rattle.salt_ast.specs.declared.trees.Expr.{Column, Expr}
use Rattle.salt_ast.specs.declared.trees.Op.TheVariants as op
use Rattle.salt_ast.specs.declared.trees.Op.{Op}
use Rattle.salt_ast.specs.declared.trees.Statement.TheVariants as statement
use Rattle.salt_ast.specs.declared.trees.Statement.{Statement}
use Rattle.salt_ast.specs.declared.trees.TableDef.{TableDef}
use Rattle.salt_ast.specs.declared.trees.What.TheVariants as what
use Rattle.salt_ast.specs.declared.trees.What.{What}
use Rattle.salt_model.specs.Computing.{computing}
use Rattle.salt_model.specs.Eval.{Datum, Gives, Holds, No, Truth, Unknown, Visible, Yes, eval}
use Rattle.salt_model.specs.Scripts.{all_rows, at, insert_into, int}
use Rattle.salt_model.specs.Statements.{outcome_of}
use Rattle.salt_model.specs.Tables.{no_rows}
use Rattle.salt_model.specs.Walk.{printed}
use Rattle.salt_model.specs.declared.events.Answer.TheVariants as answer
use Rattle.salt_model.specs.declared.events.Cause.TheVariants as cause
use Rattle.salt_model.specs.declared.events.Cause.{Cause}
use Rattle.salt_values.specs.declared.value.Value.TheVariants as value
use Rattle.std.specs.Prelude.{Err, List, None, Ok, Option, Result, Some, [], codes, drop, false, map, negsuc, pos, refl, true, ℕ, ℤ, ◌++◌, ◌∷◌, ◌≡◌}

-- Expressions, where the column v is NULL.

abbrev v : List ℕ
v = codes "v"

abbrev here : Visible
here = record { columns = record { name = v; value = value.Null } ∷ []; vars = [] }

abbrev yes : Expr
yes = operation op.Equal (int 1) (int 1)

abbrev no : Expr
no = operation op.Equal (int 1) (int 2)

abbrev unknown : Expr
unknown = operation op.Equal (Column v) (int 1)

-- what an operation gives of each of three left sides, one a row, and each of three right sides
abbrev table_of : Op → List Expr → List (List (Result Datum Cause))
table_of o es = map (λ left. map (λ right. eval here (operation o left right)) es) es

abbrev truth_values : List Expr
truth_values = yes ∷ no ∷ unknown ∷ []

abbrev row_of : (a b c : Truth) → List (Result Datum Cause)
row_of a b c = Ok (Holds a) ∷ Ok (Holds b) ∷ Ok (Holds c) ∷ []

ands : table_of op.And truth_values ≡ row_of Yes No Unknown ∷ row_of No No No ∷ row_of Unknown No Unknown ∷ []
unfolding computing
ands = refl

ors : table_of op.Or truth_values ≡ row_of Yes Yes Yes ∷ row_of Yes No Unknown ∷ row_of Yes Unknown Unknown ∷ []
unfolding computing
ors = refl

nots : map (λ e. eval here (negation e)) truth_values ≡ row_of No Yes Unknown
unfolding computing
nots = refl

-- 1, 2 and NULL
abbrev sides : List Expr
sides = int 1 ∷ int 2 ∷ Column v ∷ []

abbrev all_unknown : List (Result Datum Cause)
all_unknown = row_of Unknown Unknown Unknown

equals : table_of op.Equal sides ≡ row_of Yes No Unknown ∷ row_of No Yes Unknown ∷ all_unknown ∷ []
unfolding computing
equals = refl

differs : table_of op.Unequal sides ≡ row_of No Yes Unknown ∷ row_of Yes No Unknown ∷ all_unknown ∷ []
unfolding computing
differs = refl

below : table_of op.Less sides ≡ row_of No Yes Unknown ∷ row_of No No Unknown ∷ all_unknown ∷ []
unfolding computing
below = refl

at_most : table_of op.AtMost sides ≡ row_of Yes Yes Unknown ∷ row_of No Yes Unknown ∷ all_unknown ∷ []
unfolding computing
at_most = refl

above : table_of op.Greater sides ≡ row_of No No Unknown ∷ row_of Yes No Unknown ∷ all_unknown ∷ []
unfolding computing
above = refl

at_least : table_of op.AtLeast sides ≡ row_of Yes No Unknown ∷ row_of Yes Yes Unknown ∷ all_unknown ∷ []
unfolding computing
at_least = refl

abbrev gives : ℤ → Result Datum Cause
gives z = Ok (Gives (value.Int z))

abbrev gives_null : Result Datum Cause
gives_null = Ok (Gives value.Null)

abbrev nulls : List (Result Datum Cause)
nulls = gives_null ∷ gives_null ∷ gives_null ∷ []

sums : table_of op.Add sides ≡ (gives (pos 2) ∷ gives (pos 3) ∷ gives_null ∷ []) ∷ (gives (pos 3) ∷ gives (pos 4) ∷ gives_null ∷ []) ∷ nulls ∷ []
unfolding computing
sums = refl

differences : table_of op.Sub sides ≡ (gives (pos 0) ∷ gives (negsuc 0) ∷ gives_null ∷ []) ∷ (gives (pos 1) ∷ gives (pos 0) ∷ gives_null ∷ []) ∷ nulls ∷ []
unfolding computing
differences = refl

products : table_of op.Mul sides ≡ (gives (pos 1) ∷ gives (pos 2) ∷ gives_null ∷ []) ∷ (gives (pos 2) ∷ gives (pos 4) ∷ gives_null ∷ []) ∷ nulls ∷ []
unfolding computing
products = refl

joins_null : eval here (operation op.Join (letters (codes "a")) (Column v)) ≡ gives_null
unfolding computing
joins_null = refl

tests : map (λ n. map (λ e. eval here (null_test n e)) sides) (false ∷ true ∷ []) ≡ row_of No No Yes ∷ row_of Yes Yes No ∷ []
unfolding computing
tests = refl

-- CAUSES. Both sides of a sum are computed, also where one is NULL.

abbrev too_great : Expr
too_great = operation op.Add (number (pos 9223372036854775807)) (int 1)

abbrev fails : Expr
fails = operation op.Equal too_great (int 1)

abbrev overflows : Result Datum Cause
overflows = Err cause.Overflow

sum_causes : eval here (operation op.Add (Column v) too_great) ∷ eval here (operation op.Less too_great (Column v)) ∷ [] ≡ overflows ∷ overflows ∷ []
unfolding computing
sum_causes = refl

-- `and` goes on behind true and unknown, `or` behind false and unknown
and_causes : map (λ e. eval here (operation op.And e fails)) truth_values ≡ overflows ∷ Ok (Holds No) ∷ overflows ∷ []
unfolding computing
and_causes = refl

or_causes : map (λ e. eval here (operation op.Or e fails)) truth_values ≡ Ok (Holds Yes) ∷ overflows ∷ overflows ∷ []
unfolding computing
or_causes = refl

-- TABLES. A check that is unknown passes, and a filter that is unknown does not.

abbrev n : List ℕ
n = codes "n"

abbrev v_above : ℕ → Expr
v_above k = operation op.Greater (Column v) (int k)

abbrev n_def : TableDef
n_def = record { name = n; columns = field id kind.Int ∷ record (field v kind.Int) { nullable = true } ∷ []; checks = v_above 0 ∷ [] }

abbrev insert_null : ℕ → Line
insert_null k = at 1 (statement.Insert n (int k ∷ null ∷ []))

abbrev insert_n : ℤ → ℤ → Line
insert_n k z = at 1 (insert_into n (k ∷ z ∷ []))

abbrev select : What → Option Expr → Line
select w filter = at 1 (statement.Select w n (scan bound.All filter))

abbrev filled : List Line
filled = line.Table n_def ∷ insert_null 1 ∷ insert_n (pos 2) (pos 5) ∷ []

abbrev raised : List Line
raised =
    filled ++
    select (what.Columns (id ∷ [])) (Some (operation op.Or (v_above 1) (null_test false (Column v)))) ∷
    select (what.Sum v) None ∷
    at 1 (statement.Update n (set v (operation op.Add (Column v) (int 1)) ∷ []) all_rows) ∷
    select what.All None ∷ []

filled_printed : printed filled ≡
    codes "opened 1 0" ∷
    codes "ready" ∷
    codes "defined 1 create table n (id int key, v int null, check (v > 0))" ∷
    codes "u1.1 began @1" ∷
    codes "u1.1 did insert into n values (1, null) -> count 1" ∷
    codes "u1.1 committed 2" ∷
    codes "u1.2 began @1" ∷
    codes "u1.2 did insert into n values (2, 5) -> count 1" ∷
    codes "u1.2 committed 3" ∷ []
unfolding computing
filled_printed = refl

raised_printed : drop 9 (printed raised) ≡
    codes "u1.3 began @1" ∷
    codes "u1.3 did select id from n where ((v > 1) or (v is null)) -> rows (1) (2)" ∷
    codes "u1.3 committed 4" ∷
    codes "u1.4 began @1" ∷
    codes "u1.4 did select sum(v) from n -> value 5" ∷
    codes "u1.4 committed 5" ∷
    codes "u1.5 began @1" ∷
    codes "u1.5 did update n set v = (v + 1) -> count 2" ∷
    codes "u1.5 committed 6" ∷
    codes "u1.6 began @1" ∷
    codes "u1.6 did select * from n -> rows (1, null) (2, 6)" ∷
    codes "u1.6 committed 7" ∷ []
unfolding computing
raised_printed = refl

-- A key is never NULL. A NULL is neither 6 nor another value. A check that is false fails.

abbrev unequal : List Line
unequal =
    raised ++
    at 1 (statement.Insert n (null ∷ int 1 ∷ [])) ∷
    select what.All (Some (operation op.Unequal (Column v) (int 6))) ∷
    insert_n (pos 3) (pos 0) ∷ []

unequal_printed : drop 21 (printed unequal) ≡
    codes "refused 7 type" ∷
    codes "u1.7 began @1" ∷
    codes "u1.7 did select * from n where (v <> 6) -> rows" ∷
    codes "u1.7 committed 8" ∷
    codes "u1.8 began @1" ∷
    codes "u1.8 did insert into n values (3, 0) -> failed check" ∷
    codes "u1.8 failed check" ∷ []
unfolding computing
unequal_printed = refl

-- `sum`, `min` and `max` leave NULLs out, and `count` does not.

abbrev aggregates : Option Expr → List Line
aggregates filter = map (λ w. select w filter) (what.Count ∷ what.Sum v ∷ what.Min v ∷ what.Max v ∷ [])

abbrev more : List Line
more = filled ++ insert_null 3 ∷ insert_n (pos 4) (pos 2) ∷ []

-- the lines that tell what units of one statement did
abbrev second_of_three : List (List ℕ) → List (List ℕ)
second_of_three (began ∷ did ∷ ended ∷ ls) = did ∷ second_of_three ls
second_of_three ls = []

abbrev answers_printed : Option Expr → List (List ℕ)
answers_printed filter = second_of_three (drop 15 (printed (more ++ aggregates filter)))

of_all_rows : answers_printed None ≡
    codes "u1.5 did select count(*) from n -> value 4" ∷
    codes "u1.6 did select sum(v) from n -> value 7" ∷
    codes "u1.7 did select min(v) from n -> value 2" ∷
    codes "u1.8 did select max(v) from n -> value 5" ∷ []
unfolding computing
of_all_rows = refl

of_nulls : answers_printed (Some (null_test false (Column v))) ≡
    codes "u1.5 did select count(*) from n where (v is null) -> value 2" ∷
    codes "u1.6 did select sum(v) from n where (v is null) -> value 0" ∷
    codes "u1.7 did select min(v) from n where (v is null) -> value none" ∷
    codes "u1.8 did select max(v) from n where (v is null) -> value none" ∷ []
unfolding computing
of_nulls = refl

of_no_rows : answers_printed (Some (v_above 9)) ≡
    codes "u1.5 did select count(*) from n where (v > 9) -> value 0" ∷
    codes "u1.6 did select sum(v) from n where (v > 9) -> value 0" ∷
    codes "u1.7 did select min(v) from n where (v > 9) -> value none" ∷
    codes "u1.8 did select max(v) from n where (v > 9) -> value none" ∷ []
unfolding computing
of_no_rows = refl

-- A cause on the right of an unknown left side is the statement's, and none is behind a false one.

abbrev id_overflows : Expr
id_overflows = operation op.Greater (operation op.Add (Column id) (number (pos 9223372036854775807))) (int 0)

abbrev causes : List Line
causes =
    filled ++
    select what.Count (Some (operation op.And (v_above 1) id_overflows)) ∷
    select what.Count (Some (operation op.And (operation op.Greater (Column id) (int 9)) id_overflows)) ∷ []

causes_printed : drop 9 (printed causes) ≡
    codes "u1.3 began @1" ∷
    codes "u1.3 did select count(*) from n where ((v > 1) and ((id + 9223372036854775807) > 0)) -> failed overflow" ∷
    codes "u1.3 failed overflow" ∷
    codes "u1.4 began @1" ∷
    codes "u1.4 did select count(*) from n where ((id > 9) and ((id + 9223372036854775807) > 0)) -> value 0" ∷
    codes "u1.4 committed 4" ∷ []
unfolding computing
causes_printed = refl

-- ENSURE names no column, so that none is unknown; if one were, it would fail.

abbrev ensure_unknown : Statement
ensure_unknown = statement.Ensure (operation op.Equal null (int 1))

unknown_ensured : (outcome_of [] no_rows [] ensure_unknown).answer ≡ answer.Failed cause.Ensure
unfolding computing
unknown_ensured = refl
