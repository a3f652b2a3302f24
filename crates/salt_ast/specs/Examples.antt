-- Examples, computed from the definitions.
use Rattle.salt_ast.specs.Grammar.{Within, alone, colon, literal, minus_int, named, one, paren, pair, plain, plus_int}
use Rattle.salt_ast.specs.Grammar as grammar
use Rattle.salt_ast.specs.Judgement.{Fault, exists, mistyped, statement_fault, table_fault, unknown}
use Rattle.salt_ast.specs.Limits.{statement_limit, table_limit}
use Rattle.salt_ast.specs.Sample.{acct, acct_def, all_rows, bal, field, id, in_range, negations, scan, schema, set, true_sum}
use Rattle.salt_ast.specs.Statements as form
use Rattle.salt_ast.specs.Statements.{IsStatement}
use Rattle.salt_ast.specs.Tables.{IsTable}
use Rattle.salt_ast.specs.Tables as table
use Rattle.salt_ast.specs.Texts.{statement_text, table_text}
use Rattle.salt_ast.specs.Trees.{letters, negation, number, operation}
use Rattle.salt_ast.specs.declared.limit.LimitName.TheVariants as limit
use Rattle.salt_ast.specs.declared.trees.Bound.TheVariants as bound
use Rattle.salt_ast.specs.declared.trees.ColType.TheVariants as kind
use Rattle.salt_ast.specs.declared.trees.Expr.{Column, Expr, Variable}
use Rattle.salt_ast.specs.declared.trees.Field.{Field}
use Rattle.salt_ast.specs.declared.trees.Op.TheVariants as op
use Rattle.salt_ast.specs.declared.trees.Scope.{Scope}
use Rattle.salt_ast.specs.declared.trees.Statement.{Statement}
use Rattle.salt_ast.specs.declared.trees.Statement.TheVariants as statement
use Rattle.salt_ast.specs.declared.trees.TableDef.{TableDef}
use Rattle.salt_ast.specs.declared.trees.What.TheVariants as what
use Rattle.salt_ast.specs.Scanning.{first_at, lex, quoted_at}
use Rattle.salt_ast.specs.TokenSpelling.{keyword_of, sign_of}
use Rattle.salt_ast.specs.Symbols.{Symbols, int, key, name, symbols_of, sign, text}
use Rattle.salt_ast.specs.declared.keyword.Keyword.TheVariants as word
use Rattle.salt_ast.specs.declared.sign.Sign.TheVariants as mark
use Rattle.std.specs.Fmt.{digits}
use Rattle.std.specs.Prelude.{List, None, Option, Some, [], codes, neg_ℤ, option_map, pos, refl, replicate, ℕ, ◌++◌, ◌∷◌, ◌≡◌}

-- the symbols of a text
abbrev symbols : List ℕ → Option Symbols
symbols bytes = option_map symbols_of (lex 0 bytes)

abbrev n : List ℕ
n = codes "n"

-- A statement whose key's bound is followed by a filter.

abbrev between_row : Symbols
between_row =
    key word.Select ∷ name n ∷ key word.From ∷ name (codes "w") ∷ key word.Where ∷ key word.Key ∷ key word.Between ∷ int 0 ∷ key word.And ∷ int 3 ∷
    key word.And ∷ key word.Not ∷ name n ∷ sign mark.Equal ∷ text (codes "it's") ∷ []

abbrev not_equal : Expr
not_equal = negation (operation op.Equal (Column n) (letters (codes "it's")))

abbrev between_statement : Statement
between_statement =
    statement.Select (what.Columns (n ∷ [])) (codes "w") (scan (bound.Between (number (pos 0)) (number (pos 3))) (Some not_equal))

between_symbols : symbols (codes "SELECT n from w where key between 0 and 3and not n='it''s'") ≡ Some between_row
unfolding lex first_at quoted_at keyword_of sign_of
between_symbols = refl

between_spelled : IsStatement (Within 0) (Within 0) between_row between_statement
between_spelled =
    form.is_select (form.named_columns (form.items form.is_name form.no_more))
    (form.where_between (one (one plus_int)) (one (one plus_int))
    (form.and (one (grammar.not (plain (pair (one (one named)) (sign mark.Equal) refl refl (one (one literal))))))))

between_text : statement_text between_statement ≡ codes "select n from w where key between 0 and 3 and (not (n = 'it''s'))"
unfolding digits
between_text = refl

-- A table with a check.

abbrev acct_row : Symbols
acct_row =
    key word.Create ∷ key word.Table ∷ name acct ∷ sign mark.Open ∷ name id ∷ key word.Int ∷ key word.Key ∷ sign mark.Comma ∷ name bal ∷ key word.Int ∷
    sign mark.Comma ∷ key word.Check ∷ name bal ∷ sign mark.AtLeast ∷ int 0 ∷ key word.And ∷ name bal ∷ sign mark.AtMost ∷ int 1000 ∷ sign mark.Close ∷ []

acct_symbols : symbols (codes "create table acct (id int key, bal int, check bal >= 0 and bal <= 1000)") ≡ Some acct_row
unfolding lex first_at quoted_at keyword_of sign_of
acct_symbols = refl

acct_spelled : IsTable (Within 0) acct_row acct_def
acct_spelled =
    table.is_table table.int_field (form.one_more (table.is_plain table.int_field) form.no_more)
    (form.one_more
    (table.is_check (one (grammar.more (one (plain (pair (one (one named)) (sign mark.AtLeast) refl refl (one (one plus_int)))))
    (key word.And) refl refl (plain (pair (one (one named)) (sign mark.AtMost) refl refl (one (one plus_int)))))))
    form.no_more)

acct_text : table_text acct_def ≡ codes "create table acct (id int key, bal int, check ((bal >= 0) and (bal <= 1000)))"
unfolding digits
acct_text = refl

-- Texts of the other forms.

insert_text :
    statement_text (statement.Insert (codes "t") (number (pos 5) ∷ number (neg_ℤ (pos 3)) ∷ letters [] ∷ []))
    ≡ codes "insert into t values (5, -3, '')"
unfolding digits
insert_text = refl

count_text :
    statement_text (statement.Select what.Count (codes "t") (scan (bound.Key (Variable (codes "k"))) None))
    ≡ codes "select count(*) from t where key = :k"
count_text = refl

sum_text : statement_text (statement.Select (what.Sum bal) acct (scan bound.All (Some (Column bal)))) ≡ codes "select sum(bal) from acct where bal"
sum_text = refl

into_text :
    statement_text (statement.SelectInto bal (codes "x") acct (operation op.Mul (number (pos 2)) (number (pos 3))))
    ≡ codes "select bal into :x from acct where key = (2 * 3)"
unfolding digits
into_text = refl

update_text :
    statement_text (statement.Update acct (set bal (number (pos 0)) ∷ set n (operation op.Join (Column n) (Column n)) ∷ []) all_rows)
    ≡ codes "update acct set bal = 0, n = (n || n)"
unfolding digits
update_text = refl

delete_text : statement_text (statement.Delete acct (scan (bound.Key (number (pos 1))) (Some (Column bal)))) ≡ codes "delete from acct where key = 1 and bal"
unfolding digits
delete_text = refl

-- More forms of expressions: grouping to the left, a literal's minus sign, parentheses.

-- 1 - 2 - -3
left_spelled : IsStatement (Within 0) (Within 0)
    (key word.Ensure ∷ int 1 ∷ sign mark.Minus ∷ int 2 ∷ sign mark.Minus ∷ sign mark.Minus ∷ int 3 ∷ [])
    (statement.Ensure (operation op.Sub (operation op.Sub (number (pos 1)) (number (pos 2))) (number (neg_ℤ (pos 3)))))
left_spelled =
    form.is_ensure
    (one (one (plain (alone (grammar.more (grammar.more (one (one plus_int)) (sign mark.Minus) refl refl (one plus_int))
    (sign mark.Minus) refl refl (one minus_int))))))

-- (:x) * 2
paren_spelled : IsStatement (Within 1) (Within 0)
    (key word.Ensure ∷ sign mark.Open ∷ sign mark.Colon ∷ name n ∷ sign mark.Close ∷ sign mark.Star ∷ int 2 ∷ [])
    (statement.Ensure (operation op.Mul (Variable n) (number (pos 2))))
unfolding Within
paren_spelled =
    form.is_ensure
    (one (one (plain (alone (one (grammar.more (one (paren (one (one (plain (alone (one (one colon)))))))) (sign mark.Star) refl refl plus_int))))))

-- Limits.

abbrev ensures : Expr → Statement
ensures e = statement.Ensure e

abbrev letters_of : ℕ → List ℕ
letters_of k = replicate k 97

largest_number : statement_limit (ensures (number (pos 9223372036854775807))) ≡ None
unfolding statement_limit
largest_number = refl

larger_number : statement_limit (ensures (number (pos 9223372036854775808))) ≡ Some limit.Number
unfolding statement_limit
larger_number = refl

least_number : statement_limit (ensures (number (neg_ℤ (pos 9223372036854775808)))) ≡ None
unfolding statement_limit
least_number = refl

lesser_number : statement_limit (ensures (number (neg_ℤ (pos 9223372036854775809)))) ≡ Some limit.Number
unfolding statement_limit
lesser_number = refl

longest_text : statement_limit (ensures (letters (letters_of 255))) ≡ None
unfolding statement_limit
longest_text = refl

longer_text : statement_limit (ensures (letters (letters_of 256))) ≡ Some limit.Text
unfolding statement_limit
longer_text = refl

longest_name : statement_limit (ensures (Column (letters_of 32))) ≡ None
unfolding statement_limit
longest_name = refl

longer_name : statement_limit (ensures (Variable (letters_of 33))) ≡ Some limit.Name
unfolding statement_limit
longer_name = refl

abbrev deep : ℕ → Expr
deep k = negations k (Column n)

deepest : statement_limit (ensures (deep 63)) ≡ None
unfolding statement_limit
deepest = refl

deeper : statement_limit (ensures (deep 64)) ≡ Some limit.Depth
unfolding statement_limit
deeper = refl

-- the depth comes last
deeper_and_longer : statement_limit (statement.Insert acct (deep 64 ∷ letters (letters_of 256) ∷ [])) ≡ Some limit.Text
unfolding statement_limit
deeper_and_longer = refl

abbrev columns : ℕ → List Field
columns k = replicate k (field n kind.Int)

abbrev with_columns : List Field → TableDef
with_columns fs = record { name = acct; columns = fs; checks = [] }

most_columns : table_limit (with_columns (columns 16)) ≡ None
unfolding table_limit
most_columns = refl

-- the 17th column is too many before its name is too long, and a long name before it comes first
too_many_columns : table_limit (with_columns (columns 16 ++ field (letters_of 33) kind.Int ∷ [])) ≡ Some limit.Columns
unfolding table_limit
too_many_columns = refl

long_name_first : table_limit (with_columns (field (letters_of 33) kind.Int ∷ columns 16)) ≡ Some limit.Name
unfolding table_limit
long_name_first = refl

too_many_checks : table_limit (record { name = acct; columns = columns 1; checks = replicate 16 in_range ++ deep 64 ∷ [] }) ≡ Some limit.Checks
unfolding table_limit
too_many_checks = refl

-- Faults, where the table above is defined.

abbrev no_names : Scope
no_names = record { params = []; vars = [] }

abbrev session_fault : Statement → Option Fault
session_fault st = statement_fault schema no_names st

unknown_table_named : session_fault (statement.Select what.All (codes "nosuch") all_rows) ≡ Some (unknown (codes "nosuch"))
unfolding statement_fault
unknown_table_named = refl

-- a column of a table that is not known stands before the table's name
unknown_column_named : session_fault (statement.Select (what.Columns (n ∷ [])) (codes "nosuch") all_rows) ≡ Some (unknown n)
unfolding statement_fault
unknown_column_named = refl

-- a session has no variables
unknown_variable_named : session_fault (statement.SelectInto bal (codes "x") acct (number (pos 1))) ≡ Some (unknown (codes "x"))
unfolding statement_fault
unknown_variable_named = refl

-- a parameter is no variable
parameter_is_no_variable :
    statement_fault schema (record { params = field (codes "x") kind.Int ∷ []; vars = [] }) (statement.SelectInto bal (codes "x") acct (Variable (codes "x")))
    ≡ Some (unknown (codes "x"))
unfolding statement_fault
parameter_is_no_variable = refl

abbrev puts : List Expr → Statement
puts es = statement.Insert acct es

-- a column is not known among values, nor in a key's bound
column_among_values : session_fault (puts (Column bal ∷ [])) ≡ Some (unknown bal)
unfolding statement_fault
column_among_values = refl

column_in_bound : session_fault (statement.Delete acct (scan (bound.Key (Column bal)) None)) ≡ Some (unknown bal)
unfolding statement_fault
column_in_bound = refl

set_twice :
    session_fault (statement.Update acct (set id (Column bal) ∷ set bal (Column id) ∷ set bal (letters []) ∷ []) all_rows) ≡ Some (exists bal)
unfolding statement_fault
set_twice = refl

too_few_values : session_fault (puts (number (pos 1) ∷ [])) ≡ Some mistyped
unfolding statement_fault
too_few_values = refl

right_values : session_fault (puts (number (pos 1) ∷ operation op.Add (number (pos 1)) (number (pos 1)) ∷ [])) ≡ None
unfolding statement_fault
right_values = refl

text_for_number : session_fault (puts (number (pos 1) ∷ letters [] ∷ [])) ≡ Some mistyped
unfolding statement_fault
text_for_number = refl

key_is_set : session_fault (statement.Update acct (set id (number (pos 3)) ∷ []) all_rows) ≡ Some mistyped
unfolding statement_fault
key_is_set = refl

-- 1 = 1 may be asked, whether two truth values are equal may not

truth : session_fault (ensures true_sum) ≡ None
unfolding statement_fault
truth = refl

two_truths : session_fault (ensures (operation op.Equal true_sum true_sum)) ≡ Some mistyped
unfolding statement_fault
two_truths = refl

number_and_text : session_fault (ensures (operation op.Less (number (pos 1)) (letters []))) ≡ Some mistyped
unfolding statement_fault
number_and_text = refl

table_exists : table_fault schema acct_def ≡ Some (exists acct)
unfolding table_fault
table_exists = refl

column_twice : table_fault [] (with_columns (columns 2)) ≡ Some (exists n)
unfolding table_fault
column_twice = refl

-- a name that is not known comes before one that comes twice
unknown_in_check : table_fault schema (record { name = acct; columns = columns 2; checks = Variable id ∷ [] }) ≡ Some (unknown id)
unfolding table_fault
unknown_in_check = refl

check_gives_number : table_fault [] (record { name = acct; columns = columns 1; checks = Column n ∷ [] }) ≡ Some mistyped
unfolding table_fault
check_gives_number = refl

new_table : table_fault [] acct_def ≡ None
unfolding table_fault
new_table = refl
