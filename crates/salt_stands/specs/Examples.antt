-- What fits under a table and a program.
use Rattle.salt_ast.specs.Judgement.{table_fault}
use Rattle.salt_ast.specs.ProgramJudgement.{line_fault}
use Rattle.salt_ast.specs.Trees.{number, operation}
use Rattle.salt_ast.specs.declared.programs.Body.TheVariants.{Base}
use Rattle.salt_ast.specs.declared.programs.Next.TheVariants as next
use Rattle.salt_ast.specs.declared.trees.ColType.TheVariants as kind
use Rattle.salt_ast.specs.declared.trees.ColType.{ColType}
use Rattle.salt_ast.specs.declared.trees.Expr.{Column}
use Rattle.salt_ast.specs.declared.trees.Field.{Field}
use Rattle.salt_ast.specs.declared.trees.Op.TheVariants as op
use Rattle.salt_stands.specs.Fitting.{definitions_reading}
use Rattle.salt_model.specs.Kept.{Definition, OfProgram, OfTable}
use Rattle.salt_stands.specs.Reading.{Reading}
use Rattle.salt_values.specs.declared.cont.Cont.{Cont}
use Rattle.salt_values.specs.declared.value.Value.TheVariants.{Int, Null, Text}
use Rattle.salt_values.specs.declared.value.Value.{Value}
use Rattle.std.specs.Prelude.{Bool, List, None, Some, [], codes, false, pos, refl, true, ℕ, ◌∷◌, ◌≡◌}

abbrev field : List ℕ → ColType → (nullable : Bool) → Field
field name kind nullable = record { name = name; kind = kind; nullable = nullable }

-- create table t (id int key, v int null, check (v > 0))
abbrev table : Definition
table = OfTable (record {
  name = codes "t";
  columns = field (codes "id") kind.Int false ∷ field (codes "v") kind.Int true ∷ [];
  checks = operation op.Greater (Column (codes "v")) (number (pos 0)) ∷ [];
})

-- a program of a text and no variables, in three parts of which the second is tried twice more
abbrev program : Definition
program = OfProgram (record {
  name = codes "p";
  params = field (codes "x") kind.Text false ∷ [];
  vars = [];
  body = Base (
      record { block = []; then = None; retry = None; on_failure = None }
      ∷ record { block = []; then = None; retry = Some 2; on_failure = Some next.End }
      ∷ record { block = []; then = None; retry = None; on_failure = Some next.End } ∷ []);
})

abbrev both : List Definition
both = table ∷ program ∷ []

abbrev reading : Reading Definition
reading = definitions_reading (λ text. None)

one_table : reading.count_tables both ≡ 1
one_table = refl

abbrev is_row : List Value → Bool
is_row row = reading.fits_row both 0 row

row : is_row (Int (pos 1) ∷ Int (pos 5) ∷ []) ≡ true
row = refl

-- a check that is unknown passes
null_where_it_may_be : is_row (Int (pos 1) ∷ Null ∷ []) ≡ true
null_where_it_may_be = refl

null_key : is_row (Null ∷ Int (pos 5) ∷ []) ≡ false
null_key = refl

check_is_false : is_row (Int (pos 1) ∷ Int (pos 0) ∷ []) ≡ false
check_is_false = refl

text_for_a_number : is_row (Int (pos 1) ∷ Text [] ∷ []) ≡ false
text_for_a_number = refl

too_few : is_row (Int (pos 1) ∷ []) ≡ false
too_few = refl

no_such_table : reading.fits_row both 1 (Int (pos 1) ∷ Int (pos 5) ∷ []) ≡ false
no_such_table = refl

key : reading.fits_key both 0 (Int (pos 7)) ≡ true
key = refl

text_key : reading.fits_key both 0 (Text []) ≡ false
text_key = refl

abbrev standing : (next tries : ℕ) → List Value → Cont
standing next tries args = record { base = record { boot = 1; seq = 2 }; accepted = 3; program = codes "p"; args = args; vars = []; next = next; tries = tries }

abbrev is_open : (next tries : ℕ) → List Value → Bool
is_open next tries args = reading.fits_cont both (standing next tries args)

at_part_2 : is_open 2 2 (Text (codes "a") ∷ []) ≡ true
at_part_2 = refl

too_many_tries : is_open 2 3 (Text (codes "a") ∷ []) ≡ false
too_many_tries = refl

at_part_1 : is_open 1 0 (Text (codes "a") ∷ []) ≡ false
at_part_1 = refl

at_part_4 : is_open 4 0 (Text (codes "a") ∷ []) ≡ false
at_part_4 = refl

null_argument : is_open 2 0 (Null ∷ []) ≡ false
null_argument = refl

no_argument : is_open 2 0 [] ≡ false
no_argument = refl

-- a name comes twice
table_twice : reading.is_refused (table ∷ []) table ≡ true
unfolding line_fault table_fault
table_twice = refl

first_table : reading.is_refused [] table ≡ false
unfolding line_fault table_fault
first_table = refl
