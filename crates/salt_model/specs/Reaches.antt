-- What a statement reaches: one range of one table, or nothing.
use Rattle.salt_ast.specs.TokenSpelling.{same_bytes}
use Rattle.salt_ast.specs.declared.trees.Bound.TheVariants.{All, Between, Key}
use Rattle.salt_ast.specs.declared.trees.Bound.{Bound}
use Rattle.salt_ast.specs.declared.trees.Expr.{Expr}
use Rattle.salt_ast.specs.declared.trees.Statement.TheVariants.{Delete, Ensure, Insert, Select, SelectInto, Update}
use Rattle.salt_ast.specs.declared.trees.Statement.{Statement}
use Rattle.salt_ast.specs.declared.trees.TableDef.{TableDef}
use Rattle.salt_ast.specs.declared.trees.What.TheVariants.{All}
use Rattle.salt_model.specs.Eval.{Visible, named_values, value_of}
use Rattle.salt_model.specs.Words.{and_then}
use Rattle.salt_model.specs.declared.events.Cause.TheVariants.{Ensure}
use Rattle.salt_model.specs.declared.events.Cause.{Cause}
use Rattle.salt_model.specs.declared.locks.Mode.TheVariants.{Read, Write}
use Rattle.salt_model.specs.declared.locks.Mode.{Mode}
use Rattle.salt_model.specs.declared.locks.Reach.{Reach}
use Rattle.salt_model.specs.declared.vars.Binding.{Binding}
use Rattle.salt_ranges.specs.Ranges.{all_keys, is_range_empty, one_key}
use Rattle.salt_ranges.specs.declared.range.KeyRange.{KeyRange}
use Rattle.salt_values.specs.declared.value.Value.TheVariants.{Int}
use Rattle.salt_values.specs.declared.value.Value.{Value}
use Rattle.std.specs.Prelude.{Err, List, None, Ok, Option, Result, Some, [], if◌then◌else◌, option_and_then, pos, ℕ, ◌+◌, ◌∷◌}

-- the table of a name, with its number
abbrev pub table_from : ℕ → List ℕ → List TableDef → Option (ℕ × TableDef)
table_from n name [] = None
table_from n name (d ∷ ds) = if same_bytes name d.name then Some (n, d) else table_from (n + 1) name ds

abbrev pub table_in : Statement → Option (List ℕ)
table_in (Insert t es) = Some t
table_in (Select w t scan) = Some t
table_in (SelectInto c v t k) = Some t
table_in (Update t sets scan) = Some t
table_in (Delete t scan) = Some t
table_in (Ensure e) = None

-- outside rows a statement sees the variables alone
abbrev pub no_row : List Binding → Visible
no_row vars = record { columns = []; vars = vars }

abbrev pub in_row : TableDef → List Value → List Binding → Visible
in_row def row vars = record { columns = named_values def.columns row; vars = vars }

-- the range of a bound; its cause
abbrev pub range_of : List Binding → Bound → Result KeyRange Cause
range_of vars All = Ok all_keys
range_of vars (Key e) = and_then (value_of (no_row vars) e) (λ k. Ok (one_key k))
range_of vars (Between a b) = and_then (value_of (no_row vars) a) (λ lo. and_then (value_of (no_row vars) b) (λ hi. Ok (record { lo = Some lo; hi = Some hi })))

-- nothing is reached where a bound has a cause, or the lower one is above the upper one
abbrev pub reached : ℕ → Mode → Result KeyRange Cause → Option Reach
reached t mode (Err c) = None
reached t mode (Ok r) = if is_range_empty r then None else Some (record { table = t; range = r; mode = mode })

-- one key is a range that is not empty
abbrev pub key_reached : ℕ → Mode → Result Value Cause → Option Reach
key_reached t mode (Err c) = None
key_reached t mode (Ok k) = Some (record { table = t; range = one_key k; mode = mode })

abbrev pub first_value : List Binding → List Expr → Result Value Cause
first_value vars [] = Ok (Int (pos 0))
first_value vars (e ∷ es) = value_of (no_row vars) e

abbrev pub reach_in : ℕ → List Binding → Statement → Option Reach
reach_in t vars (Insert name es) = key_reached t Write (first_value vars es)
reach_in t vars (Select what name scan) = reached t Read (range_of vars scan.bound)
reach_in t vars (SelectInto c v name key) = key_reached t Read (value_of (no_row vars) key)
reach_in t vars (Update name sets scan) = reached t Write (range_of vars scan.bound)
reach_in t vars (Delete name scan) = reached t Write (range_of vars scan.bound)
reach_in t vars (Ensure e) = None

abbrev pub table_for : List TableDef → Statement → Option (ℕ × TableDef)
table_for schema st = option_and_then (λ name. table_from 0 name schema) (table_in st)

-- a statement reaches one range of one table, or nothing
unfoldable pub reach : List TableDef → List Binding → Statement → Option Reach
reach schema vars st = option_and_then (λ d. reach_in d.0 vars st) (table_for schema st)
