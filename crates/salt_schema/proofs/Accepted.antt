-- What is known of a table that is not refused.
use Rattle.salt_ast.specs.Judgement.{Fault, doubled_name, field_names, first_fault, is_table, is_typed_table, table_fault, unknown_in_table}
use Rattle.salt_ast.specs.declared.limit.LimitName.TheVariants as limit
use Rattle.salt_ast.specs.declared.trees.TableDef.{TableDef}
use Rattle.salt_schema.proofs.Tables.{table_number-none}
use Rattle.salt_schema.specs.Refusals.{fault_error, table_refusal}
use Rattle.salt_schema.specs.Schemas.{table_number}
use Rattle.salt_schema.specs.declared.error.SchemaErr.TheVariants as error
use Rattle.std.proofs.Common.{Bool, List, None, Option, Some, [], arith, false, length, nat_le, option_map, refl, true, ℕ, ◌<◌, ◌≡◌}
use Rattle.std.proofs.lemmas.Bool.Decides.{nat_tests}
use Rattle.std.specs.Bool.{then_some}
use Rattle.std.specs.Option.{option_or}

-- a name that does not stand there, and room
pub record IsAccepted (schema : List TableDef) (d : TableDef) : Type 0 where
  pub new : table_number schema d.name ≡ None
  pub room : length schema < 64

no-fault : (u : Option (List ℕ)) (exists : Bool) (n : List ℕ) (columns : Option (List ℕ)) (typed : Bool) →
    first_fault u (option_or (then_some exists n) columns) typed ≡ None → exists ≡ false
no-fault (Some m) exists n columns typed h = absurd cc
no-fault None true n columns typed h = absurd cc
no-fault None false n columns typed h = refl

new-name : (schema : List TableDef) (d : TableDef) → table_fault schema d ≡ None → table_number schema d.name ≡ None
unfolding table_fault
new-name schema d h =
    table_number-none schema d.name (no-fault (unknown_in_table d) (is_table schema d.name) d.name (doubled_name [] (field_names d.columns)) (is_typed_table d) h)

pub table_refusal-IsAccepted : (schema : List TableDef) (d : TableDef) → table_refusal schema d ≡ None → IsAccepted schema d
table_refusal-IsAccepted schema d h = by (nat_le 64 (length schema)) refl (table_fault schema d) refl h
  where
    by : (full : Bool) → nat_le 64 (length schema) ≡ full → (fault : Option Fault) → table_fault schema d ≡ fault →
        option_or (option_map (λ _. error.Tables) (then_some full limit.Tables)) (option_map fault_error fault) ≡ None → IsAccepted schema d
    by true full fault is h = absurd cc
    by false full None is h = record { new = new-name schema d is; room = grind (arith, nat_tests) }
    by false full (Some f) is h = absurd cc
