-- What is refused of a program where there is room, and what is known of one that is not refused.
use Rattle.salt_ast.specs.Judgement.{doubled_name, field_names, first_fault}
use Rattle.salt_ast.specs.Judgement.{doubled_in_statement}
use Rattle.salt_ast.specs.Paths.{body_statements}
use Rattle.salt_ast.specs.ProgramJudgement.{ProgramFault, branch_fault, doubled_in_program, in_branches, in_text, is_program, is_typed_program, program_fault, unknown_in_program}
use Rattle.salt_ast.specs.Words.{first_in}
use Rattle.salt_ast.specs.declared.limit.LimitName.TheVariants as limit
use Rattle.salt_ast.specs.declared.programs.ProgramDef.{ProgramDef}
use Rattle.salt_ast.specs.declared.trees.TableDef.{TableDef}
use Rattle.salt_program.proofs.Programs.{number_named-none}
use Rattle.salt_program.specs.Refusals.{fault_error, program_refusal}
use Rattle.salt_program.specs.declared.error.DefineErr.TheVariants as error
use Rattle.salt_schema.specs.Definitions.{number_named}
use Rattle.std.proofs.Common.{Bool, List, None, Option, Some, [], arith, false, length, nat_le, option_map, refl, true, ℕ, ◌<◌, ◌++◌, ◌≡◌}
use Rattle.std.proofs.lemmas.Bool.Decides.{nat_tests}
use Rattle.std.specs.Bool.{then_some}
use Rattle.std.specs.Option.{option_or}

room : (n : ℕ) → n < 256 → nat_le 256 n ≡ false
room n h = grind (arith, nat_tests)

-- what may be refused of it where there is room
pub program_refusal-room : (schema : List TableDef) (catalogue : List ProgramDef) (p : ProgramDef) → length catalogue < 256 →
    program_refusal schema catalogue p
    ≡ option_map fault_error
    (option_or (option_map in_text (first_fault (unknown_in_program schema p) (doubled_in_program catalogue p) (is_typed_program schema p)))
    (option_map in_branches (branch_fault p.body)))
unfolding program_fault
program_refusal-room schema catalogue p few = rw (room (length catalogue) few) refl

-- a name that does not stand there, and room
pub record IsAccepted (catalogue : List ProgramDef) (p : ProgramDef) : Type 0 where
  pub new : number_named (λ (q : ProgramDef). q.name) p.name catalogue ≡ None
  pub room : length catalogue < 256

no-fault : (u : Option (List ℕ)) (exists : Bool) (n : List ℕ) (fields : Option (List ℕ)) (typed : Bool) (branches : Option ProgramFault) →
    option_or (option_map in_text (first_fault u (option_or (then_some exists n) fields) typed)) branches ≡ None → exists ≡ false
no-fault (Some m) exists n fields typed branches h = absurd cc
no-fault None true n fields typed branches h = absurd cc
no-fault None false n fields typed branches h = refl

new-name : (schema : List TableDef) (catalogue : List ProgramDef) (p : ProgramDef) → program_fault schema catalogue p ≡ None → is_program catalogue p.name ≡ false
unfolding program_fault
new-name schema catalogue p h =
    no-fault (unknown_in_program schema p) (is_program catalogue p.name) p.name
    (option_or (doubled_name [] (field_names (p.params ++ p.vars))) (first_in doubled_in_statement (body_statements p.body))) (is_typed_program schema p)
    (option_map in_branches (branch_fault p.body)) h

pub program_refusal-IsAccepted : (schema : List TableDef) (catalogue : List ProgramDef) (p : ProgramDef) → program_refusal schema catalogue p ≡ None → IsAccepted catalogue p
program_refusal-IsAccepted schema catalogue p h = by (nat_le 256 (length catalogue)) refl (program_fault schema catalogue p) refl h
  where
    by : (full : Bool) → nat_le 256 (length catalogue) ≡ full → (fault : Option ProgramFault) → program_fault schema catalogue p ≡ fault →
        option_or (option_map (λ _. error.Programs) (then_some full limit.Programs)) (option_map fault_error fault) ≡ None → IsAccepted catalogue p
    by true full fault is h = absurd cc
    by false full None is h = record { new = number_named-none catalogue p.name (new-name schema catalogue p is); room = grind (arith, nat_tests) }
    by false full (Some f) is h = absurd cc
