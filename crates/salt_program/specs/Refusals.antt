-- What is refused of programs, as the crate tells it.
use Rattle.salt_ast.specs.Judgement.{Fault, exists, mistyped, unknown}
use Rattle.salt_ast.specs.ProgramJudgement.{BranchFault, ProgramFault, backward, in_branches, in_text, no_branch, program_fault, program_kept_limit}
use Rattle.salt_ast.specs.declared.programs.Body.TheVariants as body
use Rattle.salt_ast.specs.declared.programs.Body.{Body}
use Rattle.salt_ast.specs.declared.programs.PartDef.{PartDef}
use Rattle.salt_ast.specs.declared.programs.ProgramDef.{ProgramDef}
use Rattle.salt_ast.specs.declared.trees.TableDef.{TableDef}
use Rattle.salt_program.specs.declared.branches.BranchFault as found
use Rattle.salt_program.specs.declared.branches.BranchFault.TheVariants as branch
use Rattle.salt_program.specs.declared.error.DefineErr.TheVariants as error
use Rattle.salt_program.specs.declared.error.DefineErr.{DefineErr}
use Rattle.std.specs.Option.{option_or}
use Rattle.std.specs.Prelude.{Err, List, None, Ok, Option, Result, Some, [], option_map, ◌≡◌}

abbrev pub parts_in : Body → List PartDef
parts_in (body.Acid block) = []
parts_in (body.Base parts) = parts

abbrev pub branch_meant : found.BranchFault → BranchFault
branch_meant (branch.NoBranch k) = no_branch k
branch_meant (branch.Backward k) = backward k

abbrev pub text_error : Fault → DefineErr
text_error (unknown n) = error.Unknown n
text_error (exists n) = error.Exists n
text_error mistyped = error.Mistyped

abbrev pub branch_error : BranchFault → DefineErr
branch_error (no_branch k) = error.NoBranch k
branch_error (backward k) = error.Backward k

abbrev pub fault_error : ProgramFault → DefineErr
fault_error (in_text f) = text_error f
fault_error (in_branches b) = branch_error b

-- of a program that is to be the next: the limit of programs stands before its faults
abbrev pub program_refusal : List TableDef → List ProgramDef → ProgramDef → Option DefineErr
program_refusal schema catalogue p =
    option_or (option_map (λ _. error.Programs) (program_kept_limit catalogue)) (option_map fault_error (program_fault schema catalogue p))

-- the answer where this is refused: Ok where nothing is, and want of memory at any time
abbrev pub IsAnswer : {A : Type 0} → Option DefineErr → Result A DefineErr → Type 0
IsAnswer refusal (Ok x) = refusal ≡ None
IsAnswer refusal (Err error.Programs) = refusal ≡ Some error.Programs
IsAnswer refusal (Err (error.Unknown n)) = refusal ≡ Some (error.Unknown n)
IsAnswer refusal (Err (error.Exists n)) = refusal ≡ Some (error.Exists n)
IsAnswer refusal (Err error.Mistyped) = refusal ≡ Some error.Mistyped
IsAnswer refusal (Err (error.NoBranch k)) = refusal ≡ Some (error.NoBranch k)
IsAnswer refusal (Err (error.Backward k)) = refusal ≡ Some (error.Backward k)
IsAnswer refusal (Err error.Memory) = Unit {0}
