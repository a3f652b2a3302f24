-- What is refused of programs, calls and lines under what is defined before: limits of what is kept, names that are not
-- known, names that come twice, types, and branches.
use Rattle.salt_values.specs.declared.limits.TheConstants.{BASES_MOST, PROGRAMS_MOST}
use Rattle.salt_ast.specs.Judgement.{Fault, doubled_in_statement, doubled_name, field_names, first_fault, is_typed_statement}
use Rattle.salt_ast.specs.Judgement.{kept_limit, same_types, statement_fault, table_fault, unknown, unknown_in_statement, value_type}
use Rattle.salt_ast.specs.Paths.{body_statements}
use Rattle.salt_ast.specs.ProgramTexts.{base_text}
use Rattle.salt_ast.specs.Words.{first_in}
use Rattle.salt_ast.specs.TokenSpelling.{same_bytes}
use Rattle.std.specs.Bool.{then_some}
use Rattle.std.specs.Option.{option_map_or, option_or}
use Rattle.salt_ast.specs.declared.limit.LimitName.{LimitName}
use Rattle.salt_ast.specs.declared.limit.LimitName.TheVariants as limit
use Rattle.salt_ast.specs.declared.lines.Act.{Act}
use Rattle.salt_ast.specs.declared.lines.Act.TheVariants as act
use Rattle.salt_ast.specs.declared.lines.Line.{Line}
use Rattle.salt_ast.specs.declared.lines.Line.TheVariants as line
use Rattle.salt_ast.specs.declared.programs.Body.{Body}
use Rattle.salt_ast.specs.declared.programs.Body.TheVariants as body
use Rattle.salt_ast.specs.declared.programs.Body.TheVariants.{Acid, Base}
use Rattle.salt_ast.specs.declared.programs.Next.{Next}
use Rattle.salt_ast.specs.declared.programs.Next.TheVariants as next
use Rattle.salt_ast.specs.declared.programs.PartDef.{PartDef}
use Rattle.salt_ast.specs.declared.programs.ProgramDef.{ProgramDef}
use Rattle.salt_ast.specs.declared.trees.Field.{Field}
use Rattle.salt_ast.specs.declared.trees.Scope.{Scope}
use Rattle.salt_ast.specs.declared.trees.TableDef.{TableDef}
use Rattle.salt_values.specs.Id.{is_same_id}
use Rattle.salt_values.specs.declared.id.Id.{Id}
use Rattle.salt_values.specs.declared.value.Value.{Value}
use Rattle.std.specs.List.{list_all, list_any}
use Rattle.std.specs.Prelude.{Bool, List, None, Option, Some, [], false, if◌then◌else◌, is_some, length, nat_le, nat_lt, not, suc, true}
use Rattle.std.specs.Prelude.{option_and_then, option_map, ℕ, ◌&&◌, ◌++◌, ◌==◌, ◌∷◌, ◌||◌}

-- A catalogue is the list of the programs defined before.

abbrev pub program_named : List ProgramDef → List ℕ → Option ProgramDef
program_named [] n = None
program_named (p ∷ ps) n = if same_bytes n p.name then Some p else program_named ps n

abbrev pub is_program : List ProgramDef → List ℕ → Bool
is_program catalogue n = is_some (program_named catalogue n)

-- BRANCHES: ways lead to later parts or to the end, and each part but the first has one for its failure.

-- a way that is declared leads from part `k` of `count` parts neither to a later one nor to the end
abbrev pub is_backward : (count k : ℕ) → Option Next → Bool
is_backward count k (Some (next.Part j)) = not (nat_lt k j && nat_le j count)
is_backward count k way = false

pub data BranchFault : Type 0 where
  -- a part above 1 says nothing of its failure
  no_branch : ℕ → BranchFault
  -- a way of this part leads to a part that does not come later or is not there, or it is part 1 and its failure has a way
  backward : ℕ → BranchFault

-- of part `k` of `count` parts
abbrev pub part_fault : (count k : ℕ) → PartDef → Option BranchFault
part_fault count k p =
    option_or (then_some (nat_lt 1 k && not (is_some p.on_failure)) (no_branch k))
    (then_some (is_backward count k p.then || is_backward count k p.on_failure || (k == 1 && is_some p.on_failure)) (backward k))

-- of these of `count` parts, the first of which is part `k`: the least part's
abbrev pub fault_in_parts : (count k : ℕ) → List PartDef → Option BranchFault
fault_in_parts count k [] = None
fault_in_parts count k (p ∷ ps) = option_or (part_fault count k p) (fault_in_parts count (suc k) ps)

abbrev pub branch_fault : Body → Option BranchFault
branch_fault (body.Acid block) = None
branch_fault (body.Base parts) = fault_in_parts (length parts) 1 parts

-- Of a program.

abbrev pub program_scope : ProgramDef → Scope
program_scope p = record { params = p.params; vars = p.vars }

abbrev pub unknown_in_program : List TableDef → ProgramDef → Option (List ℕ)
unknown_in_program schema p = first_in (unknown_in_statement schema (program_scope p)) (body_statements p.body)

-- parameters and variables have different names, and a program may have the name of a table
abbrev pub doubled_in_program : List ProgramDef → ProgramDef → Option (List ℕ)
doubled_in_program catalogue p =
    option_or (then_some (is_program catalogue p.name) p.name)
    (option_or (doubled_name [] (field_names (p.params ++ p.vars))) (first_in doubled_in_statement (body_statements p.body)))

abbrev pub is_typed_program : List TableDef → ProgramDef → Bool
is_typed_program schema p = list_all (is_typed_statement schema (program_scope p)) (body_statements p.body)

pub data ProgramFault : Type 0 where
  in_text : Fault → ProgramFault
  in_branches : BranchFault → ProgramFault

-- what is refused of a program: each of these stands before the ones below it
unfoldable pub program_fault : List TableDef → List ProgramDef → ProgramDef → Option ProgramFault
program_fault schema catalogue p =
    option_or (option_map in_text (first_fault (unknown_in_program schema p) (doubled_in_program catalogue p) (is_typed_program schema p)))
    (option_map in_branches (branch_fault p.body))

-- the limit that a further program passes, which stands before its faults
abbrev pub program_kept_limit : List ProgramDef → Option LimitName
program_kept_limit catalogue = then_some (nat_le PROGRAMS_MOST (length catalogue)) limit.Programs

-- Of a call.

-- as many arguments as parameters, each of its parameter's type
abbrev pub are_arguments : List Field → List Value → Bool
are_arguments [] [] = true
are_arguments (f ∷ fs) (v ∷ vs) = same_types (Some f.kind) (value_type v) && are_arguments fs vs
are_arguments fs vs = false

-- a program of this name is defined, and these are arguments for its parameters
abbrev pub fits : List ProgramDef → List ℕ → List Value → Bool
fits catalogue n args = option_map_or (λ p. are_arguments p.params args) (program_named catalogue n) false

unfoldable pub call_fault : List ProgramDef → List ℕ → List Value → Option Fault
call_fault catalogue n args = first_fault (then_some (not (is_program catalogue n)) n) None (fits catalogue n args)

abbrev pub is_base : ProgramDef → Bool
is_base p = elim p.body [ Acid block ↦ false | Base parts ↦ true ]

-- the limit that a further run of a BASE program passes where so many are in their first part, or accepted and not released
abbrev pub call_kept_limit : List ProgramDef → (unreleased : ℕ) → List ℕ → Option LimitName
call_kept_limit catalogue unreleased n = option_and_then (λ p. then_some (is_base p && nat_le BASES_MOST unreleased) limit.Bases) (program_named catalogue n)

-- Of a line.

-- what is known where a line is judged
pub record Known : Type 0 where
  pub schema : List TableDef
  pub catalogue : List ProgramDef
  -- the BASE programs that are accepted and not finished, which alone `go` may name
  pub unfinished : List Id
  -- how many BASE programs are in their first part, or accepted and not released
  pub unreleased : ℕ

-- what is refused of a line, in the order in which it is told
pub data LineFault : Type 0 where
  kept : LimitName → LineFault
  faulty : Fault → LineFault
  branch : (part : ℕ) → LineFault

abbrev pub of_program_fault : ProgramFault → LineFault
of_program_fault (in_text f) = faulty f
of_program_fault (in_branches (no_branch k)) = branch k
of_program_fault (in_branches (backward k)) = branch k

abbrev pub go_fault : List Id → Id → Option Fault
go_fault unfinished base = then_some (not (list_any (is_same_id base) unfinished)) (unknown (base_text base))

abbrev pub session_scope : Scope
session_scope = record { params = []; vars = [] }

abbrev pub act_fault : Known → Act → Option LineFault
act_fault known (act.Call program args) =
    option_or (option_map kept (call_kept_limit known.catalogue known.unreleased program))
    (option_map faulty (call_fault known.catalogue program args))
act_fault known (act.Do st) = option_map faulty (statement_fault known.schema session_scope st)
act_fault known _ = None

-- what is refused of a line that passes no limit of its text: limits of what is kept, names, types and branches
unfoldable pub line_fault : Known → Line → Option LineFault
line_fault known (line.Table d) =
    option_or (option_map kept (kept_limit known.schema)) (option_map faulty (table_fault known.schema d))
line_fault known (line.Program p) =
    option_or (option_map kept (program_kept_limit known.catalogue))
    (option_map of_program_fault (program_fault known.schema known.catalogue p))
line_fault known (line.Session session a) = act_fault known a
line_fault known (line.Go base) = option_map faulty (go_fault known.unfinished base)
line_fault known _ = None
