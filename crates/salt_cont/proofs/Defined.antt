-- What is known of the programs that are defined.
use Rattle.salt_ast.specs.Judgement.{first_fault}
use Rattle.salt_ast.specs.ProgramJudgement.{BranchFault, ProgramFault, branch_fault, doubled_in_program, in_branches, in_text, is_typed_program, program_fault, program_named, unknown_in_program}
use Rattle.salt_ast.specs.declared.limit.LimitName.TheVariants as limit
use Rattle.salt_ast.specs.declared.programs.Body.TheVariants.{Acid, Base}
use Rattle.salt_ast.specs.declared.programs.Body.{Body}
use Rattle.salt_ast.specs.declared.programs.PartDef.{PartDef}
use Rattle.salt_ast.specs.declared.programs.ProgramDef.{ProgramDef}
use Rattle.salt_ast.specs.declared.trees.TableDef.{TableDef}
use Rattle.salt_cont.specs.Catalogues.{AllLeadOn}
use Rattle.salt_cont.specs.Moves.{LeadOn, parts_if_defined, parts_named}
use Rattle.salt_model.specs.Words.{Every}
use Rattle.salt_program.specs.Refusals.{fault_error, parts_in, program_refusal}
use Rattle.salt_program.specs.declared.error.DefineErr.TheVariants as error
use Rattle.salt_ast.specs.TokenSpelling.{same_bytes}
use Rattle.salt_values.specs.declared.limits.TheConstants.{PROGRAMS_MOST}
use Rattle.std.proofs.Common.{arith}
use Rattle.std.specs.Bool.{then_some}
use Rattle.std.specs.Option.{option_or}
use Rattle.std.specs.Prelude.{Bool, List, None, Option, Some, [], cond, false, length, nat_le, option_map, refl, true, ℕ, ◌++◌, ◌<◌, ◌^◌, ◌∷◌, ◌≡◌}

-- what holds of the parts of all programs, and of none, holds of those by a name
pub of-named : (Q : List PartDef → Type 0) (programs : List ProgramDef) (name : List ℕ) → Q [] → Every (λ (p : ProgramDef). Q (parts_in p.body)) programs → Q (parts_named programs name)
of-named Q [] name none all = none
of-named Q (p ∷ ps) name none all = by (same_bytes name p.name) (of-named Q ps name none all.1)
  where
    by : (t : Bool) → Q (parts_if_defined (program_named ps name)) → Q (parts_if_defined (cond t (Some p) (program_named ps name)))
    by true more = all.0
    by false more = more

pub one-more : (P : ProgramDef → Type 0) (programs : List ProgramDef) (p : ProgramDef) → Every P programs → P p → Every P (programs ++ p ∷ [])
one-more P [] p all own = (own, tt)
one-more P (q ∷ qs) p all own = (all.0, one-more P qs p all.1 own)

behind-text : (text branches : Option ProgramFault) → option_or text branches ≡ None → branches ≡ None
behind-text None branches h = h
behind-text (Some f) branches h = absurd cc

unmapped : (b : Option BranchFault) → option_map in_branches b ≡ None → b ≡ None
unmapped None h = refl
unmapped (Some f) h = absurd cc

fault-none : (schema : List TableDef) (catalogue : List ProgramDef) (p : ProgramDef) → program_refusal schema catalogue p ≡ None → program_fault schema catalogue p ≡ None
fault-none schema catalogue p h = by (nat_le PROGRAMS_MOST (length catalogue)) (program_fault schema catalogue p) refl h
  where
    by : (full : Bool) (fault : Option ProgramFault) → program_fault schema catalogue p ≡ fault →
        option_or (option_map (λ _. error.Programs) (then_some full limit.Programs)) (option_map fault_error fault) ≡ None → program_fault schema catalogue p ≡ None
    by true fault is h = absurd cc
    by false None is h = is
    by false (Some f) is h = absurd cc

-- the branches of a program that is not refused
pub sound-branches : (schema : List TableDef) (catalogue : List ProgramDef) (p : ProgramDef) → program_refusal schema catalogue p ≡ None → branch_fault p.body ≡ None
unfolding program_fault
sound-branches schema catalogue p h =
    unmapped (branch_fault p.body)
    (behind-text (option_map in_text (first_fault (unknown_in_program schema p) (doubled_in_program catalogue p) (is_typed_program schema p))) (option_map in_branches (branch_fault p.body)) (fault-none schema catalogue p h))

lead-on : (b : Body) → length (parts_in b) < 2 ^ 32 → branch_fault b ≡ None → LeadOn (parts_in b)
lead-on (Acid block) few sound = record { few = few; sound = refl }
lead-on (Base parts) few sound = record { few = few; sound = sound }

pub accepted : (schema : List TableDef) (catalogue : List ProgramDef) (p : ProgramDef) → AllLeadOn catalogue → length (parts_in p.body) < 2 ^ 32 → program_refusal schema catalogue p ≡ None →
    AllLeadOn (catalogue ++ p ∷ [])
accepted schema catalogue p all few h =
    one-more (λ (q : ProgramDef). LeadOn (parts_in q.body)) catalogue p all (lead-on p.body few (sound-branches schema catalogue p h))

pub leads-on : (catalogue : List ProgramDef) (name : List ℕ) → AllLeadOn catalogue → LeadOn (parts_named catalogue name)
leads-on catalogue name all = of-named LeadOn catalogue name (record { few = omega arith; sound = refl }) all
