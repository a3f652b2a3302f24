-- What may be kept leads on, and can be drained.
use Rattle.law_decisions.proofs.Draining as draining
use Rattle.law_decisions.proofs.Draining.{every-both, spelled-programs}
use Rattle.law_decisions.proofs.Reading.{few-parts}
use Rattle.law_openings.specs.Draining.{CanDrain}
use Rattle.law_types.specs.Typed.{IsProperProgram}
use Rattle.salt_ast.specs.ProgramJudgement.{branch_fault}
use Rattle.salt_ast.specs.declared.programs.Body.TheVariants.{Acid, Base}
use Rattle.salt_ast.specs.declared.programs.Body.{Body}
use Rattle.salt_ast.specs.declared.programs.ProgramDef.{ProgramDef}
use Rattle.salt_ast.specs.declared.trees.TableDef.{TableDef}
use Rattle.salt_cont.specs.Catalogues.{AllLeadOn}
use Rattle.salt_cont.specs.Moves.{LeadOn}
use Rattle.salt_model.specs.Kept.{Kept, programs_of, schema_of}
use Rattle.salt_model.specs.Printable.{IsSpelledProgram}
use Rattle.salt_program.specs.Refusals.{parts_in}
use Rattle.salt_storage.specs.Storing.{IsSoundKept}
use Rattle.std.specs.Prelude.{List, None, refl, ◌≡◌}

leads : (schema : List TableDef) (p : ProgramDef) → IsProperProgram schema p → IsSpelledProgram p → LeadOn (parts_in p.body)
leads schema p proper spelled = record { few = few-parts p spelled; sound = by p.body proper.branches }
  where
    by : (b : Body) → branch_fault b ≡ None → branch_fault (Base (parts_in b)) ≡ None
    by (Acid block) h = refl
    by (Base parts) h = h

pub leads-on : (k : Kept) → IsSoundKept k → AllLeadOn (programs_of k)
leads-on k sound =
    every-both (IsProperProgram (schema_of k)) IsSpelledProgram (λ p. LeadOn (parts_in p.body)) (leads (schema_of k)) (programs_of k) sound.typed.programs (spelled-programs k.definitions sound.spelled)

pub can-drain : (k : Kept) → IsSoundKept k → CanDrain k
can-drain k sound = draining.can-drain k sound.typed sound.spelled
