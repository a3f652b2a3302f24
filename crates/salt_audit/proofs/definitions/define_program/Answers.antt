use Rattle.salt_ast.specs.declared.programs.ProgramDef.{ProgramDef}
use Rattle.salt_audit.proofs.definitions.define_program.Goals as goal
use Rattle.salt_cont.specs.Catalogues.{AllLeadOn}
use Rattle.salt_program.specs.Refusals.{parts_in, program_refusal}
use Rattle.std.proofs.Common.{None, [], ap, length, subst, sym, ◌++◌, ◌<◌, ◌^◌, ◌∙◌, ◌∷◌, ◌≡◌}

pub define-requires : goal.define-requires
define-requires c = record { parts = subst (λ (p : ProgramDef). length (parts_in p.body) < 2 ^ 32) (sym c.in_ok-own.ensures) c.requires }

pub returns-clause-defined : goal.returns-clause-defined
returns-clause-defined c = c.in-Ok.ensures.ok ∙ ap (λ (p : ProgramDef). c.args.catalogue.now ++ p ∷ []) c.in_ok-own.ensures

pub returns-clause-leads : goal.returns-clause-leads
returns-clause-leads c = λ h.
    let allowed = subst (λ (p : ProgramDef). program_refusal c.args.schema.now c.args.catalogue.now p ≡ None) c.in_ok-own.ensures c.in-Ok.ensures.answer in
    subst AllLeadOn (sym (c.in-Ok.ensures.ok ∙ ap (λ (p : ProgramDef). c.args.catalogue.now ++ p ∷ []) c.in_ok-own.ensures))
    (c.accepted_leads_on.ensures c.args.schema.now c.args.catalogue.now c.args.def.now h c.requires allowed)
