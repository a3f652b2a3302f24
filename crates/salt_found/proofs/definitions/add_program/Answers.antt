use Rattle.salt_cont.proofs.Limited.{few-in-program}
use Rattle.salt_found.proofs.Defining.{no_program_in, program_added, when_ok}
use Rattle.salt_found.proofs.definitions.add_program.Goals as goal
use Rattle.salt_found.specs.Definitions.{IsProgramIn}
use Rattle.salt_program.specs.Refusals.{program_refusal}
use Rattle.std.proofs.Common.{arith, subst, sym, ◌∙◌}

pub returns-in_default : goal.returns-in_default
returns-in_default c ds are = no_program_in c.definitions_are_read.ensures c.args.text.now ds c.requires (subst (IsProgramIn c.args.text.now) c.in_default.is c.in_ok-def.ensures)

pub define-requires : goal.define-requires
define-requires c =
    let few = few-in-program c.in-Some.def (subst (IsProgramIn c.args.text.now) c.in-Some.is c.in_ok-def.ensures).0.within in
    record { parts = omega (arith, few.count) }

pub returns : goal.returns
returns c ds are =
    program_added c.definitions_are_read.ensures c.args.text.now ds c.judged_by_catalogue.result c.args.schema.now c.args.catalogue.now c.define.new.self c.in-Some.def
    (subst (IsProgramIn c.args.text.now) c.in-Some.is c.in_ok-def.ensures) are (c.judged_by_catalogue.ensures.judged (program_refusal c.args.schema.now c.args.catalogue.now c.in-Some.def) c.define.ensures.answer)
    (λ ok. when_ok c.define.result _ (sym c.judged_by_catalogue.ensures.ok ∙ ok) c.define.ensures.ok)
