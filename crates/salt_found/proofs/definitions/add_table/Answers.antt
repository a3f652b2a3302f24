use Rattle.salt_found.proofs.Defining.{no_table_in, table_added, when_ok}
use Rattle.salt_found.proofs.definitions.add_table.Goals as goal
use Rattle.salt_found.specs.Definitions.{IsTableIn}
use Rattle.salt_schema.specs.Refusals.{table_refusal}
use Rattle.std.proofs.Common.{subst, sym, ◌∙◌}

pub returns-in_default : goal.returns-in_default
returns-in_default c ds are = no_table_in c.definitions_are_read.ensures c.args.text.now ds c.requires (subst (IsTableIn c.args.text.now) c.in_default.is c.in_ok-def.ensures)

pub returns : goal.returns
returns c ds are =
    table_added c.definitions_are_read.ensures c.args.text.now ds c.judged_by_schema.result c.args.schema.now c.add.new.self c.args.catalogue.now c.in-Some.def
    (subst (IsTableIn c.args.text.now) c.in-Some.is c.in_ok-def.ensures) are (c.judged_by_schema.ensures.judged (table_refusal c.args.schema.now c.in-Some.def) c.add.ensures.answer)
    (λ ok. when_ok c.add.result _ (sym c.judged_by_schema.ensures.ok ∙ ok) c.add.ensures.ok)
