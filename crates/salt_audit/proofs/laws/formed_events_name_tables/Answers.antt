use Rattle.salt_audit.proofs.Naming.{Named, named_on}
use Rattle.salt_audit.proofs.OneMore.{told_more}
use Rattle.salt_audit.proofs.laws.formed_events_name_tables.Goals as goal
use Rattle.salt_audit.specs.Retelling.{retold}
use Rattle.salt_model.specs.After.{kept}
use Rattle.salt_model.specs.Kept.{schema_of}
use Rattle.salt_model.specs.Naming.{IsNaming}
use Rattle.salt_model.specs.Trace.{Trace}
use Rattle.std.proofs.Common.{[], subst, sym}

pub returns-clause-none : goal.returns-clause-none
returns-clause-none c = c.tables_are_named.ensures.none

pub returns-clause-more : goal.returns-clause-more
returns-clause-more c =
    let laws : Named = record { read = λ text d e. (c.definitions_are_read.ensures text d).0 e; none = c.tables_are_named.ensures.none; more = c.tables_are_named.ensures.more } in
    λ story e named f.
    subst (λ (trace : Trace). IsNaming (schema_of (kept trace))) (sym (told_more (retold []) story e)) (named_on laws (retold story) e named f)
