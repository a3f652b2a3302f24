use Rattle.law_types.proofs.WithinSchema.{schema-grows}
use Rattle.law_types.proofs.told_laws.schemas_grow.Goals as goal

pub returns : goal.returns
returns c = schema-grows
