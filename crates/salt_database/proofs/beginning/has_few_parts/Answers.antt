use Rattle.salt_database.proofs.Fitting.{few-parts}
use Rattle.salt_database.proofs.beginning.has_few_parts.Goals as goal
use Rattle.std.proofs.Common.{refl}

pub returns : goal.returns
returns c = λ is. few-parts c.args.def.now _ _ refl c.parts_of.ensures.body is
