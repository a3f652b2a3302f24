use Rattle.law_types.proofs.ShownWithin.{shown-within}
use Rattle.law_types.proofs.told_laws.shown_locks_are_of_tables.Goals as goal

pub returns : goal.returns
returns c = shown-within
