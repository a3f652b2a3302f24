use Rattle.law_states.specs.KeptLocks.{is_base_among}
use Rattle.salt_locks.proofs.Spotting.{has-key}
use Rattle.salt_locks.proofs.leaving.is_base_among.Goals as goal
use Rattle.std.proofs.Common.{ap, sym, ◌∙◌}

pub returns-in-Base : goal.returns-in-Base
returns-in-Base c = c.contains.ensures ∙ (has-key c.in-Base.base c.args.bases.now.keys ∙ ap (is_base_among c.args.bases.now.keys) (sym c.in-Base.is))
