use Rattle.law_states.proofs.KeptTable.{keeps-after}
use Rattle.law_states.proofs.LocksAfter.{held-says}
use Rattle.law_states.specs.KeptLocks.{KeepsLocks}
use Rattle.salt_model.specs.Locks.{held}
use Rattle.std.proofs.Common.{subst, sym}
use Rattle.law_states.proofs.laws.tables_keep_locks.Goals as goal

pub returns : goal.returns
returns c =
    (λ trace e k table new h was b s. subst (KeepsLocks new) (sym (held-says trace e h.played h.well)) (keeps-after k trace e table new (held trace) was b s))
