use Rattle.law_states.proofs.LockCallsFit.{acid-fits, drop-fits, release-fits, salt-fits, take-fits}
use Rattle.law_states.proofs.laws.lock_calls_fit.Goals as goal

pub returns : goal.returns
returns c = record { take = take-fits; salt = salt-fits; acid = acid-fits; ended = drop-fits; release = release-fits }
