use Rattle.law_states.proofs.CallsFit.{abandon-fits, commit-fits, read-fits, unread-fits}
use Rattle.law_states.proofs.laws.dependency_calls_fit.Goals as goal

pub returns : goal.returns
returns c = record { commit = commit-fits; read = read-fits; unread = unread-fits; abandon = abandon-fits }
