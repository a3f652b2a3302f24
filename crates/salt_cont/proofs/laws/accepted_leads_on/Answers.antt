use Rattle.salt_cont.proofs.Defined.{accepted}
use Rattle.salt_cont.proofs.laws.accepted_leads_on.Goals as goal

pub returns : goal.returns
returns c = accepted
