use Rattle.salt_cont.proofs.Defined.{leads-on}
use Rattle.salt_cont.proofs.laws.named_leads_on.Goals as goal

pub returns : goal.returns
returns c = leads-on
