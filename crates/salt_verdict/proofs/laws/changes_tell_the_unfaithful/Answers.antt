use Rattle.salt_verdict.proofs.Changing.{changed_alone}
use Rattle.salt_verdict.proofs.laws.changes_tell_the_unfaithful.Goals as goal

pub returns : goal.returns
returns c = λ l m e faithful after. changed_alone l m faithful e after
