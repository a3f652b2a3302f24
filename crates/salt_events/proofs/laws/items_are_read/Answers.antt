use Rattle.salt_events.proofs.ItemLaws.{IsItem, item_back, item_read}
use Rattle.salt_events.proofs.laws.items_are_read.Goals as goal
use Rattle.std.proofs.Common.{IfSome, subst}

pub returns-clause-read : goal.returns-clause-read
returns-clause-read c = λ schema i naming p g. item_read schema naming i p g

pub returns-clause-back : goal.returns-clause-back
returns-clause-back c = λ schema line i e. let r = subst (λ o. IfSome o (IsItem schema line)) e (item_back schema line) in (r.text, r.printable, r.sized)
