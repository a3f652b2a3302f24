use Rattle.salt_turns.proofs.Amid.{way_planned}
use Rattle.salt_turns.proofs.coming.has_next.Goals as goal

pub returns-clause-way : goal.returns-clause-way
returns-clause-way c nodes first way =
    way_planned c.args.unit nodes first c.args.messages.now c.plan.new.self way (c.has_left.ensures.none c.if-has_left.false) c.plan.ensures.turn c.plan.ensures.done
