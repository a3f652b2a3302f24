use Rattle.salt_turns.proofs.Amid.{way_planned}
use Rattle.salt_turns.proofs.coming.pass.Goals as goal

pub returns-clause-way : goal.returns-clause-way
returns-clause-way c nodes first way =
    way_planned c.args.unit nodes first c.args.messages.now c.plan.new.self way (c.has_left.ensures.none c.if-has_left.false) c.plan.ensures.turn c.plan.ensures.done

pub go_on-requires : goal.go_on-requires
go_on-requires c = let r = c.requires in (c.args.unit, r.0, r.1, r.2)

pub returns-then-has_left-clause-held : goal.returns-then-has_left-clause-held
returns-then-has_left-clause-held c = let r = c.requires in c.go_on.ensures.held c.args.unit r.0 r.1 r.2

pub returns-then-has_left-clause-way : goal.returns-then-has_left-clause-way
returns-then-has_left-clause-way c = c.go_on.ensures.way c.args.unit
