use Rattle.law_states.specs.KeptLocks.{is_owned_by}
use Rattle.salt_locks.proofs.Spotting.{at-spots, left_spotted}
use Rattle.salt_locks.proofs.table.LockTable.drop_owner.Goals as goal
use Rattle.salt_locks.specs.Spots.{AreAt}
use Rattle.std.proofs.Common.{subst, sym, ◌∙◌}

pub drop_at-requires-clause-all : goal.drop_at-requires-clause-all
drop_at-requires-clause-all c =
    subst (λ ss. AreAt c.args.owner ss c.self.inside.locks.items) (sym c.of_owner.ensures)
    (at-spots c.self.inside.spots c.args.owner c.self.inside.locks.items (c.are_few.ensures c.if-are_few.true) c.self.invariant.3)

pub invariant_of-self : goal.invariant_of-self
invariant_of-self c =
    let inv = c.self.invariant in
    let now = c.drop_at.ensures in (
      now.numbers,
      now.order,
      now.marked,
      left_spotted c.self.inside.spots c.forget.new.self (is_owned_by c.args.owner) c.self.inside.numbers.items c.drop_at.new.numbers.items c.self.inside.locks.items c.drop_at.new.locks.items
          inv.0 now.numbers now.all c.forget.ensures inv.3,
    )

pub invariant_of-self-then-drop_few-eq0 : goal.invariant_of-self-then-drop_few-eq0
invariant_of-self-then-drop_few-eq0 c =
    let inv = c.self.invariant in
    let now = c.drop_few.ensures in (
      now.numbers,
      now.order,
      now.marked,
      left_spotted c.self.inside.spots c.forget-2.new.self (is_owned_by c.args.owner) c.self.inside.numbers.items c.drop_few.new.numbers.items c.self.inside.locks.items c.drop_few.new.locks.items
          inv.0 now.numbers (now.all c.if-drop_few-eq0.true) c.forget-2.ensures inv.3,
    )

pub invariant_of-self-2 : goal.invariant_of-self-2
invariant_of-self-2 c =
    let inv = c.self.invariant in
    let now = c.drop_all.ensures in (
      now.numbers,
      now.order,
      now.marked,
      left_spotted c.self.inside.spots c.forget-2.new.self (is_owned_by c.args.owner) c.self.inside.numbers.items c.drop_all.new.numbers.items c.self.inside.locks.items c.drop_all.new.locks.items
          inv.0 now.numbers (now.all ∙ c.drop_few.ensures.others) c.forget-2.ensures inv.3,
    )
