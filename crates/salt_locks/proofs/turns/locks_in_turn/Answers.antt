use Rattle.law_states.specs.KeptLocks.{Numbered, Sooner}
use Rattle.law_states.specs.Members.{Ascends}
use Rattle.salt_locks.proofs.InTurn.{other_step, owned_step}
use Rattle.salt_locks.specs.Turns.{at_numbers, put_in_turn}
use Rattle.std.proofs.Common.{arith, subst, sym, ◌≡◌}
use Rattle.salt_locks.proofs.turns.locks_in_turn.Goals as goal

pub loop-left-preserved-in-Continue-1 : goal.loop-left-preserved-in-Continue-1
loop-left-preserved-in-Continue-1 c =
    let inv = c.loop-left.invariant in
    let some = c.loop-left-test.true in (
      omega (arith, inv.0),
      owned_step c.args.owner c.args.numbers.now.items c.args.locks.now.items c.loop-left.left c.index.result.now c.index-lock.result.now (at_numbers c.loop-left.taken.entries) (at_numbers c.put_in_turn.new.taken.entries)
          (omega (arith, some)) inv.0 c.requires c.index-lock.ensures (sym c.if-is_same_owner.ensures) inv.1
          (subst (λ k. Ascends Sooner (at_numbers c.loop-left.taken.entries) → at_numbers c.put_in_turn.new.taken.entries ≡ put_in_turn (λ (n : Numbered). n.number) (record { number = k; lock = c.index-lock.result.now }) (at_numbers c.loop-left.taken.entries))
          c.index.ensures c.in_ok-put_in_turn.ensures),
    )

pub loop-left-preserved : goal.loop-left-preserved
loop-left-preserved c =
    let inv = c.loop-left.invariant in
    let some = c.loop-left-test.true in (
      omega (arith, inv.0),
      other_step c.args.owner c.args.numbers.now.items c.args.locks.now.items c.loop-left.left c.index-lock.result.now (at_numbers c.loop-left.taken.entries)
          (omega (arith, some)) inv.0 c.requires c.index-lock.ensures (sym c.if-is_same_owner.ensures) inv.1,
    )
