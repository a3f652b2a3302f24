use Rattle.law_states.specs.KeptLocks.{is_owned_by}
use Rattle.law_story.proofs.Lists.{either}
use Rattle.salt_locks.proofs.salts.last_own.Goals as goal
use Rattle.std.proofs.Common.{ap, arith, get_or, length, sym, ◌-◌, ◌<◌, ◌∙◌}
use Rattle.std.proofs.lemmas.Bool.{cases_order}
use Rattle.std.proofs.lemmas.List.{get_or_default}

pub loop-left-init : goal.loop-left-init
loop-left-init c = (omega arith, λ k d h g. absurd (omega (arith, h, g)))

pub loop-left-preserved : goal.loop-left-preserved
loop-left-preserved c =
    let inv = c.loop-left.invariant in
    let ls = c.args.locks.now.items in
    let under = inv.0 in
    let bound = c.requires in
    let some = c.loop-left-test.true in
    let n = c.loop-left.left - 1 in
    let l = c.index.result.now in
    let least : n < length ls = omega (arith, under, bound, some) in (
      omega (arith, under),
      λ k d h g. either
          (λ e. ap (is_owned_by c.args.owner) (ap (λ j. get_or ls j d) e ∙ (get_or_default ls n d l least ∙ sym c.index.ensures)) ∙ sym c.if-is_same_owner.ensures)
          (λ o. either (λ a. absurd (omega (arith, a, h))) (λ a. inv.1 k d (omega (arith, a, some)) g) o)
          (cases_order k n),
    )

pub returns-then-is_same_owner : goal.returns-then-is_same_owner
returns-then-is_same_owner c =
    let inv = c.loop-left.invariant in
    let ls = c.args.locks.now.items in
    let under = inv.0 in
    let bound = c.requires in
    let some = c.loop-left-test.true in
    let n = c.loop-left.left - 1 in
    let l = c.index.result.now in
    let least : n < length ls = omega (arith, under, bound, some) in (
      omega (arith, some),
      omega (arith, under, some),
      λ d. ap (is_owned_by c.args.owner) (get_or_default ls n d l least ∙ sym c.index.ensures) ∙ sym c.if-is_same_owner.ensures,
    )

pub returns : goal.returns
returns c =
    let inv = c.loop-left.invariant in
    let end = c.loop-left-test.false in
    λ k d h g. inv.1 k d (omega (arith, h, end)) g
