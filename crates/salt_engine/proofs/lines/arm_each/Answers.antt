use Rattle.salt_engine.proofs.Decided.{stored-still}
use Rattle.salt_engine.proofs.LineArms.{armed-on, every-at}
use Rattle.salt_engine.proofs.lines.arm_each.Goals as goal
use Rattle.salt_storage.proofs.Staying.{stays-behind, stays-same}
use Rattle.std.proofs.Common.{append-nil, ap, arith, subst, sym, ◌∙◌}
use Rattle.std.proofs.lemmas.List.{take_all}
use Rattle.std.specs.Prelude.{IsTrue, List, refl, ℕ, ◌++◌, ◌≤◌}

pub loop-pair-init : goal.loop-pair-init
loop-pair-init g c = record {
  stored = λ s h. h;
  stops = sym (append-nil (g.D.Disks.view c.args.disks.now).armed);
  faults = refl;
  net = refl;
  able = λ h. h;
  within = stays-same _ _;
}

pub arm-requires-clause-able : goal.arm-requires-clause-able
arm-requires-clause-able g c = subst (λ b. IsTrue b) (sym c.loop-pair.invariant.within.shape.can_stop) c.requires.able

pub arm-requires-clause-pick : goal.arm-requires-clause-pick
arm-requires-clause-pick g c = every-at (λ (p : ℕ × ℕ). p.1 ≤ 4) c.args.pairs.now c.loop-pair.pair-index (0, 0) c.loop-pair-test.true c.requires.picks

pub loop-pair-preserved : goal.loop-pair-preserved
loop-pair-preserved g c =
    let i = c.loop-pair.invariant in
    record {
      stored = λ s h. stored-still _ _ _ _ s (i.stored s h) c.arm.ensures.holds c.arm.ensures.is_new;
      stops = armed-on _ _ _ c.args.pairs.now c.loop-pair.pair-index (0, 0) c.loop-pair-test.true i.stops c.in_ok-arm.ensures.ok;
      faults = c.arm.ensures.faults ∙ i.faults;
      net = c.arm.ensures.net ∙ i.net;
      able = λ h. c.arm.ensures.able (i.able h);
      within = stays-behind i.within c.arm.ensures.within;
    }

pub returns-clause-ok : goal.returns-clause-ok
returns-clause-ok g c =
    let i = c.loop-pair.invariant in
    i.stops ∙ ap (λ (l : List (ℕ × ℕ)). (g.D.Disks.view c.args.disks.now).armed ++ l) (take_all c.loop-pair.pair-index c.args.pairs.now (omega arith))

pub returns-in_err-arm-clause-within : goal.returns-in_err-arm-clause-within
returns-in_err-arm-clause-within g c = stays-behind c.loop-pair.invariant.within c.arm.ensures.within

pub returns-in_err-arm-clause-net : goal.returns-in_err-arm-clause-net
returns-in_err-arm-clause-net g c = c.arm.ensures.net ∙ c.loop-pair.invariant.net

pub returns-clause-able : goal.returns-clause-able
returns-clause-able g c = c.loop-pair.invariant.able

pub returns-in_err-arm-clause-able : goal.returns-in_err-arm-clause-able
returns-in_err-arm-clause-able g c = λ h. c.arm.ensures.able (c.loop-pair.invariant.able h)
