use Rattle.salt_books.specs.Called.{name_told}
use Rattle.salt_books.specs.declared.called.CalledNames.{CalledNames}
use Rattle.salt_scheduler.proofs.UnderWay.{one-forgotten, one-left}
use Rattle.salt_scheduler.proofs.called.forget_idle.Goals as goal
use Rattle.salt_scheduler.proofs.called.forget_idle.Goals.{else-not-is_under_way, then-not-is_under_way}
use Rattle.salt_scheduler.specs.Calling.{Forgets}
use Rattle.std.proofs.Common.{ap, subst, sym, ◌∙◌}
use Rattle.std.proofs.lemmas.List.{take_more}

pub loop-base-preserved : goal.loop-base-preserved
loop-base-preserved c = λ watch watched.
    subst (λ gone. Forgets watch.programs c.args.beginning.now gone c.args.called.now c.if-not-is_under_way.called)
    (sym (take_more c.args.gone.now c.loop-base.base-index _ c.loop-base-test.true))
    (elim c.if-not-is_under_way.branch [
      | then-not-is_under_way w ↦
          one-forgotten watch.programs c.args.beginning.now _ _ c.args.called.now c.loop-base.called c.if-not-is_under_way.called (c.loop-base.invariant watch watched)
          (sym (c.is_under_way.ensures watch watched) ∙ w.if-not-is_under_way.true)
          (λ b. ap (λ (x : CalledNames). name_told x b) w.called-is ∙ w.forget.ensures b)
      | else-not-is_under_way w ↦
          one-left watch.programs c.args.beginning.now _ _ c.args.called.now c.loop-base.called c.if-not-is_under_way.called (c.loop-base.invariant watch watched)
          (sym (c.is_under_way.ensures watch watched) ∙ w.if-not-is_under_way.false) w.called-is
    ])
