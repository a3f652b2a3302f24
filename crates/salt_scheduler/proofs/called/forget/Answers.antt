use Rattle.salt_scheduler.proofs.called.forget.Goals as goal
use Rattle.salt_scheduler.specs.Calling.{Forgets}
use Rattle.std.proofs.Common.{subst, ◌∙◌}

pub returns : goal.returns
returns c = λ s w books watch.
    subst (λ firsts. Forgets w.programs firsts c.args.gone.now c.args.called.now c.forget_idle.new.called)
    (c.as_slice.ensures.value ∙ c.in_ok-beginning.ensures s books) (c.forget_idle.ensures w watch)
