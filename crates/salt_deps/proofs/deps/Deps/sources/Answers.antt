use Rattle.law_states.specs.Rising.{Rising}
use Rattle.salt_deps.proofs.Showing.{was-kept}
use Rattle.salt_deps.proofs.deps.Deps.sources.Goals as goal
use Rattle.salt_deps.specs.Due.{AreReached}
use Rattle.salt_deps.specs.Group.{reads_in}
use Rattle.std.proofs.Common.{subst, sym, ◌∙◌}

pub returns-clause-all : goal.returns-clause-all
returns-clause-all c =
    let x = c.self.inside in
    let names = c.from_vec.result in
    subst (λ d. AreReached d.reads c.args.base names) (sym (was-kept c.args.self.now x.writers.last x.readings x.finished.keys c.self.view_is))
    (subst (AreReached (reads_in x.readings) c.args.base) (sym (c.from_vec.ensures ∙ c.in_ok-names.ensures.items)) c.in_ok-sources.ensures)

pub returns-clause-order : goal.returns-clause-order
returns-clause-order c = subst Rising (sym c.from_vec.ensures) c.in_ok-names.ensures.order
