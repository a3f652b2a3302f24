use Rattle.salt_deps.specs.Kept.{dependencies}
use Rattle.law_states.specs.KeptSources.{Through}
use Rattle.law_states.specs.Members.{In}
use Rattle.salt_values.specs.declared.id.Id.{Id}
use Rattle.salt_conflicts.proofs.Awaiting.{edges-members, no-edges}
use Rattle.salt_conflicts.proofs.graph.add_edges.Goals as goal
use Rattle.salt_conflicts.specs.Waiters.{askers}
use Rattle.std.proofs.Common.{List, ap, append-nil, subst, sym, ◌++◌, ◌∙◌, ◌↔◌}
use Rattle.std.proofs.lemmas.Result.{on_ok_weaker}

pub returns-in_ok-sources-in-Base : goal.returns-in_ok-sources-in-Base
returns-in_ok-sources-in-Base c =
    let d = dependencies c.args.deps.now in
    let ws = askers c.args.waits.now in
    on_ok_weaker c.add_waiting.result
    (λ h sources are.
    h
    ∙ ap (λ (l : List Id). c.args.edges.now ++ l)
    (edges-members d ws sources c.args.owner c.in-Base.base c.as_slice-in-Base.result.now c.in-Base.is are
    (subst (λ (l : List Id). (b : Id) → In b l ↔ Through d.reads c.in-Base.base b) (sym c.as_slice-in-Base.ensures) c.in_ok-sources-in-Base.ensures.all)))
    c.add_waiting.ensures

pub returns-then-not-has_program : goal.returns-then-not-has_program
returns-then-not-has_program c = λ sources are.
    sym (append-nil c.args.edges.now)
    ∙ ap (λ (l : List Id). c.args.edges.now ++ l)
    (sym (no-edges (dependencies c.args.deps.now) c.args.waits.now sources c.args.owner c.in-Base.base c.in-Base.is (sym c.has_program.ensures ∙ c.if-not-has_program.true)))
