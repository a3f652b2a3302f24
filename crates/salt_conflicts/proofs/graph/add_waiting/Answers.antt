use Rattle.salt_deps.specs.Kept.{dependencies}
use Rattle.law_states.specs.KeptWaits.{waiting_for}
use Rattle.salt_values.specs.declared.id.Id.{Id}
use Rattle.salt_conflicts.proofs.Steps.{waiting-more}
use Rattle.salt_conflicts.proofs.graph.add_waiting.Goals as goal
use Rattle.salt_conflicts.proofs.graph.add_waiting.Goals.{else-is_awaited, then-is_awaited+in_ok-push}
use Rattle.salt_conflicts.specs.Waiters.{askers}
use Rattle.std.proofs.Common.{List, [], ap, append-nil, append_assoc, false, sym, take, true, ◌++◌, ◌∙◌, ◌∷◌}

pub loop-waiter-preserved : goal.loop-waiter-preserved
loop-waiter-preserved c =
    let d = dependencies c.args.deps.now in
    let waits = c.args.waits.now in
    let at = c.loop-waiter.waiter-index in
    let waiter = c.waiter-item.result in
    elim c.if-is_awaited.branch [
      | then-is_awaited+in_ok-push w ↦
          w.edges-is
          ∙ (w.in_ok-push.ensures.ok
          ∙ (ap (λ (l : List Id). l ++ waiter.unit ∷ []) c.loop-waiter.invariant
          ∙ (append_assoc c.args.edges.now (waiting_for d (askers (take at waits)) c.args.among.now) (waiter.unit ∷ [])
          ∙ ap (λ (l : List Id). c.args.edges.now ++ l) (sym (waiting-more d c.args.among.now waits at waiter true c.loop-waiter-test.true c.waiter-item.is (sym c.is_awaited.ensures ∙ w.if-is_awaited.true))))))
      | else-is_awaited w ↦
          w.edges-is
          ∙ (c.loop-waiter.invariant
          ∙ ap (λ (l : List Id). c.args.edges.now ++ l) (sym (waiting-more d c.args.among.now waits at waiter false c.loop-waiter-test.true c.waiter-item.is (sym c.is_awaited.ensures ∙ w.if-is_awaited.false) ∙ append-nil _)))
    ]
