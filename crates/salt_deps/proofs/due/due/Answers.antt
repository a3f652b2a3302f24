use Rattle.salt_deps.proofs.Leaving.{all-come, last-in, none-settled}
use Rattle.salt_deps.specs.Group.{ReadsAmong, reads_in}
use Rattle.salt_values.specs.declared.id.Id.{Id}
use Rattle.std.proofs.Common.{List, [], ap, subst, ◌++◌, ◌∙◌, ◌∷◌}
use Rattle.salt_deps.proofs.due.due.Goals as goal

pub settled_from-requires-clause-come : goal.settled_from-requires-clause-come
settled_from-requires-clause-come c =
    all-come (reads_in c.args.readings.now) c.args.base c.args.finished.now.keys c.deref.result.now
    (c.deref.ensures.value ∙ (c.in_ok-push.ensures.items ∙ ap (λ (l : List Id). l ++ c.args.base ∷ []) c.in_ok-names.ensures.items))

pub settled_from-requires-clause-here : goal.settled_from-requires-clause-here
settled_from-requires-clause-here c =
    last-in c.args.finished.now.keys c.deref.result.now c.args.base
    (c.deref.ensures.value ∙ (c.in_ok-push.ensures.items ∙ ap (λ (l : List Id). l ++ c.args.base ∷ []) c.in_ok-names.ensures.items))

pub returns-then-not-base_among : goal.returns-then-not-base_among
returns-then-not-base_among c =
    let reads = reads_in c.args.readings.now in
    let finished = c.args.base ∷ c.args.finished.now.keys in
    none-settled reads c.args.base finished c.new.result.keys c.new.ensures.empty (c.requires c.if-not-known.false)
    (subst (ReadsAmong reads finished c.args.base) c.if-not-base_among.true c.base_among.ensures)
