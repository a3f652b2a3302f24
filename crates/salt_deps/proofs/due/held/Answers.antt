use Rattle.salt_deps.proofs.Grouping.{found-too, in-got}
use Rattle.salt_deps.proofs.Leaving.{held-one, held-other}
use Rattle.salt_deps.proofs.Seeing.{take-next}
use Rattle.salt_deps.proofs.due.held.Goals.{else-is_held, then-is_held+in_ok-push}
use Rattle.salt_deps.specs.Due.{AreHeld, IsHeld}
use Rattle.salt_deps.specs.Group.{reads_in}
use Rattle.salt_values.specs.declared.id.Id.{Id}
use Rattle.std.proofs.Common.{Global, List, Vec, [], ap, get_or, subst, sym, take, take_all, ◌++◌, ◌∙◌, ◌∷◌}
use Rattle.salt_deps.proofs.due.held.Goals as goal

pub is_held-requires-clause-here : goal.is_held-requires-clause-here
is_held-requires-clause-here c =
    let zero : Id = record { boot = 0; seq = 0 } in
    let at = c.loop-name.name-index in
    let names = c.args.names.now in
    let name : Id = get_or names at zero in
    found-too c.args.base name c.args.found.now.keys (c.requires name (in-got names at zero c.loop-name-test.true))

pub loop-name-preserved : goal.loop-name-preserved
loop-name-preserved c =
    let zero : Id = record { boot = 0; seq = 0 } in
    let reads = reads_in c.args.readings.now in
    let finished = c.args.base ∷ c.args.finished.now.keys in
    let found = c.args.base ∷ c.args.found.now.keys in
    let at = c.loop-name.name-index in
    let names = c.args.names.now in
    let name : Id = get_or names at zero in
    subst (λ l. AreHeld reads finished found l c.if-is_held.held.items) (take-next names at zero c.loop-name-test.true)
    elim c.if-is_held.branch [
      | then-is_held+in_ok-push w ↦
          subst (λ (l : List Id). AreHeld reads finished found (take at names ++ name ∷ []) l) (sym (ap (λ (v : Vec Id Global). v.items) w.held-is ∙ w.in_ok-push.ensures.items))
          (held-one reads finished found (take at names) c.loop-name.held.items name c.loop-name.invariant (subst (IsHeld reads finished found name) w.if-is_held.true c.is_held.ensures))
      | else-is_held w ↦
          subst (λ (v : Vec Id Global). AreHeld reads finished found (take at names ++ name ∷ []) v.items) (sym w.held-is)
          (held-other reads finished found (take at names) c.loop-name.held.items name c.loop-name.invariant (subst (IsHeld reads finished found name) w.if-is_held.false c.is_held.ensures))
    ]

pub returns : goal.returns
returns c =
    subst (λ l. AreHeld (reads_in c.args.readings.now) (c.args.base ∷ c.args.finished.now.keys) (c.args.base ∷ c.args.found.now.keys) l c.loop-name.held.items)
    (take_all c.loop-name.name-index c.args.names.now c.loop-name-test.false) c.loop-name.invariant
