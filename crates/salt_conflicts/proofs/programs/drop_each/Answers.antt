use Rattle.salt_conflicts.proofs.Naming.{without-more, without-none}
use Rattle.salt_conflicts.proofs.programs.drop_each.Goals as goal
use Rattle.salt_values.specs.Id.{without}
use Rattle.salt_values.specs.declared.id.Id.{Id}
use Rattle.std.proofs.Common.{List, [], ap, get_or, sym, take, ◌∙◌, ◌∷◌}
use Rattle.std.proofs.lemmas.List.{take_more}

pub loop-name-init : goal.loop-name-init
loop-name-init c = (c.requires, without-none c.args.names.now)

pub loop-name-preserved : goal.loop-name-preserved
loop-name-preserved c =
    let zero : Id = record { boot = 0; seq = 0 } in
    let at = c.loop-name.name-index in
    let gone = c.args.gone.now in
    let inv = c.loop-name.invariant in (
      c.drop_one.ensures.rising,
      c.drop_one.ensures.dropped
          ∙ (ap (without (get_or gone at zero ∷ [])) inv.1
          ∙ (without-more (take at gone) (get_or gone at zero) c.args.names.now
          ∙ ap (λ (l : List Id). without l c.args.names.now) (sym (take_more gone at zero c.loop-name-test.true)))),
    )
