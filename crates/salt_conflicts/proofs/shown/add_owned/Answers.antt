use Rattle.salt_model.specs.declared.shown.Item.{Item}
use Rattle.salt_conflicts.proofs.Told.{taken-shown}
use Rattle.salt_conflicts.proofs.shown.add_owned.Goals as goal
use Rattle.salt_conflicts.specs.Shown.{shown}
use Rattle.std.proofs.Common.{List, ap, map, ◌++◌, ◌∙◌}
use Rattle.std.proofs.lemmas.Result.{on_ok_weaker}

pub returns : goal.returns
returns c =
    on_ok_weaker c.add_taken.result
    (λ h. h ∙ ap (λ (l : List Item). c.args.items.now ++ l) (taken-shown c.in_ok-of_owner.field-0.items ∙ ap (map shown) c.in_ok-of_owner.ensures))
    c.add_taken.ensures
