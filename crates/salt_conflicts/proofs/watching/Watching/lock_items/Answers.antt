use Rattle.salt_conflicts.proofs.Seen.{watch-shown}
use Rattle.salt_conflicts.proofs.Told.{items-told}
use Rattle.salt_conflicts.proofs.watching.Watching.lock_items.Goals as goal
use Rattle.salt_conflicts.specs.Shown.{owned_by_bases, owned_by_units}
use Rattle.std.proofs.Common.{ap, ◌++◌, ◌∙◌}
use Rattle.std.proofs.lemmas.Result.{IfOk-weaker}

pub returns : goal.returns
returns c =
    let x = c.self.inside in
    IfOk-weaker c.lock_items.result _ _
    (λ items told w r h.
    let s = watch-shown _ _ w c.self.view_is h in
    told
    ∙ (ap (λ bs. owned_by_bases x.locks bs ++ owned_by_units x.locks c.args.units.now) c.names.ensures
    ∙ items-told w r x.locks x.programs.names c.args.units.now s.table s.programs))
    c.lock_items.ensures
