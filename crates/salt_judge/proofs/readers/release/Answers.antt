use Rattle.salt_judge.proofs.readers.release.Goals as goal
use Rattle.salt_audit.specs.Marks.{is_marked}
use Rattle.salt_values.specs.Id.{has_id}
use Rattle.salt_values.specs.declared.id.Id.{Id}
use Rattle.std.proofs.Common.{Bool, List, ap, ◌∙◌, ◌||◌}

pub returns : goal.returns
returns c = λ b.
    c.in_ok-mark_all-2.ensures b
    ∙ ap (λ (t : Bool). has_id b c.args.bases.now || t)
    (c.in_ok-mark_all.ensures b ∙ ap (λ (ids : List Id). has_id b ids || is_marked b c.args.released.now) (c.as_slice.ensures ∙ c.in_ok-freed.ensures))
