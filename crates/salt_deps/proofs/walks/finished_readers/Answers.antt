use Rattle.salt_deps.proofs.Leaving.{of-those}
use Rattle.salt_values.specs.Id.{has_id}
use Rattle.std.proofs.Common.{ap, rules, ◌&&◌, ◌∙◌, ◌∷◌}
use Rattle.std.proofs.lemmas.Fn.{filter_same}
use Rattle.salt_deps.proofs.walks.finished_readers.Goals as goal

pub returns : goal.returns
returns c x =
    let done = c.args.base ∷ c.args.finished.now.keys in
    ap (has_id x) (filter_same _ (λ b. has_id b done) _ (λ x b f' k. search rules) _ _ c.retain.ensures.filtered)
    ∙ (of-those (λ b. has_id b done) x c.in_ok-readers.readers.items ∙ ap (λ t. t && has_id x done) (c.in_ok-readers.ensures x))
