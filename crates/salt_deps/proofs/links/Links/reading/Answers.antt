use Rattle.salt_deps.proofs.links.Links.reading.Goals as goal
use Rattle.salt_deps.specs.Maps.{is_source}
use Rattle.salt_values.specs.declared.id.Id.{Id}
use Rattle.std.proofs.Common.{List, ap, filter, rules, ◌∙◌}
use Rattle.std.proofs.lemmas.Fn.{filter_same}

pub returns : goal.returns
returns c =
    filter_same _ (λ x. is_source c.args.self.now.sources x c.args.source) _ (λ x b f' k. search rules) _ _ c.retain.ensures.filtered
    ∙ ap (λ (l : List Id). filter (λ x. is_source c.args.self.now.sources x c.args.source) l) c.in_ok-left.ensures.items
