use Rattle.salt_deps.proofs.Linking.{still-reading}
use Rattle.salt_deps.proofs.links.Links.readers_of.Goals as goal
use Rattle.salt_deps.specs.Maps.{is_source, readers_at}
use Rattle.salt_values.specs.Id.{has_id}
use Rattle.salt_values.specs.declared.id.Id.{Id}
use Rattle.std.proofs.Common.{List, ap, filter, ◌∙◌}

pub returns : goal.returns
returns c x =
    ap (has_id x) c.in_ok-left.ensures
    ∙ (ap (λ (l : List Id). has_id x (filter (λ z. is_source c.args.self.now.sources z c.args.source) l)) c.listed_at.ensures
    ∙ still-reading (λ z. is_source c.args.self.now.sources z c.args.source) (readers_at c.args.self.now.readers c.args.source) x (λ h. c.args.self.now.listed x c.args.source h))
