use Rattle.salt_engine.proofs.Stages.{held-now}
use Rattle.salt_engine.proofs.engine.Engine.into_net.Goals as goal
use Rattle.std.proofs.Common.{ap, ◌∙◌}
use Rattle.std.specs.Prelude.{option_map}

pub into_net-requires-clause-held : goal.into_net-requires-clause-held
into_net-requires-clause-held g c = λ told. let r = c.requires.stands told in (r.0.units.kept, held-now _ _ _ r.0 r.1.0.seen)

pub returns : goal.returns
returns g c = λ s h. c.into_net.ensures s.units.kept (held-now _ _ _ s h.0.seen) ∙ ap (option_map (λ t. t.events)) h.1.sent

pub into_net-requires-clause-able : goal.into_net-requires-clause-able
into_net-requires-clause-able g c = c.requires.able
