use Rattle.salt_database.proofs.Halved.{never-open, open-has, open-sees}
use Rattle.salt_database.proofs.database.DatabaseOpenable.into_net.Goals as goal
use Rattle.salt_database.specs.Halves.{by_half, no_setup}
use Rattle.salt_engine.specs.Engines.{engine_storage}
use Rattle.salt_storage.specs.Netted.{net_told}
use Rattle.std.proofs.Common.{ap, sym, ◌∙◌}
use Rattle.std.specs.Prelude.{None, option_map}

pub into_net-requires-clause-stands : goal.into_net-requires-clause-stands
into_net-requires-clause-stands g c = λ told.
    let s = c.requires.stands told in (s.0, open-sees g.S.Storage.asked g.S.Storage.net _ _ _ c.args.self c.in-Open.engine None s.0 c.in-Open.is s.1)

pub returns-in-Open : goal.returns-in-Open
returns-in-Open g c = λ s h.
    c.into_net.ensures s (open-sees g.S.Storage.asked g.S.Storage.net _ _ _ c.args.self c.in-Open.engine None s c.in-Open.is h)
    ∙ sym (ap (λ x. option_map (λ t. t.events) (net_told (by_half (λ o. g.S.Storage.asked o.storage) (λ e. g.S.Storage.asked (engine_storage e)) no_setup x) s.net)) c.in-Open.is)

pub returns-in_default : goal.returns-in_default
returns-in_default g c = λ s h. absurd (never-open g.S.Storage.asked g.S.Storage.net _ _ _ c.args.self s c.in_default.not-Open h)

pub into_net-requires-clause-able : goal.into_net-requires-clause-able
into_net-requires-clause-able g c = open-has _ _ c.args.self c.in-Open.engine c.in-Open.is c.requires.able
