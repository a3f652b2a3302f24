use Rattle.std.proofs.Common.{ap, ◌∙◌}
use Rattle.salt_schema.specs.Definitions.{definition_named}
use Rattle.salt_schema.proofs.Keyed.{lookup-AreKeyed}
use Rattle.salt_schema.proofs.definitions.Definitions.named.Goals as goal

pub returns-in-Some : goal.returns-in-Some
returns-in-Some g c = rw c.in-Some.is at c.first_of.ensures.named

pub returns-in-None : goal.returns-in-None
returns-in-None g c =
    c.get.ensures.value
    ∙ rw c.as_slice.ensures (lookup-AreKeyed (λ k. k.items) g.T.Named.name c.args.name.now c.self.inside.entries.entries c.self.invariant.0 ∙ ap (definition_named g.T.Named.name c.args.name.now) c.self.view_is)
