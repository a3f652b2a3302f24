use Rattle.std.proofs.Common.{ap, sym, ◌∙◌}
use Rattle.salt_schema.specs.Definitions.{number_named}
use Rattle.salt_schema.proofs.Keyed.{position-AreKeyed}
use Rattle.salt_schema.proofs.definitions.Definitions.number.Goals as goal

pub returns-in-Some-clause-value : goal.returns-in-Some-clause-value
returns-in-Some-clause-value g c = let first = rw c.in-Some.is at c.first_of.ensures.number in sym first

pub returns-in-Some-clause-within : goal.returns-in-Some-clause-within
returns-in-Some-clause-within g c = rw c.in-Some.is at c.first_of.ensures.within

pub returns-in-None-clause-value : goal.returns-in-None-clause-value
returns-in-None-clause-value g c =
    c.get_index_of.ensures.index
    ∙ rw c.as_slice.ensures (position-AreKeyed (λ k. k.items) g.T.Named.name c.args.name.now c.self.inside.entries.entries c.self.invariant.0 ∙ ap (number_named g.T.Named.name c.args.name.now) c.self.view_is)
