use Rattle.salt_schema.proofs.Keyed.{insert_entry-Grown}
use Rattle.salt_schema.proofs.definitions.put.Goals as goal
use Rattle.std.proofs.Common.{◌∙◌}

pub returns-clause-keyed : goal.returns-clause-keyed
returns-clause-keyed g c =
    let own = c.in_ok-key.ensures.items ∙ c.as_slice.ensures ∙ c.name.ensures in
    (insert_entry-Grown (λ k. k.items) g.T.Named.name c.args.entries.now.entries c.insert.new.self.entries c.in_ok-key.key c.args.def c.requires.keyed c.requires.distinct c.requires.new own c.in_ok-_old.ensures.entries).keyed

pub returns-clause-distinct : goal.returns-clause-distinct
returns-clause-distinct g c =
    let own = c.in_ok-key.ensures.items ∙ c.as_slice.ensures ∙ c.name.ensures in
    (insert_entry-Grown (λ k. k.items) g.T.Named.name c.args.entries.now.entries c.insert.new.self.entries c.in_ok-key.key c.args.def c.requires.keyed c.requires.distinct c.requires.new own c.in_ok-_old.ensures.entries).distinct

pub returns-clause-ok : goal.returns-clause-ok
returns-clause-ok g c =
    let own = c.in_ok-key.ensures.items ∙ c.as_slice.ensures ∙ c.name.ensures in
    (insert_entry-Grown (λ k. k.items) g.T.Named.name c.args.entries.now.entries c.insert.new.self.entries c.in_ok-key.key c.args.def c.requires.keyed c.requires.distinct c.requires.new own c.in_ok-_old.ensures.entries).behind
