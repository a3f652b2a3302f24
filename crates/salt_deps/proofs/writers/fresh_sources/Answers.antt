use Rattle.salt_deps.proofs.Reading.{are-fresh}
use Rattle.salt_deps.proofs.writers.fresh_sources.Goals as goal
use Rattle.salt_deps.specs.Group.{reads_in}
use Rattle.salt_values.specs.declared.id.Id.{Id}
use Rattle.std.proofs.Common.{List, ap, filter, not, rules, ◌∙◌}
use Rattle.std.proofs.lemmas.Fn.{filter_same}

pub returns-clause-fresh : goal.returns-clause-fresh
returns-clause-fresh c =
    let reads = reads_in c.args.readings.now in
    are-fresh c.args.reader c.args.table c.args.range.now c.args.writers.now.last.entries reads c.in_ok-found.found.keys c.retain.new.self.items c.in_ok-found.ensures.read
    (filter_same _ (λ y. not (reads c.args.reader y)) _ (λ x b f' k. search rules) _ _ c.retain.ensures.filtered
    ∙ ap (λ (l : List Id). filter (λ y. not (reads c.args.reader y)) l) c.in_ok-fresh.ensures.items)
