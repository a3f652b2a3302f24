use Rattle.salt_deps.proofs.Grouping.{known-if, reads-itself}
use Rattle.salt_deps.proofs.due.base_among.Goals as goal
use Rattle.salt_values.specs.Id.{has_id}
use Rattle.std.proofs.Common.{◌∷◌}
use Rattle.std.specs.List.{list_all}

pub reads_among-requires-clause-here : goal.reads_among-requires-clause-here
reads_among-requires-clause-here c = reads-itself c.args.base c.args.set.now.keys

pub reads_among-requires-clause-whole : goal.reads_among-requires-clause-whole
reads_among-requires-clause-whole c h =
    let group = c.args.readings.now.group in
    known-if (has_id c.args.base group.readers.keys) c.group_fits-whole.result (list_all (λ y. has_id y (c.args.base ∷ c.args.set.now.keys)) group.sources.keys) c.group_fits-whole.ensures h
