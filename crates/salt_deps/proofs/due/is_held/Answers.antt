use Rattle.salt_deps.proofs.Leaving.{held-by-sources}
use Rattle.salt_deps.specs.Group.{reads_in}
use Rattle.std.proofs.Common.{sym, ◌∙◌, ◌∷◌}
use Rattle.salt_deps.proofs.due.is_held.Goals as goal

pub returns-else-not-is_done : goal.returns-else-not-is_done
returns-else-not-is_done c =
    held-by-sources (reads_in c.args.readings.now) (c.args.base ∷ c.args.finished.now.keys) (c.args.base ∷ c.args.found.now.keys) c.args.name
    c.reads_among.result (sym c.is_done.ensures ∙ c.if-not-is_done.false) c.reads_among.ensures
