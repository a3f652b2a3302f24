use Rattle.salt_rows.proofs.Put.{split_within}
use Rattle.salt_rows.proofs.store.RowStore.make_place.Goals as goal
use Rattle.std.proofs.Common.{sym, ◌∙◌}

pub returns-in_err-split-in-Some-clause-pages : goal.returns-in_err-split-in-Some-clause-pages
returns-in_err-split-in-Some-clause-pages g c = λ dev named t is told.
    split_within (g.D.Disks.view c.args.disks.now) c.args.self.now c.split.new.self dev named t is told (sym c.may_grow.ensures ∙ c.if-may_grow.true) c.split.ensures.count

pub returns-in_ok-split-in-Some-clause-pages : goal.returns-in_ok-split-in-Some-clause-pages
returns-in_ok-split-in-Some-clause-pages g c = λ dev named t is told.
    split_within (g.D.Disks.view c.args.disks.now) c.args.self.now c.split.new.self dev named t is told (sym c.may_grow.ensures ∙ c.if-may_grow.true) c.split.ensures.count
