use Rattle.salt_model.specs.Tables.{place}
use Rattle.salt_units.proofs.Cuts.{found-here, found-none, found-past}
use Rattle.salt_units.proofs.Searches.{before-apart, before-over, is_there}
use Rattle.salt_units.proofs.edits.place_of.Goals as goal
use Rattle.salt_units.specs.Putting.{is_before}
use Rattle.std.proofs.Common.{ap, sym, ◌∙◌}
use Rattle.std.specs.Option.{option_copied}

pub returns-then-is_change_at : goal.returns-then-is_change_at
returns-then-is_change_at c =
    let q = place c.args.table c.args.key.now in
    let here = sym c.at.ensures ∙ ap option_copied c.in-Some.is in
    (c.in-Some.change.now, here, found-here (is_before q) (is_there q) (before-apart q) c.args.changes.now.items c.count_before-count.result c.count_before-count.ensures.counted c.count_before-count.ensures.bound c.in-Some.change.now here (sym c.is_change_at.ensures ∙ c.if-is_change_at.true))

pub returns-else-is_change_at : goal.returns-else-is_change_at
returns-else-is_change_at c =
    let q = place c.args.table c.args.key.now in
    found-past (is_before q) (is_there q) (before-apart q) c.args.changes.now.items c.count_before-count.result c.count_before-count.ensures.counted c.count_before-count.ensures.bound (before-over q) c.in-Some.change.now c.requires (sym c.at.ensures ∙ ap option_copied c.in-Some.is) (sym c.is_change_at.ensures ∙ c.if-is_change_at.false)

pub returns-in-None : goal.returns-in-None
returns-in-None c =
    let q = place c.args.table c.args.key.now in
    found-none (is_before q) (is_there q) (before-apart q) c.args.changes.now.items c.count_before-count.result c.count_before-count.ensures.counted c.count_before-count.ensures.bound (sym c.at.ensures ∙ ap option_copied c.in-None.is)
