use Rattle.salt_deps.proofs.Writing.{dropped-not, dropped-one, writes}
use Rattle.salt_deps.proofs.places.drop_at.Goals as goal
use Rattle.salt_model.specs.Tables.{place_cmp}
use Rattle.std.proofs.Common.{sym, ◌∙◌}
use Rattle.std.specs.BTreeMap.{get}

pub returns-then-is_last : goal.returns-then-is_last
returns-then-is_last c =
    dropped-one c.args.name c.args.place.now c.args.last.now c.remove.new.self
    (writes c.args.name (get place_cmp c.args.last.now c.args.place.now) (sym c.is_last.ensures ∙ c.if-is_last.true)) c.remove.ensures.updates.0

pub returns-else-is_last : goal.returns-else-is_last
returns-else-is_last c = dropped-not c.args.name c.args.place.now (get place_cmp c.args.last.now) (sym c.is_last.ensures ∙ c.if-is_last.false)
