use Rattle.salt_parts.proofs.Fit.{put_fits}
use Rattle.salt_parts.proofs.judge.PartJudge.change_fits.Goals as goal
use Rattle.std.proofs.Common.{arith, false, refl, sym, true, ◌∙◌}

pub returns-then-meets : goal.returns-then-meets
returns-then-meets g c read c' has =
    put_fits read c.args.self.now.schema.now c.args.self.now.shape c' has c.args.self.now.part c.args.change.now c.in-Some.row true c.has_key.result (omega (arith, c.if-from-count.false, c.from.ensures, c.count.ensures.count)) c.in-Some.is (sym c.if-meets.true ∙ c.in_ok-meets-in-Some.ensures) c.has_key.ensures

pub returns-else-meets : goal.returns-else-meets
returns-else-meets g c read c' has =
    c.if-meets.false ∙ put_fits read c.args.self.now.schema.now c.args.self.now.shape c' has c.args.self.now.part c.args.change.now c.in-Some.row false _ (omega (arith, c.if-from-count.false, c.from.ensures, c.count.ensures.count)) c.in-Some.is (sym c.if-meets.false ∙ c.in_ok-meets-in-Some.ensures) refl
