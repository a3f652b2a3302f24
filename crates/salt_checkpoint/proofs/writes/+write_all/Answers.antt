use Rattle.salt_checkpoint.proofs.Limits.{full_only, full_within}
use Rattle.salt_checkpoint.proofs.Torn.{end_first, end_rest, keeps_more, keeps_torn, spares_first, spares_rest}
use Rattle.salt_checkpoint.proofs.writes.+write_all.Goals as goal
use Rattle.salt_checkpoint.specs.Sides.{Spares, writes_end}
use Rattle.std.proofs.Common.{List, arith, drop, length, subst, sym, take, ap, ℕ, ◌+◌, ◌-◌}
use Rattle.std.proofs.lemmas.Result.{err_from_is_err_and}
use Rattle.std.specs.Result.{result_err}

pub returns-in_err-write_at-in-len1-up-clause-images : goal.returns-in_err-write_at-in-len1-up-clause-images
returns-in_err-write_at-in-len1-up-clause-images g t c sides spare =
    let w = c.first-item.result in
    let first : Spares sides w.at (length c.as_slice.result.now) = subst (λ (l : List ℕ). Spares sides w.at (length l)) (sym c.as_slice.ensures) (spares_first sides c.args.writes.now w c.in-len1-up.len_at_least c.first-item.is spare) in
    keeps_torn sides (g.D.Disks.view c.args.disks.now) (g.D.Disks.view c.write_at.new.self) c.args.dev w.at (length c.as_slice.result.now) first c.write_at.ensures.images

pub returns-in_ok-write_at-in-len1-up-clause-images : goal.returns-in_ok-write_at-in-len1-up-clause-images
returns-in_ok-write_at-in-len1-up-clause-images g t c sides spare =
    let w = c.first-item.result in
    let d0 = g.D.Disks.view c.args.disks.now in
    let d1 = g.D.Disks.view c.write_at.new.self in
    let d2 = g.D.Disks.view c.write_all.new.disks in
    let first : Spares sides w.at (length c.as_slice.result.now) = subst (λ (l : List ℕ). Spares sides w.at (length l)) (sym c.as_slice.ensures) (spares_first sides c.args.writes.now w c.in-len1-up.len_at_least c.first-item.is spare) in
    keeps_more sides d0 d1 d2 c.args.dev (keeps_torn sides d0 d1 c.args.dev w.at (length c.as_slice.result.now) first c.write_at.ensures.images) (c.write_all.ensures.images sides (spares_rest sides c.args.writes.now spare))

pub returns-in_err-write_at-in-len1-up-clause-full : goal.returns-in_err-write_at-in-len1-up-clause-full
returns-in_err-write_at-in-len1-up-clause-full g t c =
    let ws = c.args.writes.now in
    let w = c.first-item.result in
    let limit = (g.D.Disks.view c.args.disks.now).limit c.args.dev in
    let ends = end_first ws w c.in-len1-up.len_at_least c.first-item.is in
    let p = err_from_is_err_and c.from_residual.result c.from_residual.ensures.1 in
    rw (p.1, p.2) (full_only c.args.dev limit (writes_end ws) (w.at + length c.as_slice.result.now) c.in_err-write_at-in-len1-up.field-0.0 (omega (arith, ends, ap length c.as_slice.ensures)) c.in_err-write_at-in-len1-up.ensures.full)

pub returns-in_ok-write_at-in-len1-up-clause-full : goal.returns-in_ok-write_at-in-len1-up-clause-full
returns-in_ok-write_at-in-len1-up-clause-full g t c =
    let ws = c.args.writes.now in
    let d0 = g.D.Disks.view c.args.disks.now in
    let d1 = g.D.Disks.view c.write_at.new.self in
    let dev = c.args.dev in
    full_within dev (d0.limit dev) (d1.limit dev) (writes_end ws) (writes_end (take (length ws - 1) (drop 1 ws))) (result_err c.write_all.result) (c.write_at.ensures.others.shape.limit dev) (end_rest ws) c.write_all.ensures.full
