use Rattle.salt_found.proofs.Following.{one_fails}
use Rattle.salt_found.proofs.conts.follow_all.Goals as goal
use Rattle.std.proofs.lemmas.Result.{err_from_is_err_and}

pub returns-in_err-follow : goal.returns-in_err-follow
returns-in_err-follow c =
    let l = c.loop-mv in
    let p = err_from_is_err_and c.from_residual-in_err-follow.result c.from_residual-in_err-follow.ensures.1 in
    rw (p.1, p.2)
    (one_fails c.args.catalogue.now c.args.kept.now l.mv-index l.conts l.invariant c.as_slice-mv-items.result.now c.as_slice-mv-items.ensures c.mv-item.result c.loop-mv-test.true c.mv-item.is
    c.as_slice-in-loop-mv.result.now c.as_slice-in-loop-mv.ensures c.in_err-follow.field-0.0 c.follow.new.conts (c.in_err-follow.ensures l.invariant.rises))
