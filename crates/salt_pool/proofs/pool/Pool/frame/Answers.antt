use Rattle.salt_pool.proofs.pool.Pool.frame.Goals as goal
use Rattle.salt_pool.specs.Pools.{IsPool}
use Rattle.std.proofs.Common.{refl, subst, sym}
use Rattle.std.proofs.lemmas.Bool.{false≢true}
use Rattle.std.proofs.lemmas.Result.{err_from_is_err_and}

pub returns-in_err-load : goal.returns-in_err-load
returns-in_err-load g c =
    let p = err_from_is_err_and c.from_residual.result c.from_residual.ensures.1 in
    let said = c.in_err-load.ensures in
    rw (p.1, p.2) ((refl, λ w is. absurd (false≢true is), said.err), record { writes_back = tt; value = tt; full = said.full; not_page = said.not_page; no_call = said.no_call; kept = said.kept; cause = said.cause; answers = said.answers })

pub returns : goal.returns
returns g c =
    let said = c.in_ok-load.ensures in (
      (refl, λ w is. (said.ready w, subst IsPool (sym (said.ready w)) (said.pool w)), tt),
      record {
        writes_back = tt;
        value = said.value c.in-Some.lent.now (sym c.in-Some.ensures.value);
        full = said.full;
        not_page = said.not_page;
        no_call = said.no_call;
        kept = said.kept;
        cause = said.cause;
        answers = said.answers;
      },
    )
