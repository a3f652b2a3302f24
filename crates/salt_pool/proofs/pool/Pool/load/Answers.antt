use Rattle.salt_pool.proofs.Frames.{no_frame}
use Rattle.salt_pool.proofs.Pools.{page_found, pool_found}
use Rattle.salt_pool.proofs.pool.Pool.load.Goals as goal
use Rattle.salt_pool.specs.Pools.{frame_of}
use Rattle.salt_pool.specs.declared.error.PoolErr.TheVariants.{NotPage}
use Rattle.std.proofs.Common.{Err, Some, ap, sym, ◌≡◌, ◌∙◌}
use Rattle.std.proofs.lemmas.Result.{err_from_is_err_and}
use Rattle.std.specs.Result.{result_err}

pub returns-then-contains-clause-ready : goal.returns-then-contains-clause-ready
returns-then-contains-clause-ready g c = page_found c.args.self.now c.args.page (sym c.contains.ensures ∙ c.if-contains.true)

pub returns-then-contains-clause-pool : goal.returns-then-contains-clause-pool
returns-then-contains-clause-pool g c = pool_found c.args.self.now c.args.page c.requires.pool (sym c.contains.ensures ∙ c.if-contains.true)

pub returns-in_err-read-clause-not_page : goal.returns-in_err-read-clause-not_page
returns-in_err-read-clause-not_page g c is =
    let p = err_from_is_err_and c.from_residual.result c.from_residual.ensures.1 in
    let one : Some p.0 ≡ Some NotPage = ap result_err (sym p.1) ∙ is in
    let own : c.in_err-read.field-0.0 ≡ NotPage = cc (one, p.2) in
    (no_frame (frame_of c.args.self.now c.args.page) (sym c.contains.ensures ∙ c.if-contains.false), c.in_err-read.ensures.not_page (ap Err own))
