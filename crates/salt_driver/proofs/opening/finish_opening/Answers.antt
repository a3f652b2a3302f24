use Rattle.salt_driver.proofs.opening.finish_opening.Goals as goal
use Rattle.std.proofs.lemmas.Result.{err_from_is_err_and}

pub returns-in_err-_units-clause-counts : goal.returns-in_err-_units-clause-counts
returns-in_err-_units-clause-counts g c =
    let p = err_from_is_err_and c.from_residual.result c.from_residual.ensures.1 in
    rw (p.1, p.2) c.in_err-_units.ensures.counts
