use Rattle.salt_rows.proofs.Written.{clean_rows}
use Rattle.salt_rows.proofs.store.RowStore.checkpoint.Goals as goal
use Rattle.salt_rows.specs.Stores.{HaveRows}
use Rattle.std.proofs.Common.{List, subst, sym, true, ℕ, ◌∙◌}

pub returns-clause-reads : goal.returns-clause-reads
returns-clause-reads g c = λ dev named t is told.
    let e = g.D.Disks.view c.flush.new.disks in
    let y = c.flush.new.self in
    let f = c.in_ok-flush.ensures in
    let stands = f.rows dev named t is in
    subst (λ (l : List ℕ). HaveRows true (e.bytes dev) l t) (f.sides ∙ sym (c.in_ok-sides.ensures ∙ c.as_slice.ensures.value))
    (clean_rows (e.bytes dev) y.pool y.sides.items y.space y.directory t (stands.is.told (f.others.shape.told ∙ told)) f.clean)
