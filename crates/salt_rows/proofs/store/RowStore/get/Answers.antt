use Rattle.salt_directory.proofs.Changed.{none_at}
use Rattle.salt_directory.specs.Pages.{page_of}
use Rattle.salt_model.specs.Tables.{place}
use Rattle.salt_rows.proofs.store.RowStore.get.Goals as goal
use Rattle.std.proofs.Common.{ap, sym, ◌∙◌}

pub returns-in-None-clause-row : goal.returns-in-None-clause-row
returns-in-None-clause-row g c = λ dev named t is told.
    let has = is.is.told told in
    let es = c.args.self.now.directory in
    sym (none_at es has.pages t has.rows (place c.args.table c.args.key.now) (ap (λ k. page_of es (place c.args.table k)) (sym c.in_ok-copy.ensures) ∙ sym c.look_for.ensures.page ∙ c.in-None.is))
