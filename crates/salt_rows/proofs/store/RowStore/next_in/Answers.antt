use Rattle.salt_directory.proofs.Nexts.{next_key, no_next, the_next}
use Rattle.salt_directory.specs.Directories.{IsNextPlace, first_behind}
use Rattle.salt_rows.proofs.store.RowStore.next_in.Goals as goal
use Rattle.salt_directory.specs.Pages.{page_of}
use Rattle.salt_model.specs.Tables.{place}
use Rattle.salt_values.specs.declared.value.Value.{Value}
use Rattle.std.proofs.Common.{None, Some, ap, option_copied, subst, ◌≡◌, ◌∙◌}
use Rattle.std.specs.Prelude.{IfSome}

pub returns-in_ok-row-in-Some-clause-row : goal.returns-in_ok-row-in-Some-clause-row
returns-in_ok-row-in-Some-clause-row g c = λ dev named t is told.
    let has = is.is.told told in
    let es = c.args.self.now.directory in
    let after = option_copied c.args.after in
    the_next c.args.table c.args.range.now after es t has.rows.keys (c.in-Some.key, c.in-Some.page)
    (subst (IsNextPlace c.args.table c.args.range.now (first_behind c.args.table c.args.range.now after es)) c.in-Some.is c.in_ok-key.ensures.next)
    c.in_ok-row-in-Some.row (c.in_ok-row-in-Some.ensures.row dev named t is told)

pub returns-in-None-clause-row : goal.returns-in-None-clause-row
returns-in-None-clause-row g c = λ dev named t is told.
    let has = is.is.told told in
    let es = c.args.self.now.directory in
    let after = option_copied c.args.after in
    no_next c.args.table c.args.range.now after es t has.rows.keys
    (subst (IsNextPlace c.args.table c.args.range.now (first_behind c.args.table c.args.range.now after es)) c.in-None.is c.in_ok-key.ensures.next)

pub returns-in_ok-row-in-Some-clause-key : goal.returns-in_ok-row-in-Some-clause-key
returns-in_ok-row-in-Some-clause-key g c =
    let es = c.args.self.now.directory in
    let after = option_copied c.args.after in
    let is = c.in_ok-key.ensures in
    ap (λ (k : Value). Some k) c.in_ok-row-in-Some.ensures.key
    ∙ next_key c.args.table c.args.range.now after es is.ordered (Some (c.in-Some.key, c.in-Some.page)) (subst (IsNextPlace c.args.table c.args.range.now (first_behind c.args.table c.args.range.now after es)) c.in-Some.is is.next)
    (subst (λ o. IfSome o (λ f. page_of es (place c.args.table f.0) ≡ Some f.1)) c.in-Some.is is.found)

pub returns-in-None-clause-key : goal.returns-in-None-clause-key
returns-in-None-clause-key g c =
    let es = c.args.self.now.directory in
    let after = option_copied c.args.after in
    let is = c.in_ok-key.ensures in
    next_key c.args.table c.args.range.now after es is.ordered None (subst (IsNextPlace c.args.table c.args.range.now (first_behind c.args.table c.args.range.now after es)) c.in-None.is is.next) tt
