use Rattle.salt_directory.proofs.page.load_row.Goals as goal
use Rattle.std.proofs.Common.{Some, refl, ◌∙◌}

pub returns-in_ok-push-in-Some : goal.returns-in_ok-push-in-Some
returns-in_ok-push-in-Some c =
    let found = c.in-Some.ensures in
    let row = c.behind_number.ensures found.0 (c.spelled.ensures.taken found.0 found.1) in
    (Some found.0.row, (c.in-Some.i, found.0, found.1, (found.2.0 ∙ c.table.ensures, found.2.1), refl), refl, c.in_ok-push-in-Some.ensures found.0.row row)
