use Rattle.salt_books.specs.declared.books.Books.{Books}
use Rattle.salt_database.proofs.OpenDone.{known-by}
use Rattle.salt_database.proofs.reopening.fallen.Goals as goal
use Rattle.salt_database.specs.Standing.{opening_books}
use Rattle.std.proofs.Common.{ap, refl, sym, ◌∙◌}
use Rattle.std.specs.Prelude.{Some}

pub returns-in-Going-clause-books : goal.returns-in-Going-clause-books
returns-in-Going-clause-books c = λ s why k.
    (c.books_fallen.result, refl, c.books_fallen.ensures s why (known-by (opening_books c.args.stage) _ s (ap opening_books c.going.ensures ∙ ap (λ (y : Books). Some y) (sym c.into_books.ensures)) k))

pub returns-in-Down-clause-books : goal.returns-in-Down-clause-books
returns-in-Down-clause-books c = λ s why k.
    (c.books_fallen-in-Down.result, refl, c.books_fallen-in-Down.ensures s why (known-by (opening_books c.args.stage) _ s (ap opening_books c.down.ensures) k))
