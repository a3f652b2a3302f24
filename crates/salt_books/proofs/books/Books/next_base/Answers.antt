use Rattle.salt_books.proofs.Shown.{books-shown}
use Rattle.salt_books.proofs.books.Books.next_base.Goals as goal
use Rattle.std.proofs.Common.{ap, ◌+◌, ◌∙◌}

pub returns : goal.returns
returns c = λ s h i.
    let was = books-shown _ _ s c.self.view_is h in
    record {
      boot = (c.boot.ensures ∙ was.known.boot) i;
      seq = (c.in_ok-next_number.ensures ∙ ap (λ n. n + 1) was.base_count) i;
    }
