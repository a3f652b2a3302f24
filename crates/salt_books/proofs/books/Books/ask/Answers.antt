use Rattle.salt_books.proofs.Shown.{books-shown}
use Rattle.salt_books.proofs.books.Books.ask.Goals as goal
use Rattle.std.proofs.Common.{◌∙◌}

pub returns : goal.returns
returns c = λ s h.
    let was = books-shown _ _ s c.self.view_is h in
    record {
      known = was.known;
      units = was.units;
      unit_count = was.unit_count;
      base_count = was.base_count;
      to_go = c.from_vec.ensures ∙ c.in_ok-bases.ensures s h;
      early = was.early;
      named = was.named;
      owes = c.does_something-self-inside.ensures;
    }
