use Rattle.salt_books.proofs.Shown.{books-shown}
use Rattle.salt_books.proofs.books.Books.fall.Goals as goal
use Rattle.std.proofs.Common.{refl}

pub returns : goal.returns
returns c = λ s why h.
    let was = books-shown _ _ s c.self.view_is h in
    record {
      known = was.known;
      units = was.units;
      unit_count = was.unit_count;
      base_count = was.base_count;
      to_go = c.new.ensures;
      early = was.early;
      named = was.named;
      owes = refl;
    }
