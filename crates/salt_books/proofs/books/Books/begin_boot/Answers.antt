use Rattle.salt_books.proofs.Shown.{books-shown}
use Rattle.salt_books.proofs.books.Books.begin_boot.Goals as goal
use Rattle.std.proofs.Common.{refl}

pub returns : goal.returns
returns c = λ s decisions h.
    let was = books-shown _ _ s c.self.view_is h in
    record {
      known = c.begin_boot.ensures s.kept was.known;
      units = was.units;
      unit_count = refl;
      base_count = refl;
      to_go = was.to_go;
      early = was.early;
      named = was.named;
      owes = was.owes;
    }
