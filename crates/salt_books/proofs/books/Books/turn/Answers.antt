use Rattle.salt_books.proofs.Shown.{books-shown}
use Rattle.salt_books.proofs.books.Books.turn.Goals as goal
use Rattle.salt_model.specs.Turns.{ids_after}
use Rattle.std.proofs.Common.{ap, ◌∙◌}

pub returns : goal.returns
returns c = λ s h.
    let was = books-shown _ _ s c.self.view_is h in
    record {
      known = was.known;
      units = was.units;
      unit_count = was.unit_count;
      base_count = was.base_count;
      to_go = c.in_ok-pass.ensures ∙ ap (ids_after c.args.base) was.to_go;
      early = was.early;
      named = was.named;
      owes = c.still_owes-owes.ensures s h;
    }
