use Rattle.salt_books.proofs.Shown.{books-shown}
use Rattle.salt_books.proofs.books.Books.define_table.Goals as goal
use Rattle.salt_books.specs.Known.{IsKnown}
use Rattle.salt_model.specs.After.{defined_by}
use Rattle.salt_model.specs.Kept.{Definition}
use Rattle.std.proofs.Common.{List, ap, subst, sym, ◌+◌, ◌++◌, ◌∙◌}

pub returns-clause-told : goal.returns-clause-told
returns-clause-told c = λ s h.
    let was = books-shown _ _ s c.self.view_is h in (c.in_ok-defined.ensures.told.0 ∙ ap (λ n. n + 1) was.known.decisions, c.in_ok-defined.ensures.told.1)

pub returns-clause-state : goal.returns-clause-state
returns-clause-state c = λ s h line.
    let was = books-shown _ _ s c.self.view_is h in
    record {
      known = subst (λ (ds : List Definition). IsKnown c.define_table.new.self (record s.kept { decisions = s.kept.decisions + 1; definitions = s.kept.definitions ++ ds }))
          (sym (ap defined_by line)) (c.in_ok-defined.ensures.kept s.kept was.known);
      units = was.units;
      unit_count = was.unit_count;
      base_count = was.base_count;
      to_go = was.to_go;
      early = was.early;
      named = was.named;
      owes = was.owes;
    }
