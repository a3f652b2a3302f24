-- Books see no phase: what they are of a state they are of it in each.
use Rattle.salt_books.specs.Books.{AreBooks}
use Rattle.salt_books.specs.declared.books.Books.{Books}
use Rattle.law_states.specs.OpenUnits.{UnitState}
use Rattle.salt_model.specs.Phases.{Phase}

pub in-each-phase : (x : Books) (s : UnitState) (p : Phase) → AreBooks x s → AreBooks x (record s { phase = p })
in-each-phase x s p h = record {
  known = h.known;
  units = h.units;
  unit_count = h.unit_count;
  base_count = h.base_count;
  to_go = h.to_go;
  early = h.early;
  named = h.named;
  owes = h.owes;
}
