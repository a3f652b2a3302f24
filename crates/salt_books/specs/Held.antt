-- A unit that is held, as an open unit.
use Rattle.law_states.specs.OpenUnits.{OpenUnit, belongs_to_program, belongs_to_session}
use Rattle.law_states.specs.Overlays.{edits_of}
use Rattle.salt_books.specs.declared.held.Held.{Held}
use Rattle.salt_values.specs.declared.id.Id.{Id}
use Rattle.std.specs.Prelude.{Bool, ℕ}

abbrev pub seen : Held → OpenUnit
seen h = record {
  unit = h.open.unit;
  kind = h.kind;
  single = h.single;
  waiting = h.waiting;
  asks = h.asks;
  done = h.done;
  vars = h.open.vars;
  changes = edits_of h.open.changes.items;
}

-- whether a unit that is held is a session's, and a program's
unfoldable pub is_of_session : ℕ → Held → Bool
is_of_session session h = belongs_to_session session (seen h)

unfoldable pub is_of_program : Id → Held → Bool
is_of_program base h = belongs_to_program base (seen h)
