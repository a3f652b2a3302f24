-- Rows that are loaded for a reach, under a unit's edits, are a view of the tables there.
use Rattle.salt_books.specs.Books.{AreLoaded}
use Rattle.law_states.specs.Overlays.{AreInOrder, Edit, Views, with_edits}
use Rattle.salt_model.specs.Tables.{Tables, is_within, row_at}
use Rattle.salt_model.specs.declared.locks.Reach.{Reach}
use Rattle.salt_model.specs.declared.places.Place.{Place}
use Rattle.std.proofs.Common.{ap, ◌∙◌}
use Rattle.std.specs.Prelude.{List, None, Option, Some, if◌then◌else◌, true, ◌≡◌}

-- what a view of the rows in a reach is made of
abbrev pub Stored : Type 0
Stored = (r : Reach) (ds : List Edit) (es rows : Tables) → AreInOrder ds →
    ((q : Place) → is_within r q ≡ true → row_at q rows ≡ row_at q es) → Views (Some r) ds es (with_edits ds rows)

pub loaded-views : Stored → (found : Option Reach) (ds : List Edit) (es rows : Tables) → AreInOrder ds → AreLoaded found rows es →
    Views found ds es (with_edits ds rows)
loaded-views stored None ds es rows sorted loaded = tt
loaded-views stored (Some r) ds es rows sorted loaded =
    stored r ds es rows sorted (λ q here. loaded q ∙ ap (λ t. if t then row_at q es else None) here)
