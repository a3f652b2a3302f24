-- Tables that have the same rows where a statement looks.
use Rattle.salt_model.specs.Tables.{Tables, is_within, row_at}
use Rattle.salt_model.specs.declared.locks.Reach.{Reach}
use Rattle.salt_model.specs.declared.places.Place.{Place}
use Rattle.std.specs.Prelude.{None, Option, Some, true, ⊤, ◌≡◌}

-- at each place of a reach, if there is one, both have the same row, or none
abbrev pub AgreeOn : Option Reach → Tables → Tables → Type 0
AgreeOn None a b = ⊤
AgreeOn (Some r) a b = (p : Place) → is_within r p ≡ true → row_at p a ≡ row_at p b
