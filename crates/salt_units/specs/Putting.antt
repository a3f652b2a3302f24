-- A change put into changes that are in order of their places, and where it stands.
use Rattle.salt_model.specs.Tables.{changed_at, place_cmp}
use Rattle.salt_model.specs.declared.places.Place.{Place}
use Rattle.salt_values.specs.declared.change.Change.{Change}
use Rattle.std.specs.FinMap.Entries.{by_order}
use Rattle.std.specs.List.Sorted.{IsPartitionPoint}
use Rattle.std.specs.Ordering.{is_lt}
use Rattle.std.specs.Prelude.{Bool, List, [], false, true, ℕ, ◌∷◌, ◌≡◌}

-- in its place, and in the place of one that is there
abbrev pub put_change : Change → List Change → List Change
put_change c [] = c ∷ []
put_change c (d ∷ ds) = by_order (place_cmp (changed_at c) (changed_at d)) (c ∷ d ∷ ds) (c ∷ ds) (d ∷ put_change c ds)

-- one after another
abbrev pub put_each : List Change → List Change → List Change
put_each [] ds = ds
put_each (c ∷ cs) ds = put_each cs (put_change c ds)

-- so many changes stand at places that pass a test, and no one behind them does
abbrev pub ArePassed : (Place → Bool) → List Change → ℕ → Type 0
ArePassed passes ds n = IsPartitionPoint (λ d. passes (changed_at d) ≡ true) (λ d. passes (changed_at d) ≡ false) ds n

-- a place before another one
abbrev pub is_before : Place → Place → Bool
is_before p q = is_lt (place_cmp q p)
