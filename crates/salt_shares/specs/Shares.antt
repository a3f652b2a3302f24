-- The share of a unit's changes that falls to a partition, and what it makes of it.
use Rattle.salt_partition.specs.Partitions.{MayPrepare, prepared}
use Rattle.salt_stands.specs.Pieces.{PartView, with_prepared_unit}
use Rattle.salt_values.specs.declared.change.Change.{Change}
use Rattle.salt_values.specs.declared.id.Id.{Id}
use Rattle.std.specs.Prelude.{Bool, List, [], false, if◌then◌else◌, suc, true, zero, ℕ, ◌++◌, ◌∷◌, ◌≡◌}

-- the one at a place, none past the last
abbrev pub share_at : List (List Change) → ℕ → List Change
share_at [] p = []
share_at (s ∷ ss) zero = s
share_at (s ∷ ss) (suc p) = share_at ss p

abbrev pub has_changes : List Change → Bool
has_changes [] = false
has_changes (c ∷ cs) = true

-- its entry, and the unit among those that are applied; an empty one makes nothing
abbrev pub with_share : Id → List Change → PartView → PartView
with_share u cs v = if has_changes cs then with_prepared_unit v (prepared u cs) else v

abbrev pub applied_with : Id → List Change → List Id → List Id
applied_with u cs us = if has_changes cs then us ++ u ∷ [] else us

-- a share may be prepared, unless it is empty
abbrev pub MayPrepareShare : PartView → List Id → Id → List Change → Type 0
MayPrepareShare v applied u cs = has_changes cs ≡ true → MayPrepare v applied u cs
