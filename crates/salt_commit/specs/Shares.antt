-- A unit's changes by their partitions.
use Rattle.salt_bytes.specs.Coordinator.{Decision}
use Rattle.salt_shares.specs.Shares.{has_changes}
use Rattle.salt_stands.specs.Coordinator.{Coordinator}
use Rattle.salt_stands.specs.Pieces.{listed}
use Rattle.salt_stands.specs.Placed.{changes_at}
use Rattle.salt_values.specs.declared.change.Change.{Change}
use Rattle.salt_values.specs.declared.id.Id.{Id}
use Rattle.salt_place.specs.declared.placement.Shape.{Shape}
use Rattle.std.specs.Prelude.{Bool, List, [], false, true, ℕ, ◌*◌, ◌+◌, ◌∷◌}

-- the changes of each partition, in order of their numbers
abbrev pub shares_of : Shape → List Change → List (List Change)
shares_of shape cs = listed (λ p. changes_at shape p cs) 0 shape.parts

abbrev pub bit_of : Bool → ℕ
bit_of true = 1
bit_of false = 0

-- the number whose binary digits, from the lowest on, tell which shares have changes
abbrev pub mask_of : List (List Change) → ℕ
mask_of [] = 0
mask_of (s ∷ ss) = bit_of (has_changes s) + 2 * mask_of ss

-- the decision that comes next: the unit, its partitions and its move
abbrev pub next_decision : {D : Type 0} → Coordinator D → Id → List Change → List ℕ → Decision
next_decision c u cs mv = record { number = c.log.told.decisions + 1; unit = u; mask = mask_of (shares_of c.log.header.shape cs); move = mv }
