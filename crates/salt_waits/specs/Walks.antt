-- What a walk has seen.
use Rattle.std.specs.List.{Contains, sum_by}
use Rattle.salt_waits.specs.Graphs.{Graph, HasEdge, Leads}
use Rattle.salt_waits.specs.declared.walk.Walk.{Walk}
use Rattle.std.specs.Prelude.{Bool, List, [], false, length, slice_index_or, true, ℕ, ◌*◌, ◌+◌, ◌≡◌, ◌≤◌, ◌⊎◌}

abbrev pub IsSeen : Walk → ℕ → Type 0
IsSeen w v = slice_index_or w.seen.items v false ≡ true

abbrev pub IsStarted : ℕ → Walk → Type 0
IsStarted n w = (length w.seen.items ≡ n) × ((v : ℕ) → IsSeen w v → ⊥) × (w.left.items ≡ [])

abbrev pub one_if_unseen : Bool → ℕ
one_if_unseen true = 0
one_if_unseen false = 1

abbrev pub unseen : List Bool → ℕ
unseen seen = sum_by one_if_unseen seen

-- how many steps a walk may still take
abbrev pub steps_left : Walk → ℕ
steps_left w = 2 * unseen w.seen.items + length w.left.items

-- these vertices are seen too, and those that are new are left to be followed
pub record Adds (vs : List ℕ) (old new : Walk) : Type 0 where
  pub long : length new.seen.items ≡ length old.seen.items
  pub keeps : (v : ℕ) → IsSeen old v → IsSeen new v
  pub all : (v : ℕ) → Contains vs v → IsSeen new v
  pub only : (v : ℕ) → IsSeen new v → IsSeen old v ⊎ Contains vs v
  pub follows : (v : ℕ) → IsSeen new v → IsSeen old v ⊎ Contains new.left.items v
  pub keeps_left : (v : ℕ) → Contains old.left.items v → Contains new.left.items v
  pub left_seen : (v : ℕ) → Contains new.left.items v → Contains old.left.items v ⊎ IsSeen new v
  pub fewer : steps_left new ≤ steps_left old

-- what was seen is where edges lead from the start; what is not left was followed
pub record IsWalk (g : Graph) (start : ℕ) (w : Walk) : Type 0 where
  pub long : length w.seen.items ≡ length g
  pub led : (v : ℕ) → IsSeen w v → Leads g start v
  pub begun : (v : ℕ) → HasEdge g start v → IsSeen w v
  pub followed : (u : ℕ) → IsSeen w u → Contains w.left.items u ⊎ ((v : ℕ) → HasEdge g u v → IsSeen w v)
  pub left_seen : (v : ℕ) → Contains w.left.items v → IsSeen w v
