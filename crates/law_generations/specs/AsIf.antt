-- Another generation of the same store.
use Rattle.salt_stands.specs.Commits.{found_of, partition_count}
use Rattle.salt_stands.specs.Coordinator.{Coordinator, decided_for}
use Rattle.salt_stands.specs.Pieces.{PartView, is_prepared_in}
use Rattle.salt_stands.specs.Stands.{Found}
use Rattle.salt_values.specs.Id.{has_id}
use Rattle.salt_values.specs.declared.id.Id.{Id}
use Rattle.std.specs.Prelude.{false, ℕ, ◌<◌, ◌≡◌}

-- no entry of a partition and no decision names the unit
pub record IsNewName {D : Type 0} (c : Coordinator D) (v : ℕ → PartView) (u : Id) : Type 0 where
  pub fresh : (p : ℕ) → p < partition_count c → is_prepared_in u (v p).log.prepared ≡ false
  pub new : (p : ℕ) → p < partition_count c → has_id u (decided_for p c.log.told.decided) ≡ false

-- What it stands for is the same, it has as many partitions, and a unit's name that was new is new.
pub record IsAsIf {D : Type 0} (c : Coordinator D) (v : ℕ → PartView) (c' : Coordinator D) (v' : ℕ → PartView) : Type 0 where
  pub found : found_of c' v' ≡ found_of c v
  pub parts : partition_count c' ≡ partition_count c
  pub names : (u : Id) → IsNewName c v u → IsNewName c' v' u

-- what is found, in this format
abbrev pub in_format : {D : Type 0} → ℕ → Found D → Found D
in_format format found = record found { format = format }

-- The same in this format: what it stands for is the same but for that.
pub record IsAsIfIn {D : Type 0} (format : ℕ) (c : Coordinator D) (v : ℕ → PartView) (c' : Coordinator D) (v' : ℕ → PartView) : Type 0 where
  pub found : found_of c' v' ≡ in_format format (found_of c v)
  pub parts : partition_count c' ≡ partition_count c
  pub names : (u : Id) → IsNewName c v u → IsNewName c' v' u
