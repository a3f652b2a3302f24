-- A partition's log: its header and its prepared units, as they are spelled.
use Rattle.salt_values.specs.declared.change.Change.{Change}
use Rattle.salt_bytes.specs.Changes.{are_in_order, spell_change, take_change}
use Rattle.salt_bytes.specs.Coordinator.{take_word}
use Rattle.salt_bytes.specs.Ids.{spell_id, take_id}
use Rattle.salt_bytes.specs.Numbers.{spell_32, spell_64, spell_counted, take_32, take_64, take_counted}
use Rattle.salt_bytes.specs.Taking.{Take, give, only_if, take_byte, take_bytes, then_take, whole}
use Rattle.salt_values.specs.declared.id.Id.{Id}
use Rattle.std.specs.List.{list_all}
use Rattle.std.specs.Prelude.{Bool, List, Option, codes, length, nat_le, ℕ, ◌&&◌, ◌++◌, ◌==◌, ◌∷◌}

pub record PartitionHeader : Type 0 where
  pub format : ℕ
  pub generation : ℕ
  pub part : ℕ
  -- the side of each page
  pub sides : List ℕ

abbrev pub spell_partition_header : PartitionHeader → List ℕ
spell_partition_header h =
    codes "SALTP" ++ (h.format ∷ spell_64 h.generation ++ (h.part ∷ spell_32 (length h.sides) ++ h.sides))

abbrev pub is_side : ℕ → Bool
is_side side = nat_le side 1

abbrev pub take_partition_header : Take PartitionHeader
take_partition_header =
    then_take (take_word (codes "SALTP")) (λ word.
    then_take take_byte (λ format. only_if (nat_le 1 format && nat_le format 2) (
    then_take take_64 (λ generation. only_if (nat_le 1 generation) (
    then_take take_byte (λ part.
    then_take (then_take take_32 take_bytes) (λ sides. only_if (list_all is_side sides) (
    give (record { format = format; generation = generation; part = part; sides = sides })))))))))

-- a unit is prepared: its changes in this partition
pub record Prepared : Type 0 where
  pub unit : Id
  pub changes : List Change

abbrev pub spell_prepared : Prepared → List ℕ
spell_prepared p = 1 ∷ spell_id p.unit ++ spell_counted spell_change p.changes

abbrev pub take_prepared : Bool → Take Prepared
take_prepared nulls =
    then_take take_byte (λ kind. only_if (kind == 1) (
    then_take take_id (λ unit.
    then_take (take_counted (take_change nulls)) (λ changes. only_if (are_in_order changes) (
    give (record { unit = unit; changes = changes }))))))

abbrev pub partition_header_in : List ℕ → Option PartitionHeader
partition_header_in bytes = whole take_partition_header bytes

abbrev pub prepared_in : Bool → List ℕ → Option Prepared
prepared_in nulls bytes = whole (take_prepared nulls) bytes
