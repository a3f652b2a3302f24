-- The header and the units of a partition's log, as the code keeps them, and what can be put into one.
use Rattle.salt_bytes.specs.Numbers.{take_32}
use Rattle.salt_bytes.specs.Partition.{PartitionHeader, Prepared, is_side}
use Rattle.salt_bytes.specs.Spellable.{Every}
use Rattle.salt_bytes.specs.Taking.{Take, give, only_if, take_byte, take_bytes, then_take}
use Rattle.salt_bytes.specs.Values.{HasRowTo, is_row_length}
use Rattle.salt_codec.specs.declared.header.Header.{Header}
use Rattle.salt_codec.specs.declared.prepared.PreparedUnit.{PreparedUnit}
use Rattle.salt_values.specs.Value.{IsValue, is_null, key_of}
use Rattle.salt_values.specs.declared.change.Change.{Change}
use Rattle.salt_values.specs.declared.value.Value.TheVariants.{Int, Null, Text}
use Rattle.salt_values.specs.declared.value.Value.{Value}
use Rattle.std.specs.List.{list_all}
use Rattle.std.specs.Prelude.{Bool, List, None, Option, Some, false, length, true, ℕ, ⊤, ◌<◌, ◌^◌, ◌≡◌}

abbrev pub header_of : Header → PartitionHeader
header_of h = record { format = h.format; generation = h.generation; part = h.part; sides = h.sides }

abbrev pub prepared_of : PreparedUnit → Prepared
prepared_of x = record { unit = x.unit; changes = x.changes.items }

-- what stands behind the generation of a header
abbrev pub take_pages_named : (format generation : ℕ) → Take PartitionHeader
take_pages_named format generation =
    then_take take_byte (λ part.
    then_take (then_take take_32 take_bytes) (λ sides. only_if (list_all is_side sides) (
    give (record { format = format; generation = generation; part = part; sides = sides }))))

-- each value of a row is one
abbrev pub IsToldTo : Option (List Value) → Type 0
IsToldTo None = ⊤
IsToldTo (Some row) = Every IsValue row

-- what holds of each change in hand
pub record IsTold (c : Change) : Type 0 where
  pub table : c.table < 2 ^ 16
  pub key : IsValue c.key
  pub row : IsToldTo c.row

abbrev pub HasRow : Change → Type 0
HasRow c = HasRowTo c.row

-- NULL only where it is spelled
abbrev pub MayStand : Bool → Value → Type 0
MayStand nulls (Int z) = ⊤
MayStand nulls (Text t) = ⊤
MayStand nulls Null = nulls ≡ true

-- a key that is removed is never NULL; a row that is put has 1 to 16 values, of which the first is its key
abbrev pub IsPutTo : Bool → Value → Option (List Value) → Type 0
IsPutTo nulls key None = is_null key ≡ false
IsPutTo nulls key (Some row) = (is_row_length (length row) ≡ true) × (key_of row ≡ key) × Every (MayStand nulls) row

-- a change that can be put into a log
abbrev pub CanBePut : Bool → Change → Type 0
CanBePut nulls c = IsPutTo nulls c.key c.row
