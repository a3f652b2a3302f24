-- What a unit changes, in order of table and key.
use Rattle.salt_values.specs.Value.{value_cmp, key_of}
use Rattle.salt_values.specs.declared.value.Value.{Value}
use Rattle.salt_values.specs.declared.change.Change.{Change}
use Rattle.salt_bytes.specs.Numbers.{spell_16, take_16}
use Rattle.salt_bytes.specs.Taking.{Take, give, take_byte, then_take}
use Rattle.salt_bytes.specs.Values.{spell_value, take_row, take_value, spell_values}
use Rattle.std.specs.Ordering.{is_lt, nat_cmp, on, then_cmp}
use Rattle.std.specs.Prelude.{Bool, List, None, Option, Some, [], false, suc, true, zero, ℕ, ◌&&◌, ◌++◌, ◌∷◌}
use Rattle.std.specs.declared.cmp.Ordering.{Ordering}

-- by table, and then by key
abbrev pub change_cmp : Change → Change → Ordering
change_cmp = then_cmp (on (λ c. c.table) nat_cmp) (on (λ c. c.key) value_cmp)

abbrev pub spell_change_to : Value → Option (List Value) → List ℕ
spell_change_to key None = 0 ∷ spell_value key
spell_change_to key (Some row) = 1 ∷ spell_values row

abbrev pub spell_change : Change → List ℕ
spell_change c = spell_16 c.table ++ spell_change_to c.key c.row

-- byte 0 and a key, which is no Null, or byte 1 and a row
abbrev pub take_change_to : Bool → ℕ → ℕ → Take Change
take_change_to nulls table zero = then_take (take_value false) (λ key. give (record { table = table; key = key; row = None }))
take_change_to nulls table (suc zero) = then_take (take_row nulls) (λ row. give (record { table = table; key = key_of row; row = Some row }))
take_change_to nulls table (suc (suc n)) = λ bytes. None

abbrev pub take_change : Bool → Take Change
take_change nulls = then_take take_16 (λ table. then_take take_byte (take_change_to nulls table))

-- in order, each key once
abbrev pub are_in_order : List Change → Bool
are_in_order [] = true
are_in_order (c ∷ cs) = is_before c cs && are_in_order cs
  where
    is_before : Change → List Change → Bool
    is_before c [] = true
    is_before c (d ∷ ds) = is_lt (change_cmp c d)
