-- Changes that can be put into a log are read again.
use Rattle.salt_bytes.proofs.Logs.{reads_prepared}
use Rattle.salt_bytes.specs.Changes.{are_in_order}
use Rattle.salt_bytes.specs.Partition.{Prepared, prepared_in, spell_prepared}
use Rattle.salt_bytes.specs.Spellable.{AreSpellableValues, Every, IsSpellableChange, IsSpellableId, IsSpellableTo, IsSpellableValue}
use Rattle.salt_bytes.specs.Values.{HasRowTo}
use Rattle.salt_codec.specs.Entries.{HasRow, CanBePut, IsPutTo, IsTold, IsToldTo, MayStand}
use Rattle.salt_values.specs.Value.{IsValue, is_null}
use Rattle.salt_values.specs.declared.change.Change.{Change}
use Rattle.salt_values.specs.declared.value.Value.TheVariants.{Int, Null, Text}
use Rattle.salt_values.specs.declared.value.Value.{Value}
use Rattle.std.proofs.Common.{Bool, List, None, Option, Some, [], false, length, true, ◌<◌, ◌^◌, ◌≡◌, ◌∷◌}

spellable_value : (nulls : Bool) (v : Value) → IsValue v → MayStand nulls v → IsSpellableValue nulls v
spellable_value nulls (Int z) told may = told
spellable_value nulls (Text t) told may = told
spellable_value nulls Null told may = may

spellable_key : (v : Value) → IsValue v → is_null v ≡ false → IsSpellableValue false v
spellable_key (Int z) told key = told
spellable_key (Text t) told key = told
spellable_key Null told key = absurd cc

spellable_values : (nulls : Bool) (vs : List Value) → Every IsValue vs → Every (MayStand nulls) vs → AreSpellableValues nulls vs
spellable_values nulls [] told may = tt
spellable_values nulls (v ∷ vs) told may = (spellable_value nulls v told.0 may.0, spellable_values nulls vs told.1 may.1)

spellable_to : (nulls : Bool) (key : Value) (row : Option (List Value)) → IsValue key → IsToldTo row → IsPutTo nulls key row → IsSpellableTo nulls key row
spellable_to nulls key None told row put = spellable_key key told put
spellable_to nulls key (Some vs) told row put = ((put.0, spellable_values nulls vs row put.2), put.1)

spellable_changes : (nulls : Bool) (cs : List Change) → Every IsTold cs → Every (CanBePut nulls) cs → Every (IsSpellableChange nulls) cs
spellable_changes nulls [] told put = tt
spellable_changes nulls (c ∷ cs) told put = (record { table = told.0.table; to = spellable_to nulls c.key c.row told.0.key told.0.row put.0 }, spellable_changes nulls cs told.1 put.1)

pub read_again : (x : Prepared) → IsSpellableId x.unit → length x.changes < 2 ^ 64 → Every IsTold x.changes
    → (nulls : Bool) → Every (CanBePut nulls) x.changes → are_in_order x.changes ≡ true → prepared_in nulls (spell_prepared x) ≡ Some x
read_again x unit count told nulls put ordered = reads_prepared nulls x (record { unit = unit; count = count; changes = spellable_changes nulls x.changes told put; ordered = ordered })

row_put : (nulls : Bool) (key : Value) (row : Option (List Value)) → IsPutTo nulls key row → HasRowTo row
row_put nulls key None put = tt
row_put nulls key (Some vs) put = put.0

-- what can be put has rows of 1 to 16 values
pub rows_put : (nulls : Bool) (cs : List Change) → Every (CanBePut nulls) cs → Every HasRow cs
rows_put nulls [] put = tt
rows_put nulls (c ∷ cs) put = (row_put nulls c.key c.row put.0, rows_put nulls cs put.1)
