-- From which last writers a program reads.
use Rattle.salt_values.specs.Id.{has_id}
use Rattle.salt_model.specs.declared.places.Place.{Place}
use Rattle.salt_ranges.specs.Ranges.{has_key}
use Rattle.salt_ranges.specs.declared.range.KeyRange.{KeyRange}
use Rattle.salt_values.specs.Id.{is_same_id}
use Rattle.salt_values.specs.declared.id.Id.{Id}
use Rattle.std.specs.List.{list_any}
use Rattle.std.specs.Prelude.{Bool, List, not, ℕ, ◌&&◌, ◌==◌, ◌≡◌}

-- a reader of a range of a table reads what another program wrote at a place
abbrev pub is_read : Id → ℕ → KeyRange → Place → Id → Bool
is_read reader table range p source = (p.table == table) && (has_key range p.key && not (is_same_id source reader))

-- y wrote an entry last that the reader reads
abbrev pub reads_entry : Id → ℕ → KeyRange → Id → Place × Id → Bool
reads_entry reader table range y e = is_read reader table range e.0 e.1 && is_same_id y e.1

-- these are the last writers from which it reads
abbrev pub AreRead : Id → ℕ → KeyRange → List (Place × Id) → List Id → Type 0
AreRead reader table range writers found = (y : Id) → has_id y found ≡ list_any (reads_entry reader table range y) writers

-- these are the last writers from which it reads, and from which it did not read before
abbrev pub AreFresh : Id → ℕ → KeyRange → List (Place × Id) → (Id → Id → Bool) → List Id → Type 0
AreFresh reader table range writers reads fresh = (y : Id) → has_id y fresh ≡ (list_any (reads_entry reader table range y) writers && not (reads reader y))
