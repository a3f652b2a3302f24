-- What can be spelled: numbers that fit their width, values, and what is made of them.
use Rattle.salt_bytes.specs.declared.moves.Move.{Move}
use Rattle.salt_bytes.specs.declared.moves.Move.TheVariants.{Continue, Finish, Plain}
use Rattle.salt_values.specs.declared.change.Change.{Change}
use Rattle.salt_values.specs.declared.cont.Cont.{Cont}
use Rattle.salt_values.specs.declared.value.Value.{Value}
use Rattle.salt_values.specs.declared.value.Value.TheVariants.{Int, Null, Text}
use Rattle.salt_bytes.specs.Changes.{are_in_order}
use Rattle.salt_bytes.specs.Coordinator.{Boots, CoordinatorEntry, CoordinatorHeader, Decides, Decision, Defines, NumberedText, is_number_of_parts}
use Rattle.salt_bytes.specs.Formats.{has_nulls, has_tries}
use Rattle.salt_bytes.specs.Page.{TableRow, page_front, page_length}
use Rattle.salt_bytes.specs.Partition.{PartitionHeader, Prepared, is_side}
use Rattle.salt_bytes.specs.Values.{is_row_length}
use Rattle.salt_values.specs.Text.{is_text}
use Rattle.salt_values.specs.declared.id.Id.{Id}
use Rattle.std.specs.Int.{w64}
use Rattle.std.specs.List.{list_all}
use Rattle.std.specs.Prelude.{Bool, FitsSigned, List, None, Option, Some, [], false, length, nat_le, nat_lt, true, ℕ, ⊤, ◌&&◌, ◌<◌, ◌^◌, ◌∷◌, ◌≡◌, ◌≤◌}
use Rattle.salt_values.specs.Value.{key_of}

-- a fact of each element
abbrev pub Every : {A : Type 0} → (A → Type 0) → List A → Type 0
Every P [] = ⊤
Every P (x ∷ xs) = P x × Every P xs

-- where nulls are spelled, or not
abbrev pub IsSpellableValue : Bool → Value → Type 0
IsSpellableValue nulls (Int z) = FitsSigned w64 z
IsSpellableValue nulls (Text t) = is_text t ≡ true
IsSpellableValue nulls Null = nulls ≡ true

abbrev pub AreSpellableValues : Bool → List Value → Type 0
AreSpellableValues nulls vs = Every (IsSpellableValue nulls) vs

abbrev pub IsSpellableRow : Bool → List Value → Type 0
IsSpellableRow nulls row = (is_row_length (length row) ≡ true) × AreSpellableValues nulls row

pub record IsSpellableId (u : Id) : Type 0 where
  pub boot : u.boot < 2 ^ 64
  pub seq : u.seq < 2 ^ 64

-- without the byte for tries there are none
abbrev pub IsSpellableTries : Bool → ℕ → Type 0
IsSpellableTries true tries = ⊤
IsSpellableTries false tries = tries ≡ 0

pub record IsSpellableCont (format : ℕ) (c : Cont) : Type 0 where
  pub base : IsSpellableId c.base
  pub accepted : c.accepted < 2 ^ 64
  pub args : AreSpellableValues (has_nulls format) c.args
  pub vars : AreSpellableValues (has_nulls format) c.vars
  pub next : c.next < 2 ^ 32
  pub tries : IsSpellableTries (has_tries format) c.tries

abbrev pub IsSpellableMove : ℕ → Move → Type 0
IsSpellableMove format Plain = ⊤
IsSpellableMove format (Continue c) = IsSpellableCont format c
IsSpellableMove format (Finish base) = IsSpellableId base

pub record IsSpellableNumbered (d : NumberedText) : Type 0 where
  pub number : d.number < 2 ^ 64
  pub text : length d.text < 2 ^ 64

pub record IsSpellableHeader (h : CoordinatorHeader) : Type 0 where
  pub format : (nat_le 1 h.format && nat_le h.format 3) ≡ true
  pub generation : h.generation < 2 ^ 64
  pub first : nat_le 1 h.generation ≡ true
  pub parts : is_number_of_parts h.shape.parts ≡ true
  pub boot : h.boot < 2 ^ 64
  pub decisions : h.decisions < 2 ^ 64
  pub count : length h.definitions < 2 ^ 64
  pub definitions : Every IsSpellableNumbered h.definitions
  pub open_count : length h.conts < 2 ^ 64
  pub conts : Every (IsSpellableCont h.format) h.conts

pub record IsSpellableDecision (parts : ℕ) (d : Decision) : Type 0 where
  pub number : d.number < 2 ^ 64
  pub unit : IsSpellableId d.unit
  pub mask : nat_lt d.mask (2 ^ parts) ≡ true
  pub move : length d.move < 2 ^ 64

abbrev pub IsSpellableEntry : ℕ → CoordinatorEntry → Type 0
IsSpellableEntry parts (Boots boot) = boot < 2 ^ 64
IsSpellableEntry parts (Defines d) = IsSpellableNumbered d
IsSpellableEntry parts (Decides d) = IsSpellableDecision parts d

-- a removed key is no Null, and a row's key is its first value
abbrev pub IsSpellableTo : Bool → Value → Option (List Value) → Type 0
IsSpellableTo nulls key None = IsSpellableValue false key
IsSpellableTo nulls key (Some row) = IsSpellableRow nulls row × (key_of row ≡ key)

pub record IsSpellableChange (nulls : Bool) (c : Change) : Type 0 where
  pub table : c.table < 2 ^ 16
  pub to : IsSpellableTo nulls c.key c.row

pub record IsSpellablePartitionHeader (h : PartitionHeader) : Type 0 where
  pub format : (nat_le 1 h.format && nat_le h.format 2) ≡ true
  pub generation : h.generation < 2 ^ 64
  pub first : nat_le 1 h.generation ≡ true
  pub count : length h.sides < 2 ^ 32
  pub sides : list_all is_side h.sides ≡ true

pub record IsSpellablePrepared (nulls : Bool) (p : Prepared) : Type 0 where
  pub unit : IsSpellableId p.unit
  pub count : length p.changes < 2 ^ 64
  pub changes : Every (IsSpellableChange nulls) p.changes
  pub ordered : are_in_order p.changes ≡ true

pub record IsSpellableTableRow (nulls : Bool) (r : TableRow) : Type 0 where
  pub table : r.table < 2 ^ 16
  pub row : IsSpellableRow nulls r.row

pub record IsSpellablePage (nulls : Bool) (rows : List TableRow) : Type 0 where
  pub count : length rows < 2 ^ 16
  pub each : Every (IsSpellableTableRow nulls) rows
  pub room : length (page_front rows) ≤ page_length

-- bytes are below 256
abbrev pub IsByte : ℕ → Type 0
IsByte b = b < 256

abbrev pub AreBytes : List ℕ → Type 0
AreBytes bytes = Every IsByte bytes
