-- The coordinator's log: its header and its entries, as they are spelled.
use Rattle.salt_values.specs.declared.cont.Cont.{Cont}
use Rattle.salt_bytes.specs.Conts.{spell_cont, take_cont}
use Rattle.salt_bytes.specs.Ids.{spell_id, take_id}
use Rattle.salt_bytes.specs.Numbers.{spell_64, spell_counted, take_64, take_counted}
use Rattle.salt_bytes.specs.Taking.{Take, give, only_if, take_byte, take_bytes, then_take, whole}
use Rattle.salt_values.specs.declared.id.Id.{Id}
use Rattle.salt_place.specs.declared.placement.PlaceKind.TheVariants.{Bands, Remainder}
use Rattle.salt_place.specs.declared.placement.PlaceKind.{PlaceKind}
use Rattle.salt_place.specs.declared.placement.Shape.{Shape}
use Rattle.std.specs.Prelude.{Bool, List, None, Option, Some, [], codes, length, nat_le, nat_lt, suc, zero, ℕ, ◌&&◌, ◌++◌, ◌==◌, ◌^◌, ◌∷◌}

-- bytes behind their length
abbrev pub spell_text : List ℕ → List ℕ
spell_text text = spell_64 (length text) ++ text

abbrev pub take_text : Take (List ℕ)
take_text = then_take take_64 take_bytes

-- these bytes and no others
abbrev pub take_word : List ℕ → Take (List ℕ)
take_word [] bytes = Some ([], bytes)
take_word (a ∷ word) [] = None
take_word (a ∷ word) (b ∷ bytes) = only_if (a == b) (then_take (take_word word) (λ rest. give (a ∷ rest))) bytes

abbrev pub spell_kind : PlaceKind → List ℕ
spell_kind Remainder = 0 ∷ []
spell_kind Bands = 1 ∷ []

abbrev pub kind_of : ℕ → Take PlaceKind
kind_of zero = give Remainder
kind_of (suc zero) = give Bands
kind_of n = λ bytes. None

abbrev pub take_kind : Take PlaceKind
take_kind = then_take take_byte kind_of

-- a definition's decision number and text
pub record NumberedText : Type 0 where
  pub number : ℕ
  pub text : List ℕ

abbrev pub spell_numbered : NumberedText → List ℕ
spell_numbered d = spell_64 d.number ++ spell_text d.text

abbrev pub take_numbered : Take NumberedText
take_numbered = then_take take_64 (λ number. then_take take_text (λ text. give (record { number = number; text = text })))

pub record CoordinatorHeader : Type 0 where
  pub format : ℕ
  pub generation : ℕ
  pub shape : Shape
  pub boot : ℕ
  pub decisions : ℕ
  pub definitions : List NumberedText
  pub conts : List Cont

abbrev pub spell_header : CoordinatorHeader → List ℕ
spell_header h =
    codes "SALTC" ++ (h.format ∷ spell_64 h.generation ++ (h.shape.parts ∷ spell_kind h.shape.kind ++ (spell_64 h.boot ++ (spell_64 h.decisions ++
    (spell_counted spell_numbered h.definitions ++ spell_counted (spell_cont h.format) h.conts)))))

abbrev pub is_number_of_parts : ℕ → Bool
is_number_of_parts n = nat_le 1 n && nat_le n 8

-- the coordinator's formats are 1 to 3, a generation is at least 1
abbrev pub take_header : Take CoordinatorHeader
take_header =
    then_take (take_word (codes "SALTC")) (λ word.
    then_take take_byte (λ format. only_if (nat_le 1 format && nat_le format 3) (
    then_take take_64 (λ generation. only_if (nat_le 1 generation) (
    then_take take_byte (λ parts. only_if (is_number_of_parts parts) (
    then_take take_kind (λ kind.
    then_take take_64 (λ boot.
    then_take take_64 (λ decisions.
    then_take (take_counted take_numbered) (λ definitions.
    then_take (take_counted (take_cont format)) (λ conts.
    give (record { format = format; generation = generation; shape = record { parts = parts; kind = kind }; boot = boot; decisions = decisions; definitions = definitions; conts = conts })))))))))))))

-- a unit is decided: its number, the partitions that have its changes as the bits of a number, and the bytes of its move
pub record Decision : Type 0 where
  pub number : ℕ
  pub unit : Id
  pub mask : ℕ
  pub move : List ℕ

pub data CoordinatorEntry : Type 0 where
  Boots : ℕ → CoordinatorEntry
  Defines : NumberedText → CoordinatorEntry
  Decides : Decision → CoordinatorEntry

abbrev pub spell_entry : CoordinatorEntry → List ℕ
spell_entry (Boots boot) = 1 ∷ spell_64 boot
spell_entry (Defines d) = 2 ∷ spell_numbered d
spell_entry (Decides d) = 3 ∷ spell_64 d.number ++ (spell_id d.unit ++ (d.mask ∷ spell_text d.move))

-- no bit of the mask is at or above the parts
abbrev pub take_decision : ℕ → Take Decision
take_decision parts =
    then_take take_64 (λ number.
    then_take take_id (λ unit.
    then_take take_byte (λ mask. only_if (nat_lt mask (2 ^ parts)) (
    then_take take_text (λ move.
    give (record { number = number; unit = unit; mask = mask; move = move }))))))

abbrev pub take_entry_of : ℕ → ℕ → Take CoordinatorEntry
take_entry_of parts (suc zero) = then_take take_64 (λ boot. give (Boots boot))
take_entry_of parts (suc (suc zero)) = then_take take_numbered (λ d. give (Defines d))
take_entry_of parts (suc (suc (suc zero))) = then_take (take_decision parts) (λ d. give (Decides d))
take_entry_of parts n = λ bytes. None

abbrev pub take_entry : ℕ → Take CoordinatorEntry
take_entry parts = then_take take_byte (take_entry_of parts)

abbrev pub header_in : List ℕ → Option CoordinatorHeader
header_in bytes = whole take_header bytes

abbrev pub entry_in : ℕ → List ℕ → Option CoordinatorEntry
entry_in parts bytes = whole (take_entry parts) bytes
