-- What the header of a log says that was read.
use Rattle.salt_bytes.proofs.Only.{given_only, if_only, took}
use Rattle.salt_bytes.specs.Coordinator.{take_word}
use Rattle.salt_bytes.specs.Formats.{has_nulls}
use Rattle.salt_bytes.specs.Numbers.{take_32, take_64}
use Rattle.salt_bytes.specs.Partition.{PartitionHeader, Prepared, is_side, partition_header_in, take_partition_header}
use Rattle.salt_bytes.specs.Spellable.{Every}
use Rattle.salt_bytes.specs.Taking.{Take, give, if_all, only_if, take_byte, take_bytes, then_take}
use Rattle.salt_codec.specs.Entries.{header_of}
use Rattle.salt_codec.specs.declared.header.Header.{Header}
use Rattle.salt_partition.specs.Contents.{NamesSides}
use Rattle.salt_stands.proofs.Booleans.{join, left, right}
use Rattle.salt_stands.specs.PartitionLog.{PartitionLog, gathered, own_log, partition_in, with_prepared}
use Rattle.std.proofs.Common.{Bool, List, None, Option, Some, [], arith, codes, false, refl, subst, sym, true, ℕ, ◌≡◌, ◌∷◌}
use Rattle.std.proofs.lemmas.Bool.Decides.{Decides-eqb, nat_tests}
use Rattle.std.specs.List.{list_all}
use Rattle.std.specs.Bool.{then_some}
use Rattle.std.specs.Prelude.{IfSome, nat_le, option_and_then, option_map, ◌&&◌, ◌==◌, ◌≤◌}

pub record IsReadHeader (h : PartitionHeader) : Type 0 where
  pub first : nat_le 1 h.generation ≡ true
  pub sides : list_all is_side h.sides ≡ true

-- what is taken behind each of its parts
abbrev behind_sides : (format generation part : ℕ) → List ℕ → Take PartitionHeader
behind_sides format generation part sides = only_if (list_all is_side sides) (give (record { format = format; generation = generation; part = part; sides = sides }))

abbrev behind_part : (format generation part : ℕ) → Take PartitionHeader
behind_part format generation part = then_take (then_take take_32 take_bytes) (behind_sides format generation part)

abbrev behind_generation : (format generation : ℕ) → Take PartitionHeader
behind_generation format generation = only_if (nat_le 1 generation) (then_take take_byte (behind_part format generation))

abbrev behind_format : ℕ → Take PartitionHeader
behind_format format = only_if (nat_le 1 format && nat_le format 2) (then_take take_64 (behind_generation format))

abbrev behind_word : List ℕ → Take PartitionHeader
behind_word word = then_take take_byte behind_format

taken : (bytes rest : List ℕ) (h : PartitionHeader) → take_partition_header bytes ≡ Some (h, rest) → IsReadHeader h
taken bytes rest h e =
    let word = took behind_word (take_word (codes "SALTP") bytes) (h, rest) e in
    let format = took behind_format (take_byte word.rest) (h, rest) word.goes in
    let known = if_only (nat_le 1 format.x && nat_le format.x 2) (then_take take_64 (behind_generation format.x)) format.rest (h, rest) format.goes in
    let generation = took (behind_generation format.x) (take_64 format.rest) (h, rest) known.1 in
    let first = if_only (nat_le 1 generation.x) (then_take take_byte (behind_part format.x generation.x)) generation.rest (h, rest) generation.goes in
    let part = took (behind_part format.x generation.x) (take_byte generation.rest) (h, rest) first.1 in
    let sides = took (behind_sides format.x generation.x part.x) (then_take take_32 take_bytes part.rest) (h, rest) part.goes in
    let made : PartitionHeader = record { format = format.x; generation = generation.x; part = part.x; sides = sides.x } in
    let each = if_only (list_all is_side sides.x) (give made) sides.rest (h, rest) sides.goes in
    let same = given_only made h sides.rest rest each.1 in
    record { first = subst (λ (k : PartitionHeader). nat_le 1 k.generation ≡ true) same.0 first.0; sides = subst (λ (k : PartitionHeader). list_all is_side k.sides ≡ true) same.0 each.0 }

pub read_header : (bytes : List ℕ) (h : PartitionHeader) → partition_header_in bytes ≡ Some h → IsReadHeader h
read_header bytes h e = by (take_partition_header bytes) refl e
  where
    by : (o : Option (PartitionHeader × List ℕ)) → take_partition_header bytes ≡ o → if_all o ≡ Some h → IsReadHeader h
    by None is e' = absurd (cc e')
    by (Some (x, [])) is e' = let same : x ≡ h = cc e' in subst IsReadHeader same (taken bytes [] x is)
    by (Some (x, b ∷ bs)) is e' = absurd (cc e')

-- SIDES

pub low_sides : (sides : List ℕ) → list_all is_side sides ≡ true → Every (λ side. side ≤ 1) sides
low_sides [] e = tt
low_sides (s ∷ sides) e =
    let low : nat_le s 1 ≡ true = left (is_side s) (list_all is_side sides) e in
    (grind (arith, nat_tests, low), low_sides sides (right (is_side s) (list_all is_side sides) e))

pub sides_are_low : (sides : List ℕ) → Every (λ side. side ≤ 1) sides → list_all is_side sides ≡ true
sides_are_low [] low = refl
sides_are_low (s ∷ sides) low = join (is_side s) (list_all is_side sides) (grind (arith, nat_tests, low.0)) (sides_are_low sides low.1)

pub names_sides : (found : Option Header) (bytes : List ℕ) → option_map header_of found ≡ partition_header_in bytes → IfSome found (λ header. NamesSides (header_of header))
names_sides None bytes is = tt
names_sides (Some header) bytes is = low_sides (header_of header).sides (read_header bytes (header_of header) (sym is)).sides

-- OF A LOG

pub record IsReadLog (p : ℕ) (log : PartitionLog) : Type 0 where
  pub header : IsReadHeader log.header
  pub own : log.header.part ≡ p

pub read_log : (p : ℕ) (entries : List (List ℕ)) (log : PartitionLog) → partition_in p entries ≡ Some log → IsReadLog p log
read_log p [] log e = absurd (cc e)
read_log p (first ∷ payloads) log e = by (partition_header_in first) refl e
  where
    own : (h : PartitionHeader) → IsReadHeader h → (b : Bool) → (h.part == p) ≡ b → option_and_then (λ own. with_prepared own (gathered (has_nulls own.format) (Some []) payloads)) (then_some b h) ≡ Some log → IsReadLog p log
    own h read false is e' = absurd (cc e')
    own h read true is e' = found (gathered (has_nulls h.format) (Some []) payloads) e'
      where
        found : (o : Option (List Prepared)) → with_prepared h o ≡ Some log → IsReadLog p log
        found None e'' = absurd (cc e'')
        found (Some ps) e'' =
            let same : record { header = h; prepared = ps } ≡ log = cc e'' in
            subst (IsReadLog p) same (record { header = read; own = (Decides-eqb h.part p).0 is })

    by : (o : Option PartitionHeader) → partition_header_in first ≡ o → option_and_then (λ h. own_log p h payloads) o ≡ Some log → IsReadLog p log
    by None is e' = absurd (cc e')
    by (Some h) is e' = own h (read_header first h is) (h.part == p) refl e'
