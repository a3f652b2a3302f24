-- The definitions that the images' texts are, and their reading, as an independent reading has them.
use Rattle.salt_model.specs.Tables.{Entry}
use Rattle.salt_values.specs.declared.cont.Cont.{Cont}
use Rattle.salt_values.specs.declared.value.Value.{Value}
use Rattle.salt_values.specs.declared.value.Value.TheVariants.{Int, Null, Text}
use Rattle.salt_bytes.specs.Conts.{move_in, spell_cont, spell_move}
use Rattle.salt_bytes.specs.Coordinator.{Boots, CoordinatorEntry, Decides, Defines, entry_in, header_in, spell_entry, spell_header, spell_kind, spell_text}
use Rattle.salt_bytes.specs.Formats.{has_nulls}
use Rattle.salt_bytes.specs.Log.{entries_in}
use Rattle.salt_bytes.specs.Page.{page_length, page_place, rows_in_page, spell_page}
use Rattle.salt_bytes.specs.Partition.{partition_header_in, prepared_in, spell_partition_header, spell_prepared}
use Rattle.salt_bytes.specs.Numbers.{spell_16, spell_64}
use Rattle.salt_stands.specs.Reading.{Reading}
use Rattle.salt_stands.specs.Stands.{NotSalt, NumbersSpent, Opening, OtherShape, Stands, opening_of}
use Rattle.salt_place.specs.declared.placement.PlaceKind.TheVariants.{Bands, Remainder}
use Rattle.salt_place.specs.declared.placement.PlaceKind.{PlaceKind}
use Rattle.salt_place.specs.declared.placement.Shape.{Shape}
use Rattle.std.specs.List.{filter_map, list_all, list_any, flat_map}
use Rattle.std.specs.Prelude.{Bool, List, None, Option, Some, [], codes, drop, false, int_lt, length, map, nat_le, nat_lt, not, pos, replicate, suc, take, true, zero, ℕ, ℤ, ◌&&◌, ◌*◌, ◌+◌, ◌++◌, ◌-◌, ◌==◌, ◌∷◌, ◌||◌}
use Rattle.salt_bytes.specs.Values.{spell_values}

abbrev pub nibble : ℕ → ℕ
nibble c = elim (nat_lt c 58) [ true ↦ c - 48 | false ↦ c - 87 ]

abbrev pub hex : List ℕ → List ℕ
hex [] = []
hex (a ∷ []) = []
hex (a ∷ b ∷ cs) = (nibble a * 16 + nibble b) ∷ hex cs

abbrev pub zeros : ℕ → List ℕ
zeros n = replicate n 0

pub record Column : Type 0 where
  -- 0 a number, 1 a text
  pub kind : ℕ
  pub nullable : Bool

-- the column's number is at least this, or is unknown
pub record Check : Type 0 where
  pub column : ℕ
  pub above : ℤ

pub data Known : Type 0 where
  KnownTable : (text : List ℕ) → List Column → List Check → Known
  -- its name, the kinds of parameters and variables, and each part's retry number; an ACID one has no parts
  KnownProgram : (text name : List ℕ) → (params vars tries : List ℕ) → Known

abbrev pub text_of : Known → List ℕ
text_of (KnownTable text columns checks) = text
text_of (KnownProgram text name params vars tries) = text

abbrev pub is_same : List ℕ → List ℕ → Bool
is_same [] [] = true
is_same (a ∷ as') (b ∷ bs) = (a == b) && is_same as' bs
is_same [] (b ∷ bs) = false
is_same (a ∷ as') [] = false

abbrev pub are_same : List (List ℕ) → List (List ℕ) → Bool
are_same [] [] = true
are_same (a ∷ as') (b ∷ bs) = is_same a b && are_same as' bs
are_same [] (b ∷ bs) = false
are_same (a ∷ as') [] = false

abbrev pub find_known : List Known → List ℕ → Option Known
find_known [] text = None
find_known (d ∷ ds) text = elim (is_same text (text_of d)) [ true ↦ Some d | false ↦ find_known ds text ]

abbrev pub table_in : Known → Option Known
table_in (KnownTable text columns checks) = Some (KnownTable text columns checks)
table_in (KnownProgram text name params vars tries) = None

abbrev pub at : {A : Type 0} → List A → ℕ → Option A
at [] n = None
at (x ∷ xs) zero = Some x
at (x ∷ xs) (suc n) = at xs n

abbrev pub has_kind : ℕ → Value → Bool
has_kind kind (Int z) = kind == 0
has_kind kind (Text t) = kind == 1
has_kind kind Null = false

abbrev pub is_null : Value → Bool
is_null Null = true
is_null v = false

abbrev pub fit_columns : List Column → List Value → Bool
fit_columns [] [] = true
fit_columns (c ∷ cs) (v ∷ vs) = (has_kind c.kind v || (c.nullable && is_null v)) && fit_columns cs vs
fit_columns [] (v ∷ vs) = false
fit_columns (c ∷ cs) [] = false

abbrev pub passes_at : ℤ → Option Value → Bool
passes_at above (Some (Int z)) = not (int_lt z above)
passes_at above v = true

abbrev pub passes : List Value → Check → Bool
passes row check = passes_at check.above (at row check.column)

abbrev pub fits_table : List Value → Option Known → Bool
fits_table row (Some (KnownTable text columns checks)) = fit_columns columns row && list_all (passes row) checks
fits_table row d = false

abbrev pub key_fits : Value → Option Known → Bool
key_fits v (Some (KnownTable text (c ∷ cs) checks)) = has_kind c.kind v
key_fits v d = false

abbrev pub fit_kinds : List ℕ → List Value → Bool
fit_kinds [] [] = true
fit_kinds (k ∷ ks) (v ∷ vs) = has_kind k v && fit_kinds ks vs
fit_kinds [] (v ∷ vs) = false
fit_kinds (k ∷ ks) [] = false

abbrev pub at_most_tries : ℕ → Option ℕ → Bool
at_most_tries n None = false
at_most_tries n (Some tries) = nat_le n tries

abbrev pub cont_fits : Cont → Known → Bool
cont_fits c (KnownTable text columns checks) = false
cont_fits c (KnownProgram text name params vars tries) =
    is_same c.program name && (fit_kinds params c.args && (fit_kinds vars c.vars && (nat_lt 1 c.next && at_most_tries c.tries (at tries (c.next - 1)))))

abbrev pub reading_of : List Known → List (List (List ℕ) × List ℕ) → Reading Known
reading_of known refused = record {
  read = find_known known;
  is_refused = λ before d. list_any (λ e. is_same e.1 (text_of d) && are_same e.0 (map text_of before)) refused;
  count_tables = λ ds. length (filter_map table_in ds);
  fits_row = λ ds table row. fits_table row (at (filter_map table_in ds) table);
  fits_key = λ ds table v. key_fits v (at (filter_map table_in ds) table);
  fits_cont = λ ds c. list_any (cont_fits c) ds;
}

-- WHAT IS COMPARED: the answer as bytes

abbrev pub spell_entry_of : Entry → List ℕ
spell_entry_of e = spell_16 e.0.table ++ spell_values e.1

abbrev pub spell_known : Known → List ℕ
spell_known d = spell_text (text_of d)

abbrev pub spell_shape : Shape → List ℕ
spell_shape s = s.parts ∷ spell_kind s.kind

abbrev pub spell_opening : Opening Known → List ℕ
spell_opening (Stands f) =
    0 ∷ spell_shape f.shape ++ (f.format ∷ spell_64 f.kept.boot ++ (spell_64 f.kept.decisions ++ (flat_map spell_known f.kept.definitions ++ (flat_map spell_entry_of f.kept.tables.list ++ flat_map (spell_cont 3) f.kept.conts))))
spell_opening (NotSalt dev) = 1 ∷ dev ∷ []
spell_opening (OtherShape kept asked) = 2 ∷ spell_shape kept ++ spell_shape asked
spell_opening (NumbersSpent boot decisions) = 3 ∷ spell_64 boot ++ spell_64 decisions

abbrev pub bytes_at : List (List ℕ) → ℕ → List ℕ
bytes_at [] n = []
bytes_at (bytes ∷ devices) zero = bytes
bytes_at (bytes ∷ devices) (suc n) = bytes_at devices n

abbrev pub kind_numbered : ℕ → PlaceKind
kind_numbered zero = Remainder
kind_numbered (suc n) = Bands

abbrev pub seen_with : Reading Known → List (List ℕ) → ℕ → ℕ → List ℕ
seen_with r devices parts kind = spell_opening (opening_of r (bytes_at devices) (record { parts = parts; kind = kind_numbered kind }))

-- WHAT IS SPELLED AGAIN: each header, entry, move and page that is read is spelled as it stood

abbrev pub respells : {A : Type 0} → (A → List ℕ) → Option A → List ℕ → Bool
respells spell None bytes = true
respells spell (Some x) bytes = is_same (spell x) bytes

abbrev pub respells_move : ℕ → Option CoordinatorEntry → Bool
respells_move format None = true
respells_move format (Some (Boots boot)) = true
respells_move format (Some (Defines d)) = true
respells_move format (Some (Decides d)) = respells (spell_move format) (move_in format d.move) d.move

abbrev pub respells_coordinator : Option (List (List ℕ)) → Bool
respells_coordinator None = true
respells_coordinator (Some []) = true
respells_coordinator (Some (first ∷ es)) =
    elim (header_in first) [
      | None ↦ true
      | Some h ↦ is_same (spell_header h) first && list_all (λ e. respells spell_entry (entry_in h.shape.parts e) e && respells_move h.format (entry_in h.shape.parts e)) es
    ]

abbrev pub page_sides : Bool → List ℕ → ℕ → List ℕ → Bool
page_sides nulls bytes page [] = true
page_sides nulls bytes page (side ∷ sides) =
    let own : List ℕ = take page_length (drop (page_place page side) bytes) in
    respells spell_page (rows_in_page nulls own) own && page_sides nulls bytes (suc page) sides

abbrev pub respells_partition : Option (List (List ℕ)) → List ℕ → Bool
respells_partition None pages = true
respells_partition (Some []) pages = true
respells_partition (Some (first ∷ es)) pages =
    elim (partition_header_in first) [
      | None ↦ true
      | Some h ↦ is_same (spell_partition_header h) first && (list_all (λ e. respells spell_prepared (prepared_in (has_nulls h.format) e) e) es && page_sides (has_nulls h.format) pages 0 h.sides)
    ]

abbrev pub respells_parts : List (List ℕ) → Bool
respells_parts [] = true
respells_parts (a ∷ []) = respells_partition (entries_in a) []
respells_parts (a ∷ b ∷ []) = respells_partition (entries_in a) [] && respells_partition (entries_in b) []
respells_parts (a ∷ b ∷ pages ∷ devices) = respells_partition (entries_in a) pages && (respells_partition (entries_in b) pages && respells_parts devices)

abbrev pub respelled : List (List ℕ) → Bool
respelled [] = true
respelled (a ∷ []) = respells_coordinator (entries_in a)
respelled (a ∷ b ∷ devices) = respells_coordinator (entries_in a) && (respells_coordinator (entries_in b) && respells_parts devices)

abbrev pub text_0 : List ℕ
text_0 = codes "create table acct (id int key, bal int, check (bal >= 0))"

abbrev pub def_0 : Known
def_0 = KnownTable text_0 (record { kind = 0; nullable = false } ∷ record { kind = 0; nullable = false } ∷ []) (record { column = 1; above = pos 0 } ∷ [])

abbrev pub text_1 : List ℕ
text_1 = codes "program transfer(a int, b int, amt int) base part { update acct set bal = (bal - :amt) where key = :a } part { update acct set bal = (bal + :amt) where key = :b } then end on failure go 3 part { update acct set bal = (bal + :amt) where key = :a } on failure end end"

abbrev pub def_1 : Known
def_1 = KnownProgram text_1 (codes "transfer") (0 ∷ 0 ∷ 0 ∷ []) ([]) (0 ∷ 0 ∷ 0 ∷ [])

abbrev pub text_2 : List ℕ
text_2 = codes "create table t (k text key, a int, b text)"

abbrev pub def_2 : Known
def_2 = KnownTable text_2 (record { kind = 1; nullable = false } ∷ record { kind = 0; nullable = false } ∷ record { kind = 1; nullable = false } ∷ []) ([])

abbrev pub text_3 : List ℕ
text_3 = codes "program raise(d int) acid { update acct set bal = (bal + :d) } end"

abbrev pub def_3 : Known
def_3 = KnownProgram text_3 (codes "raise") (0 ∷ []) ([]) ([])

abbrev pub text_4 : List ℕ
text_4 = codes "create table n (id int key, v int null, check (v > 0))"

abbrev pub def_4 : Known
def_4 = KnownTable text_4 (record { kind = 0; nullable = false } ∷ record { kind = 0; nullable = true } ∷ []) (record { column = 1; above = pos 1 } ∷ [])

abbrev pub text_5 : List ℕ
text_5 = codes "program pay(a int, b int, amt int) var x int base part { select bal into :x from acct where key = :a } part { update acct set bal = (bal - :amt) where key = :b } then end on failure retry 2 then go 3 part { update acct set bal = (bal + :amt) where key = :a } on failure end end"

abbrev pub def_5 : Known
def_5 = KnownProgram text_5 (codes "pay") (0 ∷ 0 ∷ 0 ∷ []) (0 ∷ []) (0 ∷ 2 ∷ 0 ∷ [])

abbrev pub text_6 : List ℕ
text_6 = codes "program note(k text, w text) base part { insert into t values (:k, 1, :w) } part { update t set a = (a + 1) where key = :k } on failure end part { update t set b = (b || 'x') where key = :k } on failure end end"

abbrev pub def_6 : Known
def_6 = KnownProgram text_6 (codes "note") (1 ∷ 1 ∷ []) ([]) (0 ∷ 0 ∷ 0 ∷ [])

abbrev pub text_7 : List ℕ
text_7 = codes "program pay(a int, b int, amt int) var x int base part { select bal into :x from acct where key = :a } part { update acct set bal = (bal - :amt) where key = :b } then end on failure retry 2 then go 3 part { update acco set bal = (bal + :amt) where key = :a } on failure end end"

abbrev pub def_7 : Known
def_7 = KnownProgram text_7 (codes "pay") (0 ∷ 0 ∷ 0 ∷ []) (0 ∷ []) (0 ∷ 2 ∷ 0 ∷ [])

abbrev pub all_known : List Known
all_known = def_0 ∷ def_1 ∷ def_2 ∷ def_3 ∷ def_4 ∷ def_5 ∷ def_6 ∷ def_7 ∷ []

abbrev pub all_refused : List (List (List ℕ) × List ℕ)
all_refused = ([], text_1) ∷ (text_0 ∷ [], text_0) ∷ (text_0 ∷ text_1 ∷ text_3 ∷ text_4 ∷ [], text_7) ∷ []

abbrev pub reading : Reading Known
reading = reading_of all_known all_refused

abbrev pub seen_of : List (List ℕ) → ℕ → ℕ → List ℕ
seen_of devices parts kind = seen_with reading devices parts kind
