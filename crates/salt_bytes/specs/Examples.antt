-- Spellings of each kind, and what they are read as.
use Rattle.salt_bytes.specs.Conts.{move_in}
use Rattle.salt_bytes.specs.Coordinator.{Boots, Decides, Defines, entry_in, header_in}
use Rattle.salt_bytes.specs.Generations.{BothBlank, Counts, Faulty, LogA, LogB, next_generation, pair_of}
use Rattle.salt_bytes.specs.Generations.{Blank, IsRead, Outside}
use Rattle.salt_bytes.specs.Log.{entries_in, entries_up_to, split_payload}
use Rattle.salt_bytes.specs.Numbers.{take_16}
use Rattle.salt_bytes.specs.Page.{if_zeros, page_place, take_table_row}
use Rattle.salt_bytes.specs.Partition.{partition_header_in, prepared_in}
use Rattle.salt_bytes.specs.Taking.{take_each, then_take}
use Rattle.salt_bytes.specs.Values.{take_row, spell_values}
use Rattle.salt_bytes.specs.declared.moves.Move.TheVariants.{Continue, Finish, Plain}
use Rattle.salt_values.specs.declared.cont.Cont.{Cont}
use Rattle.salt_place.specs.declared.placement.PlaceKind.TheVariants.{Bands}
use Rattle.salt_values.specs.declared.value.Value.TheVariants.{Int, Null, Text}
use Rattle.std.specs.Prelude.{List, None, Some, [], codes, false, negsuc, pos, refl, replicate, true, ℕ, ◌++◌, ◌-◌, ◌^◌, ◌∷◌, ◌≡◌}

-- ROWS

-- 1 and 'ab'
abbrev row_bytes : List ℕ
row_bytes = 2 ∷ 1 ∷ replicate 7 0 ++ 1 ∷ 2 ∷ 2 ∷ 97 ∷ 98 ∷ []

row_spelled : spell_values (Int (pos 1) ∷ Text (codes "ab") ∷ []) ≡ row_bytes
row_spelled = refl

row_taken : take_row true (row_bytes ++ 7 ∷ []) ≡ Some (Int (pos 1) ∷ Text (codes "ab") ∷ [], 7 ∷ [])
row_taken = refl

row_cut : take_row true (2 ∷ 1 ∷ replicate 7 0 ++ 1 ∷ 2 ∷ 2 ∷ 97 ∷ []) ≡ None
row_cut = refl

negative : spell_values (Int (negsuc 0) ∷ []) ≡ 1 ∷ 1 ∷ replicate 8 255
negative = refl

null_taken : take_row true (1 ∷ 0 ∷ []) ≡ Some (Null ∷ [], [])
null_taken = refl

null_refused : take_row false (1 ∷ 0 ∷ []) ≡ None
null_refused = refl

no_value : take_row true (0 ∷ []) ≡ None
no_value = refl

seventeen_values : take_row true (17 ∷ replicate 17 0) ≡ None
seventeen_values = refl

-- a byte of a text is outside 32 to 126
newline_in_text : take_row true (1 ∷ 2 ∷ 1 ∷ 10 ∷ []) ≡ None
newline_in_text = refl

-- LOGS

blank_device : entries_in (0 ∷ 5 ∷ []) ≡ Some []
unfolding entries_in entries_up_to
blank_device = refl

one_entry : entries_in (1 ∷ replicate 7 0 ++ 2 ∷ 8 ∷ 9 ∷ 0 ∷ 5 ∷ []) ≡ Some ((8 ∷ 9 ∷ []) ∷ [])
unfolding entries_in entries_up_to split_payload
one_entry = refl

-- no closed gate stands behind the entry
gate_missing : entries_in (1 ∷ replicate 7 0 ++ 2 ∷ 8 ∷ 9 ∷ []) ≡ None
unfolding entries_in entries_up_to split_payload
gate_missing = refl

-- its length is 2^63
entry_too_long : entries_in (1 ∷ 128 ∷ replicate 7 0 ++ 8 ∷ 9 ∷ 0 ∷ []) ≡ None
unfolding entries_in entries_up_to split_payload
entry_too_long = refl

-- THE COORDINATOR

header_read : header_in (codes "SALTC" ++ 3 ∷ replicate 7 0 ++ 4 ∷ 2 ∷ 1 ∷ replicate 7 0 ++ 5 ∷ replicate 7 0 ++ 6 ∷ replicate 16 0)
    ≡ Some (record { format = 3; generation = 4; shape = record { parts = 2; kind = Bands }; boot = 5; decisions = 6; definitions = []; conts = [] })
header_read = refl

-- a header of no generation, and one of format 4
generation_0 : header_in (codes "SALTC" ++ 3 ∷ replicate 8 0 ++ 2 ∷ 1 ∷ replicate 32 0) ≡ None
generation_0 = refl

format_4 : header_in (codes "SALTC" ++ 4 ∷ replicate 7 0 ++ 4 ∷ 2 ∷ 1 ∷ replicate 32 0) ≡ None
format_4 = refl

boot_read : entry_in 2 (1 ∷ replicate 7 0 ++ 9 ∷ []) ≡ Some (Boots 9)
boot_read = refl

definition_read : entry_in 2 (2 ∷ replicate 7 0 ++ 3 ∷ replicate 7 0 ++ 1 ∷ 65 ∷ []) ≡ Some (Defines (record { number = 3; text = 65 ∷ [] }))
definition_read = refl

decision_read : entry_in 2 (3 ∷ replicate 7 0 ++ 3 ∷ replicate 7 0 ++ 1 ∷ replicate 7 0 ++ 2 ∷ 3 ∷ replicate 7 0 ++ 1 ∷ 0 ∷ [])
    ≡ Some (Decides (record { number = 3; unit = record { boot = 1; seq = 2 }; mask = 3; move = 0 ∷ [] }))
decision_read = refl

-- the bit of partition 2, of two partitions
bit_above_the_parts : entry_in 2 (3 ∷ replicate 7 0 ++ 3 ∷ replicate 7 0 ++ 1 ∷ replicate 7 0 ++ 2 ∷ 4 ∷ replicate 7 0 ++ 1 ∷ 0 ∷ []) ≡ None
bit_above_the_parts = refl

byte_behind_an_entry : entry_in 2 (1 ∷ replicate 7 0 ++ 9 ∷ 0 ∷ []) ≡ None
byte_behind_an_entry = refl

-- MOVES

abbrev standing : ℕ → Cont
standing tries = record { base = record { boot = 1; seq = 2 }; accepted = 3; program = codes "p"; args = Int (pos 4) ∷ []; vars = []; next = 2; tries = tries }

abbrev standing_bytes : List ℕ
standing_bytes = replicate 7 0 ++ 1 ∷ replicate 7 0 ++ 2 ∷ replicate 7 0 ++ 3 ∷ 1 ∷ 112 ∷ 1 ∷ 1 ∷ replicate 7 0 ++ 4 ∷ 0 ∷ 0 ∷ 0 ∷ 0 ∷ 2 ∷ []

move_under_format_3 : move_in 3 (1 ∷ standing_bytes ++ 5 ∷ []) ≡ Some (Continue (standing 5))
move_under_format_3 = refl

move_under_format_2 : move_in 2 (1 ∷ standing_bytes) ≡ Some (Continue (standing 0))
move_under_format_2 = refl

tries_under_format_2 : move_in 2 (1 ∷ standing_bytes ++ 5 ∷ []) ≡ None
tries_under_format_2 = refl

finish_read : move_in 3 (2 ∷ replicate 7 0 ++ 1 ∷ replicate 7 0 ++ 2 ∷ []) ≡ Some (Finish (record { boot = 1; seq = 2 }))
finish_read = refl

plain_read : move_in 3 (0 ∷ []) ≡ Some Plain
plain_read = refl

-- PARTITIONS

partition_header_read : partition_header_in (codes "SALTP" ++ 2 ∷ replicate 7 0 ++ 4 ∷ 1 ∷ 0 ∷ 0 ∷ 0 ∷ 2 ∷ 0 ∷ 1 ∷ [])
    ≡ Some (record { format = 2; generation = 4; part = 1; sides = 0 ∷ 1 ∷ [] })
partition_header_read = refl

side_2 : partition_header_in (codes "SALTP" ++ 2 ∷ replicate 7 0 ++ 4 ∷ 1 ∷ 0 ∷ 0 ∷ 0 ∷ 2 ∷ 0 ∷ 2 ∷ []) ≡ None
side_2 = refl

-- table 0: the row of key 1, and the removal of key 2
abbrev put_1 : List ℕ
put_1 = 0 ∷ 0 ∷ 1 ∷ 1 ∷ 1 ∷ replicate 7 0 ++ 1 ∷ []

abbrev remove_2 : List ℕ
remove_2 = 0 ∷ 0 ∷ 0 ∷ 1 ∷ replicate 7 0 ++ 2 ∷ []

abbrev unit_bytes : List ℕ
unit_bytes = 1 ∷ replicate 7 0 ++ 1 ∷ replicate 7 0 ++ 5 ∷ replicate 7 0 ++ 2 ∷ []

prepared_read : prepared_in true (unit_bytes ++ put_1 ++ remove_2) ≡ Some (record {
  unit = record { boot = 1; seq = 5 };
  changes = record { table = 0; key = Int (pos 1); row = Some (Int (pos 1) ∷ []) } ∷ record { table = 0; key = Int (pos 2); row = None } ∷ [];
})
prepared_read = refl

out_of_order : prepared_in true (unit_bytes ++ remove_2 ++ put_1) ≡ None
out_of_order = refl

one_key_twice : prepared_in true (unit_bytes ++ put_1 ++ put_1) ≡ None
one_key_twice = refl

-- a removed key is no Null
null_removed : prepared_in true (1 ∷ replicate 7 0 ++ 1 ∷ replicate 7 0 ++ 5 ∷ replicate 7 0 ++ 1 ∷ 0 ∷ 0 ∷ 0 ∷ 0 ∷ []) ≡ None
null_removed = refl

-- PAGES: their rows, and zeros behind them

rows_read : if_zeros (then_take take_16 (take_each (take_table_row true)) (0 ∷ 1 ∷ 0 ∷ 6 ∷ 1 ∷ 0 ∷ replicate 9 0)) ≡ Some (record { table = 6; row = Null ∷ [] } ∷ [])
rows_read = refl

byte_behind_the_rows : if_zeros (then_take take_16 (take_each (take_table_row true)) (0 ∷ 1 ∷ 0 ∷ 6 ∷ 1 ∷ 0 ∷ replicate 9 0 ++ 1 ∷ [])) ≡ None
byte_behind_the_rows = refl

place_of_side_1 : page_place 1 1 ≡ 24576
place_of_side_1 = refl

-- GENERATIONS

after_the_last : next_generation (2 ^ 64 - 1) ≡ 2
after_the_last = refl

b_follows_a : pair_of (λ (n : ℕ). n) (IsRead 4) (IsRead 5) ≡ Counts LogB 5
b_follows_a = refl

a_follows_b : pair_of (λ (n : ℕ). n) (IsRead 2) (IsRead (2 ^ 64 - 1)) ≡ Counts LogA 2
a_follows_b = refl

neither_follows : pair_of (λ (n : ℕ). n) (IsRead 4) (IsRead 6) ≡ Faulty LogB
neither_follows = refl

a_outside : pair_of (λ (n : ℕ). n) Outside (IsRead 6) ≡ Faulty LogA
a_outside = refl

both_blank : pair_of (λ (n : ℕ). n) Blank Blank ≡ BothBlank
both_blank = refl
