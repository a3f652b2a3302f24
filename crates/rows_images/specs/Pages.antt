-- Pages at each call of a checkpoint, of a snapshot and of an opening that takes formats anew, and what wrong orders of these calls would leave.
use Rattle.salt_bytes.specs.Log.{entries_in, entries_up_to, split_payload}
use Rattle.salt_model.specs.Tables.{with_changes}
use Rattle.salt_stands.specs.Tables.{joined}
use Rattle.rows_images.specs.Known.{hex, respelled, seen_of, text_0, zeros}
use Rattle.std.specs.List.{list_all}
use Rattle.std.specs.Prelude.{List, [], codes, refl, replicate, true, ℕ, ◌++◌, ◌∷◌, ◌≡◌}

-- SINGLE DEVICES: even keys are of partition 0, odd ones of partition 1

abbrev closed_gate : List ℕ
closed_gate = 0 ∷ []

-- coordinator's log A, without its end: boot 1, a table, decision 2 of unit 1.1 in partition 0, decision 3 of unit 1.2 in both
abbrev coordinator : (format : ℕ) → List ℕ
coordinator format = hex (codes "01000000000000007953414c5443") ++ (format ∷ (hex (codes "0000000000000001020000000000000000010000000000000001000000000000000100000000000000010000000000000039") ++ (text_0 ++ hex (codes "000000000000000001000000000000002303000000000000000200000000000000010000000000000001010000000000000001000100000000000000230300000000000000030000000000000001000000000000000203000000000000000100"))))

-- decision 4 of unit 1.4 in partition 0, and the end
abbrev decision_4 : List ℕ
decision_4 = hex (codes "010000000000000023030000000000000004000000000000000100000000000000040100000000000000010000")

-- coordinator's log B: generation 2 of format 3, the table and so many decisions
abbrev snapshot_of : (decisions : ℕ) → List ℕ
snapshot_of decisions = hex (codes "01000000000000007953414c54430300000000000000020200000000000000000100000000000000") ++ (decisions ∷ (hex (codes "000000000000000100000000000000010000000000000039") ++ (text_0 ++ zeros 9)))

-- log A of partition 0: 1.1 puts (2, 5) and (4, 6), 1.2 removes key 2 and puts (6, 7), 1.3, which nothing decides, puts (8, 1)
abbrev units_of_0 : (format : ℕ) → List ℕ
units_of_0 format = hex (codes "01000000000000001353414c5450") ++ (format ∷ hex (codes "0000000000000001000000000001000000000000004501000000000000000100000000000000010000000000000002000001020100000000000000020100000000000000050000010201000000000000000401000000000000000601000000000000003b010000000000000001000000000000000200000000000000020000000100000000000000020000010201000000000000000601000000000000000701000000000000002f010000000000000001000000000000000300000000000000010000010201000000000000000801000000000000000100"))

-- log A of partition 1: 1.2 puts (1, 9)
abbrev units_of_1 : (format : ℕ) → List ℕ
units_of_1 format = hex (codes "01000000000000001353414c5450") ++ (format ∷ hex (codes "0000000000000001010000000001000000000000002f010000000000000001000000000000000200000000000000010000010201000000000000000101000000000000000900"))

-- a log B behind its gate, without its end: generation 2, which names side 0 of page 0
abbrev next_header : (part : ℕ) → List ℕ
next_header part = hex (codes "000000000000001453414c5450020000000000000002") ++ (part ∷ hex (codes "0000000100"))

-- 1.4 removes key 4 and puts (10, 3), and the end
abbrev unit_4 : List ℕ
unit_4 = hex (codes "01000000000000003b010000000000000001000000000000000400000000000000020000000100000000000000040000010201000000000000000a01000000000000000300")

-- log A of partition 0 once more: generation 3, which names side 1 of page 0
abbrev third_header : List ℕ
third_header = hex (codes "01000000000000001453414c545002000000000000000300000000010100")

-- pages by their keys, and one side that spells no page
abbrev page_4_6 : List ℕ
page_4_6 = hex (codes "0002000002010000000000000004010000000000000006000002010000000000000006010000000000000007") ++ zeros 8148

abbrev page_6_10 : List ℕ
page_6_10 = hex (codes "000200000201000000000000000601000000000000000700000201000000000000000a010000000000000003") ++ zeros 8148

abbrev page_1 : List ℕ
page_1 = hex (codes "0001000002010000000000000001010000000000000009") ++ zeros 8169

abbrev page_of_ones : List ℕ
page_of_ones = replicate 8192 1

-- what is kept, by its keys
abbrev kept_1_4_6 : (format : ℕ) → List ℕ
kept_1_4_6 format = hex (codes "000200") ++ (format ∷ (hex (codes "000000000000000100000000000000030000000000000039") ++ (text_0 ++ hex (codes "000002010000000000000001010000000000000009000002010000000000000004010000000000000006000002010000000000000006010000000000000007"))))

abbrev kept_1_6_10 : List ℕ
kept_1_6_10 = hex (codes "00020003000000000000000100000000000000040000000000000039") ++ (text_0 ++ hex (codes "00000201000000000000000101000000000000000900000201000000000000000601000000000000000700000201000000000000000a010000000000000003"))

abbrev kept_6_10 : List ℕ
kept_6_10 = hex (codes "00020003000000000000000100000000000000040000000000000039") ++ (text_0 ++ hex (codes "00000201000000000000000601000000000000000700000201000000000000000a010000000000000003"))

-- THE FIRST CHECKPOINT of partition 0

abbrev units_in_log_a : List (List ℕ)
units_in_log_a = (coordinator 3 ++ closed_gate) ∷ [] ∷ units_of_0 2 ∷ [] ∷ [] ∷ units_of_1 2 ∷ [] ∷ [] ∷ []

units_in_log_a_seen : seen_of units_in_log_a 2 0 ≡ kept_1_4_6 3
unfolding entries_in entries_up_to split_payload with_changes joined
units_in_log_a_seen = refl

-- as long as no header names the page, any bytes may stand there, and of any number
abbrev page_cut_short : List (List ℕ)
page_cut_short = (coordinator 3 ++ closed_gate) ∷ [] ∷ units_of_0 2 ∷ [] ∷ replicate 5000 255 ∷ units_of_1 2 ∷ [] ∷ [] ∷ []

page_cut_short_seen : seen_of page_cut_short 2 0 ≡ kept_1_4_6 3
unfolding entries_in entries_up_to split_payload with_changes joined
page_cut_short_seen = refl

abbrev page_not_written : List (List ℕ)
page_not_written = (coordinator 3 ++ closed_gate) ∷ [] ∷ units_of_0 2 ∷ [] ∷ page_of_ones ∷ units_of_1 2 ∷ [] ∷ [] ∷ []

page_not_written_seen : seen_of page_not_written 2 0 ≡ kept_1_4_6 3
unfolding entries_in entries_up_to split_payload with_changes joined
page_not_written_seen = refl

-- log B is made blank, too
abbrev page_written : List (List ℕ)
page_written = (coordinator 3 ++ closed_gate) ∷ [] ∷ units_of_0 2 ∷ closed_gate ∷ page_4_6 ∷ units_of_1 2 ∷ [] ∷ [] ∷ []

page_written_seen : seen_of page_written 2 0 ≡ kept_1_4_6 3
unfolding entries_in entries_up_to split_payload with_changes joined
page_written_seen = refl

abbrev header_behind_a_closed_gate : List (List ℕ)
header_behind_a_closed_gate = (coordinator 3 ++ closed_gate) ∷ [] ∷ units_of_0 2 ∷ (0 ∷ (next_header 0 ++ closed_gate)) ∷ page_4_6 ∷ units_of_1 2 ∷ [] ∷ [] ∷ []

header_behind_a_closed_gate_seen : seen_of header_behind_a_closed_gate 2 0 ≡ kept_1_4_6 3
unfolding entries_in entries_up_to split_payload with_changes joined
header_behind_a_closed_gate_seen = refl

-- log B counts from here on
abbrev header_names_the_page : List (List ℕ)
header_names_the_page = (coordinator 3 ++ closed_gate) ∷ [] ∷ units_of_0 2 ∷ (1 ∷ (next_header 0 ++ closed_gate)) ∷ page_4_6 ∷ units_of_1 2 ∷ [] ∷ [] ∷ []

header_names_the_page_seen : seen_of header_names_the_page 2 0 ≡ kept_1_4_6 3
unfolding entries_in entries_up_to split_payload with_changes joined
header_names_the_page_seen = refl

-- as the next checkpoint begins
abbrev log_a_made_blank : List (List ℕ)
log_a_made_blank = (coordinator 3 ++ closed_gate) ∷ [] ∷ closed_gate ∷ (1 ∷ (next_header 0 ++ closed_gate)) ∷ page_4_6 ∷ units_of_1 2 ∷ [] ∷ [] ∷ []

log_a_made_blank_seen : seen_of log_a_made_blank 2 0 ≡ kept_1_4_6 3
unfolding entries_in entries_up_to split_payload with_changes joined
log_a_made_blank_seen = refl

-- a wrong order: the header counts before the sync of its page
abbrev header_before_its_page : List (List ℕ)
header_before_its_page = (coordinator 3 ++ closed_gate) ∷ [] ∷ units_of_0 2 ∷ (1 ∷ (next_header 0 ++ closed_gate)) ∷ page_of_ones ∷ units_of_1 2 ∷ [] ∷ [] ∷ []

header_before_its_page_seen : seen_of header_before_its_page 2 0 ≡ hex (codes "0104")
unfolding entries_in entries_up_to split_payload with_changes joined
header_before_its_page_seen = refl

first_checkpoint_spelled : list_all respelled (units_in_log_a ∷ page_cut_short ∷ page_not_written ∷ page_written ∷ header_behind_a_closed_gate ∷ header_names_the_page ∷ log_a_made_blank ∷ header_before_its_page ∷ []) ≡ true
unfolding entries_in entries_up_to split_payload
first_checkpoint_spelled = refl

-- THE SECOND CHECKPOINT, with one unit more

abbrev unit_behind_a_page : List (List ℕ)
unit_behind_a_page = (coordinator 3 ++ decision_4) ∷ [] ∷ units_of_0 2 ∷ (1 ∷ (next_header 0 ++ unit_4)) ∷ page_4_6 ∷ units_of_1 2 ∷ [] ∷ [] ∷ []

unit_behind_a_page_seen : seen_of unit_behind_a_page 2 0 ≡ kept_1_6_10
unfolding entries_in entries_up_to split_payload with_changes joined
unit_behind_a_page_seen = refl

abbrev spare_side_cut_short : List (List ℕ)
spare_side_cut_short = (coordinator 3 ++ decision_4) ∷ [] ∷ units_of_0 2 ∷ (1 ∷ (next_header 0 ++ unit_4)) ∷ (page_4_6 ++ replicate 3000 255) ∷ units_of_1 2 ∷ [] ∷ [] ∷ []

spare_side_cut_short_seen : seen_of spare_side_cut_short 2 0 ≡ kept_1_6_10
unfolding entries_in entries_up_to split_payload with_changes joined
spare_side_cut_short_seen = refl

-- log A counts again
abbrev other_side_named : List (List ℕ)
other_side_named = (coordinator 3 ++ decision_4) ∷ [] ∷ third_header ∷ (1 ∷ (next_header 0 ++ unit_4)) ∷ (page_4_6 ++ page_6_10) ∷ units_of_1 2 ∷ [] ∷ [] ∷ []

other_side_named_seen : seen_of other_side_named 2 0 ≡ kept_1_6_10
unfolding entries_in entries_up_to split_payload with_changes joined
other_side_named_seen = refl

-- side 0 is spare now
abbrev spare_side_written_over : List (List ℕ)
spare_side_written_over = (coordinator 3 ++ decision_4) ∷ [] ∷ third_header ∷ (1 ∷ (next_header 0 ++ unit_4)) ∷ (page_of_ones ++ page_6_10) ∷ units_of_1 2 ∷ [] ∷ [] ∷ []

spare_side_written_over_seen : seen_of spare_side_written_over 2 0 ≡ kept_1_6_10
unfolding entries_in entries_up_to split_payload with_changes joined
spare_side_written_over_seen = refl

second_checkpoint_spelled : list_all respelled (unit_behind_a_page ∷ spare_side_cut_short ∷ other_side_named ∷ spare_side_written_over ∷ []) ≡ true
unfolding entries_in entries_up_to split_payload
second_checkpoint_spelled = refl

-- A SNAPSHOT

abbrev snapshot_behind_checkpoints : List (List ℕ)
snapshot_behind_checkpoints = (coordinator 3 ++ decision_4) ∷ snapshot_of 4 ∷ third_header ∷ (1 ∷ (next_header 0 ++ unit_4)) ∷ (page_4_6 ++ page_6_10) ∷ units_of_1 2 ∷ (1 ∷ (next_header 1 ++ closed_gate)) ∷ page_1 ∷ []

snapshot_behind_checkpoints_seen : seen_of snapshot_behind_checkpoints 2 0 ≡ kept_1_6_10
unfolding entries_in entries_up_to split_payload with_changes joined
snapshot_behind_checkpoints_seen = refl

-- a wrong order: no checkpoint of partition 1 came before, and nothing decides its unit any more
abbrev snapshot_before_a_checkpoint : List (List ℕ)
snapshot_before_a_checkpoint = (coordinator 3 ++ decision_4) ∷ snapshot_of 4 ∷ third_header ∷ (1 ∷ (next_header 0 ++ unit_4)) ∷ (page_4_6 ++ page_6_10) ∷ units_of_1 2 ∷ [] ∷ [] ∷ []

snapshot_before_a_checkpoint_seen : seen_of snapshot_before_a_checkpoint 2 0 ≡ kept_6_10
unfolding entries_in entries_up_to split_payload with_changes joined
snapshot_before_a_checkpoint_seen = refl

snapshot_spelled : list_all respelled (snapshot_behind_checkpoints ∷ snapshot_before_a_checkpoint ∷ []) ≡ true
unfolding entries_in entries_up_to split_payload
snapshot_spelled = refl

-- FORMATS 1, taken into formats 3 and 2

abbrev formats_1 : List (List ℕ)
formats_1 = (coordinator 1 ++ closed_gate) ∷ [] ∷ units_of_0 1 ∷ [] ∷ [] ∷ units_of_1 1 ∷ [] ∷ [] ∷ []

formats_1_seen : seen_of formats_1 2 0 ≡ kept_1_4_6 1
unfolding entries_in entries_up_to split_payload with_changes joined
formats_1_seen = refl

abbrev partition_0_in_format_2 : List (List ℕ)
partition_0_in_format_2 = (coordinator 1 ++ closed_gate) ∷ [] ∷ units_of_0 1 ∷ (1 ∷ (next_header 0 ++ closed_gate)) ∷ page_4_6 ∷ units_of_1 1 ∷ [] ∷ [] ∷ []

partition_0_in_format_2_seen : seen_of partition_0_in_format_2 2 0 ≡ kept_1_4_6 1
unfolding entries_in entries_up_to split_payload with_changes joined
partition_0_in_format_2_seen = refl

abbrev both_partitions_in_format_2 : List (List ℕ)
both_partitions_in_format_2 = (coordinator 1 ++ closed_gate) ∷ [] ∷ units_of_0 1 ∷ (1 ∷ (next_header 0 ++ closed_gate)) ∷ page_4_6 ∷ units_of_1 1 ∷ (1 ∷ (next_header 1 ++ closed_gate)) ∷ page_1 ∷ []

both_partitions_in_format_2_seen : seen_of both_partitions_in_format_2 2 0 ≡ kept_1_4_6 1
unfolding entries_in entries_up_to split_payload with_changes joined
both_partitions_in_format_2_seen = refl

abbrev coordinator_in_format_3 : List (List ℕ)
coordinator_in_format_3 = (coordinator 1 ++ closed_gate) ∷ snapshot_of 3 ∷ units_of_0 1 ∷ (1 ∷ (next_header 0 ++ closed_gate)) ∷ page_4_6 ∷ units_of_1 1 ∷ (1 ∷ (next_header 1 ++ closed_gate)) ∷ page_1 ∷ []

coordinator_in_format_3_seen : seen_of coordinator_in_format_3 2 0 ≡ kept_1_4_6 3
unfolding entries_in entries_up_to split_payload with_changes joined
coordinator_in_format_3_seen = refl

-- a wrong order: partition 1 has format 1 still, under a coordinator of format 3
abbrev coordinator_before_a_partition : List (List ℕ)
coordinator_before_a_partition = (coordinator 1 ++ closed_gate) ∷ snapshot_of 3 ∷ units_of_0 1 ∷ (1 ∷ (next_header 0 ++ closed_gate)) ∷ page_4_6 ∷ units_of_1 1 ∷ [] ∷ [] ∷ []

coordinator_before_a_partition_seen : seen_of coordinator_before_a_partition 2 0 ≡ hex (codes "0105")
unfolding entries_in entries_up_to split_payload with_changes joined
coordinator_before_a_partition_seen = refl

formats_spelled : list_all respelled (formats_1 ∷ partition_0_in_format_2 ∷ both_partitions_in_format_2 ∷ coordinator_in_format_3 ∷ coordinator_before_a_partition ∷ []) ≡ true
unfolding entries_in entries_up_to split_payload
formats_spelled = refl

-- A ROW ON A PAGE of which the check of its table is false

-- a decided unit removes it, and it is judged all the same; page_removed_by_entry of Units.antt has a sound one
abbrev unsound_row_removed : List (List ℕ)
unsound_row_removed = (coordinator 3 ++ decision_4) ∷ [] ∷ closed_gate ∷ (1 ∷ (next_header 0 ++ hex (codes "0100000000000000250100000000000000010000000000000004000000000000000100000001000000000000000200"))) ∷ (hex (codes "000200000201000000000000000201fffffffffffffffb000002010000000000000004010000000000000006") ++ zeros 8148) ∷ units_of_1 2 ∷ [] ∷ [] ∷ []

unsound_row_removed_seen : seen_of unsound_row_removed 2 0 ≡ hex (codes "0104")
unfolding entries_in entries_up_to split_payload with_changes joined
unsound_row_removed_seen = refl

unsound_row_removed_spelled : respelled unsound_row_removed ≡ true
unfolding entries_in entries_up_to split_payload
unsound_row_removed_spelled = refl
