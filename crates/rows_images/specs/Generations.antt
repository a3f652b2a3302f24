-- Blank devices, pairs of logs and their generations.
use Rattle.salt_bytes.specs.Log.{entries_in, entries_up_to, split_payload}
use Rattle.salt_model.specs.Tables.{with_changes}
use Rattle.salt_stands.specs.Tables.{joined}
use Rattle.rows_images.specs.Known.{hex, respelled, seen_of}
use Rattle.std.specs.Prelude.{List, [], codes, refl, true, ℕ, ◌∷◌, ◌≡◌}

abbrev blank : List (List ℕ)
blank = ([]) ∷ []

blank_seen : seen_of blank 2 0 ≡ hex (codes "0002000300000000000000000000000000000000")
unfolding entries_in entries_up_to split_payload with_changes joined
blank_seen = refl

blank_spelled : respelled blank ≡ true
unfolding entries_in entries_up_to split_payload
blank_spelled = refl

abbrev blank_gate : List (List ℕ)
blank_gate = (hex (codes "01")) ∷ (hex (codes "000102")) ∷ []

blank_gate_seen : seen_of blank_gate 2 0 ≡ hex (codes "0002000300000000000000000000000000000000")
unfolding entries_in entries_up_to split_payload with_changes joined
blank_gate_seen = refl

blank_gate_spelled : respelled blank_gate ≡ true
unfolding entries_in entries_up_to split_payload
blank_gate_spelled = refl

abbrev blank_other_devices_foreign : List (List ℕ)
blank_other_devices_foreign = ([]) ∷ ([]) ∷ (hex (codes "010101")) ∷ ([]) ∷ ([]) ∷ (hex (codes "0100")) ∷ []

blank_other_devices_foreign_seen : seen_of blank_other_devices_foreign 2 0 ≡ hex (codes "0002000300000000000000000000000000000000")
unfolding entries_in entries_up_to split_payload with_changes joined
blank_other_devices_foreign_seen = refl

blank_other_devices_foreign_spelled : respelled blank_other_devices_foreign ≡ true
unfolding entries_in entries_up_to split_payload
blank_other_devices_foreign_spelled = refl

abbrev wrap : List (List ℕ)
wrap = (hex (codes "01000000000000003053414c544303ffffffffffffffff0200000000000000000100000000000000000000000000000000000000000000000000")) ∷ (hex (codes "01000000000000003053414c54430300000000000000020200000000000000000700000000000000000000000000000000000000000000000000")) ∷ (hex (codes "01000000000000001353414c5450020000000000000001000000000000")) ∷ ([]) ∷ ([]) ∷ (hex (codes "01000000000000001353414c5450020000000000000001010000000000")) ∷ []

wrap_seen : seen_of wrap 2 0 ≡ hex (codes "0002000300000000000000070000000000000000")
unfolding entries_in entries_up_to split_payload with_changes joined
wrap_seen = refl

wrap_spelled : respelled wrap ≡ true
unfolding entries_in entries_up_to split_payload
wrap_spelled = refl

abbrev wrap_back : List (List ℕ)
wrap_back = (hex (codes "01000000000000003053414c54430300000000000000020200000000000000000900000000000000000000000000000000000000000000000000")) ∷ (hex (codes "01000000000000003053414c544303ffffffffffffffff0200000000000000000100000000000000000000000000000000000000000000000000")) ∷ (hex (codes "01000000000000001353414c5450020000000000000001000000000000")) ∷ ([]) ∷ ([]) ∷ (hex (codes "01000000000000001353414c5450020000000000000001010000000000")) ∷ []

wrap_back_seen : seen_of wrap_back 2 0 ≡ hex (codes "0002000300000000000000090000000000000000")
unfolding entries_in entries_up_to split_payload with_changes joined
wrap_back_seen = refl

wrap_back_spelled : respelled wrap_back ≡ true
unfolding entries_in entries_up_to split_payload
wrap_back_spelled = refl

abbrev wrap_not_one : List (List ℕ)
wrap_not_one = (hex (codes "01000000000000003053414c544303ffffffffffffffff0200000000000000000100000000000000000000000000000000000000000000000000")) ∷ (hex (codes "01000000000000003053414c54430300000000000000010200000000000000000100000000000000000000000000000000000000000000000000")) ∷ (hex (codes "01000000000000001353414c5450020000000000000001000000000000")) ∷ ([]) ∷ ([]) ∷ (hex (codes "01000000000000001353414c5450020000000000000001010000000000")) ∷ []

wrap_not_one_seen : seen_of wrap_not_one 2 0 ≡ hex (codes "0101")
unfolding entries_in entries_up_to split_payload with_changes joined
wrap_not_one_seen = refl

wrap_not_one_spelled : respelled wrap_not_one ≡ true
unfolding entries_in entries_up_to split_payload
wrap_not_one_spelled = refl

abbrev gap : List (List ℕ)
gap = (hex (codes "01000000000000003053414c54430300000000000000010200000000000000000100000000000000000000000000000000000000000000000000")) ∷ (hex (codes "01000000000000003053414c54430300000000000000030200000000000000000100000000000000000000000000000000000000000000000000")) ∷ (hex (codes "01000000000000001353414c5450020000000000000001000000000000")) ∷ ([]) ∷ ([]) ∷ (hex (codes "01000000000000001353414c5450020000000000000001010000000000")) ∷ []

gap_seen : seen_of gap 2 0 ≡ hex (codes "0101")
unfolding entries_in entries_up_to split_payload with_changes joined
gap_seen = refl

gap_spelled : respelled gap ≡ true
unfolding entries_in entries_up_to split_payload
gap_spelled = refl

abbrev same_generation : List (List ℕ)
same_generation = (hex (codes "01000000000000003053414c54430300000000000000050200000000000000000100000000000000000000000000000000000000000000000000")) ∷ (hex (codes "01000000000000003053414c54430300000000000000050200000000000000000100000000000000000000000000000000000000000000000000")) ∷ (hex (codes "01000000000000001353414c5450020000000000000001000000000000")) ∷ ([]) ∷ ([]) ∷ (hex (codes "01000000000000001353414c5450020000000000000001010000000000")) ∷ []

same_generation_seen : seen_of same_generation 2 0 ≡ hex (codes "0101")
unfolding entries_in entries_up_to split_payload with_changes joined
same_generation_seen = refl

same_generation_spelled : respelled same_generation ≡ true
unfolding entries_in entries_up_to split_payload
same_generation_spelled = refl

abbrev generation_zero : List (List ℕ)
generation_zero = (hex (codes "01000000000000003053414c54430300000000000000000200000000000000000100000000000000000000000000000000000000000000000000")) ∷ ([]) ∷ (hex (codes "01000000000000001353414c5450020000000000000001000000000000")) ∷ ([]) ∷ ([]) ∷ (hex (codes "01000000000000001353414c5450020000000000000001010000000000")) ∷ []

generation_zero_seen : seen_of generation_zero 2 0 ≡ hex (codes "0100")
unfolding entries_in entries_up_to split_payload with_changes joined
generation_zero_seen = refl

generation_zero_spelled : respelled generation_zero ≡ true
unfolding entries_in entries_up_to split_payload
generation_zero_spelled = refl

abbrev parts_nine : List (List ℕ)
parts_nine = (hex (codes "01000000000000003053414c54430300000000000000010900000000000000000100000000000000000000000000000000000000000000000000")) ∷ ([]) ∷ (hex (codes "01000000000000001353414c5450020000000000000001000000000000")) ∷ ([]) ∷ ([]) ∷ (hex (codes "01000000000000001353414c5450020000000000000001010000000000")) ∷ []

parts_nine_seen : seen_of parts_nine 2 0 ≡ hex (codes "0100")
unfolding entries_in entries_up_to split_payload with_changes joined
parts_nine_seen = refl

parts_nine_spelled : respelled parts_nine ≡ true
unfolding entries_in entries_up_to split_payload
parts_nine_spelled = refl

abbrev coordinator_only_second : List (List ℕ)
coordinator_only_second = ([]) ∷ (hex (codes "01000000000000003053414c54430300000000000000040200000000000000000100000000000000000000000000000000000000000000000000")) ∷ (hex (codes "01000000000000001353414c5450020000000000000001000000000000")) ∷ ([]) ∷ ([]) ∷ (hex (codes "01000000000000001353414c5450020000000000000001010000000000")) ∷ []

coordinator_only_second_seen : seen_of coordinator_only_second 2 0 ≡ hex (codes "0002000300000000000000010000000000000000")
unfolding entries_in entries_up_to split_payload with_changes joined
coordinator_only_second_seen = refl

coordinator_only_second_spelled : respelled coordinator_only_second ≡ true
unfolding entries_in entries_up_to split_payload
coordinator_only_second_spelled = refl
