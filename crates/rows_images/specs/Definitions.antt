-- Partitions, definitions, shapes and numbers that are spent.
use Rattle.salt_bytes.specs.Log.{entries_in, entries_up_to, split_payload}
use Rattle.salt_model.specs.Tables.{with_changes}
use Rattle.salt_stands.specs.Tables.{joined}
use Rattle.rows_images.specs.Known.{hex, respelled, seen_of}
use Rattle.std.specs.Prelude.{List, [], codes, refl, true, ℕ, ◌∷◌, ◌≡◌}

abbrev part_both_blank : List (List ℕ)
part_both_blank = (hex (codes "01000000000000003053414c54430300000000000000010200000000000000000100000000000000000000000000000000000000000000000000")) ∷ ([]) ∷ ([]) ∷ ([]) ∷ ([]) ∷ (hex (codes "01000000000000001353414c5450020000000000000001010000000000")) ∷ []

part_both_blank_seen : seen_of part_both_blank 2 0 ≡ hex (codes "0103")
unfolding entries_in entries_up_to split_payload with_changes joined
part_both_blank_seen = refl

part_both_blank_spelled : respelled part_both_blank ≡ true
unfolding entries_in entries_up_to split_payload
part_both_blank_spelled = refl

abbrev part_both_blank_1 : List (List ℕ)
part_both_blank_1 = (hex (codes "01000000000000003053414c54430300000000000000010200000000000000000100000000000000000000000000000000000000000000000000")) ∷ ([]) ∷ (hex (codes "01000000000000001353414c5450020000000000000001000000000000")) ∷ ([]) ∷ ([]) ∷ (hex (codes "00")) ∷ []

part_both_blank_1_seen : seen_of part_both_blank_1 2 0 ≡ hex (codes "0106")
unfolding entries_in entries_up_to split_payload with_changes joined
part_both_blank_1_seen = refl

part_both_blank_1_spelled : respelled part_both_blank_1 ≡ true
unfolding entries_in entries_up_to split_payload
part_both_blank_1_spelled = refl

abbrev part_number : List (List ℕ)
part_number = (hex (codes "01000000000000003053414c54430300000000000000010200000000000000000100000000000000000000000000000000000000000000000000")) ∷ ([]) ∷ (hex (codes "01000000000000001353414c5450020000000000000001000000000000")) ∷ ([]) ∷ ([]) ∷ (hex (codes "01000000000000001353414c5450020000000000000001000000000000")) ∷ []

part_number_seen : seen_of part_number 2 0 ≡ hex (codes "0105")
unfolding entries_in entries_up_to split_payload with_changes joined
part_number_seen = refl

part_number_spelled : respelled part_number ≡ true
unfolding entries_in entries_up_to split_payload
part_number_spelled = refl

abbrev part_not_counting_number : List (List ℕ)
part_not_counting_number = (hex (codes "01000000000000003053414c54430300000000000000010200000000000000000100000000000000000000000000000000000000000000000000")) ∷ ([]) ∷ (hex (codes "01000000000000001353414c5450020000000000000002000000000000")) ∷ (hex (codes "01000000000000001353414c5450020000000000000001010000000000")) ∷ ([]) ∷ (hex (codes "01000000000000001353414c5450020000000000000001010000000000")) ∷ []

part_not_counting_number_seen : seen_of part_not_counting_number 2 0 ≡ hex (codes "0103")
unfolding entries_in entries_up_to split_payload with_changes joined
part_not_counting_number_seen = refl

part_not_counting_number_spelled : respelled part_not_counting_number ≡ true
unfolding entries_in entries_up_to split_payload
part_not_counting_number_spelled = refl

abbrev bad_definition_not_counting : List (List ℕ)
bad_definition_not_counting = (hex (codes "01000000000000004353414c5443030000000000000002020000000000000000010000000000000000000000000000000100000000000000090000000000000003666f6f000000000000000000")) ∷ (hex (codes "01000000000000003053414c54430300000000000000030200000000000000000100000000000000000000000000000000000000000000000000")) ∷ (hex (codes "01000000000000001353414c5450020000000000000001000000000000")) ∷ ([]) ∷ ([]) ∷ (hex (codes "01000000000000001353414c5450020000000000000001010000000000")) ∷ []

bad_definition_not_counting_seen : seen_of bad_definition_not_counting 2 0 ≡ hex (codes "0002000300000000000000010000000000000000")
unfolding entries_in entries_up_to split_payload with_changes joined
bad_definition_not_counting_seen = refl

bad_definition_not_counting_spelled : respelled bad_definition_not_counting ≡ true
unfolding entries_in entries_up_to split_payload
bad_definition_not_counting_spelled = refl

abbrev bad_definition : List (List ℕ)
bad_definition = (hex (codes "01000000000000004353414c5443030000000000000001020000000000000000010000000000000000000000000000000100000000000000090000000000000003666f6f000000000000000000")) ∷ ([]) ∷ (hex (codes "01000000000000001353414c5450020000000000000001000000000000")) ∷ ([]) ∷ ([]) ∷ (hex (codes "01000000000000001353414c5450020000000000000001010000000000")) ∷ []

bad_definition_seen : seen_of bad_definition 2 0 ≡ hex (codes "0100")
unfolding entries_in entries_up_to split_payload with_changes joined
bad_definition_seen = refl

bad_definition_spelled : respelled bad_definition ≡ true
unfolding entries_in entries_up_to split_payload
bad_definition_spelled = refl

abbrev same_definition_twice : List (List ℕ)
same_definition_twice = (hex (codes "0100000000000000c253414c5443030000000000000001020000000000000000010000000000000002000000000000000200000000000000010000000000000039637265617465207461626c6520616363742028696420696e74206b65792c2062616c20696e742c20636865636b202862616c203e3d2030292900000000000000020000000000000039637265617465207461626c6520616363742028696420696e74206b65792c2062616c20696e742c20636865636b202862616c203e3d20302929000000000000000000")) ∷ ([]) ∷ (hex (codes "01000000000000001353414c5450020000000000000001000000000000")) ∷ ([]) ∷ ([]) ∷ (hex (codes "01000000000000001353414c5450020000000000000001010000000000")) ∷ []

same_definition_twice_seen : seen_of same_definition_twice 2 0 ≡ hex (codes "0100")
unfolding entries_in entries_up_to split_payload with_changes joined
same_definition_twice_seen = refl

same_definition_twice_spelled : respelled same_definition_twice ≡ true
unfolding entries_in entries_up_to split_payload
same_definition_twice_spelled = refl

abbrev program_before_table : List (List ℕ)
program_before_table = (hex (codes "01000000000000019253414c544303000000000000000102000000000000000001000000000000000200000000000000020000000000000001000000000000010970726f6772616d207472616e73666572286120696e742c206220696e742c20616d7420696e742920626173652070617274207b207570646174652061636374207365742062616c203d202862616c202d203a616d7429207768657265206b6579203d203a61207d2070617274207b207570646174652061636374207365742062616c203d202862616c202b203a616d7429207768657265206b6579203d203a62207d207468656e20656e64206f6e206661696c75726520676f20332070617274207b207570646174652061636374207365742062616c203d202862616c202b203a616d7429207768657265206b6579203d203a61207d206f6e206661696c75726520656e6420656e6400000000000000020000000000000039637265617465207461626c6520616363742028696420696e74206b65792c2062616c20696e742c20636865636b202862616c203e3d20302929000000000000000000")) ∷ ([]) ∷ (hex (codes "01000000000000001353414c5450020000000000000001000000000000")) ∷ ([]) ∷ ([]) ∷ (hex (codes "01000000000000001353414c5450020000000000000001010000000000")) ∷ []

program_before_table_seen : seen_of program_before_table 2 0 ≡ hex (codes "0100")
unfolding entries_in entries_up_to split_payload with_changes joined
program_before_table_seen = refl

program_before_table_spelled : respelled program_before_table ≡ true
unfolding entries_in entries_up_to split_payload
program_before_table_spelled = refl

abbrev program_behind_table : List (List ℕ)
program_behind_table = (hex (codes "01000000000000019253414c5443030000000000000001020000000000000000010000000000000002000000000000000200000000000000010000000000000039637265617465207461626c6520616363742028696420696e74206b65792c2062616c20696e742c20636865636b202862616c203e3d203029290000000000000002000000000000010970726f6772616d207472616e73666572286120696e742c206220696e742c20616d7420696e742920626173652070617274207b207570646174652061636374207365742062616c203d202862616c202d203a616d7429207768657265206b6579203d203a61207d2070617274207b207570646174652061636374207365742062616c203d202862616c202b203a616d7429207768657265206b6579203d203a62207d207468656e20656e64206f6e206661696c75726520676f20332070617274207b207570646174652061636374207365742062616c203d202862616c202b203a616d7429207768657265206b6579203d203a61207d206f6e206661696c75726520656e6420656e64000000000000000000")) ∷ ([]) ∷ (hex (codes "01000000000000001353414c5450020000000000000001000000000000")) ∷ ([]) ∷ ([]) ∷ (hex (codes "01000000000000001353414c5450020000000000000001010000000000")) ∷ []

program_behind_table_seen : seen_of program_behind_table 2 0 ≡ hex (codes "00020003000000000000000100000000000000020000000000000039637265617465207461626c6520616363742028696420696e74206b65792c2062616c20696e742c20636865636b202862616c203e3d20302929000000000000010970726f6772616d207472616e73666572286120696e742c206220696e742c20616d7420696e742920626173652070617274207b207570646174652061636374207365742062616c203d202862616c202d203a616d7429207768657265206b6579203d203a61207d2070617274207b207570646174652061636374207365742062616c203d202862616c202b203a616d7429207768657265206b6579203d203a62207d207468656e20656e64206f6e206661696c75726520676f20332070617274207b207570646174652061636374207365742062616c203d202862616c202b203a616d7429207768657265206b6579203d203a61207d206f6e206661696c75726520656e6420656e64")
unfolding entries_in entries_up_to split_payload with_changes joined
program_behind_table_seen = refl

program_behind_table_spelled : respelled program_behind_table ≡ true
unfolding entries_in entries_up_to split_payload
program_behind_table_spelled = refl

abbrev spent_boot : List (List ℕ)
spent_boot = (hex (codes "01000000000000003053414c54430300000000000000010200800000000000000000000000000000000000000000000000000000000000000000")) ∷ ([]) ∷ (hex (codes "0101")) ∷ ([]) ∷ ([]) ∷ (hex (codes "01000000000000001353414c5450020000000000000001010000000000")) ∷ []

spent_boot_seen : seen_of spent_boot 2 0 ≡ hex (codes "0380000000000000000000000000000000")
unfolding entries_in entries_up_to split_payload with_changes joined
spent_boot_seen = refl

spent_boot_spelled : respelled spent_boot ≡ true
unfolding entries_in entries_up_to split_payload
spent_boot_spelled = refl

abbrev spent_decisions : List (List ℕ)
spent_decisions = (hex (codes "01000000000000003053414c54430300000000000000010200000000000000000180000000000000000000000000000000000000000000000000")) ∷ ([]) ∷ (hex (codes "01000000000000001353414c5450020000000000000001000000000000")) ∷ ([]) ∷ ([]) ∷ (hex (codes "01000000000000001353414c5450020000000000000001010000000000")) ∷ []

spent_decisions_seen : seen_of spent_decisions 2 0 ≡ hex (codes "0300000000000000018000000000000000")
unfolding entries_in entries_up_to split_payload with_changes joined
spent_decisions_seen = refl

spent_decisions_spelled : respelled spent_decisions ≡ true
unfolding entries_in entries_up_to split_payload
spent_decisions_spelled = refl

abbrev not_spent : List (List ℕ)
not_spent = (hex (codes "01000000000000003053414c544303000000000000000102007fffffffffffffff7fffffffffffffff0000000000000000000000000000000000")) ∷ ([]) ∷ (hex (codes "01000000000000001353414c5450020000000000000001000000000000")) ∷ ([]) ∷ ([]) ∷ (hex (codes "01000000000000001353414c5450020000000000000001010000000000")) ∷ []

not_spent_seen : seen_of not_spent 2 0 ≡ hex (codes "000200037fffffffffffffff7fffffffffffffff")
unfolding entries_in entries_up_to split_payload with_changes joined
not_spent_seen = refl

not_spent_spelled : respelled not_spent ≡ true
unfolding entries_in entries_up_to split_payload
not_spent_spelled = refl

abbrev spent_and_shape : List (List ℕ)
spent_and_shape = (hex (codes "01000000000000003053414c54430300000000000000010200800000000000000000000000000000000000000000000000000000000000000000")) ∷ ([]) ∷ (hex (codes "0101")) ∷ ([]) ∷ ([]) ∷ (hex (codes "01000000000000001353414c5450020000000000000001010000000000")) ∷ []

spent_and_shape_seen : seen_of spent_and_shape 2 1 ≡ hex (codes "0202000201")
unfolding entries_in entries_up_to split_payload with_changes joined
spent_and_shape_seen = refl

spent_and_shape_spelled : respelled spent_and_shape ≡ true
unfolding entries_in entries_up_to split_payload
spent_and_shape_spelled = refl

abbrev shape_before_part_fault : List (List ℕ)
shape_before_part_fault = (hex (codes "01000000000000003053414c54430300000000000000010200000000000000000100000000000000000000000000000000000000000000000000")) ∷ ([]) ∷ (hex (codes "0101")) ∷ ([]) ∷ ([]) ∷ (hex (codes "01000000000000001353414c5450020000000000000001010000000000")) ∷ []

shape_before_part_fault_seen : seen_of shape_before_part_fault 1 0 ≡ hex (codes "0202000100")
unfolding entries_in entries_up_to split_payload with_changes joined
shape_before_part_fault_seen = refl

shape_before_part_fault_spelled : respelled shape_before_part_fault ≡ true
unfolding entries_in entries_up_to split_payload
shape_before_part_fault_spelled = refl

abbrev entry_unit_of_later_boot : List (List ℕ)
entry_unit_of_later_boot = (hex (codes "01000000000000007953414c5443030000000000000001020000000000000000010000000000000001000000000000000100000000000000010000000000000039637265617465207461626c6520616363742028696420696e74206b65792c2062616c20696e742c20636865636b202862616c203e3d20302929000000000000000000")) ∷ ([]) ∷ (hex (codes "01000000000000001353414c5450020000000000000001000000000001000000000000002f010000000000000002000000000000000100000000000000010000010201000000000000000201000000000000000500")) ∷ ([]) ∷ ([]) ∷ (hex (codes "01000000000000001353414c5450020000000000000001010000000000")) ∷ []

entry_unit_of_later_boot_seen : seen_of entry_unit_of_later_boot 2 0 ≡ hex (codes "0102")
unfolding entries_in entries_up_to split_payload with_changes joined
entry_unit_of_later_boot_seen = refl

entry_unit_of_later_boot_spelled : respelled entry_unit_of_later_boot ≡ true
unfolding entries_in entries_up_to split_payload
entry_unit_of_later_boot_spelled = refl
