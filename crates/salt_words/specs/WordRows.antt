-- Words that say a command and words that say none, computed from the definitions.
use Rattle.salt_place.specs.declared.placement.PlaceKind.TheVariants.{Bands, Remainder}
use Rattle.salt_promise.specs.Words.{all_given, command_said, folder_named, says_audit}
use Rattle.salt_promise.specs.declared.command.Command.TheVariants.{Load, Script}
use Rattle.salt_promise.specs.declared.command.Command.{Command}
use Rattle.std.specs.Prelude.{Bool, List, None, Option, Some, [], codes, false, refl, true, ℕ, ◌∷◌, ◌≡◌}

-- the lines of a script over so many partitions
abbrev over : ℕ → Command
over parts = Script (record { parts = parts; kind = Remainder }) false false

abbrev over_early : ℕ → Command
over_early parts = Script (record { parts = parts; kind = Remainder }) true false

abbrev over_net : ℕ → Command
over_net parts = Script (record { parts = parts; kind = Remainder }) false true

-- the command, and the folder of a run
abbrev said : List (List ℕ) → Option Command × Option (List ℕ)
said words = (command_said words, folder_named words)

one_word : said (codes "run" ∷ []) ≡ (Some (over 2), None)
unfolding all_given
one_word = refl

both_apart : said (codes "run" ∷ codes "--parts" ∷ codes "3" ∷ codes "--dir" ∷ codes "data" ∷ []) ≡ (Some (over 3), Some (codes "data"))
unfolding all_given
both_apart = refl

other_order : said (codes "run" ∷ codes "--dir" ∷ codes "data" ∷ codes "--parts" ∷ codes "3" ∷ []) ≡ (Some (over 3), Some (codes "data"))
unfolding all_given
other_order = refl

both_joined : said (codes "run" ∷ codes "--parts=8" ∷ codes "--dir=data/a" ∷ []) ≡ (Some (over 8), Some (codes "data/a"))
unfolding all_given
both_joined = refl

one_of_each_form : said (codes "run" ∷ codes "--parts=1" ∷ codes "--dir" ∷ codes "data" ∷ []) ≡ (Some (over 1), Some (codes "data"))
unfolding all_given
one_of_each_form = refl

leading_zeros : said (codes "run" ∷ codes "--parts" ∷ codes "000000000000000000000000000002" ∷ []) ≡ (Some (over 2), None)
unfolding all_given
leading_zeros = refl

dashed_folder : said (codes "run" ∷ codes "--dir=-x" ∷ []) ≡ (Some (over 2), Some (codes "-x"))
unfolding all_given
dashed_folder = refl

folder_with_equals_sign : said (codes "run" ∷ codes "--dir" ∷ codes "a=b" ∷ []) ≡ (Some (over 2), Some (codes "a=b"))
unfolding all_given
folder_with_equals_sign = refl

joined_folder_with_equals_sign : said (codes "run" ∷ codes "--dir=--parts=9" ∷ []) ≡ (Some (over 2), Some (codes "--parts=9"))
unfolding all_given
joined_folder_with_equals_sign = refl

folder_that_is_a_command : said (codes "run" ∷ codes "--dir" ∷ codes "run" ∷ []) ≡ (Some (over 2), Some (codes "run"))
unfolding all_given
folder_that_is_a_command = refl

least_load : said (codes "load" ∷ codes "1" ∷ []) ≡ (Some (Load 1), None)
unfolding all_given
least_load = refl

greatest_load : said (codes "load" ∷ codes "020000" ∷ []) ≡ (Some (Load 20000), None)
unfolding all_given
greatest_load = refl

spread_by_bands : said (codes "run" ∷ codes "--place" ∷ codes "bands" ∷ codes "--parts=3" ∷ []) ≡ (Some (Script (record { parts = 3; kind = Bands }) false false), None)
unfolding all_given
spread_by_bands = refl

spread_by_remainders : said (codes "run" ∷ codes "--place=remainder" ∷ []) ≡ (Some (over 2), None)
unfolding all_given
spread_by_remainders = refl

early_alone : said (codes "run" ∷ codes "--early" ∷ []) ≡ (Some (over_early 2), None)
unfolding all_given
early_alone = refl

early_between : said (codes "run" ∷ codes "--parts" ∷ codes "3" ∷ codes "--early" ∷ codes "--dir=data" ∷ []) ≡ (Some (over_early 3), Some (codes "data"))
unfolding all_given
early_between = refl

net_alone : said (codes "run" ∷ codes "--net" ∷ []) ≡ (Some (over_net 2), None)
unfolding all_given
net_alone = refl

net_before_others : said (codes "run" ∷ codes "--net" ∷ codes "--parts" ∷ codes "3" ∷ codes "--dir=data" ∷ []) ≡ (Some (over_net 3), Some (codes "data"))
unfolding all_given
net_before_others = refl

net_and_early : said (codes "run" ∷ codes "--early" ∷ codes "--net" ∷ []) ≡ (Some (Script (record { parts = 2; kind = Remainder }) true true), None)
unfolding all_given
net_and_early = refl

-- Words that say none.

net_twice : said (codes "run" ∷ codes "--net" ∷ codes "--net" ∷ []) ≡ (None, None)
unfolding all_given
net_twice = refl

net_with_a_value : said (codes "run" ∷ codes "--net=1" ∷ []) ≡ (None, None)
unfolding all_given
net_with_a_value = refl

spread_otherwise : said (codes "run" ∷ codes "--place" ∷ codes "Bands" ∷ []) ≡ (None, None)
unfolding all_given
spread_otherwise = refl

spread_twice : said (codes "run" ∷ codes "--place=bands" ∷ codes "--place=bands" ∷ []) ≡ (None, None)
unfolding all_given
spread_twice = refl

early_twice : said (codes "run" ∷ codes "--early" ∷ codes "--early" ∷ []) ≡ (None, None)
unfolding all_given
early_twice = refl

early_with_a_value : said (codes "run" ∷ codes "--early" ∷ codes "1" ∷ []) ≡ (None, None)
unfolding all_given
early_with_a_value = refl

early_with_a_value_in_one_word : said (codes "run" ∷ codes "--early=1" ∷ []) ≡ (None, None)
unfolding all_given
early_with_a_value_in_one_word = refl

early_load : said (codes "load" ∷ codes "1" ∷ codes "--early" ∷ []) ≡ (None, None)
unfolding all_given
early_load = refl

no_words : said ([]) ≡ (None, None)
unfolding all_given
no_words = refl

another_word : said (codes "Run" ∷ []) ≡ (None, None)
unfolding all_given
another_word = refl

folder_apart_that_begins_with_a_dash : said (codes "run" ∷ codes "--dir" ∷ codes "-x" ∷ []) ≡ (None, None)
unfolding all_given
folder_apart_that_begins_with_a_dash = refl

no_folder : said (codes "run" ∷ codes "--dir" ∷ []) ≡ (None, None)
unfolding all_given
no_folder = refl

no_name_of_a_folder : said (codes "run" ∷ codes "--dir=" ∷ []) ≡ (None, None)
unfolding all_given
no_name_of_a_folder = refl

no_name_of_a_folder_apart : said (codes "run" ∷ codes "--dir" ∷ codes "" ∷ []) ≡ (None, None)
unfolding all_given
no_name_of_a_folder_apart = refl

no_parts : said (codes "run" ∷ codes "--parts" ∷ []) ≡ (None, None)
unfolding all_given
no_parts = refl

nine_parts : said (codes "run" ∷ codes "--parts" ∷ codes "9" ∷ []) ≡ (None, None)
unfolding all_given
nine_parts = refl

no_part : said (codes "run" ∷ codes "--parts=0" ∷ []) ≡ (None, None)
unfolding all_given
no_part = refl

very_many_parts : said (codes "run" ∷ codes "--parts" ∷ codes "18446744073709551618" ∷ []) ≡ (None, None)
unfolding all_given
very_many_parts = refl

parts_with_a_sign : said (codes "run" ∷ codes "--parts=+2" ∷ []) ≡ (None, None)
unfolding all_given
parts_with_a_sign = refl

no_digits : said (codes "run" ∷ codes "--parts=" ∷ []) ≡ (None, None)
unfolding all_given
no_digits = refl

parts_twice : said (codes "run" ∷ codes "--parts" ∷ codes "2" ∷ codes "--parts=2" ∷ []) ≡ (None, None)
unfolding all_given
parts_twice = refl

folder_twice : said (codes "run" ∷ codes "--dir" ∷ codes "a" ∷ codes "--dir" ∷ codes "a" ∷ []) ≡ (None, None)
unfolding all_given
folder_twice = refl

help : said (codes "run" ∷ codes "--help" ∷ []) ≡ (None, None)
unfolding all_given
help = refl

help_with_a_value : said (codes "run" ∷ codes "--help=2" ∷ []) ≡ (None, None)
unfolding all_given
help_with_a_value = refl

short_name : said (codes "run" ∷ codes "-p" ∷ codes "2" ∷ []) ≡ (None, None)
unfolding all_given
short_name = refl

dashes : said (codes "run" ∷ codes "--" ∷ []) ≡ (None, None)
unfolding all_given
dashes = refl

word_behind : said (codes "run" ∷ codes "--parts" ∷ codes "2" ∷ codes "data" ∷ []) ≡ (None, None)
unfolding all_given
word_behind = refl

front_of_a_name : said (codes "run" ∷ codes "--part=2" ∷ []) ≡ (None, None)
unfolding all_given
front_of_a_name = refl

no_calls : said (codes "load" ∷ []) ≡ (None, None)
unfolding all_given
no_calls = refl

load_of_none : said (codes "load" ∷ codes "0" ∷ []) ≡ (None, None)
unfolding all_given
load_of_none = refl

load_of_too_many : said (codes "load" ∷ codes "20001" ∷ []) ≡ (None, None)
unfolding all_given
load_of_too_many = refl

load_with_a_setting : said (codes "load" ∷ codes "8" ∷ codes "--parts=2" ∷ []) ≡ (None, None)
unfolding all_given
load_with_a_setting = refl

setting_of_no_run : said (codes "--parts=2" ∷ codes "run" ∷ []) ≡ (None, None)
unfolding all_given
setting_of_no_run = refl

-- The word `audit` alone asks for no run, and no other words ask what it does.

abbrev asked : List (List ℕ) → Bool × Option Command
asked words = (says_audit words, command_said words)

audit_alone : asked (codes "audit" ∷ []) ≡ (true, None)
audit_alone = refl

audit_with_a_word : asked (codes "audit" ∷ codes "file" ∷ []) ≡ (false, None)
audit_with_a_word = refl

no_audit : says_audit (codes "run" ∷ []) ≡ false
no_audit = refl
