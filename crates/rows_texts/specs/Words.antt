-- Words of the program, beside those that stand with the definitions.
use Rattle.salt_place.specs.declared.placement.PlaceKind.TheVariants.{Remainder}
use Rattle.salt_promise.specs.Words.{all_given, command_said, folder_named}
use Rattle.salt_promise.specs.declared.command.Command.TheVariants.{Script}
use Rattle.salt_promise.specs.declared.command.Command.{Command}
use Rattle.std.specs.Prelude.{List, None, Option, Some, [], codes, false, refl, ℕ, ◌∷◌, ◌≡◌}

-- the lines of a script over so many partitions
abbrev over : ℕ → Command
over parts = Script (record { parts = parts; kind = Remainder }) false false

-- the command, and the folder of a run
abbrev said : List (List ℕ) → Option Command × Option (List ℕ)
said words = (command_said words, folder_named words)

-- an é in two bytes
folder_outside_ascii : said (codes "run" ∷ codes "--dir" ∷ (195 ∷ 169 ∷ []) ∷ []) ≡ (Some (over 2), Some (195 ∷ 169 ∷ []))
unfolding all_given
folder_outside_ascii = refl

folder_first : said (codes "run" ∷ codes "--dir=data/a" ∷ codes "--parts=8" ∷ []) ≡ (Some (over 8), Some (codes "data/a"))
unfolding all_given
folder_first = refl

word_alone : said (codes "run" ∷ codes "data" ∷ []) ≡ (None, None)
unfolding all_given
word_alone = refl

parts_below_0 : said (codes "run" ∷ codes "--parts" ∷ codes "-2" ∷ []) ≡ (None, None)
unfolding all_given
parts_below_0 = refl

folders_in_both_forms : said (codes "run" ∷ codes "--dir" ∷ codes "a" ∷ codes "--dir=b" ∷ []) ≡ (None, None)
unfolding all_given
folders_in_both_forms = refl
