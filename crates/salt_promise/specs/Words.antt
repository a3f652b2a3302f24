-- The words that a program was called with, and the command that they say.
use Rattle.salt_place.specs.declared.placement.PlaceKind.TheVariants.{Bands, Remainder}
use Rattle.salt_place.specs.declared.placement.PlaceKind.{PlaceKind}
use Rattle.salt_promise.specs.declared.command.Command.TheVariants.{Load, Script}
use Rattle.salt_promise.specs.declared.command.Command.{Command}
use Rattle.salt_promise.specs.declared.command.Setting.TheVariants.{Folder, Parts, Place}
use Rattle.salt_promise.specs.declared.command.Setting.{Setting}
use Rattle.salt_values.specs.declared.limits.TheConstants.{CALLS_MOST, PARTITIONS_MOST}
use Rattle.std.specs.Bool.{then_some}
use Rattle.std.specs.Char.{is_ascii_digit}
use Rattle.std.specs.Global.{Global}
use Rattle.std.specs.List.{filter, find, list_all, position}
use Rattle.std.specs.Prelude.{Bool, List, None, Option, Some, [], codes, drop, false, if◌then◌else◌, length, map, nat_le, nat_lt, option_and_then, option_map, string_bytes, suc, take, true, zero, ℕ, ◌&&◌, ◌+◌, ◌==◌, ◌∷◌}
use Rattle.std.specs.Str.Parse.{digits_value}
use Rattle.std.specs.Str.{byte, bytes_eq}
use Rattle.std.specs.declared.string.String.{String}

-- ---- numbers

-- a number from 1 to `most`
abbrev pub is_count : ℕ → ℕ → Bool
is_count most n = nat_lt 0 n && nat_le n most

-- the number from 1 to `most` that decimal digits say
abbrev pub count_said : ℕ → List ℕ → Option ℕ
count_said most word = then_some (list_all is_ascii_digit word && is_count most (digits_value 10 word)) (digits_value 10 word)

-- what is read of a value that is given once; this, where none is given
abbrev pub once : {A : Type 0} → A → (List ℕ → Option A) → List (List ℕ) → Option A
once unsaid read [] = Some unsaid
once unsaid read (value ∷ []) = read value
once unsaid read (value ∷ another ∷ values) = None

-- ---- the settings of a run

-- what words give to a run: a value to a setting, leave for its openings to end early, or its commits over to messages
pub data Given : Type 0 where
  given : (setting : Setting) (value : List ℕ) → Given
  ends_early : Given
  goes_over_net : Given

abbrev pub name_of : Setting → List ℕ
name_of Parts = codes "--parts"
name_of Folder = codes "--dir"
name_of Place = codes "--place"

abbrev pub setting_named : List ℕ → Option Setting
setting_named name = find (λ setting. bytes_eq name (name_of setting)) (Parts ∷ Folder ∷ Place ∷ [])

abbrev pub given_to : List ℕ → List ℕ → Option Given
given_to name value = option_map (λ (setting : Setting). given setting value) (setting_named name)

abbrev pub is_equals_sign : ℕ → Bool
is_equals_sign b = b == byte "="

-- a value in one word, as `--parts=2`: what stands before the first `=` is the name, and what stands behind it the value
abbrev pub value_in : List ℕ → Option Given
value_in word = option_and_then (λ at. given_to (take at word) (drop (at + 1) word)) (position is_equals_sign word)

-- what one word gives
abbrev pub given_in : List ℕ → Option Given
given_in word = if bytes_eq word (codes "--early") then Some ends_early else if bytes_eq word (codes "--net") then Some goes_over_net else value_in word

abbrev pub begins_with_dash : List ℕ → Bool
begins_with_dash [] = false
begins_with_dash (b ∷ word) = b == byte "-"

-- in two words, as `--parts 2`, where the second does not begin as a name does
abbrev pub given_by : List ℕ → List ℕ → Option Given
given_by name value = if begins_with_dash value then None else given_to name value

-- what is given first, with what is given behind its one word or behind its two
abbrev pub with_first : Option Given → Option (List Given) → Option Given → Option (List Given) → Option (List Given)
with_first (Some g) behind_one by_two behind_two = option_map (λ gs. g ∷ gs) behind_one
with_first None behind_one (Some g) behind_two = option_map (λ gs. g ∷ gs) behind_two
with_first None behind_one None behind_two = None

-- all that words give, each setting in one word or in two, if they say nothing else
unfoldable pub all_given : List (List ℕ) → Option (List Given)
all_given [] = Some []
all_given (word ∷ []) = with_first (given_in word) (Some []) None None
all_given (word ∷ next ∷ words) = with_first (given_in word) (all_given (next ∷ words)) (given_by word next) (all_given words)

abbrev pub is_setting : Setting → Setting → Bool
is_setting Parts Parts = true
is_setting Folder Folder = true
is_setting Place Place = true
is_setting _ _ = false

-- each value that a setting is given
abbrev pub values_of : Setting → List Given → List (List ℕ)
values_of setting [] = []
values_of setting (given other value ∷ gs) = if is_setting setting other then value ∷ values_of setting gs else values_of setting gs
values_of setting (ends_early ∷ gs) = values_of setting gs
values_of setting (goes_over_net ∷ gs) = values_of setting gs

-- how often openings are given leave to end early
abbrev pub early_given : List Given → ℕ
early_given gs = length (filter (λ g. elim g [ ends_early ↦ true | _ ↦ false ]) gs)

-- how often commits are given over to messages
abbrev pub net_given : List Given → ℕ
net_given gs = length (filter (λ g. elim g [ goes_over_net ↦ true | _ ↦ false ]) gs)

-- ---- a run

-- how many partitions, the folder of their files, where one is named, how rows are spread, whether openings end early, and whether
-- commits go over messages
pub record Settings : Type 0 where
  pub parts : ℕ
  pub folder : Option (List ℕ)
  pub kind : PlaceKind
  pub early : Bool
  pub over_net : Bool

-- no folder has an empty name
abbrev pub folder_called : List ℕ → Option (Option (List ℕ))
folder_called [] = None
folder_called (b ∷ path) = Some (Some (b ∷ path))

abbrev pub kind_called : List ℕ → Option PlaceKind
kind_called word = if bytes_eq word (codes "remainder") then Some Remainder else if bytes_eq word (codes "bands") then Some Bands else None

-- openings end early, or commits go over messages, where that is said once, and not where it is not said
abbrev pub once_said : ℕ → Option Bool
once_said zero = Some false
once_said (suc zero) = Some true
once_said (suc (suc times)) = None

abbrev pub settings_of : Option ℕ → Option (Option (List ℕ)) → Option PlaceKind → Option Bool → Option Bool → Option Settings
settings_of (Some parts) (Some folder) (Some kind) (Some early) (Some over_net) = Some (record { parts = parts; folder = folder; kind = kind; early = early; over_net = over_net })
settings_of parts folder kind early over_net = None

-- two partitions, no folder, and rows that are spread by remainders, where it is not said otherwise
abbrev pub settings_given : List Given → Option Settings
settings_given gs =
    settings_of (once 2 (count_said PARTITIONS_MOST) (values_of Parts gs)) (once None folder_called (values_of Folder gs))
    (once Remainder kind_called (values_of Place gs)) (once_said (early_given gs)) (once_said (net_given gs))

-- the settings of a run that is called with these words behind `run`
abbrev pub settings_said : List (List ℕ) → Option Settings
settings_said words = option_and_then settings_given (all_given words)

-- ---- commands

abbrev pub script_with : Settings → Command
script_with settings = Script (record { parts = settings.parts; kind = settings.kind }) settings.early settings.over_net

abbrev pub run_said : List (List ℕ) → Option Command
run_said words = option_map script_with (settings_said words)

abbrev pub load_said : List (List ℕ) → Option Command
load_said [] = None
load_said (calls ∷ []) = option_map Load (count_said CALLS_MOST calls)
load_said (calls ∷ another ∷ words) = None

-- `run` and its settings, or `load` and how many calls
abbrev pub command_said : List (List ℕ) → Option Command
command_said [] = None
command_said (word ∷ words) =
    if bytes_eq word (codes "run") then run_said words else if bytes_eq word (codes "load") then load_said words else None

-- the folder that a run is told
abbrev pub folder_named : List (List ℕ) → Option (List ℕ)
folder_named [] = None
folder_named (word ∷ words) =
    if bytes_eq word (codes "run") then option_and_then (λ (settings : Settings). settings.folder) (settings_said words) else None

-- the word `audit` alone, which asks for no run
abbrev pub says_audit : List (List ℕ) → Bool
says_audit [] = false
says_audit (word ∷ []) = bytes_eq word (codes "audit")
says_audit (word ∷ another ∷ words) = false

abbrev pub command_of : List (String Global) → Option Command
command_of words = command_said (map string_bytes words)

abbrev pub asks_audit : List (String Global) → Bool
asks_audit words = says_audit (map string_bytes words)

abbrev pub folder_of : List (String Global) → Option (List ℕ)
folder_of words = folder_named (map string_bytes words)
