-- The numbers of a command are within their limits.
use Rattle.salt_place.specs.declared.placement.PlaceKind.TheVariants.{Remainder}
use Rattle.salt_values.specs.declared.limits.TheConstants.{CALLS_MOST}
use Rattle.salt_promise.specs.Given.{shape_of}
use Rattle.salt_place.specs.Placement.{IsParts}
use Rattle.salt_place.specs.declared.placement.PlaceKind.{PlaceKind}
use Rattle.salt_values.specs.declared.limits.TheConstants.{PARTITIONS_MOST}
use Rattle.salt_promise.specs.Words.{Given, Settings, all_given, command_of, command_said, count_said, early_given, folder_called, is_count, kind_called, load_said, net_given, once, once_said, run_said, script_with, settings_given, settings_of, settings_said, values_of}
use Rattle.salt_promise.specs.declared.command.Command.TheVariants.{Load, Script}
use Rattle.salt_promise.specs.declared.command.Command.{Command}
use Rattle.salt_promise.specs.declared.command.Setting.TheVariants.{Folder, Parts, Place}
use Rattle.std.proofs.Common.{ap, arith, subst}
use Rattle.std.specs.Bool.{then_some}
use Rattle.std.specs.Char.{is_ascii_digit}
use Rattle.std.specs.Global.{Global}
use Rattle.std.specs.List.{list_all}
use Rattle.std.specs.Prelude.{Bool, List, None, Option, Some, [], codes, cond, false, map, nat_le, nat_lt, option_and_then, option_map, refl, string_bytes, true, ℕ, ◌&&◌, ◌∷◌, ◌≡◌, ◌≤◌}
use Rattle.std.specs.Str.Parse.{digits_value}
use Rattle.std.specs.Str.{bytes_eq}
use Rattle.std.specs.declared.string.String.{String}

-- from 1 to a limit
abbrev pub IsWithin : ℕ → ℕ → Type 0
IsWithin most n = (1 ≤ n) × (n ≤ most)

count-is : (most v : ℕ) (a b : Bool) → nat_lt 0 v ≡ a → nat_le v most ≡ b → (a && b) ≡ true → IsWithin most v
count-is most v true true low high e = (grind arith, grind arith)
count-is most v false b low high e = absurd cc
count-is most v true false low high e = absurd cc

count-given : (most v n : ℕ) (a b : Bool) → is_count most v ≡ b → then_some (a && b) v ≡ Some n → IsWithin most n
count-given most v n true true is e =
    let same : v ≡ n = cc in
    subst (IsWithin most) same (count-is most v (nat_lt 0 v) (nat_le v most) refl refl is)
count-given most v n false b is e = absurd cc
count-given most v n true false is e = absurd cc

count-within : (most : ℕ) (word : List ℕ) (n : ℕ) → count_said most word ≡ Some n → IsWithin most n
count-within most word n e = count-given most (digits_value 10 word) n (list_all is_ascii_digit word) (is_count most (digits_value 10 word)) refl e

parts-within : (counts : List (List ℕ)) (n : ℕ) → once 2 (count_said PARTITIONS_MOST) counts ≡ Some n → IsParts n
parts-within [] n e =
    let same : 2 ≡ n = cc in
    subst IsParts same (omega arith, omega arith)
parts-within (count ∷ []) n e = count-within PARTITIONS_MOST count n e
parts-within (count ∷ another ∷ counts) n e = absurd cc

settings-parts : (o : Option ℕ) (f : Option (Option (List ℕ))) (kind : Option PlaceKind) (early over : Option Bool) (s : Settings) → settings_of o f kind early over ≡ Some s → o ≡ Some s.parts
settings-parts (Some parts) (Some folder) (Some kind) (Some early) (Some over) s e =
    let same : Some (record { parts = parts; folder = folder; kind = kind; early = early; over_net = over }) ≡ Some s = e in
    ap (option_map (λ (x : Settings). x.parts)) same
settings-parts (Some parts) (Some folder) (Some kind) (Some early) None s e = absurd cc
settings-parts (Some parts) (Some folder) (Some kind) None over s e = absurd cc
settings-parts (Some parts) (Some folder) None early over s e = absurd cc
settings-parts (Some parts) None kind early over s e = absurd cc
settings-parts None f kind early over s e = absurd cc

given-within : (gs : Option (List Given)) (s : Settings) → option_and_then settings_given gs ≡ Some s → IsParts s.parts
given-within None s e = absurd cc
given-within (Some gs) s e = parts-within (values_of Parts gs) s.parts (settings-parts (once 2 (count_said PARTITIONS_MOST) (values_of Parts gs)) (once None folder_called (values_of Folder gs)) (once Remainder kind_called (values_of Place gs)) (once_said (early_given gs)) (once_said (net_given gs)) s e)

-- the limits of a command
abbrev pub IsCommand : Command → Type 0
IsCommand (Script shape early over_net) = IsParts shape.parts
IsCommand (Load calls) = IsWithin CALLS_MOST calls

run-within : (o : Option Settings) → ((s : Settings) → o ≡ Some s → IsParts s.parts) → (c : Command) → option_map script_with o ≡ Some c → IsCommand c
run-within None h c e = absurd cc
run-within (Some s) h c e =
    let same : script_with s ≡ c = cc in
    subst IsCommand same (h s refl)

load-count : (o : Option ℕ) → ((n : ℕ) → o ≡ Some n → IsWithin CALLS_MOST n) → (c : Command) → option_map Load o ≡ Some c → IsCommand c
load-count None h c e = absurd cc
load-count (Some n) h c e =
    let same : Load n ≡ c = cc in
    subst IsCommand same (h n refl)

load-within : (words : List (List ℕ)) (c : Command) → load_said words ≡ Some c → IsCommand c
load-within [] c e = absurd cc
load-within (calls ∷ []) c e = load-count (count_said CALLS_MOST calls) (λ n is. count-within CALLS_MOST calls n is) c e
load-within (calls ∷ another ∷ words) c e = absurd cc

either-within : (a b : Bool) (words : List (List ℕ)) (c : Command) → cond a (run_said words) (cond b (load_said words) None) ≡ Some c → IsCommand c
either-within true b words c e = run-within (settings_said words) (λ s is. given-within (all_given words) s is) c e
either-within false true words c e = load-within words c e
either-within false false words c e = absurd cc

said-within : (words : List (List ℕ)) (c : Command) → command_said words ≡ Some c → IsCommand c
said-within [] c e = absurd cc
said-within (word ∷ words) c e = either-within (bytes_eq word (codes "run")) (bytes_eq word (codes "load")) words c e

pub command-within : (words : List (String Global)) (c : Command) → command_of words ≡ Some c → IsCommand c
command-within words c e = said-within (map string_bytes words) c e

-- it has one partition to eight
pub parts-of-command : (c : Command) → IsCommand c → IsParts (shape_of c).parts
parts-of-command (Script shape early over_net) h = h
parts-of-command (Load calls) h = (omega arith, omega arith)
