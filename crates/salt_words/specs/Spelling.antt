-- How settings are spelled.
use Rattle.salt_promise.specs.Words.{Given, begins_with_dash, ends_early, given, goes_over_net, name_of}
use Rattle.salt_promise.specs.declared.command.Setting.{Setting}
use Rattle.std.specs.Prelude.{List, [], codes, false, ℕ, ◌++◌, ◌∷◌, ◌≡◌}

-- words that give values to settings, each in one word, `--parts=2`, or in two, `--parts 2`; and `--early` and `--net`, words alone
pub data SpellsSettings : List (List ℕ) → List Given → Type 0 where
  nothing : SpellsSettings [] []
  in_one : (setting : Setting) (value : List ℕ) {words : List (List ℕ)} {gs : List Given} → SpellsSettings words gs →
      SpellsSettings ((name_of setting ++ codes "=" ++ value) ∷ words) (given setting value ∷ gs)
  in_two : (setting : Setting) (value : List ℕ) {words : List (List ℕ)} {gs : List Given} → begins_with_dash value ≡ false → SpellsSettings words gs →
      SpellsSettings (name_of setting ∷ value ∷ words) (given setting value ∷ gs)
  early_alone : {words : List (List ℕ)} {gs : List Given} → SpellsSettings words gs → SpellsSettings (codes "--early" ∷ words) (ends_early ∷ gs)
  net_alone : {words : List (List ℕ)} {gs : List Given} → SpellsSettings words gs → SpellsSettings (codes "--net" ∷ words) (goes_over_net ∷ gs)
