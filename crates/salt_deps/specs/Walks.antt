-- Steps of a walk along names.
use Rattle.law_states.specs.Members.{In}
use Rattle.salt_values.specs.Id.{has_id}
use Rattle.salt_values.specs.Id.{is_same_id}
use Rattle.salt_values.specs.declared.id.Id.{Id}
use Rattle.std.specs.Prelude.{Bool, List, [], false, if◌then◌else◌, length, not, true, ℕ, ◌+◌, ◌++◌, ◌∷◌, ◌≡◌, ◌≤◌, ◌||◌, ◌⊎◌}

abbrev pub one_if : Bool → ℕ
one_if true = 1
one_if false = 0

-- how many of all names are not seen yet
abbrev pub unseen : List Id → List Id → ℕ
unseen [] seen = 0
unseen (z ∷ zs) seen = one_if (not (has_id z seen)) + unseen zs seen

-- a name is seen, and stands last among those to go on from if it was not seen before
pub record SeesName (name : Id) (old ahead new onward : List Id) : Type 0 where
  pub seen : (q : Id) → has_id q new ≡ (is_same_id name q || has_id q old)
  pub ahead_of : onward ≡ (if has_id name old then ahead else ahead ++ name ∷ [])

-- names are seen, and those that were not seen before stand last among those to go on from, each once
pub record SeesAll (names old ahead new onward : List Id) : Type 0 where
  pub seen : (q : Id) → has_id q new ≡ (has_id q names || has_id q old)
  pub kept : (q : Id) → In q ahead → In q onward
  pub fresh : (q : Id) → has_id q new ≡ true → (has_id q old ≡ true) ⊎ In q onward
  pub none_else : (q : Id) → In q onward → In q ahead ⊎ In q names
  pub once : (all : List Id) → ((q : Id) → In q names → In q all) → unseen all new + length onward ≤ unseen all old + length ahead
