-- The locks of one owner, by the numbers of their statements.
use Rattle.law_states.specs.KeptLocks.{Numbered, is_owned_by}
use Rattle.salt_locks.specs.declared.turns.TakenLock.{TakenLock}
use Rattle.salt_model.specs.declared.events.Owner.{Owner}
use Rattle.salt_model.specs.declared.locks.Lock.{Lock}
use Rattle.std.specs.List.{filter}
use Rattle.std.specs.Prelude.{Bool, List, [], if◌then◌else◌, map, nat_lt, ℕ, ◌==◌, ◌∷◌}

-- an element before those of greater numbers; where its number is there already, nothing is put
abbrev pub put_in_turn : {A : Type 0} → (A → ℕ) → A → List A → List A
put_in_turn number x [] = x ∷ []
put_in_turn number x (y ∷ ys) = if nat_lt (number x) (number y) then x ∷ y ∷ ys else (if number x == number y then y ∷ ys else y ∷ put_in_turn number x ys)

-- the elements by their numbers, of each number one
abbrev pub in_turn : {A : Type 0} → (A → ℕ) → List A → List A
in_turn number [] = []
in_turn number (x ∷ xs) = put_in_turn number x (in_turn number xs)

abbrev pub is_of : Owner → Numbered → Bool
is_of o n = is_owned_by o n.lock

-- an owner's locks in the order of their statements
abbrev pub locks_in_turn : Owner → List Numbered → List Numbered
locks_in_turn o table = in_turn (λ n. n.number) (filter (is_of o) table)

abbrev pub numbered_of : TakenLock → Numbered
numbered_of t = record { number = t.number; lock = t.lock }

-- the locks of a map from numbers
abbrev pub at_numbers : List (ℕ × Lock) → List Numbered
at_numbers es = map (λ (e : ℕ × Lock). record { number = e.0; lock = e.1 }) es
