-- Units that wait for each other, and which of them is given up.
use Rattle.salt_model.specs.Waiting.{WaitUnit, victim_of}
use Rattle.salt_values.specs.declared.id.Id.{Id}
use Rattle.std.specs.List.{range_with_len}
use Rattle.std.specs.Prelude.{List, None, Option, Some, [], false, map, option_map, refl, true, ℕ, ◌%◌, ◌+◌, ◌++◌, ◌==◌, ◌∷◌, ◌≡◌}

abbrev unit : ℕ → Id
unit n = record { boot = 1; seq = n }

-- an ACID unit or a subtransaction, and those that it waits for
abbrev acid : ℕ → List ℕ → WaitUnit
acid n edges = record { unit = unit n; acid = true; edges = map unit edges }

abbrev part : ℕ → List ℕ → WaitUnit
part n edges = record { unit = unit n; acid = false; edges = map unit edges }

-- units that wait, longest first, and which of them is given up
record Row : Type 0 where
  pub waiting : List WaitUnit
  pub given_up : Option ℕ

abbrev give : List WaitUnit → Option ℕ → Row
give waiting given_up = record { waiting = waiting; given_up = given_up }

abbrev rows : List Row
rows =
    give [] None
    ∷ give (acid 1 (2 ∷ []) ∷ []) None
    ∷ give (acid 1 (1 ∷ []) ∷ []) (Some 1)
    ∷ give (acid 4 (3 ∷ []) ∷ acid 3 (4 ∷ []) ∷ []) (Some 4)
    ∷ give (part 5 (4 ∷ []) ∷ acid 4 (5 ∷ []) ∷ []) (Some 4)
    ∷ give (part 5 (4 ∷ []) ∷ part 4 (7 ∷ 5 ∷ []) ∷ []) (Some 5)
    ∷ give (acid 9 (1 ∷ []) ∷ acid 1 (2 ∷ []) ∷ acid 2 (3 ∷ []) ∷ acid 3 (1 ∷ []) ∷ []) (Some 3)
    ∷ give (acid 1 (2 ∷ []) ∷ acid 2 (3 ∷ []) ∷ acid 3 (9 ∷ []) ∷ []) None
    ∷ give (part 8 (7 ∷ []) ∷ part 7 (8 ∷ []) ∷ acid 1 (2 ∷ []) ∷ acid 2 (1 ∷ []) ∷ []) (Some 2)
    ∷ []

they_are_given_up : map (λ r. victim_of r.waiting) rows ≡ map (λ r. option_map unit r.given_up) rows
they_are_given_up = refl

-- ---- each of 20 units waits for the next one, every other one an ACID unit; and one more for one of them

abbrev chain : List WaitUnit
chain = map (λ n. record { unit = unit n; acid = n % 2 == 0; edges = unit (n + 1) ∷ [] }) (range_with_len 1 20)

no_circle : victim_of chain ≡ None
no_circle = refl

long_circle : victim_of (chain ++ part 21 (7 ∷ []) ∷ []) ≡ Some (unit 20)
long_circle = refl
