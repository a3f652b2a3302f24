-- Programs that read from each other: whom each comes to, and which of the finished ones are released.
use Rattle.law_states.specs.PairClosures.{Pair, all_sources, due_in}
use Rattle.salt_values.specs.Id.{in_order}
use Rattle.salt_values.specs.declared.id.Id.{Id}
use Rattle.std.specs.Prelude.{List, [], map, refl, ℕ, ◌∷◌, ◌≡◌}

abbrev base : ℕ → Id
base n = record { boot = 1; seq = n }

abbrev bases : List ℕ → List Id
bases ns = map base ns

-- the first has read what the second wrote last
abbrev reads : (reader source : ℕ) → Pair
reads reader source = record { reader = base reader; source = base source }

-- some programs are finished, and these of them are released
record Row : Type 0 where
  pub pairs : List Pair
  pub finished : List ℕ
  pub released : List ℕ

abbrev row : List Pair → (finished released : List ℕ) → Row
row pairs finished released = record { pairs = pairs; finished = finished; released = released }

-- each of three reads from the one before
abbrev chain : List Pair
chain = reads 2 1 ∷ reads 3 2 ∷ []

-- two read from each other, and a third from one of them
abbrev circle : List Pair
circle = reads 1 2 ∷ reads 2 1 ∷ reads 3 1 ∷ []

-- two read from one, and one of them from another too
abbrev fork : List Pair
fork = reads 3 1 ∷ reads 4 1 ∷ reads 4 2 ∷ []

abbrev rows : List Row
rows =
    row chain (3 ∷ []) []
    ∷ row chain (3 ∷ 2 ∷ []) []
    ∷ row chain (3 ∷ 2 ∷ 1 ∷ []) (1 ∷ 2 ∷ 3 ∷ [])
    ∷ row [] (4 ∷ []) (4 ∷ [])
    ∷ row circle (1 ∷ []) []
    ∷ row circle (1 ∷ 3 ∷ []) []
    ∷ row circle (1 ∷ 3 ∷ 2 ∷ []) (1 ∷ 2 ∷ 3 ∷ [])
    ∷ row fork (4 ∷ []) []
    ∷ row fork (4 ∷ 3 ∷ []) []
    ∷ row fork (4 ∷ 3 ∷ 1 ∷ []) (1 ∷ 3 ∷ [])
    -- those are forgotten, and then the other source finishes
    ∷ row (reads 4 2 ∷ []) (4 ∷ 2 ∷ []) (2 ∷ 4 ∷ [])
    -- a finished program that is given up has no source any more
    ∷ row (reads 2 1 ∷ []) (2 ∷ []) []
    ∷ row [] (2 ∷ 5 ∷ []) (2 ∷ 5 ∷ [])
    ∷ []

they_are_released : map (λ r. in_order (due_in r.pairs (bases r.finished))) rows ≡ map (λ r. bases r.released) rows
they_are_released = refl

-- each program comes to itself, to those that it has read from, and to all that they come to

at_the_end_of_a_chain : in_order (all_sources chain (base 3)) ≡ bases (1 ∷ 2 ∷ 3 ∷ [])
at_the_end_of_a_chain = refl

in_the_middle : in_order (all_sources chain (base 2)) ≡ bases (1 ∷ 2 ∷ [])
in_the_middle = refl

beside_a_circle : in_order (all_sources circle (base 3)) ≡ bases (1 ∷ 2 ∷ 3 ∷ [])
beside_a_circle = refl

of_two : in_order (all_sources fork (base 4)) ≡ bases (1 ∷ 2 ∷ 4 ∷ [])
of_two = refl
