-- The partitions that keys are of, and ranges whose keys are all of one.
use Rattle.salt_place.specs.OneParts.{one_part}
use Rattle.salt_ranges.specs.declared.range.KeyRange.{KeyRange}
use Rattle.salt_place.specs.Placement.{place_of}
use Rattle.salt_place.specs.declared.placement.PlaceKind.TheVariants.{Bands, Remainder}
use Rattle.salt_place.specs.declared.placement.PlaceKind.{PlaceKind}
use Rattle.salt_values.specs.declared.value.Value.{Value}
use Rattle.std.specs.Prelude.{List, None, Option, Some, [], codes, map, refl, ℕ, ◌∷◌, ◌≡◌}
use Rattle.rows_texts.specs.Keys.{at, below_0, from, from_to, least, word}

-- ---- a key, of so many partitions, and which of them it is of

record Placed : Type 0 where
  pub kind : PlaceKind
  pub key : Value
  pub parts : ℕ
  pub wanted : ℕ

abbrev placed : PlaceKind → Value → (parts wanted : ℕ) → Placed
placed kind key parts wanted = record { kind = kind; key = key; parts = parts; wanted = wanted }

abbrev keys : List Placed
keys =
    placed Remainder (below_0 1) 3 2
    ∷ placed Remainder least 7 6
    ∷ placed Remainder (at 5) 1 0
    ∷ placed Remainder (word []) 5 0
    ∷ placed Remainder (word (codes "ab")) 8 3
    ∷ placed Bands (at 1023) 8 0
    ∷ placed Bands (at 1024) 8 1
    ∷ placed Bands (below_0 1) 8 7
    ∷ placed Bands (word []) 8 0
    ∷ placed Bands (word (codes " z")) 8 0
    ∷ placed Bands (word (codes "~")) 8 7
    ∷ placed Bands (word (codes "P")) 2 1
    ∷ []

they_are_placed : map (λ p. place_of p.kind p.key p.parts) keys ≡ map (λ p. p.wanted) keys
they_are_placed = refl

-- ---- a range over so many partitions, and the one that its keys are of, where its ends tell it

record Ranged : Type 0 where
  pub kind : PlaceKind
  pub parts : ℕ
  pub range : KeyRange
  pub wanted : Option ℕ

abbrev ranged : PlaceKind → ℕ → KeyRange → Option ℕ → Ranged
ranged kind parts range wanted = record { kind = kind; parts = parts; range = range; wanted = wanted }

abbrev ranges : List Ranged
ranges =
    ranged Remainder 2 (from_to (at 5) (at 5)) (Some 1)
    ∷ ranged Remainder 2 (from_to (at 4) (at 5)) None
    ∷ ranged Remainder 1 (from_to (at 4) (at 5)) (Some 0)
    ∷ ranged Remainder 1 (from_to (at 5) (at 4)) None
    ∷ ranged Bands 2 (from_to (at 1024) (at 2047)) (Some 1)
    ∷ ranged Bands 2 (from_to (at 1023) (at 1024)) None
    ∷ ranged Bands 2 (from_to (below_0 1024) (below_0 1)) (Some 1)
    ∷ ranged Bands 2 (from_to (below_0 1) (at 0)) None
    ∷ ranged Bands 2 (from (word (codes "a"))) None
    ∷ []

they_are_of_one : map (λ r. one_part (record { parts = r.parts; kind = r.kind }) r.range) ranges ≡ map (λ r. r.wanted) ranges
they_are_of_one = refl
