-- A range whose keys stand in one partition: the rows in it are that partition's.
use Rattle.salt_model.specs.Tables.{Tables, row_at}
use Rattle.salt_model.specs.declared.places.Place.{Place}
use Rattle.salt_place.specs.declared.placement.Shape.{Shape}
use Rattle.salt_ranges.specs.Ranges.{has_key}
use Rattle.salt_ranges.specs.declared.range.KeyRange.{KeyRange}
use Rattle.salt_stands.proofs.Places.{or_row, row_at_entries}
use Rattle.salt_stands.specs.Partition.{part_of_key}
use Rattle.salt_stands.specs.Pieces.{listed}
use Rattle.salt_stands.specs.Placed.{IsPlaced}
use Rattle.salt_stands.specs.Tables.{joined}
use Rattle.salt_values.specs.declared.value.Value.{Value}
use Rattle.std.proofs.Common.{List, None, Option, Some, ap, arith, inl, inr, refl, true, ℕ, ◌+◌, ◌<◌, ◌≡◌, ◌≢◌, ◌≤◌, ◌⊎◌, ◌∙◌}
use Rattle.std.proofs.lemmas.Bool.{cases_eq}
use Rattle.std.specs.Prelude.{suc, zero}

pub or_none : (a : Option (List Value)) → or_row a None ≡ a
or_none None = refl
or_none (Some x) = refl

-- ONE OF MANY TABLES: where the others have no row at a place, all have the one's
none_joined : (q : Place) (T : ℕ → Tables) (from n : ℕ) → ((k : ℕ) → from ≤ k → k < from + n → row_at q (T k) ≡ None) → row_at q (joined (listed T from n)) ≡ None
unfolding joined
none_joined q T from zero h = refl
none_joined q T from (suc n) h =
    row_at_entries q (T from).list (joined (listed T (suc from) n))
    ∙ ap (λ o. or_row o (row_at q (joined (listed T (suc from) n)))) (h from (omega arith) (omega arith))
    ∙ none_joined q T (suc from) n (λ k low high. h k (omega (arith, low)) (omega (arith, high)))

later : (from p : ℕ) → from ≤ p → from ≢ p → suc from ≤ p
later from p low other = grind arith

one_joined : (q : Place) (T : ℕ → Tables) (p from n : ℕ) → from ≤ p → p < from + n → ((k : ℕ) → from ≤ k → k < from + n → k ≢ p → row_at q (T k) ≡ None)
    → row_at q (joined (listed T from n)) ≡ row_at q (T p)
unfolding joined
one_joined q T p from zero low high h = absurd (omega (arith, low, high))
one_joined q T p from (suc n) low high h =
    row_at_entries q (T from).list (joined (listed T (suc from) n))
    ∙ by (cases_eq from p) (λ above. one_joined q T p (suc from) n above (omega (arith, high)) (λ k over below apart. h k (omega (arith, over)) (omega (arith, below)) apart))
  where
    by : (from ≡ p) ⊎ (from ≢ p) → (suc from ≤ p → row_at q (joined (listed T (suc from) n)) ≡ row_at q (T p)) → or_row (row_at q (T from)) (row_at q (joined (listed T (suc from) n))) ≡ row_at q (T p)
    by (inl here) more =
        ap (or_row (row_at q (T from))) (none_joined q T (suc from) n (λ k above below. h k (omega (arith, above)) (omega (arith, below)) (λ same. omega (arith, same, here, above))))
        ∙ or_none (row_at q (T from)) ∙ ap (λ k. row_at q (T k)) here
    by (inr other) more =
        ap (λ o. or_row o (row_at q (joined (listed T (suc from) n)))) (h from (omega arith) (omega arith) other)
        ∙ more (later from p low other)

-- where each row stands in the partition of its key, and the keys of the range in none but p, all have the rows of p there
module _ (range : KeyRange) (shape : Shape) (T : ℕ → Tables) (n p : ℕ) (low : p < n) (placed : (k : ℕ) → k < n → IsPlaced shape k (T k))
    (alone : (key : Value) (k : ℕ) → k < n → has_key range key ≡ true → part_of_key shape key ≡ k → k ≡ p) where
  none_of_other : (q : Place) → has_key range q.key ≡ true → (k : ℕ) → k < n → k ≢ p → row_at q (T k) ≡ None
  none_of_other q inside k below other = by (row_at q (T k)) refl
    where
      by : (o : Option (List Value)) → row_at q (T k) ≡ o → o ≡ None
      by None is = refl
      by (Some row) is = absurd (other (alone q.key k below inside (placed k below q row is)))

  pub one_of_all : (q : Place) → has_key range q.key ≡ true → row_at q (joined (listed T 0 n)) ≡ row_at q (T p)
  one_of_all q inside = one_joined q T p 0 n (omega arith) (omega (arith, low)) (λ k above below other. none_of_other q inside k (omega (arith, below)) other)
