-- What is taken from the front of bytes is taken from them where more stand behind.
use Rattle.salt_bytes.specs.Numbers.{take_64}
use Rattle.salt_bytes.specs.Taking.{Take, give, go_on, only_if, take_byte, take_bytes, take_each, then_take}
use Rattle.salt_bytes.specs.Values.{is_row_length, take_row, take_value, take_value_of}
use Rattle.salt_loaded.proofs.Fronts.{same_some, taken, went_on}
use Rattle.salt_loaded.specs.Spots.{IsSpot, AreSpots, is_spelled, row_from, row_in, row_of, rows_at, spot_with}
use Rattle.salt_loaded.specs.declared.order.Spot.{Spot}
use Rattle.salt_values.specs.Text.{is_text}
use Rattle.salt_values.specs.Value.{int_in, key_of, kind_number}
use Rattle.salt_values.specs.declared.value.Value.TheVariants.{Int, Null, Text}
use Rattle.salt_values.specs.declared.value.Value.{Value}
use Rattle.std.proofs.Common.{Bool, List, Some, [], ap, arith, drop, false, length, refl, suc, sym, take, true, zero, ℕ, ◌++◌, ◌≡◌, ◌≤◌, ◌∙◌, ◌∷◌}
use Rattle.std.specs.Int.{cast_signed, from_be_bytes, w64}
use Rattle.std.specs.Prelude.{is_some}

pub record Grows {A : Type 0} (take : Take A) : Type 0 where
  pub at : (bytes more rest : List ℕ) (x : A) → take bytes ≡ Some (x, rest) → take (bytes ++ more) ≡ Some (x, rest ++ more)

given : {A : Type 0} (x : A) → Grows (give x)
given x = record { at = λ bytes more rest y h. ap (λ p. Some (p.0, p.1 ++ more)) (same_some (x, bytes) (y, rest) h) }

then_grows : {A B : Type 0} (take : Take A) (next : A → Take B) → Grows take → ((x : A) → Grows (next x)) → Grows (then_take take next)
then_grows take next g h = record {
  at = λ bytes more rest y e.
      let w = went_on next (take bytes) (y, rest) e in
      ap (go_on next) (g.at bytes more w.1 w.0 w.2) ∙ (h w.0).at w.1 more rest y w.3;
}

if_grows : {A : Type 0} (b : Bool) (take : Take A) → Grows take → Grows (only_if b take)
if_grows true take g = g
if_grows false take g = record { at = λ bytes more rest y e. absurd cc }

byte_grows : Grows take_byte
byte_grows = record { at = by }
  where
    by : (bytes more rest : List ℕ) (x : ℕ) → take_byte bytes ≡ Some (x, rest) → take_byte (bytes ++ more) ≡ Some (x, rest ++ more)
    by [] more rest x h = absurd cc
    by (b ∷ bytes) more rest x h = ap (λ p. Some (p.0, p.1 ++ more)) (same_some (b, bytes) (x, rest) h)

bytes_grow : (n : ℕ) → Grows (take_bytes n)
bytes_grow n = record { at = by n }
  where
    by : (n : ℕ) (bytes more rest x : List ℕ) → take_bytes n bytes ≡ Some (x, rest) → take_bytes n (bytes ++ more) ≡ Some (x, rest ++ more)
    by zero bytes more rest x h = ap (λ p. Some (p.0, p.1 ++ more)) (same_some ([], bytes) (x, rest) h)
    by (suc n) [] more rest x h = absurd cc
    by (suc n) (b ∷ bytes) more rest x h =
        let w = went_on (λ taken. give (b ∷ taken)) (take_bytes n bytes) (x, rest) h in
        ap (go_on (λ taken. give (b ∷ taken))) (by n bytes more w.1 w.0 w.2) ∙ ap (λ p. Some (p.0, p.1 ++ more)) (same_some (b ∷ w.0, w.1) (x, rest) w.3)

each_grows : {A : Type 0} (take : Take A) → Grows take → (n : ℕ) → Grows (take_each take n)
each_grows take g zero = record { at = λ bytes more rest y h. ap (λ p. Some (p.0, p.1 ++ more)) (same_some ([], bytes) (y, rest) h) }
each_grows take g (suc n) = record { at = λ bytes more rest y e. (then_grows take (λ x. then_take (take_each take n) (λ xs. give (x ∷ xs))) g (λ x. then_grows (take_each take n) (λ xs. give (x ∷ xs)) (each_grows take g n) (λ xs. given (x ∷ xs)))).at bytes more rest y e }

number_grows : Grows take_64
number_grows = then_grows (take_bytes 8) (λ bytes. give (from_be_bytes w64 bytes)) (bytes_grow 8) (λ bytes. given (from_be_bytes w64 bytes))

kind_grows : (kind : ℕ) → Grows (take_value_of true kind)
kind_grows zero = given Null
kind_grows (suc zero) = then_grows take_64 (λ n. give (Int (cast_signed w64 n))) number_grows (λ n. given (Int (cast_signed w64 n)))
kind_grows (suc (suc zero)) =
    then_grows take_byte (λ n. then_take (take_bytes n) (λ t. only_if (is_text t) (give (Text t)))) byte_grows
    (λ n. then_grows (take_bytes n) (λ t. only_if (is_text t) (give (Text t))) (bytes_grow n) (λ t. if_grows (is_text t) (give (Text t)) (given (Text t))))
kind_grows (suc (suc (suc n))) = record { at = λ bytes more rest y e. absurd cc }

value_grows : Grows (take_value true)
value_grows = then_grows take_byte (take_value_of true) byte_grows kind_grows

pub row_grows : Grows (take_row true)
row_grows = then_grows take_byte (λ n. only_if (is_row_length n) (take_each (take_value true) n)) byte_grows (λ n. if_grows (is_row_length n) (take_each (take_value true) n) (each_grows (take_value true) value_grows n))

-- no row stands behind the last byte
at_within : (at : ℕ) (bytes : List ℕ) → is_spelled (drop at bytes) ≡ true → at ≤ length bytes
at_within zero bytes h = omega arith
at_within (suc n) [] h = absurd cc
at_within (suc n) (b ∷ bytes) h = let below = at_within n bytes h in omega arith

drop_front : (at : ℕ) (bytes more : List ℕ) → at ≤ length bytes → drop at (bytes ++ more) ≡ drop at bytes ++ more
drop_front zero bytes more h = refl
drop_front (suc n) [] more h = absurd (omega arith)
drop_front (suc n) (b ∷ bytes) more h = drop_front n bytes more (omega arith)

drop_all : (bytes more : List ℕ) → drop (length bytes) (bytes ++ more) ≡ more
drop_all [] more = refl
drop_all (b ∷ bytes) more = drop_all bytes more

module _ (bytes more : List ℕ) where
  same_from : (at : ℕ) → is_spelled (drop at bytes) ≡ true → (is_spelled (drop at (bytes ++ more)) ≡ true) × (row_from (bytes ++ more) at ≡ row_from bytes at)
  same_from at h =
      let t = taken (drop at bytes) h in
      let grown : take_row true (drop at (bytes ++ more)) ≡ Some (row_from bytes at, t.0 ++ more) = ap (take_row true) (drop_front at bytes more (at_within at bytes h)) ∙ row_grows.at (drop at bytes) more t.0 (row_from bytes at) t.1 in
      (ap is_some grown, ap row_of grown)

  stays : (s : Spot) → IsSpot bytes s → IsSpot (bytes ++ more) s
  stays s is =
      let same = same_from s.at is.spelled in
      record { spelled = same.0; kind = is.kind ∙ ap (λ r. kind_number (key_of r)) (sym same.1); number = is.number ∙ ap (λ r. int_in (key_of r)) (sym same.1) }

  pub stay : (spots : List Spot) → AreSpots bytes spots → AreSpots (bytes ++ more) spots
  stay [] are = tt
  stay (s ∷ spots) are = (stays s are.0, stay spots are.1)

  pub rows_stay : (spots : List Spot) → AreSpots bytes spots → rows_at (bytes ++ more) spots ≡ rows_at bytes spots
  rows_stay [] are = refl
  rows_stay (s ∷ spots) are = λ i. (same_from s.at are.0.spelled).1 i ∷ rows_stay spots are.1 i

  -- and one more spot
  pub with_spot : (spots : List Spot) (s : Spot) → AreSpots bytes spots → IsSpot (bytes ++ more) s → AreSpots (bytes ++ more) (spots ++ s ∷ [])
  with_spot [] s are is = (is, tt)
  with_spot (u ∷ spots) s are is = (stays u are.0, with_spot spots s are.1 is)

  pub with_row : (spots : List Spot) (s : Spot) → AreSpots bytes spots → s.at ≡ length bytes → rows_at (bytes ++ more) (spots ++ s ∷ []) ≡ rows_at bytes spots ++ (row_in more ∷ [])
  with_row [] s are at = ap (λ (n : ℕ). row_from (bytes ++ more) n ∷ []) at ∙ ap (λ (l : List ℕ). row_in l ∷ []) (drop_all bytes more)
  with_row (u ∷ spots) s are at = λ i. (same_from u.at are.0.spelled).1 i ∷ with_row spots s are.1 at i

-- what is kept of a row that stands there
pub spot_there : (bytes row : List ℕ) (key : Value) (at : ℕ) → drop at bytes ≡ row → is_spelled row ≡ true → key ≡ key_of (row_in row) → IsSpot bytes (spot_with key at)
spot_there bytes row key at stands spelled is =
    let same : key ≡ key_of (row_from bytes at) = is ∙ ap (λ l. key_of (row_in l)) (sym stands) in
    record { spelled = ap is_spelled stands ∙ spelled; kind = ap kind_number same; number = ap int_in same }

pub stands_behind : (bytes row : List ℕ) → drop (length bytes) (bytes ++ row) ≡ row
stands_behind = drop_all
