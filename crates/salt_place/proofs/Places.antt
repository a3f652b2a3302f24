-- Each key's partition is below the number of partitions.
use Rattle.salt_place.specs.Placement.{IsParts, band_of, place_of, remainder}
use Rattle.salt_values.specs.Text.{is_printable, is_text}
use Rattle.salt_values.specs.Value.{IsValue}
use Rattle.salt_place.specs.declared.placement.PlaceKind.{PlaceKind}
use Rattle.salt_place.specs.declared.placement.PlaceKind.TheVariants.{Bands, Remainder}
use Rattle.salt_values.specs.declared.value.Value.{Value}
use Rattle.salt_values.specs.declared.value.Value.TheVariants.{Int, Null, Text}
use Rattle.std.proofs.Common.{arith, refl, ◌*◌, ◌-◌, ◌/◌, ◌<◌, ◌∷◌, ◌≡◌, ◌≤◌, ℕ, ℤ, pos, negsuc, List, [], true, false, Bool, ◌&&◌}
use Rattle.std.proofs.Math.Nat.{mul-le-mul_left}
use Rattle.std.proofs.lemmas.Bool.Decides.{nat_tests}
use Rattle.std.specs.Int.{int_div_euclid}

pub remainder-below : (z : ℤ) (n : ℕ) → 1 ≤ n → remainder z n < n
remainder-below (pos a) n p = omega arith
remainder-below (negsuc a) n p = omega arith

both : (a b : Bool) → (a && b) ≡ true → (a ≡ true) × (b ≡ true)
both true true e = (refl, refl)
both true false e = absurd cc
both false b e = absurd cc

first_printable : (b : ℕ) (bs : List ℕ) → is_text (b ∷ bs) ≡ true → is_printable b ≡ true
first_printable b bs h = (both _ _ (both _ _ h).1).0

printable-above : (b : ℕ) → is_printable b ≡ true → b ≤ 126
printable-above b h = grind (arith, nat_tests)

times : (d n : ℕ) → d ≤ 94 → 1 ≤ n → n ≤ 8 → d * n / 95 < n
times d n h p q = omega (arith, mul-le-mul_left n h)

pub band-below : (t : List ℕ) (n : ℕ) → is_text t ≡ true → IsParts n → band_of t n < n
band-below [] n h p = omega (arith, p.0)
band-below (b ∷ bs) n h p = times (b - 32) n (omega (arith, printable-above b (first_printable b bs h))) p.0 p.1

pub place_of-below : (kind : PlaceKind) (key : Value) (n : ℕ) → IsValue key → IsParts n → place_of kind key n < n
place_of-below Remainder Null n h p = omega (arith, p.0)
place_of-below Bands Null n h p = omega (arith, p.0)
place_of-below Remainder (Int z) n h p = remainder-below z n p.0
place_of-below Remainder (Text t) n h p = omega (arith, p.0)
place_of-below Bands (Int z) n h p = remainder-below (int_div_euclid z (pos 1024)) n p.0
place_of-below Bands (Text t) n h p = band-below t n h p
