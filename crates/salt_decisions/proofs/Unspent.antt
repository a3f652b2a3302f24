-- What the test of this crate needs: numbers that are not spent, and the bits of two partitions.
use Rattle.salt_stands.proofs.Booleans.{left}
use Rattle.salt_stands.specs.Stands.{are_spent, is_same_kind, is_same_shape}
use Rattle.salt_place.specs.declared.placement.PlaceKind.TheVariants.{Bands}
use Rattle.salt_place.specs.declared.placement.Shape.{Shape}
use Rattle.std.proofs.Common.{ap, arith, false, true, ℕ, ◌<◌, ◌^◌, ◌≡◌, ◌∙◌}
use Rattle.std.proofs.lemmas.Bool.Decides.{Decides-eqb, nat_tests}
use Rattle.std.specs.Prelude.{nat_lt, ◌==◌}

pub few_decisions : (boot decisions : ℕ) → are_spent boot decisions ≡ false → decisions < 2 ^ 63
few_decisions boot decisions h = grind (arith, nat_tests)

pub three_of_two : (s t : Shape) → s ≡ t → is_same_shape t (record { parts = 2; kind = Bands }) ≡ true → nat_lt 3 (2 ^ s.parts) ≡ true
three_of_two s t same h =
    ap (λ n. nat_lt 3 (2 ^ n)) (ap (λ (k : Shape). k.parts) same ∙ (Decides-eqb t.parts 2).0 (left (t.parts == 2) (is_same_kind t.kind Bands) h))
