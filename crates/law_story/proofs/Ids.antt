-- Ids that pass the test are equal.
use Rattle.salt_values.specs.Id.{is_same_id}
use Rattle.salt_values.specs.declared.id.Id.{Id}
use Rattle.std.proofs.Common.{arith}
use Rattle.std.proofs.lemmas.Bool.Decides.{nat_tests}
use Rattle.std.proofs.lemmas.Bool.{eq-eqb, eqb-true}
use Rattle.std.specs.Prelude.{Bool, false, refl, true, ℕ, ◌&&◌, ◌==◌, ◌≡◌}

pub and_left : (p q : Bool) → (p && q) ≡ true → p ≡ true
and_left true q h = refl
and_left false q h = h

pub and_right : (p q : Bool) → (p && q) ≡ true → q ≡ true
and_right true q h = h
and_right false q h = cc

pub is_same_id-true : (a b : Id) → is_same_id a b ≡ true → a ≡ b
is_same_id-true a b h = λ i. record { boot = eqb-true a.boot b.boot (and_left (a.boot == b.boot) _ h) i; seq = eqb-true a.seq b.seq (and_right (a.boot == b.boot) _ h) i }

pub is_same_id-refl : (u : Id) → is_same_id u u ≡ true
is_same_id-refl u = rw (eq-eqb u.boot u.boot refl, eq-eqb u.seq u.seq refl) refl

pub same_sym : (x y : ℕ) → (x == y) ≡ (y == x)
same_sym x y = grind (arith, nat_tests)

pub is_same_id-sym : (a b : Id) → is_same_id a b ≡ is_same_id b a
is_same_id-sym a b = rw (same_sym a.boot b.boot, same_sym a.seq b.seq) refl
