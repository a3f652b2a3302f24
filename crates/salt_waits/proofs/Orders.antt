-- Which of two units is given up first.
use Rattle.salt_values.specs.Id.{is_older, is_same_id}
use Rattle.salt_values.specs.declared.id.Id.{Id}
use Rattle.salt_waits.specs.Victims.{gives_way, gives_way_by}
use Rattle.salt_waits.specs.declared.units.WaitUnit.{WaitUnit}
use Rattle.std.proofs.Common.{Bool, ℕ, arith, ap₂, false, inl, inr, refl, true, ◌≡◌, ◌⊎◌}
use Rattle.std.proofs.lemmas.Bool.Decides.{nat_tests}

older_than_none : (a : Id) → is_older a a ≡ false
older_than_none a = grind (arith, nat_tests)

-- a is younger than b, which is younger than c
younger_still : (a b c : Id) → is_older b a ≡ true → is_older c b ≡ true → is_older c a ≡ true
younger_still a b c h g = grind (arith, nat_tests)

apart : (a b : Id) → is_older b a ≡ false → is_same_id a b ≡ false → is_older a b ≡ true
apart a b h e = grind (arith, nat_tests)

same_numbers : (a b : Id) → is_same_id a b ≡ true → (a.boot ≡ b.boot) × (a.seq ≡ b.seq)
same_numbers a b e = grind (arith, nat_tests)

one_name : (a b : Id) → is_same_id a b ≡ true → a ≡ b
one_name a b e = let same = same_numbers a b e in ap₂ (λ (boot seq : ℕ). record { boot = boot; seq = seq }) same.0 same.1

pub not_younger : (a b : Id) → is_older b a ≡ false → (is_older a b ≡ true) ⊎ (a ≡ b)
not_younger a b h = by (is_same_id a b) refl
  where
    by : (t : Bool) → is_same_id a b ≡ t → (is_older a b ≡ true) ⊎ (a ≡ b)
    by true e = inr (one_name a b e)
    by false e = inl (apart a b h e)

pub none_before_itself : (u : WaitUnit) → gives_way u u ≡ false
none_before_itself u = by u.acid (is_older u.unit u.unit) (older_than_none u.unit)
  where
    by : (a o : Bool) → o ≡ false → gives_way_by a a o ≡ false
    by true o e = e
    by false o e = e

-- what gives way before a unit that gives way before another gives way before that one
pub before_both : (v u b : WaitUnit) → gives_way v u ≡ true → gives_way u b ≡ true → gives_way v b ≡ true
before_both v u b = by v.acid u.acid b.acid (is_older u.unit v.unit) (is_older b.unit u.unit) (is_older b.unit v.unit) (younger_still v.unit u.unit b.unit)
  where
    by : (x y z f s t : Bool) → (f ≡ true → s ≡ true → t ≡ true) → gives_way_by x y f ≡ true → gives_way_by y z s ≡ true → gives_way_by x z t ≡ true
    by true true true f s t on first second = on first second
    by false false false f s t on first second = on first second
    by true y false f s t on first second = refl
    by true false true f s t on first second = absurd (cc second)
    by false true z f s t on first second = absurd (cc first)
    by false false true f s t on first second = absurd (cc second)
