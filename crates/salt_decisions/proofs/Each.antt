-- Things taken one behind the other: with one more, and where the next is misspelled.
use Rattle.salt_bytes.specs.Taking.{Take, take_each}
use Rattle.salt_codec.proofs.Values.{Took, took_fails, took_next}
use Rattle.salt_codec.specs.Taking.{TakesSame, TakesAs}
use Rattle.salt_codec.specs.declared.error.TakeErr.TheVariants.{Memory, Misspelled}
use Rattle.salt_codec.specs.declared.error.TakeErr.{TakeErr}
use Rattle.std.proofs.Common.{Err, List, Some, [], ap, refl, ℕ, ◌++◌, ◌+◌, ◌<◌, ◌≡◌, ◌∙◌, ◌∷◌}
use Rattle.std.specs.Prelude.{map}
use Rattle.std.specs.List.{flat_map}

pub map_push : {A B : Type 0} (f : A → B) (xs : List A) (x : A) → map f (xs ++ x ∷ []) ≡ map f xs ++ f x ∷ []
map_push f [] x = refl
map_push f (y ∷ xs) x = ap (λ l. f y ∷ l) (map_push f xs x)

module _ {A : Type 0} (take : Take A) (n : ℕ) (bytes : List ℕ) (xs : List A) (i : ℕ) (rest : List ℕ) (low : i < n) (h : Took take n bytes xs i rest) where
  pub each_fails : (e : TakeErr) → TakesSame {A = A} (Err e) (take rest) → TakesSame {A = List A} (Err e) (take_each take n bytes)
  each_fails Misspelled none = took_fails take n bytes xs i rest low none h
  each_fails Memory none = tt

  pub each_fails_as : {B C : Type 0} (f : B → A) (g : C → List A) (e : TakeErr) → TakesAs f (Err e) (take rest) → TakesAs g (Err e) (take_each take n bytes)
  each_fails_as f g Misspelled none = took_fails take n bytes xs i rest low none h
  each_fails_as f g Memory none = tt

-- one more, of things that stand for others
pub each_next_as : {A B : Type 0} (f : B → A) (take : Take A) (n : ℕ) (bytes : List ℕ) (xs more : List B) (i : ℕ) (rest back : List ℕ) (x : B)
    → i < n → take rest ≡ Some (f x, back) → more ≡ xs ++ x ∷ [] → Took take n bytes (map f xs) i rest → Took take n bytes (map f more) (i + 1) back
each_next_as f take n bytes xs more i rest back x low is made h =
    took_next take n bytes (map f xs) (map f more) i rest back (f x) low is (ap (map f) made ∙ map_push f xs x) h

-- spelled one by one, of things that stand for others
pub spell_each_as : {A B : Type 0} (f : B → A) (spell : A → List ℕ) (xs : List B) → flat_map (λ x. spell (f x)) xs ≡ flat_map spell (map f xs)
spell_each_as f spell [] = refl
spell_each_as f spell (x ∷ xs) = ap (λ l. spell (f x) ++ l) (spell_each_as f spell xs)
