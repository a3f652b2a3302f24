-- The numbers of a store that is held are those of what it keeps, and what is found again has those that are remembered.
use Rattle.salt_commit.specs.declared.store.Store.{Store}
use Rattle.salt_devices.proofs.Stores.{held_boot, held_decisions}
use Rattle.salt_devices.specs.Holding.{HoldsIn, IsHeld}
use Rattle.salt_devices.specs.Remembering.{AreNumbersOf, Follow, MayFollow, Remembers, numbers_of}
use Rattle.salt_devices.specs.declared.pending.Pending.TheVariants.{Boot, Decision, Nothing, Opening}
use Rattle.salt_devices.specs.declared.pending.Pending.{Pending}
use Rattle.salt_disk.specs.Disks.{View}
use Rattle.salt_model.specs.Kept.{Kept}
use Rattle.salt_place.specs.declared.placement.Shape.{Shape}
use Rattle.salt_storage.specs.declared.found.Numbers.{Numbers}
use Rattle.std.proofs.Common.{Option, Some, ap, inl, inr, subst, sym, ◌+◌, ◌≡◌, ◌⊎◌, ◌∙◌}

pub held_in : (d : View) (shape : Shape) (o : Option Store) (x : Store) (k : Kept) → o ≡ Some x → HoldsIn d shape o k → IsHeld d shape x k
held_in d shape o x k is h = subst (λ v. HoldsIn d shape v k) is h

pub held_numbers : (d : View) (shape : Shape) (x : Store) (k : Kept) → IsHeld d shape x k → AreNumbersOf (numbers_of x) k
held_numbers d shape x k h = record { boot = h.is.decisions.holds.boot ∙ held_boot d shape x k h; decisions = h.is.decisions.holds.decisions ∙ held_decisions d shape x k h }

pub numbers_same : (n m : Numbers) (k : Kept) → AreNumbersOf n k → AreNumbersOf m k → m ≡ n
numbers_same n m k is now = λ i. record { boot = (now.boot ∙ sym is.boot) i; decisions = (now.decisions ∙ sym is.decisions) i }

numbers_follow : (p : Pending) (n m : Numbers) (a b : Kept) → AreNumbersOf n a → MayFollow p a b → AreNumbersOf m b → (m ≡ n) ⊎ Follow p n m
numbers_follow Nothing n m a b is f now = inl (numbers_same n m a is (subst (AreNumbersOf m) f now))
numbers_follow Opening n m a b is f now = absurd f
numbers_follow Boot n m a b is f now = inr (now.boot ∙ f.0 ∙ ap (λ k. k + 1) (sym is.boot), now.decisions ∙ f.1 ∙ sym is.decisions)
numbers_follow Decision n m a b is f now = inr (now.boot ∙ f.0 ∙ sym is.boot, now.decisions ∙ f.1 ∙ ap (λ k. k + 1) (sym is.decisions))

-- the numbers of the one or the other are remembered
pub numbers_found : (n m : Numbers) (p : Pending) (a b : Kept) → Remembers n p a b → AreNumbersOf m a ⊎ AreNumbersOf m b → (m ≡ n) ⊎ Follow p n m
numbers_found n m p a b r (inl now) = inl (numbers_same n m a r.numbers now)
numbers_found n m p a b r (inr now) = numbers_follow p n m a b r.numbers r.follows now
