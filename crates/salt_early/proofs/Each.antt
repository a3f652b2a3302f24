-- One more table is taken.
use Rattle.law_states.specs.KeptLocks.{Numbered}
use Rattle.law_states.specs.LockCalls.{HasTaken}
use Rattle.law_states.specs.Members.{SameMembers}
use Rattle.law_states.specs.Restoring.{TakenEach, whole}
use Rattle.law_story.proofs.Lists.{either}
use Rattle.salt_model.specs.Locks.{lock_of}
use Rattle.salt_model.specs.declared.events.Owner.TheVariants.{Unit}
use Rattle.salt_model.specs.declared.locks.Family.{Family}
use Rattle.salt_model.specs.declared.locks.Lock.{Lock}
use Rattle.salt_values.specs.declared.id.Id.{Id}
use Rattle.std.proofs.Common.{arith, inl, inr, subst}
use Rattle.std.specs.Prelude.{List, [], length, ℕ, ◌+◌, ◌++◌, ◌∷◌, ◌≡◌}

taken_from : (k : ℕ) (l : Lock) (old mid new : List Numbered) → SameMembers mid old → HasTaken k l mid new → HasTaken k l old new
taken_from k l old mid new same taken = λ n. (
  (λ h. either (λ i. inl ((same n).0 i)) (λ e. inr e) ((taken n).0 h)),
  (λ h. either (λ i. (taken n).1 (inl ((same n).1 i))) (λ e. (taken n).1 (inr e)) h),
)

pub taken_none : (table : List Numbered) → SameMembers table table
taken_none table = λ n. ((λ h. h), (λ h. h))

pub taken_more : (u : Id) (f : Family) (k : ℕ) (ts : List ℕ) (t i : ℕ) (old mid new : List Numbered) → i ≡ k + length ts →
    TakenEach u f k ts old mid → HasTaken i (lock_of (Unit u) f (whole t)) mid new → TakenEach u f k (ts ++ t ∷ []) old new
taken_more u f k [] t i old mid new e same taken =
    let is : i ≡ k = omega (arith, e) in
    (new, taken_from k (lock_of (Unit u) f (whole t)) old mid new same (subst (λ n. HasTaken n (lock_of (Unit u) f (whole t)) mid new) is taken), taken_none new)
taken_more u f k (x ∷ xs) t i old mid new e each taken =
    let is : i ≡ k + 1 + length xs = omega (arith, e) in
    (each.0, each.1, taken_more u f (k + 1) xs t i each.0 mid new is each.2 taken)
