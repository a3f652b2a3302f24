-- The calls by which an engine that is resumed comes to the cover and the group of an early opening.
use Rattle.law_states.specs.DependencyCalls.{AreSame, HasRead, Wrote}
use Rattle.law_states.specs.KeptLocks.{Numbered}
use Rattle.law_states.specs.KeptSources.{Dependencies}
use Rattle.law_states.specs.LockCalls.{HasTaken}
use Rattle.law_states.specs.Members.{SameMembers}
use Rattle.salt_model.specs.Locks.{lock_of}
use Rattle.salt_model.specs.Tables.{place, place_cmp}
use Rattle.salt_model.specs.declared.events.Owner.TheVariants.{Unit}
use Rattle.salt_model.specs.declared.locks.Family.{Family}
use Rattle.salt_model.specs.declared.locks.Mode.TheVariants.{Write}
use Rattle.salt_model.specs.declared.locks.Reach.{Reach}
use Rattle.salt_ranges.specs.Ranges.{all_keys, has_key}
use Rattle.salt_values.specs.declared.id.Id.{Id}
use Rattle.salt_values.specs.declared.value.Value.{Value}
use Rattle.std.specs.Ordering.{is_eq}
use Rattle.std.specs.Prelude.{List, None, Some, [], true, ℕ, ◌+◌, ◌∷◌, ◌≡◌}

-- all keys of a table
abbrev pub whole : ℕ → Reach
whole t = record { table = t; range = all_keys; mode = Write }

-- a unit takes each of these tables, with numbers from this one on
abbrev pub TakenEach : Id → Family → ℕ → List ℕ → List Numbered → List Numbered → Type 0
TakenEach u f k [] old new = SameMembers new old
TakenEach u f k (t ∷ ts) old new = (mid : List Numbered) × HasTaken k (lock_of (Unit u) f (whole t)) old mid × TakenEach u f (k + 1) ts mid new

-- the keys are in the reach, and each is another
pub record AreKeys (r : Reach) (key : ℕ → Value) : Type 0 where
  pub within : (i : ℕ) → has_key r.range (key i) ≡ true
  pub apart : (i j : ℕ) → is_eq (place_cmp (place r.table (key i)) (place r.table (key j))) ≡ true → i ≡ j

-- each of these programs writes a key of its own, reads all, and then none has written
abbrev pub WroteEach : Reach → (ℕ → Value) → ℕ → List Id → Dependencies → Dependencies → Type 0
WroteEach r key k [] old new = AreSame old new
WroteEach r key k (b ∷ bs) old new = (mid : Dependencies) × Wrote (Some b) (place r.table (key k)) old mid × WroteEach r key (k + 1) bs mid new

abbrev pub ReadEach : Reach → List Id → Dependencies → Dependencies → Type 0
ReadEach r [] old new = AreSame old new
ReadEach r (b ∷ bs) old new = (mid : Dependencies) × HasRead b r old mid × ReadEach r bs mid new

abbrev pub ForgotEach : Reach → (ℕ → Value) → ℕ → List Id → Dependencies → Dependencies → Type 0
ForgotEach r key k [] old new = AreSame old new
ForgotEach r key k (b ∷ bs) old new = (mid : Dependencies) × Wrote None (place r.table (key k)) old mid × ForgotEach r key (k + 1) bs mid new
