-- The calls on what is kept of writers, pairs and finished programs: what each leaves, by its tests.
use Rattle.law_states.specs.KeptSources.{Dependencies, IsDue, WritesIn, unless_among}
use Rattle.law_states.specs.Members.{In}
use Rattle.salt_model.specs.Tables.{place_cmp}
use Rattle.salt_values.specs.Id.{has_id}
use Rattle.salt_model.specs.declared.events.End.{End}
use Rattle.salt_model.specs.declared.events.End.TheVariants.{Committed}
use Rattle.salt_model.specs.declared.locks.Reach.{Reach}
use Rattle.salt_model.specs.declared.places.Place.{Place}
use Rattle.salt_values.specs.Id.{is_same_id}
use Rattle.salt_values.specs.declared.id.Id.{Id}
use Rattle.std.specs.Ordering.{is_eq}
use Rattle.std.specs.Prelude.{IsTrue, List, Option, Some, [], false, if◌then◌else◌, ⊤, ◌||◌, ◌↔◌, ◌∷◌, ◌≡◌, ◌⊎◌}

pub record AreSame (old new : Dependencies) : Type 0 where
  pub writer : (q : Place) → new.writer q ≡ old.writer q
  pub reads : (x y : Id) → IsTrue (new.reads x y) ↔ IsTrue (old.reads x y)
  pub finished : (b : Id) → IsTrue (new.finished b) ↔ IsTrue (old.finished b)

-- a program, or none, is the last writer of this key; all else stays
pub record Wrote (base : Option Id) (p : Place) (old new : Dependencies) : Type 0 where
  pub writer : (q : Place) → new.writer q ≡ (if is_eq (place_cmp q p) then base else old.writer q)
  pub reads : (x y : Id) → IsTrue (new.reads x y) ↔ IsTrue (old.reads x y)
  pub finished : (b : Id) → IsTrue (new.finished b) ↔ IsTrue (old.finished b)

-- of these keys, one after another
abbrev pub WroteAll : Option Id → List Place → Dependencies → Dependencies → Type 0
WroteAll base [] old new = AreSame old new
WroteAll base (p ∷ ps) old new = (mid : Dependencies) × Wrote base p old mid × WroteAll base ps mid new

-- a program reads a range: pairs with the last writers in it, other than itself; all else stays
pub record HasRead (base : Id) (r : Reach) (old new : Dependencies) : Type 0 where
  pub writer : (q : Place) → new.writer q ≡ old.writer q
  pub reads : (x y : Id) →
      IsTrue (new.reads x y) ↔ (IsTrue (old.reads x y) ⊎ ((base ≡ x) × (is_same_id y x ≡ false) × WritesIn old.writer (Some r) y))
  pub finished : (b : Id) → IsTrue (new.finished b) ↔ IsTrue (old.finished b)

-- a program is taken away as a reader; all else stays
pub record HasAbandoned (base : Id) (old new : Dependencies) : Type 0 where
  pub writer : (q : Place) → new.writer q ≡ old.writer q
  pub reads : (x y : Id) → IsTrue (new.reads x y) ↔ (IsTrue (old.reads x y) × (is_same_id x base ≡ false))
  pub finished : (b : Id) → IsTrue (new.finished b) ↔ IsTrue (old.finished b)

abbrev pub marked : Id → Dependencies → Dependencies
marked base d = record d { finished = λ b. is_same_id b base || d.finished b }

-- a program is finished: those that are due then are given, and forgotten
pub record HasFinished (base : Id) (bs : List Id) (old new : Dependencies) : Type 0 where
  pub due : (b : Id) → In b bs ↔ IsDue (marked base old) b
  pub writer : (q : Place) → new.writer q ≡ unless_among bs (old.writer q)
  pub reads : (x y : Id) → IsTrue (new.reads x y) ↔ (IsTrue (old.reads x y) × (has_id x bs ≡ false) × (has_id y bs ≡ false))
  pub finished : (b : Id) → IsTrue (new.finished b) ↔ (IsTrue (is_same_id b base || old.finished b) × (has_id b bs ≡ false))

abbrev pub IsCommitted : End → Type 0
IsCommitted (Committed n) = ⊤
IsCommitted end = ⊥
