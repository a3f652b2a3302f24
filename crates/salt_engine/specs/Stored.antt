-- What a storage holds beside an engine's state, and what a stop leaves of it.
use Rattle.salt_model.specs.Ends.{raised}
use Rattle.law_states.specs.OpenUnits.{UnitState}
use Rattle.law_states.specs.Points.{Point}
use Rattle.law_states.specs.Steps.{units_after}
use Rattle.salt_model.specs.Kept.{Kept}
use Rattle.salt_model.specs.declared.events.Event.{Event}
use Rattle.law_decisions.specs.Naming.{IsToCome}
use Rattle.salt_stands.specs.Stands.{are_spent}
use Rattle.salt_storage.specs.declared.found.Numbers.{Numbers}
use Rattle.salt_values.specs.declared.id.Id.{Id}
use Rattle.std.specs.Prelude.{None, Option, Some, false, ℕ, ⊤, ◌≡◌, ◌≤◌, ◌⊎◌}

-- it holds what the state keeps, and each unit of this boot that is open or may still begin is new to it
pub record Stored (holds : Kept → Type 0) (is_new : Id → Type 0) (s : UnitState) : Type 0 where
  pub holding : holds s.kept
  pub new : (u : Id) → IsToCome s u → is_new u

-- what is kept behind the event that comes next or is in flight, if there is one
abbrev pub kept_behind : Option Event → UnitState → Kept
kept_behind None s = s.kept
kept_behind (Some e) s = (units_after e s).kept

-- the one or the other
abbrev pub IsEither : (a b k : Kept) → Type 0
IsEither a b k = (k ≡ a) ⊎ (k ≡ b)

-- the one, or, where that is in doubt, the other
abbrev pub MayBeOther : (doubt : Type 0) → (a b k : Kept) → Type 0
MayBeOther doubt a b k = (k ≡ a) ⊎ (doubt × (k ≡ b))

-- what is kept at a point, or, where that is in doubt, that with the flight; at most so many boots later
pub record IsLeft (doubt : Type 0) (room : ℕ) (p : Point) (k : Kept) : Type 0 where
  pub boots : ℕ
  pub most : boots ≤ room
  pub is : MayBeOther doubt (raised boots p.state.units.kept) (raised boots (kept_behind p.flight p.state.units)) k

-- it is that alone, and these are its numbers
pub record IsLeftAlone (rests : Kept → Type 0) (numbers : Numbers) (room : ℕ) (p : Point) : Type 0 where
  pub kept : Kept
  pub resting : rests kept
  pub left : IsLeft ⊤ room p kept
  pub boot_is : numbers.boot ≡ kept.boot
  pub decisions_are : numbers.decisions ≡ kept.decisions

abbrev pub IsAlone : (rests : Kept → Type 0) → Option Numbers → ℕ → Point → Type 0
IsAlone rests None room p = ⊤
IsAlone rests (Some numbers) room p = IsLeftAlone rests numbers room p

-- a stop leaves the one, or, where that is in doubt, the other
pub record LeavesEither (leaves : Kept → Kept → Type 0) (doubt : Type 0) (a b : Kept) : Type 0 where
  pub one : Kept
  pub other : Kept
  pub left : leaves one other
  pub is_one : MayBeOther doubt a b one
  pub is_other : MayBeOther doubt a b other

-- the numbers of what is kept, which are not spent
pub record IsNumbered (n : Numbers) (k : Kept) : Type 0 where
  pub boot : n.boot ≡ k.boot
  pub decisions : n.decisions ≡ k.decisions
  pub unspent : are_spent n.boot n.decisions ≡ false
