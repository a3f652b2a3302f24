-- What the storage holds is found again behind a fall: what stays of an opening, and what it stands for.
use Rattle.salt_books.specs.declared.books.Books.{Books}
use Rattle.salt_database.proofs.Lying.{found-left}
use Rattle.salt_database.proofs.Spent.{alone-by}
use Rattle.salt_database.specs.Finding.{IsFoundAgain}
use Rattle.salt_database.specs.Standing.{CanFind, IsFoundStage, opening_books}
use Rattle.salt_engine.specs.Flights.{IsInFlight}
use Rattle.salt_engine.specs.Standing.{IsBrokenStage, IsGoingStage, KnowsUnits, LeavesOnDevices, CanReopenAt}
use Rattle.salt_engine.specs.Stored.{IsAlone, IsLeft}
use Rattle.salt_engine.specs.declared.flights.InFlight.{InFlight}
use Rattle.salt_engine.specs.declared.stage.Stage.{Stage}
use Rattle.salt_engine.specs.declared.stage.Stage.TheVariants as at
use Rattle.law_states.specs.OpenUnits.{UnitState}
use Rattle.law_states.specs.Points.{Point}
use Rattle.salt_model.specs.Kept.{Kept}
use Rattle.salt_drain.specs.declared.recovery.Recovery.{Recovery}
use Rattle.salt_storage.specs.Answers.{MayFail, numbers_told}
use Rattle.salt_storage.specs.declared.found.Numbers.{Numbers}
use Rattle.salt_storage.specs.OpenErr.{OpenErr}
use Rattle.std.proofs.Common.{subst, sym, ◌∙◌}
use Rattle.std.specs.Prelude.{Bool, Err, IfErr, IsSome, IsTrue, None, Ok, OnErr, OnOk, Option, Result, Some, refl, ℕ, ◌≡◌}

-- BEHIND A FALL

pub left-behind : (holds : Kept → Type 0) (leaves : Kept → Kept → Type 0) (doubt : Type 0) (found : Option Numbers) (room : ℕ) (p : Point) → found ≡ None → LeavesOnDevices holds leaves doubt found room p →
    (a b : Kept) × leaves a b × IsLeft doubt room p a × IsLeft doubt room p b
left-behind holds leaves doubt found room p none h = subst (λ (f : Option Numbers). LeavesOnDevices holds leaves doubt f room p) none h

pub can-find : (told : Bool) (settled : Type 0) (found : Option Numbers) (stage : Stage Recovery) → found ≡ None → CanFind told settled found stage → settled × (IsGoingStage stage → ⊥)
can-find told settled found stage none h = subst (λ (f : Option Numbers). CanFind told settled f stage) none h

pub was-found : (told : Bool) (settled : Type 0) (found : Option Numbers) (n : Numbers) (stage : Stage Recovery) → found ≡ Some n → CanFind told settled found stage → IsFoundStage told found stage
was-found told settled found n stage is h =
    subst (λ (f : Option Numbers). IsFoundStage told f stage) (sym is) (subst (λ (f : Option Numbers). CanFind told settled f stage) is h)

-- what was found needs no looking for
pub found-finds : (told : Bool) (settled : Type 0) (found : Option Numbers) (stage : Stage Recovery) → IsFoundStage told found stage → CanFind told settled found stage
found-finds told settled (Some n) stage h = h
found-finds told settled None stage h = absurd h

-- the books are there, of what does not go on
pub broken-books : (stage : Stage Recovery) (s : UnitState) → (IsGoingStage stage → ⊥) → KnowsUnits (opening_books stage) s → (x : Books) × (stage ≡ at.Down x)
broken-books (at.Going x) s down k = absurd (down tt)
broken-books (at.Down x) s down k = (x, refl)
broken-books at.Lost s down k = let none = k.1 in cc

pub broken-stage : (stage : Stage Recovery) (s : UnitState) → (IsGoingStage stage → ⊥) → KnowsUnits (opening_books stage) s → IsBrokenStage stage
broken-stage stage s down k = subst IsBrokenStage (sym (broken-books stage s down k).1) tt

pub again-found : (told : Bool) (found : Option Numbers) (stage : Stage Recovery) → IsSome found → (IsTrue told → IsBrokenStage stage) → IsFoundStage told found stage
again-found told (Some n) stage some broken = broken
again-found told None stage some broken = cc

module _ (holds now : Kept → Type 0) (leaves again : Kept → Kept → Type 0) (old stoppable : Bool) (found later : Option Numbers) (stage after : Stage Recovery) (was single : Bool)
    (flew in_flight : Option InFlight) (unfound : found ≡ None) (stays : after ≡ stage) (room : ℕ) (p : Point)
    (lies : CanReopenAt holds leaves old found (opening_books stage) was flew room p) where
  here : (a b : Kept) × leaves a b × IsLeft (IsSome flew) room p a × IsLeft (IsSome flew) room p b
  here = left-behind holds leaves (IsSome flew) found room p unfound lies.left

  -- as much is in doubt
  as-flown : in_flight ≡ flew → LeavesOnDevices now again (IsSome flew) later room p → LeavesOnDevices now again (IsSome in_flight) later room p
  as-flown flies left = subst (λ (i : Option InFlight). LeavesOnDevices now again (IsSome i) later room p) (sym flies) left

  lies-with : LeavesOnDevices now again (IsSome in_flight) later room p → stoppable ≡ old → single ≡ was → in_flight ≡ flew → CanReopenAt now again stoppable later (opening_books after) single in_flight room p
  lies-with left same line flies = record {
    left = left;
    knows = subst (λ (s : Stage Recovery). KnowsUnits (opening_books s) p.state.units) (sym stays) lies.knows;
    sound = lies.sound;
    can_stop = lies.can_stop ∙ sym same;
    line = line ∙ lies.line;
    flies = subst (λ (i : Option InFlight). IsInFlight i p.flight p.state.units) (sym flies) lies.flies;
  }

  -- it was found
  pub left-found : in_flight ≡ flew → (x : Books) → ((a b : Kept) → leaves a b → IsFoundAgain now x a b later after) → LeavesOnDevices now again (IsSome in_flight) later room p
  left-found flies x again-is = as-flown flies (found-left now again x here.0 here.1 later after (IsSome flew) room p (again-is here.0 here.1 here.2) here.3 here.4)

  pub found-lies : (x : Books) → ((a b : Kept) → leaves a b → IsFoundAgain now x a b later after) → stoppable ≡ old → single ≡ was → in_flight ≡ flew →
      CanReopenAt now again stoppable later (opening_books after) single in_flight room p
  found-lies x again-is same line flies = lies-with (left-found flies x again-is) same line flies

  -- it was not found: it stays as it was
  pub left-still : in_flight ≡ flew → later ≡ found → ((a b : Kept) → leaves a b → again a b) → LeavesOnDevices now again (IsSome in_flight) later room p
  left-still flies none more =
      as-flown flies (subst (λ (f : Option Numbers). LeavesOnDevices now again (IsSome flew) f room p) (sym (none ∙ unfound)) (here.0, here.1, more here.0 here.1 here.2, here.3, here.4))

  -- where spent numbers are told, it is one of these alone
  pub alone-there : {T : Type 0} (rests : Kept → Type 0) (r : Result T OpenErr) → IfErr r (λ e. (a b : Kept) → leaves a b → MayFail rests a b e) → IsAlone rests (numbers_told r) room p
  alone-there rests (Ok x) known = tt
  alone-there rests (Err e) known = alone-by rests (IsSome flew) room p here.0 here.1 e here.3 here.4 (known here.0 here.1 here.2)

  pub lies-still : later ≡ found → ((a b : Kept) → leaves a b → again a b) → stoppable ≡ old → single ≡ was → in_flight ≡ flew →
      CanReopenAt now again stoppable later (opening_books after) single in_flight room p
  lies-still none more same line flies = lies-with (left-still flies none more) same line flies

-- BY WHAT a call answers

module _ {T E : Type 0} where
  pub either-way : {X : Type 0} (r : Result T E) (A B C : Type 0) → (A → X) → (B → C → X) → OnOk r A → OnErr r B → OnErr r C → X
  either-way (Ok x) A B C f g a b c = f a
  either-way (Err e) A B C f g a b c = g b c
