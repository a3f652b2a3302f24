-- A run that is down is opened over what was found, or it is not, and can be opened again.
use Rattle.salt_books.specs.declared.books.Books.{Books}
use Rattle.salt_database.proofs.Opened.{FoundAt, found-at, has-opened, opened-by, state}
use Rattle.salt_database.proofs.OpenedOn.{first-stored}
use Rattle.salt_database.specs.Finding.{IsOpenedBy, IsOpeningWith}
use Rattle.salt_database.specs.Standing.{IsFoundStage, OpensIn, opening_books}
use Rattle.salt_engine.specs.Flights.{IsInFlight}
use Rattle.salt_engine.specs.Standing.{IsBrokenStage, KnowUnits, KnowsUnits, LeavesOnDevices, CanReopenAt, AgreesWithState}
use Rattle.salt_model.specs.Ends.{raised}
use Rattle.salt_engine.specs.Stored.{IsLeft, IsNumbered, MayBeOther, kept_behind}
use Rattle.salt_engine.specs.declared.flights.InFlight.{InFlight}
use Rattle.salt_engine.specs.declared.stage.Stage.{Stage}
use Rattle.salt_engine.specs.declared.stage.Stage.TheVariants as at
use Rattle.law_states.specs.OpenUnits.{UnitState}
use Rattle.law_states.specs.Points.{Point}
use Rattle.law_states.specs.States.{State}
use Rattle.salt_model.specs.Kept.{Kept}
use Rattle.salt_model.specs.Phases.{Fallen}
use Rattle.salt_model.specs.Turns.{is_statement_line}
use Rattle.salt_model.specs.declared.events.Event.{Event}
use Rattle.salt_model.specs.declared.events.Event.TheVariants.{Opened}
use Rattle.salt_drain.specs.declared.recovery.Recovery.{Recovery}
use Rattle.salt_stands.specs.Stands.{are_spent}
use Rattle.salt_driver.specs.Opening.{OpensAt}
use Rattle.salt_driver.specs.Standing.{IsSoundPoint}
use Rattle.salt_storage.specs.Storing.{booted}
use Rattle.salt_storage.specs.declared.found.Numbers.{Numbers}
use Rattle.salt_storage.specs.declared.halt.Halt.{Halt}
use Rattle.salt_storage.specs.declared.halt.Halt.TheVariants.{DeviceFull, Memory}
use Rattle.salt_values.specs.declared.id.Id.{Id}
use Rattle.std.proofs.Common.{ap, arith, inl, inr, subst, sym, ◌∙◌}
use Rattle.std.specs.Prelude.{Bool, Err, IfErr, IfOk, IsSome, IsTrue, List, None, Ok, OnErr, OnOk, Option, Result, Some, [], false, refl, ℕ, ◌+◌, ◌++◌, ◌∷◌, ◌≡◌, ◌⊎◌}

-- the books that there are
pub known-by : (books : Option Books) (x : Books) (s : UnitState) → books ≡ Some x → KnowsUnits books s → KnowUnits x s
known-by books x s e k =
    let of : Some x ≡ Some k.0 = sym e ∙ k.1 in
    let same : x ≡ k.0 = cc in
    subst (λ (y : Books). KnowUnits y s) (sym same) k.2

-- what was found

pub found-broken : (told : Bool) (found : Option Numbers) (stage : Stage Recovery) → IsFoundStage told found stage → IsTrue told → IsBrokenStage stage
found-broken told (Some n) stage h now = h now
found-broken told None stage h now = absurd h

pub never-found : (told : Bool) (found : Option Numbers) (stage : Stage Recovery) → ((n : Numbers) → found ≡ Some n → ⊥) → IsFoundStage told found stage → ⊥
never-found told None stage nowhere h = h
never-found told (Some n) stage nowhere h = nowhere n refl

pub broken-never : (stage : Stage Recovery) → IsBrokenStage stage → ((x : Books) → stage ≡ at.Down x → ⊥) → ⊥
broken-never (at.Down x) h never = never x refl
broken-never (at.Going x) h never = h
broken-never at.Lost h never = h

-- it is held
pub found-held : (holds : Kept → Type 0) (leaves : Kept → Kept → Type 0) (stoppable : Bool) (found : Option Numbers) (books : Option Books) (single : Bool) (in_flight : Option InFlight)
    (n : Numbers) (room : ℕ) (p : Point) → found ≡ Some n → CanReopenAt holds leaves stoppable found books single in_flight room p → (k : Kept) × holds k
found-held holds leaves stoppable found books single in_flight n room p is lies =
    let h = subst (λ (f : Option Numbers). LeavesOnDevices holds leaves (IsSome in_flight) f room p) is lies.left in (h.0, h.1)

-- its numbers are not spent
pub unspent : (n : Numbers) (k : Kept) → IsNumbered n k → are_spent k.boot k.decisions ≡ false
unspent n k h = (λ i. are_spent (sym h.boot i) (sym h.decisions i)) ∙ h.unspent

-- what is left one boot later, or as it is
rises : (m : Kept) (n : ℕ) → booted (raised n m) ≡ raised (n + 1) m
rises m n = let same : m.boot + n + 1 ≡ m.boot + (n + 1) = omega arith in λ i. record m { boot = same i }

pub left-more : (doubt : Type 0) (room : ℕ) (p : Point) (k : Kept) → IsLeft doubt room p k → IsLeft doubt (room + 1) p k
left-more doubt room p k h = record { boots = h.boots; most = let m = h.most in omega arith; is = h.is }

pub left-booted : (doubt : Type 0) (room : ℕ) (p : Point) (k : Kept) → IsLeft doubt room p k → IsLeft doubt (room + 1) p (booted k)
left-booted doubt room p k h = record { boots = h.boots + 1; most = let m = h.most in omega arith; is = by h.is }
  where
    later : (m : Kept) → k ≡ raised h.boots m → booted k ≡ raised (h.boots + 1) m
    later m e = ap booted e ∙ rises m h.boots

    by : MayBeOther doubt (raised h.boots p.state.units.kept) (raised h.boots (kept_behind p.flight p.state.units)) k →
        MayBeOther doubt (raised (h.boots + 1) p.state.units.kept) (raised (h.boots + 1) (kept_behind p.flight p.state.units)) (booted k)
    by (inl e) = inl (later p.state.units.kept e)
    by (inr e) = inr (e.0, later (kept_behind p.flight p.state.units) e.1)

module _ (holds : Kept → Type 0) (leaves : Kept → Kept → Type 0) (old : Bool) (found : Option Numbers) (stage : Stage Recovery) (was : Bool) (flew : Option InFlight) (x : Books)
    (n : Numbers) (is : found ≡ Some n) (there : stage ≡ at.Down x) (room : ℕ) (p : Point) (lies : CanReopenAt holds leaves old found (opening_books stage) was flew room p) where
  pub found-here : (k : Kept) × holds k × IsLeft (IsSome flew) room p k × IsNumbered n k
  found-here = subst (λ (f : Option Numbers). LeavesOnDevices holds leaves (IsSome flew) f room p) is lies.left

  abbrev pub kept-found : Kept
  kept-found = found-here.0

  pub holding-found : holds kept-found
  holding-found = found-here.1

  pub unspent-found : are_spent kept-found.boot kept-found.decisions ≡ false
  unspent-found = unspent n kept-found found-here.3

  pub found-there : FoundAt room p kept-found n.decisions
  found-there = found-at (IsSome flew) flew room p n kept-found lies.flies found-here.2 found-here.3

  pub knows-found : KnowUnits x p.state.units
  knows-found = known-by (opening_books stage) x p.state.units (ap opening_books there) lies.knows

  -- a boot has begun
  pub begun-by : (sound : IsSoundPoint p) (fallen : p.state.units.phase ≡ Fallen) (boot : ℕ) (next : boot ≡ kept-found.boot + 1) →
      IsOpenedBy x was flew p.flight boot n.decisions p.state (state p sound fallen room kept-found n.decisions boot found-there next)
  begun-by sound fallen boot next =
      opened-by p sound fallen room kept-found n.decisions boot found-there next x was flew knows-found lies.line lies.flies lies.sound

  -- or not
  pub booted-left : (now : Kept → Type 0) (again : Kept → Kept → Type 0) (later : Option Numbers) (in_flight : Option InFlight) (a b : Kept) → later ≡ None → in_flight ≡ flew →
      (a ≡ kept-found) ⊎ (a ≡ booted kept-found) → (b ≡ kept-found) ⊎ (b ≡ booted kept-found) → again a b → LeavesOnDevices now again (IsSome in_flight) later (room + 1) p
  booted-left now again later in_flight a b none flies is_a is_b left =
      subst (λ (i : Option InFlight). LeavesOnDevices now again (IsSome i) later (room + 1) p) (sym flies)
      (subst (λ (f : Option Numbers). LeavesOnDevices now again (IsSome flew) f (room + 1) p) (sym none) (a, b, left, one a is_a, one b is_b))
    where
      one : (k : Kept) → (k ≡ kept-found) ⊎ (k ≡ booted kept-found) → IsLeft (IsSome flew) (room + 1) p k
      one k (inl e) = subst (IsLeft (IsSome flew) (room + 1) p) (sym e) (left-more (IsSome flew) room p kept-found found-here.2)
      one k (inr e) = subst (IsLeft (IsSome flew) (room + 1) p) (sym e) (left-booted (IsSome flew) room p kept-found found-here.2)

  pub down-lies : (now : Kept → Type 0) (again : Kept → Kept → Type 0) (stoppable : Bool) (later : Option Numbers) (books : Option Books) (single : Bool) (in_flight : Option InFlight) →
      later ≡ None → books ≡ Some x → again kept-found (booted kept-found) → stoppable ≡ old → single ≡ was → in_flight ≡ flew →
      CanReopenAt now again stoppable later books single in_flight (room + 1) p
  down-lies now again stoppable later books single in_flight none stays left same line flies = record {
    left = booted-left now again later in_flight kept-found (booted kept-found) none flies (inl refl) (inr refl) left;
    knows = (x, stays, knows-found);
    sound = lies.sound;
    can_stop = lies.can_stop ∙ sym same;
    line = line ∙ lies.line;
    flies = subst (λ (i : Option InFlight). IsInFlight i p.flight p.state.units) (sym flies) lies.flies;
  }

-- IT IS OPENED

module _ (p : Point) (sound : IsSoundPoint p) (fallen : p.state.units.phase ≡ Fallen) (room : ℕ) (k : Kept) (number boot : ℕ) (f : FoundAt room p k number)
    (next_boot : boot ≡ k.boot + 1) where
  abbrev pub its : State
  its = state p sound fallen room k number boot f next_boot

  pub opening-sees : (holds : Kept → Type 0) (is_new : Id → Type 0) (old stoppable was single : Bool) (stage : Stage Recovery) (in_flight : Option InFlight) (next : Event) →
      IsOpeningWith p.flight number its stage in_flight next → holds (booted k) → ((u : Id) → u.boot ≡ boot → is_new u) → p.state.can_stop ≡ old → stoppable ≡ old →
      was ≡ is_statement_line p.state.units.line → single ≡ was → AgreesWithState (OpensIn holds is_new stage) stoppable single in_flight (Some next) its
  opening-sees holds is_new old stoppable was single stage in_flight next o holding new can same line kept =
      let t = o.begins.done.0 in
      let d = o.begins.done.1 in
      record {
        seen =
            subst (λ (s : Stage Recovery). OpensIn holds is_new s (Some next) its) (sym o.there)
            (t, d, first-stored p sound fallen room k number boot f next_boot next o.begins.told holds is_new t.units d.after.units holding new, refl);
        can_stop = can ∙ sym same;
        line = kept ∙ line;
        flies = o.flies;
      }

  pub opening-at : (stands_for : Option Event → State → Type 0) (next : Event) (stage : Stage Recovery) (in_flight : Option InFlight) (story told : List Event) → IsOpeningWith p.flight number its stage in_flight next →
      stands_for (Some next) its → told ≡ story ++ Opened boot number ∷ [] → OpensAt stands_for room p story next told
  unfolding has-opened
  opening-at stands_for next stage in_flight story told o seen tells = record {
    has = has-opened p sound fallen room k number boot f next_boot;
    stands = record { state = seen; comes = sym o.begins.told; opening = refl };
    tells = tells;
  }

-- BY WHAT a call answers

pub ok-with : {T E : Type 0} (r : Result T E) (P Q : T → Type 0) (A : Type 0) → ((x : T) → P x → A → Q x) → IfOk r P → OnOk r A → IfOk r Q
ok-with (Ok x) P Q A f h a = f x h a
ok-with (Err e) P Q A f h a = tt

pub never-full : {T : Type 0} (r : Result T Halt) (dev : ℕ) → IfErr r (λ h. h ≡ Memory) → r ≡ Err (DeviceFull dev) → ⊥
never-full r dev h is = let memory : DeviceFull dev ≡ Memory = subst (λ (q : Result _ Halt). IfErr q (λ h. h ≡ Memory)) is h in cc

pub ok-both : {T E : Type 0} (r : Result T E) (A B : Type 0) → OnOk r A → OnOk r B → OnOk r (A × B)
ok-both (Ok x) A B a b = (a, b)
ok-both (Err e) A B a b = tt

pub err-with : {T E : Type 0} (r : Result T E) (P : E → Type 0) (A Q : Type 0) → ((e : E) → P e → A → Q) → IfErr r P → OnErr r A → OnErr r Q
err-with (Ok x) P A Q f h a = tt
err-with (Err e) P A Q f h a = f e h a
