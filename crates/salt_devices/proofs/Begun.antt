-- A first opening, by what it may come upon.
use Rattle.salt_commit.specs.declared.store.Store.{Store}
use Rattle.salt_devices.proofs.Answered.{same_finds}
use Rattle.salt_devices.proofs.Netted.{IsWithNet, held_with}
use Rattle.salt_devices.proofs.Known.{stands_fails}
use Rattle.salt_devices.proofs.Opening.{alike_below}
use Rattle.salt_devices.proofs.Started.{able_on}
use Rattle.salt_devices.specs.Holding.{IsAble}
use Rattle.salt_devices.specs.Leaving.{CanOpen, MayCome, StandsForSomething, StandsFor, StandsStill}
use Rattle.salt_devices.specs.Opened.{OpensAs}
use Rattle.salt_devices.specs.Refusing.{ComesUpon, FindsKept, RefusedAs, RefusesDevices}
use Rattle.salt_devices.specs.Standing.{RestsAs, StandsHeld}
use Rattle.salt_devices.specs.declared.pending.Pending.TheVariants.{Nothing, Opening}
use Rattle.salt_devices.specs.declared.pending.Pending.{Pending}
use Rattle.salt_disk.specs.Disks.{IsImage, SameShape, View}
use Rattle.salt_model.specs.Kept.{Kept}
use Rattle.salt_storage.specs.Writing.{FindsNoMore}
use Rattle.salt_storage.specs.declared.found.Found.{Found}
use Rattle.salt_devices.specs.Remembering.{MayTell}
use Rattle.salt_storage.specs.Answers.{IsLater}
use Rattle.salt_storage.specs.OpenErr.TheVariants as opening
use Rattle.salt_storage.specs.OpenErr.TheVariants.{NotSalt, NumbersSpent, OtherShape}
use Rattle.salt_storage.specs.OpenErr.{OpenErr}
use Rattle.salt_place.specs.declared.placement.Shape.{Shape}
use Rattle.std.proofs.Common.{Bool, IsTrue, List, Some, false, inl, inr, refl, subst, sym, true, ℕ, ◌≡◌, ◌≢◌, ◌⊎◌, ◌∙◌}

-- what was started holds its bytes
pub upon_bytes : (d : View) (started : Bool) (P : (ℕ → List ℕ) → Type 0) → started ≡ true → P d.bytes → ComesUpon d started P
upon_bytes d started P is h = subst (λ (b : Bool). ComesUpon d b P) (sym is) (record { image = d.bytes; comes = λ dev low. refl; is = h })

-- what it refuses of that which may come upon it, it refuses of the bytes
pub refused_bytes : (d : View) (shape : Shape) (started : Bool) (refusal : OpenErr) → started ≡ true → IsAble shape d → ComesUpon d started (λ image. RefusedAs shape image refusal) → RefusedAs shape d.bytes refusal
refused_bytes d shape started refusal is able h =
    let u = subst (λ (b : Bool). ComesUpon d b (λ image. RefusedAs shape image refusal)) is h in
    (same_finds shape d.bytes u.image (alike_below shape d.count d.bytes u.image able.parts able.room u.comes)).refuses_no_more refusal u.is

-- behind an opening that failed, an image refuses and finds what the bytes did
module _ (d e : View) (shape : Shape) (same : SameShape d e) (was now : Bool) (started : was ≡ true) (called : now ≡ false)
    (still : IsTrue d.told → (image : ℕ → List ℕ) → IsImage e image → FindsNoMore (RefusedAs shape d.bytes) (StandsFor shape d.bytes) (RefusedAs shape image) (StandsFor shape image)) where
  came : (P : (ℕ → List ℕ) → Type 0) → ComesUpon e now P → ComesUpon e false P
  came P h = subst (λ (b : Bool). ComesUpon e b P) called h

  pub no_more : FindsNoMore (RefusesDevices d was shape) (FindsKept d was shape) (RefusesDevices e now shape) (FindsKept e now shape)
  no_more = record {
    refuses_no_more = λ r h told.
        let u = came (λ image. RefusedAs shape image r) (h (same.told ∙ told)) in
        upon_bytes d was (λ image. RefusedAs shape image r) started ((still told u.image u.comes).refuses_no_more r u.is);
    finds_no_more = λ k h told.
        let u = came (λ image. StandsFor shape image k) (h (same.told ∙ told)) in
        upon_bytes d was (λ image. StandsFor shape image k) started ((still told u.image u.comes).finds_no_more k u.is);
  }

-- and stands for what the bytes stood for
pub rests_behind : (d e : View) (shape : Shape) → SameShape d e → IsAble shape d → (started : Bool) → started ≡ true
    → (IsTrue d.told → (image : ℕ → List ℕ) → IsImage e image → StandsStill shape d.bytes image) → (k : Kept) → FindsKept d started shape k → RestsAs shape false e k
rests_behind d e shape same able started is behind k h = record {
  settled = λ now. absurd (cc now);
  rests = λ told image left.
      let was : IsTrue d.told = sym same.told ∙ told in
      let u = subst (λ (b : Bool). ComesUpon d b (λ image. StandsFor shape image k)) is (h was) in
      behind was image left k ((same_finds shape d.bytes u.image (alike_below shape d.count d.bytes u.image able.parts able.room u.comes)).finds_no_more k u.is);
}

-- what rests where the devices were started is found there
pub rests_found : (d : View) (shape : Shape) (started : Bool) → started ≡ true → (k : Kept) → RestsAs shape started d k → FindsKept d started shape k
rests_found d shape started is k h told =
    upon_bytes d started (λ image. StandsFor shape image k) is (h.rests told d.bytes (subst (λ (b : Bool). MayCome d b d.bytes) (sym is) (λ dev low. refl)))

-- WHAT IS OPENED was found there, and is held where the disks tell
module _ (d e : View) (shape : Shape) (x : Store) (found : Found) (o : OpensAs d e shape x found) where
  pub opened_held : (y : Store) → IsAble shape d → SameShape d e → IsWithNet x y → IsTrue e.told → StandsHeld shape false (Some y) Nothing e o.kept
  opened_held y able same put told = record { able = able_on shape d e same able; called = refl; nothing = refl; held = held_with e shape x y o.kept put (o.held told) }

  pub opened_finds : (started : Bool) → started ≡ true → FindsKept d started shape o.kept
  opened_finds started is told = upon_bytes d started (λ image. StandsFor shape image o.kept) is (o.stood told)

-- BROKEN OFF by a stop, or otherwise

abbrev pub IsPending : Pending → OpenErr → Type 0
IsPending p err = ((p ≡ Opening) × (err ≡ opening.Stopped)) ⊎ ((p ≡ Nothing) × (err ≢ opening.Stopped))

pub tried_behind : (p : Pending) (err : OpenErr) → IsPending p err → err ≡ opening.Stopped → p ≡ Opening
tried_behind p err (inl h) is = h.0
tried_behind p err (inr h) is = absurd (h.1 is)

pub opens_behind : (d e : View) (shape : Shape) (p : Pending) (err : OpenErr) → SameShape d e → IsPending p err
    → (err ≡ opening.Stopped → IsTrue d.told → (image : ℕ → List ℕ) → IsImage e image → StandsForSomething shape image) → CanOpen p false e shape
opens_behind d e shape p err same (inl h) stopped is told image comes = stopped h.1 (sym same.told ∙ told) image comes
opens_behind d e shape p err same (inr h) stopped is told image comes = absurd (cc (h.0, is))

later_of : (a b : Kept) (err : OpenErr) → MayTell a b err → IsLater err
later_of a b (NotSalt dev) h = h
later_of a b (OtherShape kept asked) h = h
later_of a b (NumbersSpent boot decisions) h = h.0
later_of a b opening.Failed h = tt
later_of a b opening.Stopped h = tt
later_of a b (opening.Full dev) h = tt
later_of a b opening.Memory h = tt

-- what stands for something is not refused
pub not_refused : (d : View) (shape : Shape) (p : Pending) (err : OpenErr) → CanOpen p true d shape → p ≡ Opening → IsTrue d.told → RefusedAs shape d.bytes err → IsLater err
not_refused d shape p err can is told refused =
    let s = can is told d.bytes (λ dev low. refl) in
    later_of s.0 s.0 err (stands_fails shape d.bytes s.0 s.0 err s.1 refused)
