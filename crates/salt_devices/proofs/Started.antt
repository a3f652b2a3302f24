-- Devices that are started again: what the next opening may come upon is what was left.
use Rattle.salt_devices.specs.Holding.{CanStart, IsAble}
use Rattle.salt_devices.specs.Leaving.{CanOpen, LeavesAs, MayCome}
use Rattle.salt_devices.specs.Refusing.{ComesUpon}
use Rattle.salt_disk.specs.Settling.{AreSettled}
use Rattle.salt_devices.specs.declared.pending.Pending.TheVariants.{Opening}
use Rattle.salt_devices.specs.declared.pending.Pending.{Pending}
use Rattle.salt_disk.specs.Disks.{IsRestarted, SameShape, View}
use Rattle.salt_model.specs.Kept.{Kept}
use Rattle.salt_place.specs.declared.placement.Shape.{Shape}
use Rattle.std.proofs.Common.{Bool, IsTrue, List, arith, false, refl, subst, sym, true, ℕ, ◌≡◌, ◌∙◌}

pub able_on : (shape : Shape) (d e : View) → SameShape d e → IsAble shape d → IsAble shape e
able_on shape d e same h = record { parts = h.parts; room = λ p low. let was = h.room p low in omega (arith, was, same.count) }

-- what was called on was not just started
pub called : (shape : Shape) (started : Bool) (p : Pending) (d e : View) → started ≡ false → SameShape d e → IsAble shape d
    → CanOpen p started e shape → CanStart shape started p e
called shape started p d e not same h opens = record { able = able_on shape d e same h; settled = λ is. absurd (cc (is, not)); opens = opens }

-- no first opening was broken off
pub opened : (p : Pending) (started : Bool) (d : View) (shape : Shape) → (p ≡ Opening → ⊥) → CanOpen p started d shape
opened p started d shape not is = absurd (not is)

module _ (d e : View) (again : IsRestarted d e) where
  pub settled_again : AreSettled e
  settled_again = record { each = λ dev low. again.settled dev (omega (arith, low, again.shape.count)) }

  pub comes_again : (started : Bool) → (started ≡ true → AreSettled d) → IsTrue d.told → (image : ℕ → List ℕ) → MayCome e true image → MayCome d started image
  comes_again true settled told image comes = λ dev low. comes dev (omega (arith, low, again.shape.count)) ∙ (settled refl).each dev low (e.bytes dev) (again.one_of told dev low)
  comes_again false settled told image comes = λ dev low. subst (d.image dev) (sym (comes dev (omega (arith, low, again.shape.count)))) (again.one_of told dev low)

  pub opens_again : (started : Bool) → (started ≡ true → AreSettled d) → (p : Pending) (shape : Shape) → CanOpen p started d shape → CanOpen p true e shape
  opens_again started settled p shape h is told image comes =
      let was : IsTrue d.told = sym again.shape.told ∙ told in
      h is was image (comes_again started settled was image comes)

  pub leaves_again : (started : Bool) → (started ≡ true → AreSettled d) → (shape : Shape) (a b : Kept) → LeavesAs started d shape a b → LeavesAs true e shape a b
  leaves_again started settled shape a b h told image comes =
      let was : IsTrue d.told = sym again.shape.told ∙ told in
      h was image (comes_again started settled was image comes)

  pub upon_again : (started : Bool) → (started ≡ true → AreSettled d) → (P : (ℕ → List ℕ) → Type 0) → (IsTrue e.told → ComesUpon e true P) → IsTrue d.told → ComesUpon d started P
  upon_again started settled P h told =
      let r = h (again.shape.told ∙ told) in
      record { image = r.image; comes = comes_again started settled told r.image r.comes; is = r.is }
