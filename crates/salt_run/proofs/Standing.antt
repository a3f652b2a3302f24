-- What devices stand for, and how they open, by the reader that there is.
use Rattle.law_definitions.specs.Texts.{definition_in}
use Rattle.salt_devices.proofs.Answered.{AreAlike, same_finds}
use Rattle.salt_devices.specs.Leaving.{MayCome, StandsFor}
use Rattle.salt_devices.specs.Refusing.{FindsKept, RefusedAs, RefusesDevices}
use Rattle.salt_disk.specs.Disks.{View}
use Rattle.salt_model.specs.Kept.{Kept}
use Rattle.salt_promise.proofs.Opens.{opens}
use Rattle.salt_promise.specs.Standing.{AnswersTo, IsReader, OpenAs, StandFor}
use Rattle.salt_stands.specs.Stands as opening
use Rattle.salt_stands.specs.Stands.{are_spent}
use Rattle.salt_storage.specs.OpenErr.TheVariants as open_err
use Rattle.salt_storage.specs.OpenErr.{OpenErr}
use Rattle.salt_place.specs.Placement.{IsParts}
use Rattle.salt_place.specs.declared.placement.Shape.{Shape}
use Rattle.std.proofs.Common.{arith, sym, ◌∙◌}
use Rattle.std.specs.Prelude.{IsTrue, List, false, refl, true, ℕ, ◌*◌, ◌+◌, ◌<◌, ◌≡◌, ◌≤◌}

-- WHAT IS COME UPON at first is what the devices hold

pub alike : (d : View) (shape : Shape) → IsParts shape.parts → 26 ≤ d.count → (image other : ℕ → List ℕ) → MayCome d true image → MayCome d true other → AreAlike shape other image
alike d shape parts count image other h g = record {
  first = same 0 (omega arith);
  second = same 1 (omega arith);
  part_a = λ p low. let most = parts.1 in same (2 + 3 * p) (omega arith);
  part_b = λ p low. let most = parts.1 in same (2 + 3 * p + 1) (omega arith);
  pages = λ p low. let most = parts.1 in same (4 + 3 * p) (omega arith);
}
  where
    same : (dev : ℕ) → dev < d.count → image dev ≡ other dev
    same dev low = h dev low ∙ sym (g dev low)

module _ (d : View) (shape : Shape) (parts : IsParts shape.parts) (count : 26 ≤ d.count) (told : IsTrue d.told) where
  held-alike : (image : ℕ → List ℕ) → MayCome d true image → AreAlike shape d.bytes image
  held-alike image comes = alike d shape parts count image d.bytes comes (λ dev low. refl)

  pub finds-held : (k : Kept) → FindsKept d true shape k → StandsFor shape d.bytes k
  finds-held k h = let f = h told in (same_finds shape d.bytes f.image (held-alike f.image f.comes)).finds_no_more k f.is

  pub refuses-held : (e : OpenErr) → RefusesDevices d true shape e → RefusedAs shape d.bytes e
  refuses-held e h = let f = h told in (same_finds shape d.bytes f.image (held-alike f.image f.comes)).refuses_no_more e f.is

-- BY ANY READER

module _ (reads : IsReader definition_in) where
  pub stand-for : (shape : Shape) (image : ℕ → List ℕ) (k : Kept) → StandsFor shape image k → StandFor shape image k
  stand-for shape image k s = record {
    read = definition_in;
    reads = reads;
    found = s.found;
    is = s.is;
    has_shape = s.has_shape;
    keeps = s.keeps;
  }

  pub open-as : (d : View) (shape : Shape) → IsParts shape.parts → 26 ≤ d.count → (k : Kept) → are_spent k.boot k.decisions ≡ false → FindsKept d true shape k → IsTrue d.told → OpenAs shape d.bytes k
  open-as d shape parts count k unspent finds told = opens shape d.bytes k (stand-for shape d.bytes k (finds-held d shape parts count told k finds)) unspent

  -- a refusal, as it is answered
  pub answers-salt : (shape : Shape) (bytes : ℕ → List ℕ) (dev : ℕ) → RefusedAs shape bytes (open_err.NotSalt dev) → AnswersTo shape bytes (opening.NotSalt dev)
  answers-salt shape bytes dev is = record { read = definition_in; reads = reads; is = is }

  pub answers-shape : (shape : Shape) (bytes : ℕ → List ℕ) (kept asked : Shape) → RefusedAs shape bytes (open_err.OtherShape kept asked) → AnswersTo shape bytes (opening.OtherShape kept asked)
  answers-shape shape bytes kept asked is = record { read = definition_in; reads = reads; is = is }

  pub answers-spent : (shape : Shape) (bytes : ℕ → List ℕ) (boot decisions : ℕ) → RefusedAs shape bytes (open_err.NumbersSpent boot decisions) → AnswersTo shape bytes (opening.NumbersSpent boot decisions)
  answers-spent shape bytes boot decisions is = record { read = definition_in; reads = reads; is = is }
