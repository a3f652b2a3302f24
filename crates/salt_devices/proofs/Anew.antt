-- Devices are opened anew: what was left there is found, or is left as it was.
use Rattle.law_generations.specs.AsIf.{in_format}
use Rattle.salt_bytes.specs.Generations.{BothBlank}
use Rattle.salt_commit.specs.Stores.{last_boot, last_decision, reading}
use Rattle.salt_commit.specs.declared.store.Store.{Store}
use Rattle.salt_stands.specs.Fitting.{kept_in}
use Rattle.salt_devices.proofs.Answered.{like_stands, opened_stands}
use Rattle.salt_devices.proofs.Known.{stands_fails}
use Rattle.salt_devices.proofs.Opening.{like_unwritten}
use Rattle.salt_devices.proofs.Remembered.{numbers_found}
use Rattle.salt_devices.proofs.Stores.{IsJudged, is_begun}
use Rattle.salt_devices.specs.Leaving.{IsEither, LeavesEither, LeavesAs, StandsFor}
use Rattle.salt_devices.specs.Holding.{IsHeld}
use Rattle.salt_devices.specs.Opened.{LeavesKept, OpensAs, StandsYet}
use Rattle.salt_devices.specs.Refusing.{RefusedAs}
use Rattle.salt_devices.specs.Remembering.{AreNumbersOf, Follow, MayTell, Remembers, numbers_of}
use Rattle.salt_devices.specs.Standing.{RestsAs}
use Rattle.salt_devices.specs.declared.pending.Pending.{Pending}
use Rattle.salt_disk.specs.Disks.{KeepsAll, View}
use Rattle.salt_disk.specs.declared.disks.DiskErr.{DiskErr}
use Rattle.salt_model.specs.Kept.{Definition, Kept}
use Rattle.salt_parts.specs.Openings.{HasRoom}
use Rattle.salt_stands.specs.Coordinator.{coordinator_pair}
use Rattle.salt_stands.specs.Stands.{Found, are_spent, logs_of, stands_on}
use Rattle.salt_storage.specs.Answers.{IsRefusal, IsSpent, MayFail}
use Rattle.salt_storage.specs.declared.found.Found as storage
use Rattle.salt_storage.specs.declared.found.Numbers.{Numbers}
use Rattle.salt_storage.specs.OpenErr.TheVariants as opening
use Rattle.salt_storage.specs.OpenErr.TheVariants.{NotSalt, NumbersSpent, OtherShape}
use Rattle.salt_storage.specs.OpenErr.{OpenErr}
use Rattle.salt_place.specs.Placement.{IsParts}
use Rattle.salt_place.specs.declared.placement.Shape.{Shape}
use Rattle.std.proofs.Common.{IsTrue, List, Ok, Option, ap, arith, false, inl, inr, refl, subst, sym, true, ℕ, ◌≡◌, ◌⊎◌, ◌∙◌}

pub left_bytes : (d : View) (shape : Shape) (a b : Kept) → LeavesAs true d shape a b → IsTrue d.told → IsEither shape d.bytes a b
left_bytes d shape a b h told = h told d.bytes (λ dev low. refl)

-- what stands there is one thing
one_kept : (shape : Shape) (image : ℕ → List ℕ) (k l : Kept) → StandsFor shape image k → StandsFor shape image l → k ≡ l
one_kept shape image k l s t =
    let both : Ok s.found ≡ Ok t.found = sym s.is ∙ t.is in
    let same : s.found ≡ t.found = cc both in
    sym s.keeps ∙ ap kept_in same ∙ t.keeps

-- WHAT IS LEFT

-- where nothing was written, what may come now came before
still_left : (d e : View) (shape : Shape) (n : ℕ) (answer : Option DiskErr) → HasRoom d n → KeepsAll d e answer → (a b : Kept) → LeavesAs true d shape a b → LeavesEither e shape a b
still_left d e shape n answer room keeps a b h told image left =
    h (sym keeps.shape.told ∙ told) image
    (λ dev low. room.settled dev low (image dev) (keeps.images dev (λ none. none) (image dev) (left dev (omega (arith, low, keeps.shape.count)))))

-- where something was written, each image stands for what was found
module _ (d e : View) (shape : Shape) (a b : Kept) (s : StandsYet d e shape) (told : IsTrue d.told) (h : LeavesAs true d shape a b) where
  stood : stands_on reading d.bytes shape ≡ Ok s.found
  stood = opened_stands d.bytes shape s.found s.opens

  one_found : (k : Kept) (t : StandsFor shape d.bytes k) → s.found ≡ t.found
  one_found k t = let both : Ok s.found ≡ Ok t.found = sym stood ∙ t.is in cc both

  has_shape : s.found.shape ≡ shape
  has_shape = by (left_bytes d shape a b h told).stands
    where
      by : StandsFor shape d.bytes a ⊎ StandsFor shape d.bytes b → s.found.shape ≡ shape
      by (inl t) = ap (λ (f : Found Definition). f.shape) (one_found a t) ∙ t.has_shape
      by (inr t) = ap (λ (f : Found Definition). f.shape) (one_found b t) ∙ t.has_shape

  written_left : LeavesEither e shape a b
  written_left now image left = record {
    begun = is_begun shape image (λ asked. judged asked (s.images asked image left));
    stands = by (left_bytes d shape a b h told).stands;
  }
    where
      judged : (asked : Shape) → (stands_on reading image asked ≡ Ok s.found) ⊎ (stands_on reading image asked ≡ Ok (in_format 3 s.found)) → IsJudged shape image asked
      judged asked (inl is) = record { found = s.found; has_shape = has_shape; is = is }
      judged asked (inr is) = record { found = in_format 3 s.found; has_shape = has_shape; is = is }

      one : (k : Kept) → StandsFor shape d.bytes k → StandsFor shape image k
      one k t = in_some (s.images shape image left)
        where
          same : kept_in s.found ≡ k
          same = ap kept_in (one_found k t) ∙ t.keeps

          in_some : (stands_on reading image shape ≡ Ok s.found) ⊎ (stands_on reading image shape ≡ Ok (in_format 3 s.found)) → StandsFor shape image k
          in_some (inl is) = record { found = s.found; is = is; has_shape = has_shape; keeps = same }
          in_some (inr is) = record { found = in_format 3 s.found; is = is; has_shape = has_shape; keeps = same }

      by : StandsFor shape d.bytes a ⊎ StandsFor shape d.bytes b → StandsFor shape image a ⊎ StandsFor shape image b
      by (inl t) = inl (one a t)
      by (inr t) = inr (one b t)

pub opening_left : (d e : View) (shape : Shape) (n : ℕ) (answer : Option DiskErr) → HasRoom d n → IsTrue d.told → (¬ (coordinator_pair (logs_of d.bytes) ≡ BothBlank) → LeavesKept d e shape answer) → (a b : Kept) → LeavesAs true d shape a b → LeavesEither e shape a b
opening_left d e shape n answer room told leaves a b h = by (leaves (left_bytes d shape a b h told).begun)
  where
    by : LeavesKept d e shape answer → LeavesEither e shape a b
    by (inl keeps) = still_left d e shape n answer room keeps a b h
    by (inr stands) = written_left d e shape a b stands told h

-- HOW AN OPENING MAY FAIL there

swapped : (a b : Kept) (e : OpenErr) → MayTell b a e → MayTell a b e
swapped a b (NotSalt dev) h = h
swapped a b (OtherShape kept asked) h = h
swapped a b (NumbersSpent boot decisions) h = (h.0, by h.1)
  where
    by : ((boot ≡ b.boot) × (decisions ≡ b.decisions)) ⊎ ((boot ≡ a.boot) × (decisions ≡ a.decisions)) → ((boot ≡ a.boot) × (decisions ≡ a.decisions)) ⊎ ((boot ≡ b.boot) × (decisions ≡ b.decisions))
    by (inl s) = inr s
    by (inr s) = inl s
swapped a b opening.Failed h = tt
swapped a b opening.Stopped h = tt
swapped a b (opening.Full dev) h = tt
swapped a b opening.Memory h = tt

pub left_fails : (d : View) (shape : Shape) (a b : Kept) (e : OpenErr) → LeavesAs true d shape a b → IsTrue d.told → RefusedAs shape d.bytes e → MayTell a b e
left_fails d shape a b e h told refused = by (left_bytes d shape a b h told).stands
  where
    by : StandsFor shape d.bytes a ⊎ StandsFor shape d.bytes b → MayTell a b e
    by (inl s) = stands_fails shape d.bytes a b e s refused
    by (inr s) = swapped a b e (stands_fails shape d.bytes b a e s refused)

-- WHAT RESTS where it fails so: nothing was written, so what stands there is all that a stop may leave
module _ (d e : View) (shape : Shape) (parts : IsParts shape.parts) (room : HasRoom d shape.parts) (a b : Kept) (told : IsTrue d.told) (h : LeavesAs true d shape a b) where
  rests_still : (answer : Option DiskErr) → KeepsAll d e answer → (k : Kept) → StandsFor shape d.bytes k → RestsAs shape false e k
  rests_still answer keeps k s = record {
    settled = λ is. absurd (cc is);
    rests = λ now image left. like_stands shape d.bytes image (like_unwritten d shape parts room e answer keeps image left) k s;
  }

  pub fails_known : (answer : Option DiskErr) (err : OpenErr) → (IsRefusal err → KeepsAll d e answer) → RefusedAs shape d.bytes err → MayFail (RestsAs shape false e) a b err
  fails_known answer err kept refused = by err kept refused (left_fails d shape a b err h told refused)
    where
      by : (f : OpenErr) → (IsRefusal f → KeepsAll d e answer) → RefusedAs shape d.bytes f → MayTell a b f → MayFail (RestsAs shape false e) a b f
      by (NotSalt dev) keeps r tells = tells
      by (OtherShape other asked) keeps r tells = tells
      by (NumbersSpent boot decisions) keeps r tells = there (left_bytes d shape a b h told).stands
        where
          known : (k : Kept) → (k ≡ a) ⊎ (k ≡ b) → StandsFor shape d.bytes k → (boot ≡ k.boot) × (decisions ≡ k.decisions) → IsSpent (RestsAs shape false e) a b boot decisions
          known k either s is = record { kept = k; either = either; resting = rests_still answer (keeps tt) k s; boot_is = is.0; decisions_are = is.1; spent = tells.0 }

          numbers : (k : Kept) → StandsFor shape d.bytes k → (boot ≡ k.boot) × (decisions ≡ k.decisions)
          numbers k s = one (stands_fails shape d.bytes k k (NumbersSpent boot decisions) s r).1
            where
              one : ((boot ≡ k.boot) × (decisions ≡ k.decisions)) ⊎ ((boot ≡ k.boot) × (decisions ≡ k.decisions)) → (boot ≡ k.boot) × (decisions ≡ k.decisions)
              one (inl is) = is
              one (inr is) = is

          there : StandsFor shape d.bytes a ⊎ StandsFor shape d.bytes b → IsSpent (RestsAs shape false e) a b boot decisions
          there (inl s) = known a (inl refl) s (numbers a s)
          there (inr s) = known b (inr refl) s (numbers b s)
      by opening.Failed keeps r tells = tt
      by opening.Stopped keeps r tells = tt
      by (opening.Full dev) keeps r tells = tt
      by opening.Memory keeps r tells = tt

-- WHAT IS OPENED there
module _ (d e : View) (shape : Shape) (y : Store) (found : storage.Found) (o : OpensAs d e shape y found) where
  -- its numbers are those that were found
  pub numbers_there : are_spent found.boot found.decisions ≡ false → are_spent (last_boot y) (last_decision y) ≡ false
  numbers_there unspent =
      ap (λ n. are_spent n (last_decision y)) (o.numbers.boot ∙ sym o.is_found.boot) ∙ ap (are_spent found.boot) (o.numbers.decisions ∙ sym o.is_found.decisions) ∙ unspent

  module _ (told : IsTrue d.told) (a b : Kept) (h : LeavesAs true d shape a b) where
    one_of : (P : Kept → Type 0) → P o.kept → P a ⊎ P b
    one_of P is = by (left_bytes d shape a b h told).stands
      where
        by : StandsFor shape d.bytes a ⊎ StandsFor shape d.bytes b → P a ⊎ P b
        by (inl s) = inl (subst P (one_kept shape d.bytes o.kept a (o.stood told) s) is)
        by (inr s) = inr (subst P (one_kept shape d.bytes o.kept b (o.stood told) s) is)

    -- it is held
    pub holds_there : IsTrue e.told → IsHeld e shape y a ⊎ IsHeld e shape y b
    holds_there now = one_of (IsHeld e shape y) (o.held now)

    -- and its numbers are remembered
    pub remembered_there : (n : Numbers) (p : Pending) → Remembers n p a b → (numbers_of y ≡ n) ⊎ Follow p n (numbers_of y)
    remembered_there n p r = numbers_found n (numbers_of y) p a b r (one_of (AreNumbersOf (numbers_of y)) o.numbers)
