-- A store that opened is taken into the newest formats.
use Rattle.law_generations.specs.AsIf.{in_format}
use Rattle.salt_commit.specs.Migrations.{GoesOnNewest, HasMigrated}
use Rattle.salt_commit.specs.Openings.{LeavesStanding}
use Rattle.salt_commit.specs.Stores.{IsStoreDevice, StandsOnDevices, reading, shape_of_store}
use Rattle.salt_commit.specs.declared.store.Store.{Store}
use Rattle.salt_devices.proofs.Answered.{IsLike, IsStillThere, like_stands, opened_stands}
use Rattle.salt_devices.proofs.Refused.{opened_not_refused}
use Rattle.salt_devices.specs.Filling.{FillsDevice, FillsIn}
use Rattle.salt_devices.specs.Holding.{IsInShape, IsStanding}
use Rattle.salt_devices.specs.Leaving.{StandsFor, StandsForSomething}
use Rattle.salt_devices.specs.Opened.{LeavesKept, OpensAs, OpensIn, StandsYet}
use Rattle.salt_devices.specs.Refusing.{RefusedAs}
use Rattle.salt_devices.specs.Remembering.{AreNumbersOf, numbers_of}
use Rattle.salt_disk.proofs.CallAfterCall.{keeps_on}
use Rattle.salt_disk.specs.Disks.{FullWhere, IsImage, KeepsBut, SameShape, View}
use Rattle.salt_disk.specs.declared.disks.DiskErr.TheVariants.{Failed, Full, Memory, Stopped}
use Rattle.salt_disk.specs.declared.disks.DiskErr.{DiskErr}
use Rattle.salt_gatelog.specs.Answers.{open_err_of}
use Rattle.salt_model.specs.Kept.{Definition}
use Rattle.salt_place.specs.declared.placement.Shape.{Shape}
use Rattle.salt_promise.specs.Filling.{MigrationFills}
use Rattle.salt_stands.specs.Commits.{found_of}
use Rattle.salt_stands.specs.Fitting.{kept_in}
use Rattle.salt_stands.specs.Stands as opening
use Rattle.salt_stands.specs.Stands.{stands_on}
use Rattle.salt_storage.specs.Answers.{IsRefusal}
use Rattle.salt_storage.specs.OpenErr.TheVariants as storage
use Rattle.salt_storage.specs.OpenErr.{OpenErr}
use Rattle.salt_storage.specs.Writing.{OfOpening}
use Rattle.salt_storage.specs.declared.found.Found.{Found}
use Rattle.std.proofs.Common.{IsTrue, List, None, Ok, Option, Some, ap, arith, inl, inr, refl, subst, sym, ℕ, ◌≡◌, ◌⊎◌, ◌∙◌}

module _ (d e f : View) (shape : Shape) (x y : Store) (found : Found) (o : OpensIn d e shape x found) (same : SameShape d e) where
  pub stands_in : StandsOnDevices e x
  stands_in = record { which = o.which; c = o.c; v = o.v; is = o.is }

  own_shape : shape_of_store x ≡ shape
  own_shape = o.is.decisions.holds.shape ∙ o.has_shape

  -- what it touches is of the shape that is asked for
  pub others_in : (answer : Option DiskErr) → KeepsBut (IsStoreDevice shape.parts) d e None → KeepsBut (IsStoreDevice (shape_of_store x).parts) e f answer → KeepsBut (IsStoreDevice shape.parts) d f answer
  others_in answer first second = keeps_on (IsStoreDevice shape.parts) d e f answer first (subst (λ (s : Shape). KeepsBut (IsStoreDevice s.parts) e f answer) own_shape second)

  -- BEHIND OK
  module _ (made : HasMigrated e f x y None) where
    goes : GoesOnNewest f y o.c o.v
    goes = made.on refl o.which o.c o.v o.is o.under

    in_shape : IsInShape shape goes.coordinator goes.views
    in_shape = record {
      has_shape = ap (λ (k : opening.Found Definition). k.shape) goes.as_if.found ∙ o.has_shape;
      format = ap (λ (k : opening.Found Definition). k.format) goes.as_if.found;
      nulls = λ p low. goes.nulls p (omega (arith, low, goes.as_if.parts));
    }

    standing : IsStanding f shape y
    standing = record { which = goes.which; c = goes.coordinator; v = goes.views; is = goes.is; newest = in_shape }

    numbers : AreNumbersOf (numbers_of y) o.kept
    numbers = record { boot = ap (λ (n : ℕ × ℕ). n.0) made.numbers ∙ o.numbers.boot; decisions = ap (λ (n : ℕ × ℕ). n.1) made.numbers ∙ o.numbers.decisions }

    pub opens_newest : OpensAs d f shape y found
    opens_newest = record {
      kept = o.kept;
      stands = standing;
      is_found = o.is_found;
      numbers = numbers;
      sound = o.sound;
      held = λ told.
          let before : IsTrue e.told = sym made.others.shape.told ∙ told in
          record { told = told; which = goes.which; c = goes.coordinator; v = goes.views; is = goes.is; newest = in_shape; keeps = ap kept_in goes.as_if.found ∙ o.keeps before; kept = o.sound };
      stood = λ was. record { found = found_of o.c o.v; is = opened_stands d.bytes shape (found_of o.c o.v) (o.finds was); has_shape = o.has_shape; keeps = o.keeps (same.told ∙ was) };
    }

  -- WHATEVER IS ANSWERED, where the disks tell
  module _ (answer : Option DiskErr) (made : HasMigrated e f x y answer) (told : IsTrue d.told) where
    pub stands_yet : StandsYet d f shape
    stands_yet = record { found = found_of o.c o.v; opens = o.finds told; images = made.images o.which o.c o.v o.is (same.told ∙ told) }

    pub like_migrated : (image : ℕ → List ℕ) → IsImage f image → IsLike shape d.bytes image
    like_migrated image left = inr (inr (by (made.images o.which o.c o.v o.is (same.told ∙ told) shape image left)))
      where
        by : (stands_on reading image shape ≡ Ok (found_of o.c o.v)) ⊎ (stands_on reading image shape ≡ Ok (in_format 3 (found_of o.c o.v))) → IsStillThere shape d.bytes image
        by (inl stands) = record { found = found_of o.c o.v; opens = o.finds told; format = o.c.log.header.format; stands = stands }
        by (inr stands) = record { found = found_of o.c o.v; opens = o.finds told; format = 3; stands = stands }

    pub something_yet : (image : ℕ → List ℕ) → IsImage f image → StandsForSomething shape image
    something_yet image left = (kept_in (found_of o.c o.v), like_stands shape d.bytes image (like_migrated image left) (kept_in (found_of o.c o.v)) was)
      where
        was : StandsFor shape d.bytes (kept_in (found_of o.c o.v))
        was = record { found = found_of o.c o.v; is = opened_stands d.bytes shape (found_of o.c o.v) (o.finds told); has_shape = o.has_shape; keeps = refl }

    pub not_refused : (refusal : OpenErr) → IsRefusal refusal → RefusedAs shape d.bytes refusal → ⊥
    not_refused refusal is refused = opened_not_refused shape d.bytes (found_of o.c o.v) (o.finds told) refusal is refused

  -- a full device
  pub migration_fills : (dev : ℕ) → SameShape e f → (IsTrue e.told → FullWhere (MigrationFills f (shape_of_store x)) (Some (Full dev))) → FillsIn f shape OfOpening dev
  migration_fills dev shaped full told = by (subst (λ (s : Shape). MigrationFills f s dev) own_shape (full (sym shaped.told ∙ told)))
    where
      by : MigrationFills f shape dev → FillsDevice f shape OfOpening dev
      by fills = inr (inr fills)

-- what is left behind an opening of the store in its format
pub leaves_yet : (d e : View) (shape : Shape) (answer : Option DiskErr) → LeavesStanding d e shape answer → LeavesKept d e shape answer
leaves_yet d e shape answer (inl keeps) = inl keeps
leaves_yet d e shape answer (inr s) = inr (record { found = s.found; opens = s.opens; images = λ asked image left. inl (s.images asked image left) })

-- what the disks have answered refuses nothing
pub halted_as : (shape : Shape) (bytes : ℕ → List ℕ) (e : DiskErr) → RefusedAs shape bytes (open_err_of e)
halted_as shape bytes Failed = tt
halted_as shape bytes Stopped = tt
halted_as shape bytes (Full dev) = tt
halted_as shape bytes Memory = tt

pub no_refusal : (e : DiskErr) → IsRefusal (open_err_of e) → ⊥
no_refusal Failed h = h
no_refusal Stopped h = h
no_refusal (Full dev) h = h
no_refusal Memory h = h

pub full_of : (e : DiskErr) (dev : ℕ) → open_err_of e ≡ storage.Full dev → e ≡ Full dev
full_of Failed dev is = absurd (cc is)
full_of Stopped dev is = absurd (cc is)
full_of (Full k) dev is = cc is
full_of Memory dev is = absurd (cc is)
