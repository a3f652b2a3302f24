-- Devices are opened, by what the calls say one after another.
use Rattle.salt_bytes.specs.Generations.{BothBlank, Counts, Faulty, Pair}
use Rattle.salt_commit.proofs.Opening.{leaves_at}
use Rattle.salt_commit.specs.Openings.{LeavesStanding, MayWrite, OpeningFails, OpeningPassesLimit}
use Rattle.salt_commit.specs.Stores.{reading}
use Rattle.salt_decisions.specs.Kept.{IsKept}
use Rattle.salt_decisions.specs.Opened.{IsPeeked}
use Rattle.salt_storage.specs.OpenErr.TheVariants.{Failed, Full, Memory, NotSalt, NumbersSpent, OtherShape, Stopped}
use Rattle.salt_decisions.specs.declared.kept.Kept as log
use Rattle.salt_devices.proofs.Answered.{AreAlike, IsLike, like_stands, opened_shape, opened_stands, stands_for_nothing}
use Rattle.salt_stands.specs.Fitting.{kept_in}
use Rattle.salt_devices.specs.Filling.{FillsDevice, FillsIn}
use Rattle.salt_devices.specs.Leaving.{StandsFor, StandsForSomething}
use Rattle.salt_devices.specs.Refusing.{RefusedAs}
use Rattle.salt_disk.specs.Disks.{FullWhere, IsImage, KeepsAll, KeepsBut, SameShape, Shrinks, View}
use Rattle.salt_disk.specs.declared.disks.DiskErr.TheVariants as disk
use Rattle.salt_disk.specs.declared.disks.DiskErr.{DiskErr}
use Rattle.salt_parts.proofs.Reading.{same_bytes}
use Rattle.salt_parts.specs.Openings.{HasRoom}
use Rattle.salt_stands.specs.Coordinator.{coordinator_of, coordinator_pair}
use Rattle.salt_stands.specs.CoordinatorLog.{CoordinatorLog}
use Rattle.salt_stands.specs.Partition.{pages_device}
use Rattle.salt_stands.specs.Stands as opening
use Rattle.salt_stands.specs.Stands.{stands_on, logs_of, nothing_found, opening_of}
use Rattle.salt_storage.specs.Answers.{open_disk_err_of}
use Rattle.salt_storage.specs.Writing.{OfOpening}
use Rattle.salt_storage.specs.OpenErr.TheVariants as storage
use Rattle.salt_storage.specs.OpenErr.{OpenErr}
use Rattle.salt_place.specs.Placement.{IsParts}
use Rattle.salt_place.specs.declared.placement.Shape.{Shape}
use Rattle.std.proofs.Common.{IsTrue, List, None, Ok, Option, Some, ap, arith, inl, inr, refl, subst, sym, ℕ, ◌*◌, ◌+◌, ◌<◌, ◌≡◌, ◌⊎◌, ◌∙◌}
use Rattle.std.specs.Prelude.{Err, IfErr, Result}

-- ANSWERS

pub refused_as : (shape : Shape) (bytes : ℕ → List ℕ) (e : OpenErr) → OpeningFails shape bytes e → RefusedAs shape bytes e
refused_as shape bytes (NotSalt dev) h = h
refused_as shape bytes (OtherShape kept asked) h = h
refused_as shape bytes (NumbersSpent boot numbers) h = h
refused_as shape bytes Failed h = tt
refused_as shape bytes Stopped h = tt
refused_as shape bytes (Full dev) h = tt
refused_as shape bytes Memory h = tt

-- a full device
pub full_is : (P : ℕ → Type 0) (e : OpenErr) (dev : ℕ) → e ≡ storage.Full dev → FullWhere P (open_disk_err_of e) → P dev
full_is P (NotSalt k) dev is h = absurd (cc is)
full_is P (OtherShape kept asked) dev is h = absurd (cc is)
full_is P (NumbersSpent boot numbers) dev is h = absurd (cc is)
full_is P Failed dev is h = absurd (cc is)
full_is P Stopped dev is h = absurd (cc is)
full_is P (Full k) dev is h = let same : k ≡ dev = cc is in subst P same h
full_is P Memory dev is h = absurd (cc is)

-- where a device is full: as a first opening tells it, or by the pages that a partition may take
pub opening_fills : (d e : View) (shape : Shape) (err : OpenErr) (dev : ℕ) → SameShape d e → err ≡ storage.Full dev → (IsTrue d.told → FullWhere (OpeningPassesLimit d e shape) (open_disk_err_of err)) → FillsIn e shape OfOpening dev
opening_fills d e shape err dev same is h told = by (full_is (OpeningPassesLimit d e shape) err dev is (h (sym same.told ∙ told)))
  where
    by : OpeningPassesLimit d e shape dev → FillsDevice e shape OfOpening dev
    by (inl passes) = inl passes
    by (inr u) = inr (inl (record { p = u.passes.p; low = u.passes.low; is = u.passes.device }))

-- a stop, which only a write meets
pub stopped_writes : (shape : Shape) (bytes : ℕ → List ℕ) (e : OpenErr) → e ≡ storage.Stopped → OpeningFails shape bytes e → MayWrite shape bytes
stopped_writes shape bytes (NotSalt k) is h = absurd (cc is)
stopped_writes shape bytes (OtherShape kept asked) is h = absurd (cc is)
stopped_writes shape bytes (NumbersSpent boot numbers) is h = absurd (cc is)
stopped_writes shape bytes Failed is h = absurd (cc is)
stopped_writes shape bytes Stopped is h = h
stopped_writes shape bytes (Full k) is h = absurd (cc is)
stopped_writes shape bytes Memory is h = absurd (cc is)

-- and so a full device
pub full_writes : (shape : Shape) (bytes : ℕ → List ℕ) (e : OpenErr) (dev : ℕ) → e ≡ storage.Full dev → OpeningFails shape bytes e → MayWrite shape bytes
full_writes shape bytes (NotSalt k) dev is h = absurd (cc is)
full_writes shape bytes (OtherShape kept asked) dev is h = absurd (cc is)
full_writes shape bytes (NumbersSpent boot numbers) dev is h = absurd (cc is)
full_writes shape bytes Failed dev is h = absurd (cc is)
full_writes shape bytes Stopped dev is h = absurd (cc is)
full_writes shape bytes (Full k) dev is h = h
full_writes shape bytes Memory dev is h = absurd (cc is)

-- want of memory behind an opening leaves what it left
pub keeps_memory : (touched : ℕ → Type 0) (d e : View) → KeepsBut touched d e None → KeepsBut touched d e (Some disk.Memory)
keeps_memory touched d e k = record { shape = k.shape; kept = k.kept; images = k.images }

pub leaves_memory : (d e : View) (shape : Shape) → LeavesStanding d e shape None → LeavesStanding d e shape (Some disk.Memory)
leaves_memory d e shape (inl k) = inl (keeps_memory (λ _. ⊥) d e k)
leaves_memory d e shape (inr s) = inr s

pub new_stands : (shape : Shape) (image : ℕ → List ℕ) → stands_on reading image shape ≡ Ok (nothing_found shape) → StandsForSomething shape image
new_stands shape image is = (kept_in (nothing_found shape), record { found = nothing_found shape; is = is; has_shape = refl; keeps = refl })

-- THE LOG that is peeked at

pub peeked_refused : (shape found : Shape) (bytes : ℕ → List ℕ) (kept : log.Kept) (p : IsPeeked found kept (coordinator_pair (logs_of bytes))) (e : OpenErr)
    → (e ≡ storage.Memory) ⊎ ((e ≡ storage.NotSalt kept.device) × ((l : CoordinatorLog) → IsKept kept l → coordinator_of reading l ≡ None)) → RefusedAs shape bytes e
peeked_refused shape found bytes kept p e (inl memory) = subst (RefusedAs shape bytes) (sym memory) tt
peeked_refused shape found bytes kept p e (inr unread) =
    subst (RefusedAs shape bytes) (sym unread.0) (stands_for_nothing bytes shape p.which p.log p.counts (unread.1 p.log p.keeps) ∙ ap opening.NotSalt (sym p.device))

pub map_err : {A E : Type 0} (r : Result A E) (P Q : E → Type 0) → ((e : E) → P e → Q e) → IfErr r P → IfErr r Q
map_err (Ok x) P Q f h = tt
map_err (Err e) P Q f h = f e h

-- DEVICES

-- bytes that are the same on each device there is say the same
pub alike_below : (shape : Shape) (count : ℕ) (bytes image : ℕ → List ℕ) → IsParts shape.parts → ((p : ℕ) → p < shape.parts → pages_device p < count) → ((dev : ℕ) → dev < count → image dev ≡ bytes dev) → AreAlike shape bytes image
alike_below shape count bytes image parts room same =
    let some = room 0 (omega (arith, parts.0)) in
    record {
      first = same 0 (omega (arith, some));
      second = same 1 (omega (arith, some));
      part_a = λ p low. let k = room p low in same (2 + 3 * p) (omega (arith, k));
      part_b = λ p low. let k = room p low in same (2 + 3 * p + 1) (omega (arith, k));
      pages = λ p low. same (4 + 3 * p) (room p low);
    }

-- where nothing is pending, each image that is left is what a read gives
alike : (d e : View) (shape : Shape) → IsParts shape.parts → HasRoom d shape.parts → e.count ≡ d.count → ((dev : ℕ) → Shrinks d e dev) → (image : ℕ → List ℕ) → IsImage e image → AreAlike shape d.bytes image
alike d e shape parts room count there image left =
    alike_below shape d.count d.bytes image parts room.known (λ dev low. room.settled dev low (image dev) (there dev (image dev) (left dev (omega (arith, low, count)))))

module _ (d : View) (shape : Shape) (parts : IsParts shape.parts) (room : HasRoom d shape.parts) where
  -- behind a call that writes nothing
  pub like_unwritten : (b : View) (answer : Option DiskErr) → KeepsAll d b answer → (image : ℕ → List ℕ) → IsImage b image → IsLike shape d.bytes image
  like_unwritten b answer keeps image left = inl (alike d b shape parts room keeps.shape.count (λ dev. keeps.images dev (λ none. none)) image left)

  -- behind an opening of the store
  module _ (b e : View) (answer : Option DiskErr) (first : KeepsAll d b None) (leaves : ¬ (coordinator_pair (logs_of b.bytes) ≡ BothBlank) → LeavesStanding b e shape answer)
      (images : coordinator_pair (logs_of b.bytes) ≡ BothBlank → (image : ℕ → List ℕ) → IsImage e image → stands_on reading image shape ≡ Ok (nothing_found shape)) where
    same_pair : coordinator_pair (logs_of b.bytes) ≡ coordinator_pair (logs_of d.bytes)
    same_pair = ap (λ (bytes : ℕ → List ℕ). coordinator_pair (logs_of bytes)) (same_bytes d b first)

    -- as of the devices before the log was peeked at
    pub leaves_first : ¬ (coordinator_pair (logs_of d.bytes) ≡ BothBlank) → LeavesStanding d e shape answer
    leaves_first some = leaves_at shape d b e answer first (leaves (λ blank. some (sym same_pair ∙ blank)))

    pub like_opened : (image : ℕ → List ℕ) → IsImage e image → IsLike shape d.bytes image
    like_opened image left = by (coordinator_pair (logs_of d.bytes)) refl
      where
        written : LeavesStanding d e shape answer → IsLike shape d.bytes image
        written (inl keeps) = like_unwritten e answer keeps image left
        written (inr s) = inr (inr (record { found = s.found; opens = s.opens; format = s.found.format; stands = s.images shape image left }))

        by : (pair : Pair CoordinatorLog) → coordinator_pair (logs_of d.bytes) ≡ pair → IsLike shape d.bytes image
        by BothBlank is = inr (inl (record { blank = is; new = images (same_pair ∙ is) image left }))
        by (Faulty which) is = written (leaves_first (λ blank. let both : Faulty which ≡ BothBlank = sym is ∙ blank in absurd (cc both)))
        by (Counts which log) is = written (leaves_first (λ blank. let both : Counts which log ≡ BothBlank = sym is ∙ blank in absurd (cc both)))

    -- so each image stands for something, where the opening may have written
    pub something_left : MayWrite shape b.bytes → (image : ℕ → List ℕ) → IsImage e image → StandsForSomething shape image
    something_left (inl blank) image left = new_stands shape image (images blank image left)
    something_left (inr stands) image left =
        let opens : opening_of reading d.bytes shape ≡ opening.Stands stands.0 = ap (λ (bytes : ℕ → List ℕ). opening_of reading bytes shape) (sym (same_bytes d b first)) ∙ stands.1 in
        let was : StandsFor shape d.bytes (kept_in stands.0) = record {
          found = stands.0;
          is = opened_stands d.bytes shape stands.0 opens;
          has_shape = opened_shape d.bytes shape stands.0 opens;
          keeps = refl;
        } in
        (kept_in stands.0, like_stands shape d.bytes image (like_opened image left) (kept_in stands.0) was)
