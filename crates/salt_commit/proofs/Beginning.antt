-- A store is begun: each image stands for a new database, and so does the store.
use Rattle.salt_bytes.specs.Generations.{BothBlank, Counts, IsRead, LogA, content_of, pair_of, read_or_outside}
use Rattle.salt_bytes.specs.Log.{entries_in}
use Rattle.salt_commit.proofs.Opening.{same_shape_is}
use Rattle.salt_commit.proofs.Standing.{part_at}
use Rattle.salt_commit.specs.Openings.{OpensStore}
use Rattle.salt_paged.proofs.Framed.{logs_settled, part_stands, partition_kept}
use Rattle.salt_paged.specs.Partitions.{ArePartitions, IsPartition}
use Rattle.salt_parts.proofs.Lists.{if_some, make_some}
use Rattle.salt_stands.specs.LogDevices.{IsCoordinatorLog, IsPartLog, IsStoreLog}
use Rattle.salt_commit.specs.Stores.{IsSound, IsStoreDevice, decided_by, reading}
use Rattle.salt_commit.specs.declared.store.Store.{Store}
use Rattle.salt_decisions.proofs.Begun.{blank_a, blank_b, both_made_blank, first_log}
use Rattle.salt_gatelog.specs.Answers.{open_disk_err_of, open_disk_err, open_err_of}
use Rattle.salt_decisions.specs.Opened.{IsBlankImage, IsFirstImage, IsOpened, IsStood, begun, first_payload}
use Rattle.salt_gatelog.specs.declared.unopened.OpenErr.{OpenErr}
use Rattle.salt_decisions.specs.declared.kept.Kept.{Kept}
use Rattle.salt_disk.proofs.CallAfterCall.{keeps_on, keeps_wider}
use Rattle.salt_disk.specs.Disks.{EachImage, IsImage, IsSettled, IsUnchanged, KeepsBut, View}
use Rattle.salt_disk.specs.declared.disks.DiskErr.TheVariants.{Failed, Full, Memory, Stopped}
use Rattle.salt_disk.specs.declared.disks.DiskErr.{DiskErr}
use Rattle.salt_model.specs.Kept.{Definition}
use Rattle.salt_partition.proofs.Lasts.{no_last}
use Rattle.salt_paged.specs.declared.partition.Partition.{Partition}
use Rattle.salt_stands.proofs.Booleans.{left}
use Rattle.salt_stands.proofs.Commits.{part_same}
use Rattle.salt_stands.proofs.FirstOpening.{blank_stands, made_found}
use Rattle.salt_stands.proofs.Pairs.{pair_same}
use Rattle.salt_stands.proofs.Prepared.{sound_log}
use Rattle.salt_stands.proofs.Stores.{stood_stands}
use Rattle.salt_stands.specs.Commits.{PartSame, Stood, found_of}
use Rattle.salt_stands.specs.Coordinator.{Coordinator, coordinator_pair, judge_coordinator}
use Rattle.salt_stands.specs.CoordinatorLog.{CoordinatorLog, coordinator_generation, coordinator_in}
use Rattle.salt_stands.specs.FirstOpening.{first_coordinator, first_view}
use Rattle.salt_stands.specs.Partition.{pages_device, part_device}
use Rattle.salt_stands.specs.Pieces.{PartStands}
use Rattle.salt_stands.specs.Reading.{Reading}
use Rattle.salt_stands.specs.Stands.{Stands, is_same_kind, is_same_shape, stands_on, logs_of, nothing_found, of_coordinator}
use Rattle.salt_place.specs.Placement.{IsParts}
use Rattle.salt_values.specs.declared.id.Id.{Id}
use Rattle.salt_place.specs.declared.placement.Shape.{Shape}
use Rattle.std.proofs.Common.{Err, IsTrue, List, None, Ok, Option, Result, Some, [], ap, arith, inl, inr, length, refl, subst, sym, true, ℕ, ◌+◌, ◌<◌, ◌≡◌, ◌⊎◌, ◌∙◌, ◌∷◌}
use Rattle.std.proofs.lemmas.Bool.Decides.{Decides-eqb}
use Rattle.std.specs.Prelude.{Bool, false, nat_lt, slice_get, ◌==◌, ◌||◌}

same_err : (e : DiskErr) → open_disk_err_of (open_err_of e) ≡ Some e
same_err Failed = refl
same_err Stopped = refl
same_err (Full dev) = refl
same_err Memory = refl

pub open_answer : {T : Type 0} (result : Result T OpenErr) (s : OpenErr) (e : DiskErr) → result ≡ Err s → s ≡ open_err_of e → open_disk_err result ≡ Some e
open_answer result s e is from = ap open_disk_err is ∙ ap open_disk_err_of from ∙ same_err e

no_part_log : (n dev : ℕ) → dev < 2 → IsPartLog n dev → ⊥
no_part_log n dev low t = by t.is
  where
    by : (dev ≡ part_device t.p) ⊎ (dev ≡ part_device t.p + 1) → ⊥
    by (inl e) = omega (arith, low, e)
    by (inr e) = omega (arith, low, e)

or_true : (b : Bool) → (b || true) ≡ true
or_true true = refl
or_true false = refl

-- the coordinator's devices are blank yet
pub still_blank_image : (d e : View) (n : ℕ) (answer : Option DiskErr) → KeepsBut (IsPartLog n) d e answer → 1 < d.count → IsSettled d 0 → IsSettled d 1
    → coordinator_pair (logs_of d.bytes) ≡ BothBlank → (image : ℕ → List ℕ) → IsImage e image → coordinator_pair (logs_of image) ≡ BothBlank
still_blank_image d e n answer keeps known first second blank image left =
    both_made_blank (logs_of image)
    (ap entries_in (first (image 0) (keeps.images 0 (no_part_log n 0 (omega arith)) (image 0) (left 0 (omega (arith, known, keeps.shape.count))))) ∙ blank_a d.bytes blank)
    (ap entries_in (second (image 1) (keeps.images 1 (no_part_log n 1 (omega arith)) (image 1) (left 1 (omega (arith, known, keeps.shape.count))))) ∙ blank_b d.bytes blank)

pub blank_image : {D : Type 0} (r : Reading D) (asked : Shape) (d e : View) (n : ℕ) (answer : Option DiskErr) → KeepsBut (IsPartLog n) d e answer → 1 < d.count → IsSettled d 0 → IsSettled d 1
    → coordinator_pair (logs_of d.bytes) ≡ BothBlank → (image : ℕ → List ℕ) → IsImage e image → stands_on r image asked ≡ Ok (nothing_found asked)
blank_image r asked d e n answer keeps known first second blank image left = blank_stands r (logs_of image) image asked (record {
  a = ap entries_in (first (image 0) (keeps.images 0 (no_part_log n 0 (omega arith)) (image 0) (left 0 (omega (arith, known, keeps.shape.count))))) ∙ blank_a d.bytes blank;
  b = ap entries_in (second (image 1) (keeps.images 1 (no_part_log n 1 (omega arith)) (image 1) (left 1 (omega (arith, known, keeps.shape.count))))) ∙ blank_b d.bytes blank;
})

-- and are so where only partitions' logs are written
pub still_blank : (d b : View) (n : ℕ) → ((dev : ℕ) → ¬ IsPartLog n dev → IsUnchanged d b dev) → coordinator_pair (logs_of d.bytes) ≡ BothBlank → coordinator_pair (logs_of b.bytes) ≡ BothBlank
still_blank d b n kept blank = pair_same coordinator_generation coordinator_in 0 (logs_of d.bytes) (logs_of b.bytes)
    (ap entries_in (kept 0 (no_part_log n 0 (omega arith))).bytes) (ap entries_in (kept 1 (no_part_log n 1 (omega arith))).bytes) ∙ blank

-- the coordinator's devices are blank, or log A has its header
module _ {D : Type 0} (r : Reading D) (asked : Shape) (parts : IsParts asked.parts) (d e : View) (answer : Option DiskErr) (keeps : KeepsBut IsCoordinatorLog d e answer) (ps : List Partition) (size : length ps ≡ asked.parts)
    (are : ArePartitions d ps (first_view 2) (λ p. [])) (told : IsTrue d.told) (known : 1 < d.count) where
  -- the partitions stand as they were made
  part_left : (image : ℕ → List ℕ) → IsImage e image → (p : ℕ) → p < asked.parts → PartStands r (first_coordinator asked 3) (logs_of image) image p (first_view 2 p)
  part_left image left p low =
      let q = one in
      let settled = logs_settled d q.0 p (first_view 2 p) [] q.1 in
      let was = part_stands r (first_coordinator asked 3) d q.0 p (first_view 2 p) [] q.1 told (sound_log r (first_coordinator asked 3) p (first_view 2 p).log refl refl refl) refl in
      let same : PartSame (logs_of d.bytes) (logs_of image) p =
      record { a = ap entries_in (there (part_device p) (omega arith) (omega (arith, q.1.known)) settled.0); b = ap entries_in (there (part_device p + 1) (omega arith) (omega (arith, q.1.known)) settled.1) } in
      let is = part_same r (first_coordinator asked 3) (logs_of d.bytes) (logs_of image) d.bytes p (first_view 2 p) was same in
      record { counts = is.counts; sound = is.sound; rows = refl }
    where
      one : (q : Partition) × IsPartition d q p (first_view 2 p) []
      one = part_at d ps (first_view 2) (λ p. []) are p (omega (arith, low, size))

      no_coordinator : (dev : ℕ) → 1 < dev → IsCoordinatorLog dev → ⊥
      no_coordinator dev h (inl is) = omega (arith, h, is)
      no_coordinator dev h (inr is) = omega (arith, h, is)

      there : (dev : ℕ) → 1 < dev → dev < d.count → IsSettled d dev → image dev ≡ d.bytes dev
      there dev h low' settled = settled (image dev) (keeps.images dev (no_coordinator dev h) (image dev) (left dev (omega (arith, low', keeps.shape.count))))

  now : IsTrue e.told
  now = keeps.shape.told ∙ told

  pub begun_image : EachImage e 0 (IsFirstImage asked) → EachImage e 1 IsBlankImage → (image : ℕ → List ℕ) → IsImage e image → stands_on r image asked ≡ Ok (nothing_found asked)
  begun_image first second image left = by (first now (image 0) (left 0 (omega (arith, known, keeps.shape.count))))
    where
      b : logs_of image 1 ≡ Some []
      b = second now (image 1) (left 1 (omega (arith, known, keeps.shape.count)))

      stands : logs_of image 0 ≡ Some (first_payload asked ∷ []) → Stood r (logs_of image) image LogA (first_coordinator asked 3) (first_view 2)
      stands a = record {
        coordinator = record {
          counts = ap (λ o. pair_of coordinator_generation (content_of coordinator_in o) (content_of coordinator_in (logs_of image 1))) a
              ∙ ap (λ x. pair_of coordinator_generation (read_or_outside x) (content_of coordinator_in (logs_of image 1))) (first_log asked (first_payload asked) parts refl)
              ∙ ap (λ o. pair_of coordinator_generation (IsRead (begun asked)) (content_of coordinator_in o)) b;
          is = record { defined = refl; moves = refl; rise = refl; named = refl; decided = refl };
        };
        part = part_left image left;
      }

      by : IsFirstImage asked (image 0) → stands_on r image asked ≡ Ok (nothing_found asked)
      by (inl a) = blank_stands r (logs_of image) image asked (record { a = a; b = b })
      by (inr a) = stood_stands r (logs_of image) image asked LogA (first_coordinator asked 3) (first_view 2) (stands a) ∙ ap Ok (made_found r asked 2)

-- where nothing was prepared, it does not matter which units are applied
applied_any : (d : View) (x : Partition) (p q : ℕ) (applied us : List Id) → IsPartition d x p (first_view 2 q) applied → IsPartition d x p (first_view 2 q) us
applied_any d x p q applied us is = record {
  part = is.part;
  header = is.header;
  which = is.which;
  entries = is.entries;
  is_log = is.is_log;
  some = is.some;
  device = is.device;
  known = is.known;
  other = is.other;
  put = is.put;
  last = no_last us x.last;
  rows = is.rows;
  keyed = is.keyed;
  told = is.told;
}

same_parts : (s t : Shape) → is_same_shape s t ≡ true → s.parts ≡ t.parts
same_parts s t e = (Decides-eqb s.parts t.parts).0 (left (s.parts == t.parts) (is_same_kind s.kind t.kind) e)

-- AFTER OK
pub begins : (asked : Shape) (d b e : View) (x : Store) (kept : Kept) → KeepsBut (IsPartLog asked.parts) d b None → KeepsBut IsCoordinatorLog b e None → (IsTrue d.told → coordinator_pair (logs_of d.bytes) ≡ BothBlank)
    → length x.parts ≡ asked.parts → ArePartitions b x.parts (first_view 2) (λ p. []) → IsOpened b e asked x.decisions kept → OpensStore d e asked x kept
begins asked d b e x kept first second blank size are opened = record {
  which = opened.which;
  c = own;
  v = first_view 2;
  is = record {
    decisions = opened.is;
    size = size ∙ sym (same_parts opened.log.header.shape asked opened.has_shape);
    parts = record { each = λ p. make_some (slice_get x.parts p) (λ q. IsPartition e q p (first_view 2 p) (decided_by own p)) (each p) };
    sound = λ told. subst (λ c. IsSound reading c (first_view 2)) (sym (is_first (before told))) (record {
      coordinator = record { defined = refl; moves = refl; rise = refl; named = refl; decided = refl };
      part = λ p low. sound_log reading (first_coordinator asked 3) p (first_view 2 p).log refl refl refl;
      rows = λ p low. refl;
    });
  };
  keeps = opened.keeps;
  has_shape = same_shape_is opened.log.header.shape asked opened.has_shape;
  unspent = opened.unspent;
  under = λ p low. or_true (nat_lt opened.log.header.format 2);
  finds = λ told. ap (λ pr. of_coordinator reading d.bytes asked (judge_coordinator reading pr)) (blank told) ∙ ap Stands (sym (ap (λ c. found_of c (first_view 2)) (is_first told) ∙ made_found reading asked 2));
}
  where
    own : Coordinator Definition
    own = record { log = opened.log; definitions = []; conts = [] }

    before : IsTrue e.told → IsTrue d.told
    before told = sym first.shape.told ∙ (sym second.shape.told ∙ told)

    begun_log : IsTrue d.told → opened.log ≡ begun asked
    begun_log told = by (opened.stood (first.shape.told ∙ told))
      where
        by : IsStood (coordinator_pair (logs_of b.bytes)) asked opened.which opened.log → opened.log ≡ begun asked
        by (inl counts) = absurd (none (coordinator_pair (logs_of b.bytes)) (still_blank d b asked.parts first.kept (blank told)) counts)
          where
            none : (pr : Rattle.salt_bytes.specs.Generations.Pair CoordinatorLog) → pr ≡ BothBlank → pr ≡ Counts opened.which opened.log → ⊥
            none pr x y = cc
        by (inr made) = made.1.1

    is_first : IsTrue d.told → own ≡ first_coordinator asked 3
    is_first told = ap (λ log. record { log = log; definitions = []; conts = [] }) (begun_log told)

    each : (p : ℕ) (q : Partition) → slice_get x.parts p ≡ Some q → IsPartition e q p (first_view 2 p) (decided_by own p)
    each p q is =
        let here = if_some (slice_get x.parts p) q (λ z. IsPartition b z p (first_view 2 p) []) is (are.each p) in
        applied_any e q p p [] (decided_by own p)
        (partition_kept b e q p (first_view 2 p) [] second.shape (second.kept (part_device p) (no_coordinator (part_device p) (omega arith))) (second.kept (part_device p + 1) (no_coordinator (part_device p + 1) (omega arith))) (second.kept (pages_device p) (no_coordinator (pages_device p) (omega arith))) here)
      where
        no_coordinator : (dev : ℕ) → 1 < dev → IsCoordinatorLog dev → ⊥
        no_coordinator dev h (inl e') = omega (arith, h, e')
        no_coordinator dev h (inr e') = omega (arith, h, e')

-- WHAT IS TOUCHED
pub wider_parts : (n : ℕ) (d e : View) (answer : Option DiskErr) → KeepsBut (IsPartLog n) d e answer → KeepsBut (IsStoreLog n) d e answer
wider_parts n d e answer keeps = keeps_wider (IsPartLog n) (IsStoreLog n) d e answer (λ dev t. inr t) keeps

pub wider_opened : (n : ℕ) (d b e : View) (answer : Option DiskErr) → KeepsBut (IsPartLog n) d b None → KeepsBut IsCoordinatorLog b e answer → KeepsBut (IsStoreLog n) d e answer
wider_opened n d b e answer first second = keeps_on (IsStoreLog n) d b e answer (wider_parts n d b None first) (keeps_wider IsCoordinatorLog (IsStoreLog n) b e answer (λ dev t. inl t) second)

-- of the devices of a store
pub wider_begun : (n : ℕ) (d e : View) (answer : Option DiskErr) → KeepsBut (IsStoreLog n) d e answer → KeepsBut (IsStoreDevice n) d e answer
wider_begun n d e answer keeps = keeps_wider (IsStoreLog n) (IsStoreDevice n) d e answer (λ dev t. inl t) keeps
