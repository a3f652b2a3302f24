-- The coordinator's log begins a new generation, where no partition has an entry.
use Rattle.law_generations.proofs.AsIf.{as_if_in_on, as_if_in_own, snapshot_as_if_in}
use Rattle.law_generations.specs.AsIf.{IsAsIfIn, in_format}
use Rattle.salt_bytes.specs.Coordinator.{spell_header}
use Rattle.salt_bytes.specs.Generations.{Counts, LogA, LogB, WhichLog}
use Rattle.salt_bytes.specs.Log.{entries_in}
use Rattle.salt_bytes.specs.Partition.{Prepared}
use Rattle.salt_checkpoint.proofs.Snapshots.{snapped_stands, snapshot_ready, unsnapped_stands}
use Rattle.salt_checkpoint.specs.Checkpoints.{IsReady, StandsAlways}
use Rattle.salt_decisions.proofs.Contents.{log_bytes}
use Rattle.salt_decisions.proofs.Framed.{decisions_kept}
use Rattle.salt_decisions.proofs.Snapshots.{payload_is}
use Rattle.salt_decisions.specs.Decisions as decisions
use Rattle.salt_decisions.specs.Decisions.{BeginsWith, IsDecisions, IsSnapshotImage, conts_in, snapshot_payload, snapshotted}
use Rattle.salt_decisions.specs.declared.decisions.Decisions.{Decisions}
use Rattle.salt_disk.proofs.CallAfterCall.{keeps_on, keeps_wider}
use Rattle.salt_disk.specs.Disks.{EachImage, FullOnly, IsSettled, KeepsBut, KeepsOthers, SameShape, View}
use Rattle.salt_disk.specs.declared.disks.DiskErr.TheVariants.{Failed, Full, Memory, Stopped}
use Rattle.salt_disk.specs.declared.disks.DiskErr.{DiskErr}
use Rattle.salt_model.specs.Kept.{Definition}
use Rattle.salt_model.specs.Tables.{Tables, no_rows, with_changes}
use Rattle.salt_paged.proofs.Framed.{partition_kept}
use Rattle.salt_paged.specs.Partitions.{IsPartition}
use Rattle.salt_paged.specs.declared.partition.Partition.{Partition}
use Rattle.salt_room.proofs.Apart.{no_part}
use Rattle.salt_room.proofs.Lists.{if_each}
use Rattle.salt_room.specs.Making.{CountsAsBefore, IsFullAtRenewal, SnapshotPassesLimit}
use Rattle.salt_room.specs.Migrations.{GoesOnNewest, MigrationPassesLimit, StandsInEither}
use Rattle.salt_room.specs.Renewals.{FullAtRenewal, IsOfStore, IsRenewed, IsStoreOf, renewed}
use Rattle.salt_room.specs.Rooms.{ArePartsOf, EachStands, FullAtOne, GoOnEmpty, HaveSameTables, IsOfPart, StandsAs}
use Rattle.salt_rows.specs.Stores.{IsRowStore}
use Rattle.salt_stands.proofs.Generations.{snapshot_tables}
use Rattle.salt_stands.specs.Commits.{found_of, partition_count}
use Rattle.salt_stands.specs.Coordinator.{Coordinator, coordinator_pair, decided_for, device_of}
use Rattle.salt_stands.specs.CoordinatorLog.{CoordinatorLog}
use Rattle.salt_stands.specs.OpenConts.{moved}
use Rattle.salt_stands.specs.Partition.{decided_changes, is_format_under, pages_device, part_device}
use Rattle.salt_stands.specs.Pieces.{PartView, next_header, other_log, with_snapshot}
use Rattle.salt_stands.specs.Reading.{Reading}
use Rattle.salt_stands.specs.Stands.{Found, logs_of, stands_on}
use Rattle.salt_values.specs.declared.cont.Cont.{Cont}
use Rattle.salt_values.specs.declared.id.Id.{Id}
use Rattle.std.proofs.Common.{Err, IsTrue, List, None, Ok, OnOk, Option, Result, Some, [], ap, arith, inl, inr, length, subst, sym, true, ℕ, ◌*◌, ◌+◌, ◌++◌, ◌<◌, ◌≡◌, ◌≢◌, ◌⊎◌, ◌∙◌, ◌∷◌}
use Rattle.std.proofs.lemmas.Option.{slice_get_within}
use Rattle.std.specs.Prelude.{IfSome, slice_get}
use Rattle.std.specs.Result.{result_err}

low : (which : WhichLog) → device_of 0 which < 2
low LogA = omega arith
low LogB = omega arith

-- the devices of partitions are none of the coordinator's
part_apart : (which : WhichLog) (p k : ℕ) → 2 + 3 * p + k ≢ device_of 0 which
part_apart LogA p k e = omega (arith, e)
part_apart LogB p k e = omega (arith, e)

own_apart : (which : WhichLog) → device_of 0 which ≢ device_of 0 (other_log which)
own_apart LogA e = omega (arith, e)
own_apart LogB e = omega (arith, e)

-- each of the partitions stands
pub each_stands : (r : Reading Definition) (d : View) (parts : List Partition) (which : WhichLog) (c : Coordinator Definition) (v : ℕ → PartView) → ArePartsOf r d parts which c v → EachStands d parts
each_stands r d parts which c v are = record {
  each = λ p. if_each (slice_get parts p) (λ x. IsPartition d x p (v p) (decided_for p c.log.told.decided)) (StandsAs d p) (λ x at is. record { v = v p; applied = decided_for p c.log.told.decided; is = is }) (are.each p);
}

-- the coordinator's log is not touched while they are checkpointed
pub decisions_on : (n : ℕ) (d e : View) (x : Decisions) (which : WhichLog) (c : Coordinator Definition) → KeepsBut (IsOfPart n) d e None → IsDecisions d x which c.log → IsDecisions e x which c.log
decisions_on n d e x which c keeps is = decisions_kept d e x which c.log keeps.shape (keeps.kept 0 (no_part n 0 (omega arith))) (keeps.kept 1 (no_part n 1 (omega arith))) is

-- nor where one of them is too long
pub decisions_full : (n : ℕ) (d e : View) (dev : ℕ) (x : Decisions) (which : WhichLog) (c : Coordinator Definition) → KeepsBut (IsOfPart n) d e (Some (Full dev)) → IsDecisions d x which c.log → IsDecisions e x which c.log
decisions_full n d e dev x which c keeps is = decisions_kept d e x which c.log keeps.shape (keeps.kept 0 (no_part n 0 (omega arith))) (keeps.kept 1 (no_part n 1 (omega arith))) is

-- where the disks tell, the continuations that are open are the coordinator's
pub conts_open : (r : Reading Definition) (d : View) (x : Decisions) (parts : List Partition) (which : WhichLog) (c : Coordinator Definition) (v : ℕ → PartView) → IsStoreOf r d x parts which c v → IsTrue d.told → c.conts ≡ conts_in x
conts_open r d x parts which c v is told = let co = (is.are.ready told).stood.coordinator.is in sym (is.decisions.holds.conts co.rise c.conts co.moves)

-- without entries it matters not which units are said to be applied
no_last : (before : List Prepared) (x : Prepared) → [] ≡ before ++ x ∷ [] → ⊥
no_last [] x e = cc
no_last (y ∷ ys) x e = cc

whatever_applied : (d : View) (x : Partition) (p : ℕ) (v : PartView) (applied others : List Id) → v.log.prepared ≡ [] → IsPartition d x p v applied → IsPartition d x p v others
whatever_applied d x p v applied others none is = record {
  part = is.part;
  header = is.header;
  which = is.which;
  entries = is.entries;
  is_log = is.is_log;
  some = is.some;
  device = is.device;
  known = is.known;
  other = is.other;
  put = is.put;
  last = λ before y at. absurd (no_last before y (sym none ∙ at));
  rows = subst (λ (t : Tables). IsRowStore d x.rows (pages_device p) v.log.header.sides t)
      (ap (λ (done : List Prepared). with_changes (v.rows ++ decided_changes applied done) no_rows) none ∙ sym (ap (λ (done : List Prepared). with_changes (v.rows ++ decided_changes others done) no_rows) none))
      is.rows;
  keyed = is.keyed;
  told = is.told;
}

-- A SNAPSHOT behind checkpoints of all partitions
module _ (r : Reading Definition) (d : View) (x : Decisions) (parts : List Partition) (which : WhichLog) (c : Coordinator Definition) (v : ℕ → PartView)
    (on : GoOnEmpty (partition_count c) r d parts which c v) (same : IsTrue d.told → c.conts ≡ conts_in x) where
  abbrev dev : ℕ
  dev = device_of 0 (other_log which)

  abbrev w : ℕ → PartView
  w = on.on.view

  fits : IsTrue d.told → (p : ℕ) → p < partition_count c → is_format_under 3 (w p).log.header.format ≡ true
  fits told p below = ap (λ (k : ℕ). is_format_under 3 k) (on.format told p below)

  header_same : IsTrue d.told → decisions.next_header c.log (conts_in x) ≡ next_header c.log c.conts 3
  header_same told = ap (λ (cs : List Cont). decisions.next_header c.log cs) (sym (same told))

  -- whatever it answers, each image stands for what stood before, in the format that it had or in the newest
  pub snapshot_stands_in : (e : View) (answer : Option DiskErr) → KeepsOthers dev d e answer → EachImage e dev (IsSnapshotImage (d.bytes dev) (decisions.next_header c.log (conts_in x)) (snapshot_payload x)) → IsTrue d.told → StandsInEither r e c v
  snapshot_stands_in e answer others images told asked image left = by (images (others.shape.told ∙ told) (image dev) (left dev (omega (arith, ready.two, others.shape.count, low (other_log which)))))
    where
      ready : IsReady r d which c w
      ready = on.on.are.ready told

      at : (k : ℕ) → k < d.count → k ≢ dev → (d.image k (image k)) ⊎ (image k ≡ d.bytes k)
      at k below apart = inl (others.images k apart (image k) (left k (omega (arith, below, others.shape.count))))

      as_before : stands_on r image asked ≡ Ok (found_of c w) → stands_on r image asked ≡ Ok (found_of c v)
      as_before stands = stands ∙ ap (λ (f : Found Definition). Ok f) on.on.as_if.found

      in_newest : stands_on r image asked ≡ Ok (in_format 3 (found_of c w)) → stands_on r image asked ≡ Ok (in_format 3 (found_of c v))
      in_newest stands = stands ∙ ap (λ (f : Found Definition). Ok (in_format 3 f)) on.on.as_if.found

      by : IsSnapshotImage (d.bytes dev) (decisions.next_header c.log (conts_in x)) (snapshot_payload x) (image dev) → (stands_on r image asked ≡ Ok (found_of c v)) ⊎ (stands_on r image asked ≡ Ok (in_format 3 (found_of c v)))
      by (inl was) = inl (as_before (unsnapped_stands r d which c w ready image at (inr was) asked))
      by (inr (inl blank)) = inl (as_before (unsnapped_stands r d which c w ready image at (inl blank) asked))
      by (inr (inr begun)) = inr (in_newest (snapped_stands r d which c w ready image at (snapshot_payload x) 3 (begun.1 ∙ ap (λ h. Some h) (header_same told)) on.none (fits told) begun.0 asked))

  -- behind Ok the store goes on in it
  module _ (e : View) (y : Decisions) (others : KeepsOthers dev d e None) (is : IsDecisions e y (other_log which) (snapshotted c.log (conts_in x))) (begins : BeginsWith e dev (decisions.next_header c.log (conts_in x)) (snapshot_payload x)) where
    abbrev next : Coordinator Definition
    next = renewed c (conts_in x)

    settled : IsSettled e dev
    settled = subst (λ (k : ℕ). IsSettled e k) is.counting.device is.counting.is_log.settled

    ready_now : IsTrue e.told → IsReady r e (other_log which) next w
    ready_now told =
        let before : IsTrue d.told = sym others.shape.told ∙ told in
        subst (λ (cs : List Cont). IsReady r e (other_log which) (renewed c cs) w) (same before)
        (snapshot_ready r d e which c w (on.on.are.ready before) others.shape (λ k apart. others.images k apart) (λ k apart. (others.kept k apart).bytes) settled
        (snapshot_payload x) 3 (begins.reads ∙ ap (λ h. Some h) (header_same before)) on.none (fits before) (begins.entries told))

    each_now : (p : ℕ) → IfSome (slice_get parts p) (λ q. IsPartition e q p (w p) (decided_for p next.log.told.decided))
    each_now p = if_each (slice_get parts p) (λ q. IsPartition d q p (w p) (decided_for p c.log.told.decided)) (λ q. IsPartition e q p (w p) (decided_for p next.log.told.decided))
        (λ q found stood.
        let below : p < partition_count c = omega (arith, slice_get_within parts p q found, on.on.are.size) in
        whatever_applied e q p (w p) (decided_for p c.log.told.decided) (decided_for p next.log.told.decided) (on.none p below)
        (partition_kept d e q p (w p) (decided_for p c.log.told.decided) others.shape
        (others.kept (part_device p) (λ s. part_apart (other_log which) p 0 (omega (arith, s))))
        (others.kept (part_device p + 1) (λ s. part_apart (other_log which) p 1 s))
        (others.kept (pages_device p) (λ s. part_apart (other_log which) p 2 (omega (arith, s))))
        stood))
        (on.on.are.each p)

    -- which continuations the header has changes nothing of what is found
    as_if_now : IsAsIfIn 3 c v next w
    as_if_now =
        let a = as_if_in_on 3 c c (with_snapshot c 3) v w w on.on.as_if (snapshot_as_if_in r c w 3 on.none) in
        record { found = a.found; parts = a.parts; names = λ u new. let named = a.names u new in record { fresh = named.fresh; new = named.new } }

    same_now : HaveSameTables c v next w
    same_now = record { tables = λ p below. snapshot_tables r c p (w p) 3 (on.none p below) ∙ on.on.same.tables p below; nulls = on.on.same.nulls }

    store_now : IsStoreOf r e y parts (other_log which) next w
    store_now = record { decisions = is; are = record { size = on.on.are.size; each = each_now; ready = ready_now } }

    pub is_newest : GoesOnNewest r e y parts c v
    is_newest = record { which = other_log which; coordinator = next; views = w; as_if = as_if_now; nulls = on.nulls; is = store_now }

    -- where it had that format it is another generation
    pub is_renewed : c.log.header.format ≡ 3 → IsRenewed r e y parts (conts_in x) which c v
    is_renewed format = record { view = w; as_if = as_if_in_own 3 c next v w format as_if_now; same = same_now; is = store_now; none = on.none }

module _ (r : Reading Definition) (d : View) (x : Decisions) (parts : List Partition) (which : WhichLog) (c : Coordinator Definition) (v : ℕ → PartView)
    (on : GoOnEmpty (partition_count c) r d parts which c v) (same : IsTrue d.told → c.conts ≡ conts_in x) where
  pub newest_then : {T : Type 0} (answer : Result T DiskErr) (e : View) (y : Decisions) → KeepsOthers (device_of 0 (other_log which)) d e (result_err answer) → OnOk answer (IsDecisions e y (other_log which) (snapshotted c.log (conts_in x)))
      → OnOk answer (BeginsWith e (device_of 0 (other_log which)) (decisions.next_header c.log (conts_in x)) (snapshot_payload x)) → OnOk answer (GoesOnNewest r e y parts c v)
  newest_then (Ok t) e y others is begins = is_newest r d x parts which c v on same e y others is begins
  newest_then (Err k) e y others is begins = tt

  module _ (format : c.log.header.format ≡ 3) where
    pub snapshot_stands : (e : View) (answer : Option DiskErr) → KeepsOthers (device_of 0 (other_log which)) d e answer
        → EachImage e (device_of 0 (other_log which)) (IsSnapshotImage (d.bytes (device_of 0 (other_log which))) (decisions.next_header c.log (conts_in x)) (snapshot_payload x)) → IsTrue d.told → StandsAlways r e c v
    snapshot_stands e answer others images told asked image left = by (snapshot_stands_in r d x parts which c v on same e answer others images told asked image left)
      where
        by : (stands_on r image asked ≡ Ok (found_of c v)) ⊎ (stands_on r image asked ≡ Ok (in_format 3 (found_of c v))) → stands_on r image asked ≡ Ok (found_of c v)
        by (inl stands) = stands
        by (inr stands) = stands ∙ ap (λ (k : ℕ). Ok (in_format k (found_of c v))) (sym format)

    pub renewed_then : {T : Type 0} (answer : Result T DiskErr) (e : View) (y : Decisions) → KeepsOthers (device_of 0 (other_log which)) d e (result_err answer) → OnOk answer (IsDecisions e y (other_log which) (snapshotted c.log (conts_in x)))
        → OnOk answer (BeginsWith e (device_of 0 (other_log which)) (decisions.next_header c.log (conts_in x)) (snapshot_payload x)) → OnOk answer (IsRenewed r e y parts (conts_in x) which c v)
    renewed_then (Ok t) e y others is begins = is_renewed r d x parts which c v on same e y others is begins format
    renewed_then (Err k) e y others is begins = tt

pub ok_always : {T E P : Type 0} (r : Result T E) → P → OnOk r P
ok_always (Ok x) h = h
ok_always (Err e) h = tt

-- WHAT IT TOUCHES
pub of_store : (n : ℕ) (which : WhichLog) (dev : ℕ) → dev ≡ device_of 0 which → IsOfStore n dev
of_store n LogA dev same = inl (inl same)
of_store n LogB dev same = inl (inr same)

pub others_at_last : (n : ℕ) (d e f : View) (which : WhichLog) (answer : Option DiskErr) → KeepsBut (IsOfPart n) d e None → KeepsOthers (device_of 0 which) e f answer → KeepsBut (IsOfStore n) d f answer
others_at_last n d e f which answer first second =
    keeps_on (IsOfStore n) d e f answer (keeps_wider (IsOfPart n) (IsOfStore n) d e None (λ dev h. inr h) first) (keeps_wider (λ dev. dev ≡ device_of 0 which) (IsOfStore n) e f answer (of_store n which) second)

-- WHERE IT IS FULL
pub full_before : (d : View) (x : Decisions) (parts : List Partition) (which : WhichLog) (answer : Option DiskErr) → FullAtOne d parts answer → FullAtRenewal d x parts which answer
full_before d x parts which None full = tt
full_before d x parts which (Some Failed) full = tt
full_before d x parts which (Some Stopped) full = tt
full_before d x parts which (Some Memory) full = tt
full_before d x parts which (Some (Full dev)) full = inl full

pub full_at_last : (e f : View) (x : Decisions) (parts : List Partition) (which : WhichLog) (answer : Option DiskErr) → SameShape e f
    → FullOnly (device_of 0 (other_log which)) (e.limit (device_of 0 (other_log which))) (10 + length (snapshot_payload x)) answer → FullAtRenewal f x parts which answer
full_at_last e f x parts which None shape full = tt
full_at_last e f x parts which (Some Failed) shape full = tt
full_at_last e f x parts which (Some Stopped) shape full = tt
full_at_last e f x parts which (Some Memory) shape full = tt
full_at_last e f x parts which (Some (Full dev)) shape full =
    let end = 10 + length (snapshot_payload x) in
    inr (full.0, subst (λ (k : ℕ). k < end) (sym (shape.limit dev)) (subst (λ (k : ℕ). e.limit k < end) (sym full.0) full.1))

-- of the coordinator's logs, by devices f behind the call: the one that counts is as it was, and the other one has no room for its header
pub counts_now : (e : View) (x : Decisions) (which : WhichLog) (log : CoordinatorLog) → IsTrue e.told → IsDecisions e x which log → CountsAsBefore e x which log
counts_now e x which log told is = record {
  counts = is.counting.counts told;
  entries = is.counting.entries;
  reads = ap (λ (k : ℕ). entries_in (e.bytes k)) (sym is.counting.device) ∙ log_bytes e x.gate is.counting.entries told is.counting.is_log;
  count = sym is.counting.is_log.count;
}

module _ (e f : View) (x : Decisions) (which : WhichLog) (c : Coordinator Definition) (told : IsTrue e.told) (is : IsDecisions e x which c.log) (dev : ℕ) (others : KeepsOthers (device_of 0 (other_log which)) e f (Some (Full dev)))
    (full : FullOnly (device_of 0 (other_log which)) (e.limit (device_of 0 (other_log which))) (10 + length (snapshot_payload x)) (Some (Full dev))) (counts : coordinator_pair (logs_of f.bytes) ≡ Counts which c.log)
    (open_now : moved c.log.header.format (Some c.log.header.conts) c.log.told.decided ≡ Some (conts_in x)) where
  counts_behind : CountsAsBefore f x which c.log
  counts_behind =
      let was = counts_now e x which c.log told is in
      record { counts = counts; entries = was.entries; reads = ap entries_in (others.kept (device_of 0 which) (own_apart which)).bytes ∙ was.reads; count = was.count }

  pub snapshot_passes : SnapshotPassesLimit f x which c.log dev
  snapshot_passes = record {
    open_conts = open_now;
    device = full.0;
    over = subst (λ (k : ℕ). f.limit k < 10 + length (spell_header (decisions.next_header c.log (conts_in x)))) (sym full.0)
        (subst (λ (l : List ℕ). f.limit (device_of 0 (other_log which)) < 10 + length l) (payload_is e x which c.log is) (subst (λ (k : ℕ). k < 10 + length (snapshot_payload x)) (sym (others.shape.limit (device_of 0 (other_log which)))) full.1));
  }

  pub full_renewal : (parts : List Partition) → IsFullAtRenewal f x parts dev
  full_renewal parts = record { which = which; log = c.log; counting = counts_behind; passes = inl snapshot_passes }

  pub full_migration : (parts : List Partition) → c.log.header.format ≢ 3 → MigrationPassesLimit f x parts dev
  full_migration parts older = record { renewal = record { which = which; log = c.log; counting = counts_behind; passes = inl snapshot_passes }; older = older }
