use Rattle.salt_codec.specs.Entries.{header_of}
use Rattle.salt_bytes.specs.Partition.{PartitionHeader, partition_header_in}
use Rattle.salt_bytes.specs.Spellable.{Every}
use Rattle.salt_disk.specs.Disks.{IsSettled, KeepsBut, KeepsOthers}
use Rattle.salt_disk.specs.declared.disks.DiskErr.TheVariants.{Full}
use Rattle.salt_paged.proofs.Checkpointed.{flushed_ready, flushed_stands, full_header, full_pages, header_length, header_reads, is_checkpointed, is_next, next_names, stand_behind, stands_told, tables_in, touched, touched_first, touched_gone}
use Rattle.salt_paged.proofs.partition.Partition.checkpoint.Goals as goal
use Rattle.salt_paged.specs.Checkpoints.{other_device}
use Rattle.salt_paged.specs.Partitions.{page_count, pages_of}
use Rattle.salt_paged.specs.declared.partition.Partition.{Partition}
use Rattle.salt_rows.proofs.Written.{store_named}
use Rattle.salt_rows.specs.declared.store.RowStore.{RowStore}
use Rattle.salt_rows.specs.Stores as stores
use Rattle.salt_rows.specs.Stores.{HaveRows, IsRowStore, IsSide}
use Rattle.salt_stands.specs.Coordinator.{decided_for, device_of}
use Rattle.salt_stands.specs.Partition.{HoldsPages, pages_device, part_device}
use Rattle.salt_stands.specs.Pieces.{checkpointed, next_part_header, other_log}
use Rattle.salt_stands.specs.Tables.{change_of_row}
use Rattle.std.proofs.Common.{Err, List, None, Some, ap, arith, length, refl, subst, sym, true, ℕ, ◌+◌, ◌<◌, ◌^◌, ◌≡◌, ◌⊎◌, ◌∙◌}
use Rattle.std.proofs.lemmas.Result.{err_from_is_err_and}
use Rattle.std.specs.Prelude.{IsTrue, map}
use Rattle.std.specs.Result.{result_err}

-- WHAT THE CALLS NEED

pub checkpoint-requires : goal.checkpoint-requires
checkpoint-requires g c = let stands = c.requires in record {
  dev = pages_device stands.p;
  named = stands.v.log.header.sides;
  t = tables_in stands.applied stands.v;
  is = stands.is.rows.is;
}

-- EACH IMAGE

pub returns-in_err-sides-clause-images : goal.returns-in_err-sides-clause-images
returns-in_err-sides-clause-images g c r which co v told under =
    let d0 = g.D.Disks.view c.args.disks.now in
    let d1 = g.D.Disks.view c.checkpoint.new.disks in
    flushed_stands r d0 c.args.self.now which co v told under d1 (result_err c.checkpoint.result) c.checkpoint.ensures.others c.checkpoint.ensures.images

pub returns-in_err-header-clause-images : goal.returns-in_err-header-clause-images
returns-in_err-header-clause-images g c r which co v told under =
    let d0 = g.D.Disks.view c.args.disks.now in
    let d1 = g.D.Disks.view c.checkpoint.new.disks in
    flushed_stands r d0 c.args.self.now which co v told under d1 None c.in_ok-sides.ensures.others c.checkpoint.ensures.images

pub returns-in_err-bytes-clause-images : goal.returns-in_err-bytes-clause-images
returns-in_err-bytes-clause-images g c r which co v told under =
    let d0 = g.D.Disks.view c.args.disks.now in
    let d1 = g.D.Disks.view c.checkpoint.new.disks in
    flushed_stands r d0 c.args.self.now which co v told under d1 None c.in_ok-sides.ensures.others c.checkpoint.ensures.images

pub returns-in_err-log-clause-images : goal.returns-in_err-log-clause-images
returns-in_err-log-clause-images g c r which co v told under =
    let d0 = g.D.Disks.view c.args.disks.now in
    let d1 = g.D.Disks.view c.checkpoint.new.disks in
    let x = c.args.self.now in
    let own = v x.part in
    let us = decided_for x.part co.log.told.decided in
    let told1 : IsTrue d1.told = c.in_ok-sides.ensures.others.shape.told ∙ told in
    let ready1 = flushed_ready r d0 x which co v told under d1 c.in_ok-sides.ensures.others c.checkpoint.ensures.images c.in_ok-sides.ensures.named in
    let at : c.log_of-other.result ≡ device_of (part_device x.part) (other_log own.which) = c.log_of-other.ensures ∙ ap (device_of (part_device x.part)) (c.other_of-side.ensures ∙ ap other_log under.is.which) in
    let have : HaveRows true (d1.bytes (pages_device x.part)) c.in_ok-sides.sides (tables_in us own) = c.in_ok-sides.ensures.reads (pages_device x.part) own.log.header.sides (tables_in us own) under.is.rows.is told in
    let store = c.in_ok-sides.ensures.rows (pages_device x.part) own.log.header.sides (tables_in us own) under.is.rows.is in
    let header = header_of c.in_ok-header.header in
    let names : header ≡ next_part_header own 2 c.in_ok-sides.sides = next_names x own under.is.header c.as_slice.result.now c.in_ok-sides.sides c.as_slice.ensures header c.in_ok-header.ensures.made in
    let low = subst (Every IsSide) (sym c.in_ok-sides.ensures.sides) store.is.kept.sides_low in
    let few : length c.in_ok-sides.sides < 2 ^ 32 = omega (arith, c.in_ok-bytes.ensures.few, ap (λ (h : PartitionHeader). length h.sides) names) in
    let spells = ap partition_header_in (c.deref.ensures.value ∙ c.in_ok-bytes.ensures.bytes) ∙ header_reads own c.in_ok-sides.sides header names c.in_ok-header.ensures.small low few in
    let following = is_next r d0 x which co v told under (d1.bytes (pages_device x.part)) c.deref.result.now c.in_ok-sides.sides have spells in
    c.checkpoint-2.ensures.images r which co v 2 c.in_ok-sides.sides (map change_of_row have.rows) told1 ready1 under.below at following

pub returns-clause-images : goal.returns-clause-images
returns-clause-images g c r which co v told under =
    let d0 = g.D.Disks.view c.args.disks.now in
    let d1 = g.D.Disks.view c.checkpoint.new.disks in
    let x = c.args.self.now in
    let own = v x.part in
    let us = decided_for x.part co.log.told.decided in
    let told1 : IsTrue d1.told = c.in_ok-sides.ensures.others.shape.told ∙ told in
    let ready1 = flushed_ready r d0 x which co v told under d1 c.in_ok-sides.ensures.others c.checkpoint.ensures.images c.in_ok-sides.ensures.named in
    let at : c.log_of-other.result ≡ device_of (part_device x.part) (other_log own.which) = c.log_of-other.ensures ∙ ap (device_of (part_device x.part)) (c.other_of-side.ensures ∙ ap other_log under.is.which) in
    let have : HaveRows true (d1.bytes (pages_device x.part)) c.in_ok-sides.sides (tables_in us own) = c.in_ok-sides.ensures.reads (pages_device x.part) own.log.header.sides (tables_in us own) under.is.rows.is told in
    let store = c.in_ok-sides.ensures.rows (pages_device x.part) own.log.header.sides (tables_in us own) under.is.rows.is in
    let header = header_of c.in_ok-header.header in
    let names : header ≡ next_part_header own 2 c.in_ok-sides.sides = next_names x own under.is.header c.as_slice.result.now c.in_ok-sides.sides c.as_slice.ensures header c.in_ok-header.ensures.made in
    let low = subst (Every IsSide) (sym c.in_ok-sides.ensures.sides) store.is.kept.sides_low in
    let few : length c.in_ok-sides.sides < 2 ^ 32 = omega (arith, c.in_ok-bytes.ensures.few, ap (λ (h : PartitionHeader). length h.sides) names) in
    let spells = ap partition_header_in (c.deref.ensures.value ∙ c.in_ok-bytes.ensures.bytes) ∙ header_reads own c.in_ok-sides.sides header names c.in_ok-header.ensures.small low few in
    let following = is_next r d0 x which co v told under (d1.bytes (pages_device x.part)) c.deref.result.now c.in_ok-sides.sides have spells in
    c.checkpoint-2.ensures.images r which co v 2 c.in_ok-sides.sides (map change_of_row have.rows) told1 ready1 under.below at following

-- WHAT STANDS BEHIND IT

pub returns-clause-ok : goal.returns-clause-ok
returns-clause-ok g c p v applied is =
    let d0 = g.D.Disks.view c.args.disks.now in
    let d1 = g.D.Disks.view c.checkpoint.new.disks in
    let x = c.args.self.now in
    let t = tables_in applied v in
    let sides = c.in_ok-sides.sides in
    let store : IsRowStore d1 c.checkpoint.new.self (pages_device p) v.log.header.sides t = c.in_ok-sides.ensures.rows (pages_device p) v.log.header.sides t is.rows.is in
    let header = header_of c.in_ok-header.header in
    let names : header ≡ next_part_header v 2 sides = next_names x v is.header c.as_slice.result.now sides c.as_slice.ensures header c.in_ok-header.ensures.made in
    let low = subst (Every IsSide) (sym c.in_ok-sides.ensures.sides) store.is.kept.sides_low in
    let few : length c.in_ok-sides.sides < 2 ^ 32 = omega (arith, c.in_ok-bytes.ensures.few, ap (λ (h : PartitionHeader). length h.sides) names) in
    let spells = ap partition_header_in (c.deref.ensures.value ∙ c.in_ok-bytes.ensures.bytes) ∙ header_reads v sides header names c.in_ok-header.ensures.small low few in
    let d2 = g.D.Disks.view c.checkpoint-2.new.disks in
    let behind : Partition = record x { rows = c.named_as.new.self; header = c.in_ok-header.header; side = c.other_of-side.result; log = c.in_ok-log.log; last = None } in
    let at' : c.log_of-other.result ≡ device_of (part_device p) (other_log v.which) =
    c.log_of-other.ensures ∙ ap (device_of (part_device x.part)) (c.other_of-side.ensures ∙ ap other_log is.which) ∙ ap (λ (k : ℕ). device_of (part_device k) (other_log v.which)) is.part in
    let first : KeepsOthers (pages_device p) d0 d1 None = subst (λ dev. KeepsOthers dev d0 d1 None) is.rows.is.device c.in_ok-sides.ensures.others in
    let mine : pages_device x.part ≡ pages_device p = ap pages_device is.part in
    let second : KeepsBut (λ dev. (dev ≡ pages_device p) ⊎ (dev ≡ device_of (part_device p) (other_log v.which))) d1 d2 None =
    subst (λ (k : ℕ). KeepsBut (λ dev. (dev ≡ pages_device p) ⊎ (dev ≡ k)) d1 d2 None) at' (subst (λ (k : ℕ). KeepsBut (λ dev. (dev ≡ k) ⊎ (dev ≡ c.log_of-other.result)) d1 d2 None) mine c.in_ok-log.ensures.others) in
    is_checkpointed d0 d1 d2 x behind p v applied is first second sides
    (λ now. c.in_ok-sides.ensures.reads (pages_device p) v.log.header.sides (tables_in applied v) is.rows.is now)
    c.deref.result.now spells refl names (c.other_of-side.ensures ∙ ap other_log is.which)
    (c.in_ok-log.ensures.device ∙ at') c.in_ok-log.ensures.log
    (subst (λ (k : ℕ). IsTrue d1.told → d2.bytes k ≡ d1.bytes k) mine c.in_ok-log.ensures.bytes)
    (subst (λ (k : ℕ). IsSettled d2 k) mine c.in_ok-log.ensures.stable)
    (subst (λ (s : RowStore). IsRowStore d1 s (pages_device p) sides (tables_in applied v)) (sym c.named_as.ensures) (store_named d1 c.checkpoint.new.self (pages_device p) v.log.header.sides sides (tables_in applied v) store c.in_ok-sides.ensures.clean c.in_ok-sides.ensures.sides))

pub returns-clause-ready : goal.returns-clause-ready
returns-clause-ready g c r which co v told under =
    let d0 = g.D.Disks.view c.args.disks.now in
    let d1 = g.D.Disks.view c.checkpoint.new.disks in
    let x = c.args.self.now in
    let own = v x.part in
    let us = decided_for x.part co.log.told.decided in
    let told1 : IsTrue d1.told = c.in_ok-sides.ensures.others.shape.told ∙ told in
    let ready1 = flushed_ready r d0 x which co v told under d1 c.in_ok-sides.ensures.others c.checkpoint.ensures.images c.in_ok-sides.ensures.named in
    let at : c.log_of-other.result ≡ device_of (part_device x.part) (other_log own.which) = c.log_of-other.ensures ∙ ap (device_of (part_device x.part)) (c.other_of-side.ensures ∙ ap other_log under.is.which) in
    let have : HaveRows true (d1.bytes (pages_device x.part)) c.in_ok-sides.sides (tables_in us own) = c.in_ok-sides.ensures.reads (pages_device x.part) own.log.header.sides (tables_in us own) under.is.rows.is told in
    let store = c.in_ok-sides.ensures.rows (pages_device x.part) own.log.header.sides (tables_in us own) under.is.rows.is in
    let header = header_of c.in_ok-header.header in
    let names : header ≡ next_part_header own 2 c.in_ok-sides.sides = next_names x own under.is.header c.as_slice.result.now c.in_ok-sides.sides c.as_slice.ensures header c.in_ok-header.ensures.made in
    let low = subst (Every IsSide) (sym c.in_ok-sides.ensures.sides) store.is.kept.sides_low in
    let few : length c.in_ok-sides.sides < 2 ^ 32 = omega (arith, c.in_ok-bytes.ensures.few, ap (λ (h : PartitionHeader). length h.sides) names) in
    let spells = ap partition_header_in (c.deref.ensures.value ∙ c.in_ok-bytes.ensures.bytes) ∙ header_reads own c.in_ok-sides.sides header names c.in_ok-header.ensures.small low few in
    let following = is_next r d0 x which co v told under (d1.bytes (pages_device x.part)) c.deref.result.now c.in_ok-sides.sides have spells in
    let sides = c.in_ok-sides.sides in
    let is = under.is in
    let d2 = g.D.Disks.view c.checkpoint-2.new.disks in
    let behind : Partition = record x { rows = c.named_as.new.self; header = c.in_ok-header.header; side = c.other_of-side.result; log = c.in_ok-log.log; last = None } in
    let at' : c.log_of-other.result ≡ device_of (part_device x.part) (other_log own.which) =
    c.log_of-other.ensures ∙ ap (device_of (part_device x.part)) (c.other_of-side.ensures ∙ ap other_log is.which) ∙ ap (λ (k : ℕ). device_of (part_device k) (other_log own.which)) is.part in
    let first : KeepsOthers (pages_device x.part) d0 d1 None = subst (λ dev. KeepsOthers dev d0 d1 None) is.rows.is.device c.in_ok-sides.ensures.others in
    let mine : pages_device x.part ≡ pages_device x.part = ap pages_device is.part in
    let second : KeepsBut (λ dev. (dev ≡ pages_device x.part) ⊎ (dev ≡ device_of (part_device x.part) (other_log own.which))) d1 d2 None =
    subst (λ (k : ℕ). KeepsBut (λ dev. (dev ≡ pages_device x.part) ⊎ (dev ≡ k)) d1 d2 None) at' (subst (λ (k : ℕ). KeepsBut (λ dev. (dev ≡ k) ⊎ (dev ≡ c.log_of-other.result)) d1 d2 None) mine c.in_ok-log.ensures.others) in
    record {
      view = checkpointed own (next_part_header own 2 sides) (map change_of_row have.rows);
      made = record { sides = sides; rows = map change_of_row have.rows; is = refl; same = have.tables };
      ready = c.in_ok-log.ensures.ok r which co v 2 sides (map change_of_row have.rows) told1 ready1 under.below at following;
      is = stands_told d0 d1 d2 x behind x.part own us is first second sides
          (λ now. c.in_ok-sides.ensures.reads (pages_device x.part) own.log.header.sides (tables_in us own) is.rows.is now)
          c.deref.result.now spells refl names (c.other_of-side.ensures ∙ ap other_log is.which)
          (c.in_ok-log.ensures.device ∙ at') c.in_ok-log.ensures.log
          (subst (λ (k : ℕ). IsTrue d1.told → d2.bytes k ≡ d1.bytes k) mine c.in_ok-log.ensures.bytes)
          (subst (λ (k : ℕ). IsSettled d2 k) mine c.in_ok-log.ensures.stable)
          (subst (λ (s : RowStore). IsRowStore d1 s (pages_device x.part) sides (tables_in us own)) (sym c.named_as.ensures) (store_named d1 c.checkpoint.new.self (pages_device x.part) own.log.header.sides sides (tables_in us own) store c.in_ok-sides.ensures.clean c.in_ok-sides.ensures.sides))
          told;
    }

pub returns-clause-empty : goal.returns-clause-empty
returns-clause-empty g c = omega (arith, c.in_ok-log.ensures.log.count)

-- WHAT IT TOUCHES

pub returns-in_err-sides-clause-others : goal.returns-in_err-sides-clause-others
returns-in_err-sides-clause-others g c =
    let d0 = g.D.Disks.view c.args.disks.now in
    let d1 = g.D.Disks.view c.checkpoint.new.disks in
    let p = err_from_is_err_and c.from_residual.result c.from_residual.ensures.1 in
    let at = c.requires.is.rows.is.device ∙ ap pages_device (sym c.requires.is.part) in
    rw (p.1, p.2) (touched_first d0 d1 d1 c.args.self.now at (Some c.in_err-sides.field-0.0) c.in_err-sides.ensures.others)

pub returns-in_err-header-clause-others : goal.returns-in_err-header-clause-others
returns-in_err-header-clause-others g c =
    let d0 = g.D.Disks.view c.args.disks.now in
    let d1 = g.D.Disks.view c.checkpoint.new.disks in
    touched_gone d0 d1 d1 c.args.self.now (c.requires.is.rows.is.device ∙ ap pages_device (sym c.requires.is.part)) (result_err c.from_residual-in_err-header.result) c.in_ok-sides.ensures.others

pub returns-in_err-bytes-clause-others : goal.returns-in_err-bytes-clause-others
returns-in_err-bytes-clause-others g c =
    let d0 = g.D.Disks.view c.args.disks.now in
    let d1 = g.D.Disks.view c.checkpoint.new.disks in
    touched_gone d0 d1 d1 c.args.self.now (c.requires.is.rows.is.device ∙ ap pages_device (sym c.requires.is.part)) (result_err c.from_residual-in_err-bytes.result) c.in_ok-sides.ensures.others

pub returns-in_err-log-clause-others : goal.returns-in_err-log-clause-others
returns-in_err-log-clause-others g c =
    let d0 = g.D.Disks.view c.args.disks.now in
    let d1 = g.D.Disks.view c.checkpoint.new.disks in
    let d2 = g.D.Disks.view c.checkpoint-2.new.disks in
    let x = c.args.self.now in
    let p = err_from_is_err_and c.from_residual-in_err-log.result c.from_residual-in_err-log.ensures.1 in
    let at = c.requires.is.rows.is.device ∙ ap pages_device (sym c.requires.is.part) in
    rw (p.1, p.2) (touched d0 d1 d2 x at x.part c.log_of-other.result (Some c.in_err-log.field-0.0) refl (c.log_of-other.ensures ∙ ap (device_of (part_device x.part)) c.other_of-side.ensures) c.in_ok-sides.ensures.others c.in_err-log.ensures.others)

pub returns-clause-others : goal.returns-clause-others
returns-clause-others g c =
    let d0 = g.D.Disks.view c.args.disks.now in
    let d1 = g.D.Disks.view c.checkpoint.new.disks in
    let d2 = g.D.Disks.view c.checkpoint-2.new.disks in
    let x = c.args.self.now in
    let at = c.requires.is.rows.is.device ∙ ap pages_device (sym c.requires.is.part) in
    touched d0 d1 d2 x at x.part c.log_of-other.result None refl (c.log_of-other.ensures ∙ ap (device_of (part_device x.part)) c.other_of-side.ensures) c.in_ok-sides.ensures.others c.in_ok-log.ensures.others

-- WHERE IT IS FULL

pub returns-in_err-sides-clause-full : goal.returns-in_err-sides-clause-full
returns-in_err-sides-clause-full g c =
    let d0 = g.D.Disks.view c.args.disks.now in
    let d1 = g.D.Disks.view c.checkpoint.new.disks in
    let p = err_from_is_err_and c.from_residual.result c.from_residual.ensures.1 in
    let at = c.requires.is.rows.is.device ∙ ap pages_device (sym c.requires.is.part) in
    rw (p.1, p.2) (full_pages d0 d1 c.in_err-sides.ensures.others.shape c.args.self.now (stores.device_of c.args.self.now.rows) c.in_err-sides.field-0.0 at c.in_err-sides.ensures.full)

pub returns-in_err-log-clause-full : goal.returns-in_err-log-clause-full
returns-in_err-log-clause-full g c =
    let d1 = g.D.Disks.view c.checkpoint.new.disks in
    let d2 = g.D.Disks.view c.checkpoint-2.new.disks in
    let x = c.args.self.now in
    let s = c.requires in
    let p = err_from_is_err_and c.from_residual-in_err-log.result c.from_residual-in_err-log.ensures.1 in
    let header = header_of c.in_ok-header.header in
    let named = s.v.log.header.sides in
    let t = tables_in s.applied s.v in
    let shape = c.in_err-log.ensures.others.shape in
    let is : c.log_of-other.result ≡ other_device x = c.log_of-other.ensures ∙ ap (device_of (part_device x.part)) c.other_of-side.ensures in
    let stand : (dev : ℕ) → c.in_err-log.field-0.0 ≡ Full dev → dev ≡ c.log_of-other.result → IsTrue d2.told → HoldsPages (page_count x) (d2.bytes (pages_of x)) = λ dev full at told.
    let told1 : IsTrue d1.told = sym shape.told ∙ told in
    stand_behind d1 d2 x c.checkpoint.new.self s.p named t s.is.part (c.in_ok-sides.ensures.rows (pages_device s.p) named t s.is.rows.is).is c.in_ok-sides.ensures.clean (ap length c.in_ok-sides.ensures.same) told1 dev (at ∙ is)
    (c.in_err-log.ensures.written dev (ap Err full) told1) in
    let long : length c.deref.result.now ≡ 19 + page_count x =
    ap length (c.deref.ensures.value ∙ c.in_ok-bytes.ensures.bytes) ∙ header_length header ∙ ap (λ (h : PartitionHeader). 19 + length h.sides) c.in_ok-header.ensures.made ∙ ap (λ (l : List ℕ). 19 + length l) (c.as_slice.ensures ∙ c.in_ok-sides.ensures.sides ∙ c.in_ok-sides.ensures.same) in
    rw (p.1, p.2) (full_header d1 d2 shape x (pages_device x.part) c.log_of-other.result (length c.deref.result.now) c.in_err-log.field-0.0 is long stand c.in_err-log.ensures.full)
