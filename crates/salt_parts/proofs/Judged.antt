-- What a partition's log and its pages are judged as, one after the other.
use Rattle.salt_model.specs.Words.{and_then}
use Rattle.std.specs.Option.{ok_or}
use Rattle.salt_ast.specs.declared.trees.TableDef.{TableDef}
use Rattle.salt_bytes.specs.Formats.{has_nulls}
use Rattle.salt_bytes.specs.Generations.{BothBlank, Counts, Faulty, LogB, Pair, WhichLog}
use Rattle.salt_bytes.specs.Page.{TableRow}
use Rattle.salt_disk.specs.Disks.{KeepsAll, View}
use Rattle.salt_gatelog.specs.declared.pair.PairErr.TheVariants.{Disk, NotSalt}
use Rattle.salt_gatelog.specs.declared.pair.PairErr.{PairErr}
use Rattle.salt_model.specs.Kept.{Definition}
use Rattle.salt_paged.specs.Openings.{IsFound, IsLogWhy, IsPagesWhy, ReadsAs, found_log, found_pages, found_which, has_sound_pages, log_fault, stand_soundly}
use Rattle.salt_paged.specs.Partitions.{IsTold}
use Rattle.salt_paged.specs.declared.found.FoundLog.{FoundLog}
use Rattle.salt_paged.specs.declared.redo.ReadPartition.{ReadPartition}
use Rattle.salt_partition.proofs.Steps.{unchanged}
use Rattle.salt_parts.proofs.Fit.{rows_judged}
use Rattle.salt_parts.proofs.Reading.{same_bytes}
use Rattle.salt_parts.specs.Judging.{HasTables, fits_part}
use Rattle.salt_parts.specs.Openings.{FitsUnder, IsPartFault, PartRefuses, decided_in}
use Rattle.salt_place.specs.declared.placement.Shape.{Shape}
use Rattle.salt_stands.proofs.Booleans.{join}
use Rattle.salt_stands.proofs.OpenedPart.{sound_is}
use Rattle.salt_stands.specs.Coordinator.{Coordinator, device_of}
use Rattle.salt_stands.specs.Fitting.{definitions_reading}
use Rattle.salt_stands.specs.OpenedPart.{fits_definitions, is_fitting_log, is_known_log}
use Rattle.salt_stands.specs.Partition.{are_distinct, are_sound_rows, is_format_under, is_sound_log, judge_part, pages_device, part_device, part_pair, part_tables, rows_from, rows_of_pages}
use Rattle.salt_stands.specs.PartitionLog.{PartitionLog}
use Rattle.salt_stands.specs.Pieces.{PartStands, PartView}
use Rattle.salt_stands.specs.Reading.{Reading}
use Rattle.salt_stands.specs.Stands.{logs_of}
use Rattle.salt_stands.specs.Tables.{change_of_row}
use Rattle.salt_values.specs.declared.id.Id.{Id}
use Rattle.std.proofs.Common.{Bool, Err, IsTrue, List, None, Option, Some, [], ap, false, refl, subst, sym, true, ℕ, ◌≡◌, ◌∙◌}
use Rattle.std.specs.Bool.{then_some}
use Rattle.std.specs.List.{list_all}
use Rattle.std.specs.Prelude.{if◌then◌else◌, map, option_and_then, option_map, ◌&&◌}

-- BY THE LOG THAT COUNTS

module _ (read : List ℕ → Option Definition) (c : Coordinator Definition) (p : ℕ) (pages : List ℕ) where
  abbrev r : Reading Definition
  r = definitions_reading read

  abbrev us : List Id
  us = decided_in c.log p

  unsound_at : (which : WhichLog) (log : PartitionLog) → is_sound_log r c p log ≡ false → judge_part r c p pages (Counts which log) ≡ Err (device_of (part_device p) which)
  unsound_at which log bad = ap (λ b. and_then (ok_or (then_some b log) (device_of (part_device p) which)) (λ (sound : PartitionLog). ok_or (option_map (part_tables us sound) (rows_of_pages r c p sound pages)) (pages_device p))) bad

  pageless_at : (which : WhichLog) (log : PartitionLog) → is_sound_log r c p log ≡ true → rows_of_pages r c p log pages ≡ None → judge_part r c p pages (Counts which log) ≡ Err (pages_device p)
  pageless_at which log good none =
      ap (λ b. and_then (ok_or (then_some b log) (device_of (part_device p) which)) (λ (sound : PartitionLog). ok_or (option_map (part_tables us sound) (rows_of_pages r c p sound pages)) (pages_device p))) good
      ∙ ap (λ o. ok_or (option_map (part_tables us log) o) (pages_device p)) none

  -- the log's own fault
  log_fails : (pair : Pair PartitionLog) (dev : ℕ) → log_fault c.log.told.boot us p pair ≡ Some dev → judge_part r c p pages pair ≡ Err dev
  log_fails BothBlank dev e = let same : device_of (part_device p) LogB ≡ dev = cc e in ap Err same
  log_fails (Faulty which) dev e = let same : device_of (part_device p) which ≡ dev = cc e in ap Err same
  log_fails (Counts which log) dev e = by (is_known_log c.log.told.boot us log) refl e
    where
      by : (known : Bool) → is_known_log c.log.told.boot us log ≡ known → (if known then None else Some (device_of (part_device p) which)) ≡ Some dev → judge_part r c p pages (Counts which log) ≡ Err dev
      by true k e' = absurd (cc e')
      by false k e' =
          let same : device_of (part_device p) which ≡ dev = cc e' in
          unsound_at which log (sound_is r c p log ∙ ap (λ b. b && is_fitting_log r c p log) k) ∙ ap Err same

  -- ROWS, as the judge finds them
  module _ (schema : List TableDef) (shape : Shape) (has : HasTables schema shape c) where
    both : (rows : List TableRow) → (list_all (fits_part schema shape p) rows && are_distinct (map change_of_row rows)) ≡ are_sound_rows r c p (map change_of_row rows)
    both rows = ap (λ b. b && are_distinct (map change_of_row rows)) (rows_judged read schema shape c has p rows)

    none_found : (o : Option (List TableRow)) → stand_soundly (fits_part schema shape p) o ≡ false → option_and_then (λ rows. then_some (are_sound_rows r c p (map change_of_row rows)) (map change_of_row rows)) o ≡ None
    none_found None bad = refl
    none_found (Some rows) bad = ap (λ b. then_some b (map change_of_row rows)) (sym (both rows) ∙ bad)

    some_found : (rows : List TableRow) → stand_soundly (fits_part schema shape p) (Some rows) ≡ true → then_some (are_sound_rows r c p (map change_of_row rows)) (map change_of_row rows) ≡ Some (map change_of_row rows)
    some_found rows good = ap (λ b. then_some b (map change_of_row rows)) (sym (both rows) ∙ good)

-- A LOG IS REFUSED

pub log_refused : (read : List ℕ → Option Definition) (c : Coordinator Definition) (bytes : ℕ → List ℕ) (p : ℕ) (e : PairErr) → IsLogWhy bytes c.log.told.boot (decided_in c.log p) p e → PartRefuses read c bytes p e
log_refused read c bytes p (NotSalt dev) why = log_fails read c p (bytes (pages_device p)) (part_pair p (logs_of bytes)) dev why
log_refused read c bytes p (Disk e) why = why

module _ (read : List ℕ → Option Definition) (schema : List TableDef) (shape : Shape) (c : Coordinator Definition) (p : ℕ) (d e : View) (found : FoundLog) (keeps : KeepsAll d e None) (h : IsFound e found p) where
  abbrev by_texts : Reading Definition
  by_texts = definitions_reading read

  abbrev log_is : PartitionLog
  log_is = found_log found

  counts : IsTrue d.told → part_pair p (logs_of d.bytes) ≡ Counts (found_which found) log_is
  counts told = ap (λ (bytes : ℕ → List ℕ). part_pair p (logs_of bytes)) (sym (same_bytes d e keeps)) ∙ h.counts (keeps.shape.told ∙ told)

  -- it is known, and does not fit
  fits_not : IsTrue d.told → is_known_log c.log.told.boot (decided_in c.log p) log_is ≡ true → is_fitting_log by_texts c p log_is ≡ false → IsPartFault read c d.bytes p (device_of (part_device p) (found_which found))
  fits_not told known bad =
      ap (judge_part by_texts c p (d.bytes (pages_device p))) (counts told)
      ∙ unsound_at read c p (d.bytes (pages_device p)) (found_which found) log_is (sound_is by_texts c p log_is ∙ ap (λ b. b && is_fitting_log by_texts c p log_is) known ∙ bad)

  device_is : (dev : ℕ) → dev ≡ device_of (part_device found.part) (found_which found) → device_of (part_device p) (found_which found) ≡ dev
  device_is dev at = ap (λ (k : ℕ). device_of (part_device k) (found_which found)) (sym h.part) ∙ sym at

  pub not_under : (dev : ℕ) → dev ≡ device_of (part_device found.part) (found_which found) → IsTrue d.told → is_known_log c.log.told.boot (decided_in c.log p) log_is ≡ true → is_format_under c.log.header.format log_is.header.format ≡ false → IsPartFault read c d.bytes p dev
  not_under dev at told known bad = fits_not told known (ap (λ b. b && list_all (fits_definitions by_texts c p) log_is.prepared) bad) ∙ ap Err (device_is dev at)

  pub entries_not : (dev : ℕ) → dev ≡ device_of (part_device found.part) (found_which found) → IsTrue d.told → is_known_log c.log.told.boot (decided_in c.log p) log_is ≡ true → list_all (fits_definitions by_texts c p) log_is.prepared ≡ false → IsPartFault read c d.bytes p dev
  entries_not dev at told known bad =
      fits_not told known (ap (λ b. is_format_under c.log.header.format log_is.header.format && b) bad ∙ nor (is_format_under c.log.header.format log_is.header.format)) ∙ ap Err (device_is dev at)
    where
      nor : (b : Bool) → (b && false) ≡ false
      nor true = refl
      nor false = refl

  module _ (fits : FitsUnder read schema shape c p found) (has : HasTables schema shape c) where
    pub is_sound : is_sound_log by_texts c p log_is ≡ true
    is_sound = sound_is by_texts c p log_is ∙ join (is_known_log c.log.told.boot (decided_in c.log p) log_is) (is_fitting_log by_texts c p log_is) fits.known
        (join (is_format_under c.log.header.format log_is.header.format) (list_all (fits_definitions by_texts c p) log_is.prepared) fits.under (fits.entries has))

    -- ITS PAGES ARE REFUSED
    pub pages_refused : IsTrue d.told → (error : PairErr) → IsPagesWhy (fits_part schema shape p) e.bytes found error → PartRefuses read c d.bytes p error
    pages_refused told (NotSalt dev) why =
        let at : dev ≡ pages_device p = why.0 ∙ ap pages_device h.part in
        let bad : has_sound_pages (fits_part schema shape p) log_is (d.bytes (pages_device p)) ≡ false =
        ap (has_sound_pages (fits_part schema shape p) log_is) (sym (unchanged d e keeps (pages_device p)).bytes) ∙ subst (λ (k : ℕ). has_sound_pages (fits_part schema shape p) log_is (e.bytes (pages_device k)) ≡ false) h.part why.1 in
        ap (judge_part by_texts c p (d.bytes (pages_device p))) (counts told)
        ∙ pageless_at read c p (d.bytes (pages_device p)) (found_which found) log_is is_sound (none_found read c p (d.bytes (pages_device p)) schema shape has (rows_from (has_nulls log_is.header.format) (d.bytes (pages_device p)) 0 log_is.header.sides) bad)
        ∙ ap Err (sym at)
    pages_refused told (Disk error) why = why

    -- THEY ARE READ
    module _ (f : View) (x : ReadPartition) (again : KeepsAll e f None) (reads : ReadsAs f x p found) (told : IsTrue d.told) (judged : IsTrue e.told → has_sound_pages (fits_part schema shape p) log_is (e.bytes (found_pages found)) ≡ true) where
      abbrev v : PartView
      v = reads.view

      t : IsTold f p v (reads.is.is []).entries
      t = (reads.is.is []).told (again.shape.told ∙ keeps.shape.told ∙ told)

      same : f.bytes (pages_device p) ≡ d.bytes (pages_device p)
      same = (unchanged e f again (pages_device p)).bytes ∙ (unchanged d e keeps (pages_device p)).bytes

      named : rows_from (has_nulls v.log.header.format) (d.bytes (pages_device p)) 0 v.log.header.sides ≡ Some t.pages
      named = ap (λ b. rows_from (has_nulls v.log.header.format) b 0 v.log.header.sides) (sym same) ∙ t.named

      good : has_sound_pages (fits_part schema shape p) log_is (d.bytes (pages_device p)) ≡ true
      good = ap (has_sound_pages (fits_part schema shape p) log_is) (sym (unchanged d e keeps (pages_device p)).bytes)
          ∙ subst (λ (k : ℕ). has_sound_pages (fits_part schema shape p) log_is (e.bytes (pages_device k)) ≡ true) h.part (judged (keeps.shape.told ∙ told))

      pub part_reads : PartStands by_texts c (logs_of d.bytes) d.bytes p v
      part_reads =
          let all : stand_soundly (fits_part schema shape p) (Some t.pages) ≡ true = ap (stand_soundly (fits_part schema shape p)) (sym named) ∙ ap (λ (l : PartitionLog). has_sound_pages (fits_part schema shape p) l (d.bytes (pages_device p))) reads.log ∙ good in
          record {
            counts = counts told ∙ (λ i. Counts (sym reads.which i) (sym reads.log i));
            sound = ap (is_sound_log by_texts c p) reads.log ∙ is_sound;
            rows = ap (λ o. option_and_then (λ rows. then_some (are_sound_rows by_texts c p (map change_of_row rows)) (map change_of_row rows)) o) named
                ∙ some_found read c p (d.bytes (pages_device p)) schema shape has t.pages all ∙ ap Some (sym t.rows);
          }
