-- What the devices of worked runs stand for: those of one partition that has no rows, under a coordinator of which no log was left behind.
use Rattle.salt_bytes.specs.Generations.{Pair, content_of, pair_of}
use Rattle.salt_bytes.specs.Log.{entries_in, entries_up_to, framed, split_payload}
use Rattle.salt_stands.specs.Fitting.{definitions_reading}
use Rattle.salt_model.specs.Kept.{Definition, Kept}
use Rattle.salt_model.specs.Tables.{Tables, no_rows, with_changes}
use Rattle.salt_model.specs.Words.{and_then}
use Rattle.salt_stands.specs.Coordinator.{Coordinator, coordinator_at, judge_coordinator}
use Rattle.salt_stands.specs.CoordinatorLog.{CoordinatorLog, Told, coordinator_generation, coordinator_in}
use Rattle.salt_stands.specs.Partition.{judge_part, part_at}
use Rattle.salt_stands.specs.PartitionLog.{partition_generation, partition_in}
use Rattle.salt_stands.specs.Stands.{Found, found_with, stands_on, logs_of, with_parts}
use Rattle.salt_stands.specs.Reading.{Reading}
use Rattle.salt_stands.specs.Tables.{joined}
use Rattle.salt_promise.specs.Standing.{IsReader, StandFor}
use Rattle.salt_promise.specs.Worked.{header_at, on, one_part, opened}
use Rattle.std.proofs.Common.{ap, arith, ◌∙◌}
use Rattle.std.specs.Prelude.{List, Ok, Option, Result, Some, [], refl, suc, zero, ℕ, ◌<◌, ◌∷◌, ◌≡◌, ◌≤◌}

-- nothing is on a device past those of one partition

pub beside-logs : (first second third fourth : List ℕ) (dev : ℕ) → 5 ≤ dev → on (first ∷ second ∷ third ∷ fourth ∷ []) dev ≡ []
beside-logs first second third fourth zero h = absurd (omega (arith, h))
beside-logs first second third fourth (suc zero) h = absurd (omega (arith, h))
beside-logs first second third fourth (suc (suc zero)) h = absurd (omega (arith, h))
beside-logs first second third fourth (suc (suc (suc zero))) h = absurd (omega (arith, h))
beside-logs first second third fourth (suc (suc (suc (suc dev)))) h = refl

-- THEY STAND, whatever reads definitions

abbrev pub coordinator_told : Told → List Definition → Coordinator Definition
coordinator_told told definitions = record { log = record { header = header_at 0; told = told }; definitions = definitions; conts = [] }

abbrev pub kept_told : Told → List Definition → Kept
kept_told told definitions = record { boot = told.boot; decisions = told.decisions; definitions = definitions; tables = no_rows; conts = [] }

-- the coordinator's log is read so, and the partition has no rows
pub record IsNew (read : List ℕ → Option Definition) (bytes : ℕ → List ℕ) (told : Told) (definitions : List Definition) : Type 0 where
  pub coordinator : coordinator_at (definitions_reading read) (logs_of bytes) ≡ Ok (Some (coordinator_told told definitions))
  pub part : part_at (definitions_reading read) (coordinator_told told definitions) (logs_of bytes) bytes 0 ≡ Ok no_rows

module _ (read : List ℕ → Option Definition) (reads : IsReader read) (bytes : ℕ → List ℕ) (told : Told) (definitions : List Definition)
    (new : IsNew read bytes told definitions) (image : ℕ → List ℕ) (is : (dev : ℕ) → dev < 26 → image dev ≡ bytes dev) where
  abbrev reading : Reading Definition
  reading = definitions_reading read

  abbrev c : Coordinator Definition
  c = coordinator_told told definitions

  abbrev pair : (a b : Option (List (List ℕ))) → Pair CoordinatorLog
  pair a b = pair_of coordinator_generation (content_of coordinator_in a) (content_of coordinator_in b)

  coordinator : coordinator_at reading (logs_of image) ≡ coordinator_at reading (logs_of bytes)
  coordinator =
      ap (λ x. judge_coordinator reading (pair (entries_in x) (logs_of image 1))) (is 0 (omega arith))
      ∙ ap (λ x. judge_coordinator reading (pair (logs_of bytes 0) (entries_in x))) (is 1 (omega arith))

  abbrev part : (a b : Option (List (List ℕ))) → List ℕ → Result Tables ℕ
  part a b pages = judge_part reading c 0 pages (pair_of partition_generation (content_of (partition_in 0) a) (content_of (partition_in 0) b))

  partition : part_at reading c (logs_of image) image 0 ≡ part_at reading c (logs_of bytes) bytes 0
  partition =
      ap (λ x. part (entries_in x) (logs_of image 3) (image 4)) (is 2 (omega arith))
      ∙ ap (λ x. part (logs_of bytes 2) (entries_in x) (image 4)) (is 3 (omega arith))
      ∙ ap (λ x. part (logs_of bytes 2) (logs_of bytes 3) x) (is 4 (omega arith))

  abbrev found : Found Definition
  found = record {
    shape = one_part;
    format = 3;
    kept = record { boot = told.boot; decisions = told.decisions; definitions = definitions; tables = no_rows; conts = [] };
  }

  abbrev with_part : Result Tables ℕ → Result (Found Definition) ℕ
  with_part t = and_then (and_then t (λ x. and_then (Ok []) (λ xs. Ok (x ∷ xs)))) (λ parts. Ok (found_with c parts))

  whole : with_part (Ok no_rows) ≡ Ok found
  unfolding joined
  whole = refl

  stands : stands_on reading image one_part ≡ Ok found
  stands =
      ap (λ r. and_then r (with_parts reading (logs_of image) image one_part)) (coordinator ∙ new.coordinator)
      ∙ ap with_part (partition ∙ new.part)
      ∙ whole

  -- an image of them stands for what the coordinator's log tells
  pub new-stands : StandFor one_part image (kept_told told definitions)
  new-stands = record { read = read; reads = reads; found = found; is = stands; has_shape = refl; keeps = refl }

-- after a first opening

abbrev pub opened_told : Told
opened_told = record { boot = 1; decisions = 0; definitions = []; decided = [] }

pub opened-new : (read : List ℕ → Option Definition) → IsNew read opened opened_told []
unfolding entries_in entries_up_to split_payload framed with_changes
opened-new read = record { coordinator = refl; part = refl }
