-- From the coordinator and each partition to what all devices stand for.
use Rattle.salt_model.specs.Tables.{Tables}
use Rattle.salt_bytes.specs.Generations.{WhichLog}
use Rattle.salt_model.specs.Words.{and_then}
use Rattle.salt_stands.proofs.Coordinators.{coordinator_is_at}
use Rattle.salt_stands.specs.Coordinator.{Coordinator, Logs, decided_for, device_of}
use Rattle.salt_stands.specs.Partition.{judge_part, pages_device, part_at, part_device, part_tables, rows_of_pages}
use Rattle.salt_stands.specs.PartitionLog.{PartitionLog}
use Rattle.salt_stands.specs.Pieces.{CoordinatorStands, PartStands, PartView, listed, tables_at_part}
use Rattle.salt_stands.specs.Reading.{Reading}
use Rattle.salt_stands.specs.Stands.{found_with, stands_in, with_parts}
use Rattle.salt_stands.specs.Words.{each_from}
use Rattle.salt_place.specs.declared.placement.Shape.{Shape}
use Rattle.std.proofs.Common.{List, Ok, Result, ap, arith, refl, suc, zero, ℕ, ◌+◌, ◌<◌, ◌≡◌, ◌≤◌, ◌∙◌, ◌∷◌}
use Rattle.std.specs.Option.{ok_or}
use Rattle.std.specs.Prelude.{option_map}
use Rattle.std.specs.Bool.{then_some}

each_listed : {A : Type 0} (f : ℕ → Result A ℕ) (g : ℕ → A) (p n : ℕ) → ((k : ℕ) → p ≤ k → k < p + n → f k ≡ Ok (g k)) → each_from f p n ≡ Ok (listed g p n)
each_listed f g p zero h = refl
each_listed f g p (suc n) h =
    ap (λ r. and_then r (λ x. and_then (each_from f (suc p) n) (λ xs. Ok (x ∷ xs)))) (h p (omega arith) (omega arith))
    ∙ ap (λ r. and_then r (λ xs. Ok (g p ∷ xs))) (each_listed f g (suc p) n (λ k low high. h k (omega (arith, low)) (omega (arith, high))))

module _ {D : Type 0} (r : Reading D) where
  pub part_is_at : (c : Coordinator D) (logs : Logs) (devices : ℕ → List ℕ) (p : ℕ) (v : PartView) → PartStands r c logs devices p v → part_at r c logs devices p ≡ Ok (tables_at_part c p v)
  part_is_at c logs devices p v h =
      let us = decided_for p c.log.told.decided in
      ap (judge_part r c p (devices (pages_device p))) h.counts
      ∙ ap (λ b. and_then (ok_or (then_some b v.log) (device_of (part_device p) v.which)) (λ (sound : PartitionLog). ok_or (option_map (part_tables us sound) (rows_of_pages r c p sound (devices (pages_device p)))) (pages_device p))) h.sound
      ∙ ap (λ o. ok_or (option_map (part_tables us v.log) o) (pages_device p)) h.rows

  -- WHAT STANDS, from its parts
  pub stands_from : (logs : Logs) (devices : ℕ → List ℕ) (asked : Shape) (which : WhichLog) (c : Coordinator D) (T : ℕ → Tables)
      → CoordinatorStands r logs which c → ((p : ℕ) → p < c.log.header.shape.parts → part_at r c logs devices p ≡ Ok (T p))
      → stands_in r logs devices asked ≡ Ok (found_with c (listed T 0 c.log.header.shape.parts))
  stands_from logs devices asked which c T h each =
      ap (λ found. and_then found (with_parts r logs devices asked)) (coordinator_is_at r logs which c h)
      ∙ ap (λ parts. and_then parts (λ ts. Ok (found_with c ts))) (each_listed (part_at r c logs devices) T 0 c.log.header.shape.parts (λ k low high. each k (omega (arith, high))))
