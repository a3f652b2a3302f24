-- Until the coordinator's header is there the devices stand for nothing, and with it for the new database.
use Rattle.salt_model.specs.Tables.{Tables, no_rows, with_changes}
use Rattle.salt_bytes.specs.Generations.{Blank, IsRead, LogA, pair_of, read_or_outside, content_of}
use Rattle.salt_model.specs.Words.{and_then}
use Rattle.salt_stands.proofs.Generations.{alone}
use Rattle.salt_stands.proofs.Prepared.{sound_log}
use Rattle.salt_stands.specs.Commits.{Stood, each_tables, found_of}
use Rattle.salt_stands.specs.Coordinator.{Logs, judge_coordinator}
use Rattle.salt_stands.specs.CoordinatorLog.{coordinator_generation, coordinator_in, told_by_header, with_told}
use Rattle.salt_stands.specs.FirstOpening.{AreBlank, AreMade, IsCreated, first_coordinator, first_header, first_part_header, first_view}
use Rattle.salt_stands.specs.Partition.{is_format_under, part_device}
use Rattle.salt_stands.specs.PartitionLog.{partition_generation, partition_in}
use Rattle.salt_stands.specs.Pieces.{CoordinatorStands, PartStands, listed}
use Rattle.salt_stands.specs.Reading.{Reading}
use Rattle.salt_stands.specs.Stands.{nothing_found, stands_in, with_parts}
use Rattle.salt_stands.specs.Tables.{joined}
use Rattle.salt_place.specs.declared.placement.Shape.{Shape}
use Rattle.std.proofs.Common.{List, Ok, Some, [], ap, inl, inr, refl, suc, true, zero, ℕ, ◌+◌, ◌<◌, ◌≡◌, ◌≢◌, ◌∙◌, ◌∷◌}
use Rattle.std.proofs.lemmas.Bool.{cases_eq}
use Rattle.std.specs.Prelude.{option_and_then}

no_tables : (T : ℕ → Tables) → ((k : ℕ) → T k ≡ no_rows) → (p n : ℕ) → joined (listed T p n) ≡ no_rows
unfolding joined
no_tables T none p zero = refl
no_tables T none p (suc n) = ap (λ (t : Tables). Rattle.salt_stands.specs.Tables.put_entries t.list (joined (listed T (suc p) n))) (none p) ∙ no_tables T none (suc p) n

empty_changes : with_changes [] no_rows ≡ no_rows
unfolding with_changes
empty_changes = refl

-- a log is created where no closed gate is there
pub is_created : (bytes : List ℕ) → ((gate : ℕ) (rest : List ℕ) → gate ≢ 1 → bytes ≡ gate ∷ rest → ⊥) → IsCreated bytes
is_created [] unclosed = tt
is_created (gate ∷ bytes) unclosed = elim (cases_eq gate 1) [
  | inl open_gate ↦ open_gate
  | inr shut ↦ absurd (unclosed gate bytes shut refl)
]

module _ {D : Type 0} (r : Reading D) where
  pub blank_stands : (logs : Logs) (devices : ℕ → List ℕ) (asked : Shape) → AreBlank logs → stands_in r logs devices asked ≡ Ok (nothing_found asked)
  blank_stands logs devices asked h =
      ap (λ o. and_then (judge_coordinator r (pair_of coordinator_generation (content_of coordinator_in o) (content_of coordinator_in (logs 1)))) (with_parts r logs devices asked)) h.a
      ∙ ap (λ o. and_then (judge_coordinator r (pair_of coordinator_generation Blank (content_of coordinator_in o))) (with_parts r logs devices asked)) h.b

  pub made_stands : (logs : Logs) (devices : ℕ → List ℕ) (shape : Shape) (format part_format : ℕ) (coordinator : List ℕ) (part : ℕ → List ℕ)
      → is_format_under format part_format ≡ true → AreMade logs shape format part_format coordinator part
      → Stood r logs devices LogA (first_coordinator shape format) (first_view part_format)
  made_stands logs devices shape format part_format coordinator part fits h = record { coordinator = own; part = each }
    where
      reads_a : content_of coordinator_in (logs 0) ≡ IsRead (record { header = first_header shape format; told = told_by_header (first_header shape format) })
      reads_a = ap (content_of coordinator_in) h.a ∙ ap read_or_outside (ap (option_and_then (λ x. with_told x (Some (told_by_header x)))) h.spells)

      own : CoordinatorStands r logs LogA (first_coordinator shape format)
      own = record {
        counts = ap (λ x. pair_of coordinator_generation x (content_of coordinator_in (logs 1))) reads_a ∙ ap (λ o. pair_of coordinator_generation (IsRead (record { header = first_header shape format; told = told_by_header (first_header shape format) })) (content_of coordinator_in o)) h.b;
        is = record { defined = refl; moves = refl; rise = refl; named = refl; decided = refl };
      }

      each : (p : ℕ) → p < shape.parts → PartStands r (first_coordinator shape format) logs devices p (first_view part_format p)
      each p low = record {
        counts = ap (λ o. pair_of partition_generation (content_of (partition_in p) o) (content_of (partition_in p) (logs (part_device p + 1)))) (h.part_a p low)
            ∙ ap (λ x. pair_of partition_generation (read_or_outside x) (content_of (partition_in p) (logs (part_device p + 1)))) (alone p (part p) (first_part_header part_format p) (h.part_spells p low) refl)
            ∙ ap (λ o. pair_of partition_generation (IsRead (first_view part_format p).log) (content_of (partition_in p) o)) (h.part_b p low);
        sound = sound_log r (first_coordinator shape format) p (first_view part_format p).log fits refl refl;
        rows = refl;
      }

  pub made_found : (shape : Shape) (part_format : ℕ) → found_of {D = D} (first_coordinator shape 3) (first_view part_format) ≡ nothing_found shape
  made_found shape part_format =
      let none : joined (listed (each_tables {D = D} (first_coordinator shape 3) (first_view part_format)) 0 shape.parts) ≡ no_rows =
      no_tables (each_tables {D = D} (first_coordinator shape 3) (first_view part_format)) empty 0 shape.parts in
      λ i. record { shape = shape; format = 3; kept = record { boot = 0; decisions = 0; definitions = []; tables = none i; conts = [] } }
    where
      empty : (k : ℕ) → with_changes [] no_rows ≡ no_rows
      empty k = empty_changes
