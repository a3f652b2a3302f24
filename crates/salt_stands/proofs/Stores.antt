-- A store with one more boot or definition, with a partition checkpointed, with a snapshot; and what changes nothing.
use Rattle.salt_values.specs.declared.change.Change.{Change}
use Rattle.salt_bytes.specs.Coordinator.{Boots, Defines, NumberedText, entry_in, header_in}
use Rattle.salt_bytes.specs.Generations.{WhichLog}
use Rattle.salt_stands.proofs.Assembled.{part_is_at, stands_from}
use Rattle.salt_stands.proofs.Commits.{listed_same, part_same}
use Rattle.salt_stands.proofs.Coordinators.{boot_stands, definition_stands}
use Rattle.salt_stands.proofs.Generations.{checkpoint_stands, other_blank, other_blank_coordinator, pages_elsewhere, snapshot_part, snapshot_stands, snapshot_tables}
use Rattle.salt_stands.proofs.Later.{boot_part, definition_part}
use Rattle.salt_stands.proofs.Pairs.{pair_same}
use Rattle.salt_stands.specs.Commits.{CoordinatorBlanked, CoordinatorSame, IsCheckpointed, PagesSame, PartBlanked, PartSame, Stood, each_tables, found_of, partition_count, with_view}
use Rattle.salt_stands.specs.Coordinator.{Coordinator, Logs, device_of}
use Rattle.salt_stands.specs.CoordinatorLog.{coordinator_generation, coordinator_in}
use Rattle.salt_stands.specs.Partition.{is_format_under, pages_device}
use Rattle.salt_stands.specs.Pieces.{CoordinatorStands, StaysFitting, HasOneMore, IsSameAt, PartStands, PartView, ReadsSamePages, checkpointed, next_header, next_part_header, other_log, tables_at_part, with_boot, with_definition, with_snapshot}
use Rattle.salt_stands.specs.Reading.{Reading}
use Rattle.salt_stands.specs.Stands.{found_with, stands_in}
use Rattle.salt_place.specs.declared.placement.Shape.{Shape}
use Rattle.std.proofs.Common.{Bool, List, Ok, Some, [], ap, arith, false, inl, inr, refl, subst, sym, true, ℕ, ◌+◌, ◌++◌, ◌<◌, ◌≡◌, ◌≢◌, ◌⊎◌, ◌∙◌, ◌∷◌}
use Rattle.std.proofs.lemmas.Bool.Decides.{Decides-eqb}
use Rattle.std.specs.Prelude.{if◌then◌else◌, ◌==◌}

module _ {D : Type 0} (r : Reading D) where
  coordinator_same : (old new : Logs) (which : WhichLog) (c : Coordinator D) → CoordinatorStands r old which c → CoordinatorSame old new → CoordinatorStands r new which c
  coordinator_same old new which c h same = record { counts = pair_same coordinator_generation coordinator_in 0 old new same.a same.b ∙ h.counts; is = h.is }

  -- the store stands for what is found
  pub stood_stands : (logs : Logs) (devices : ℕ → List ℕ) (asked : Shape) (which : WhichLog) (c : Coordinator D) (v : ℕ → PartView) → Stood r logs devices which c v → stands_in r logs devices asked ≡ Ok (found_of c v)
  stood_stands logs devices asked which c v h = stands_from r logs devices asked which c (each_tables c v) h.coordinator (λ p low. part_is_at r c logs devices p (v p) (h.part p low))

  -- WHAT CHANGES NOTHING: other logs that are made blank, and pages on sides that no header names
  pub keeps_standing : (old new : Logs) (before after : ℕ → List ℕ) (which : WhichLog) (c : Coordinator D) (v : ℕ → PartView)
      → Stood r old before which c v → CoordinatorSame old new ⊎ CoordinatorBlanked old new which
      → ((p : ℕ) → p < partition_count c → PartSame old new p ⊎ PartBlanked old new p (v p).which) → PagesSame c v before after
      → Stood r new after which c v
  keeps_standing old new before after which c v h coordinator parts pages = record { coordinator = own coordinator; part = λ p low. each p low (parts p low) }
    where
      own : CoordinatorSame old new ⊎ CoordinatorBlanked old new which → CoordinatorStands r new which c
      own (inl same) = coordinator_same old new which c h.coordinator same
      own (inr blanked) = other_blank_coordinator r old new which c h.coordinator blanked.other blanked.counting

      each : (p : ℕ) → p < partition_count c → PartSame old new p ⊎ PartBlanked old new p (v p).which → PartStands r c new after p (v p)
      each p low (inl same) = pages_elsewhere r c new before after p (v p) (part_same r c old new before p (v p) (h.part p low) same) (pages p low)
      each p low (inr blanked) = pages_elsewhere r c new before after p (v p) (other_blank r c old new before p (v p) (h.part p low) blanked.other blanked.counting) (pages p low)

  -- A BOOT
  pub boot_stood : (old new : Logs) (devices : ℕ → List ℕ) (which : WhichLog) (c : Coordinator D) (v : ℕ → PartView) (payload : List ℕ)
      → Stood r old devices which c v → HasOneMore old new (device_of 0 which) payload → IsSameAt (device_of 0 (other_log which)) old new
      → entry_in (partition_count c) payload ≡ Some (Boots (c.log.told.boot + 1)) → ((p : ℕ) → p < partition_count c → PartSame old new p)
      → Stood r new devices which (with_boot c) v
  boot_stood old new devices which c v payload h one other spells parts = record {
    coordinator = boot_stands r old new which c payload h.coordinator one other spells;
    part = λ p low. boot_part r c new devices p (v p) (part_same r c old new devices p (v p) (h.part p low) (parts p low));
  }

  pub boot_found : (c : Coordinator D) (v : ℕ → PartView) → found_of (with_boot c) v ≡ (let before = found_of c v in record before { kept = record before.kept { boot = before.kept.boot + 1 } })
  boot_found c v = refl

  -- A DEFINITION
  pub definition_stood : (old new : Logs) (devices : ℕ → List ℕ) (which : WhichLog) (c : Coordinator D) (v : ℕ → PartView) (payload : List ℕ) (t : NumberedText) (d : D)
      → Stood r old devices which c v → HasOneMore old new (device_of 0 which) payload → IsSameAt (device_of 0 (other_log which)) old new
      → entry_in (partition_count c) payload ≡ Some (Defines t) → t.number ≡ c.log.told.decisions + 1 → r.read t.text ≡ Some d → r.is_refused c.definitions d ≡ false → StaysFitting r c.definitions d
      → ((p : ℕ) → p < partition_count c → PartSame old new p)
      → Stood r new devices which (with_definition c t d) v
  definition_stood old new devices which c v payload t d h one other spells number text accepted grows parts = record {
    coordinator = definition_stands r old new which c payload t d h.coordinator one other spells number text accepted grows;
    part = λ p low. definition_part r c new devices p (v p) t d grows (part_same r c old new devices p (v p) (h.part p low) (parts p low));
  }

  pub definition_found : (c : Coordinator D) (v : ℕ → PartView) (t : NumberedText) (d : D) → found_of (with_definition c t d) v ≡ (let before = found_of c v in record before { kept = record before.kept { decisions = t.number; definitions = before.kept.definitions ++ d ∷ [] } })
  definition_found c v t d = refl

  -- A CHECKPOINT of partition p
  pub checkpoint_stood : (old new : Logs) (before after : ℕ → List ℕ) (which : WhichLog) (c : Coordinator D) (v : ℕ → PartView) (p : ℕ) (payload : List ℕ) (format : ℕ) (sides : List ℕ) (rows : List Change)
      → Stood r old before which c v → CoordinatorSame old new → p < partition_count c
      → IsCheckpointed r c (v p) p old new after payload format sides rows
      → ((q : ℕ) → q < partition_count c → q ≢ p → PartSame old new q × ReadsSamePages (v q) (before (pages_device q)) (after (pages_device q)))
      → Stood r new after which c (with_view p (checkpointed (v p) (next_part_header (v p) format sides) rows) v)
  checkpoint_stood old new before after which c v p payload format sides rows h same below done others = record {
    coordinator = coordinator_same old new which c h.coordinator same;
    part = λ q low. each q low (q == p) refl;
  }
    where
      now : PartView
      now = checkpointed (v p) (next_part_header (v p) format sides) rows

      own : PartStands r c new after p now
      own = checkpoint_stands r c old new before after p (v p) payload format sides rows (h.part p below) done.other done.counting done.spells done.own done.first done.fits done.reads

      each : (q : ℕ) → q < partition_count c → (b : Bool) → (q == p) ≡ b → PartStands r c new after q (if b then now else v q)
      each q low true e = subst (λ (k : ℕ). PartStands r c new after k now) (sym ((Decides-eqb q p).0 e)) own
      each q low false e =
          let other = others q low (λ s. apart ((Decides-eqb q p).1 s) e) in
          pages_elsewhere r c new before after q (v q) (part_same r c old new before q (v q) (h.part q low) other.0) other.1
        where
          apart : {b : Bool} → b ≡ true → b ≡ false → ⊥
          apart x y = cc

  pub checkpoint_found : (c : Coordinator D) (v : ℕ → PartView) (p : ℕ) (x : PartView) → tables_at_part c p x ≡ tables_at_part c p (v p) → found_of c (with_view p x v) ≡ found_of c v
  checkpoint_found c v p x e = ap (found_with c) (listed_same (each_tables c (with_view p x v)) (each_tables c v) 0 (partition_count c) (λ q low. by q (q == p) refl))
    where
      by : (q : ℕ) (b : Bool) → (q == p) ≡ b → tables_at_part c q (if b then x else v q) ≡ tables_at_part c q (v q)
      by q true s = subst (λ (k : ℕ). tables_at_part c k x ≡ tables_at_part c k (v k)) (sym ((Decides-eqb q p).0 s)) e
      by q false s = refl

  -- A SNAPSHOT, where no partition has a prepared unit
  pub snapshot_stood : (old new : Logs) (devices : ℕ → List ℕ) (which : WhichLog) (c : Coordinator D) (v : ℕ → PartView) (payload : List ℕ) (format : ℕ)
      → Stood r old devices which c v → IsSameAt (device_of 0 which) old new → new (device_of 0 (other_log which)) ≡ Some (payload ∷ [])
      → header_in payload ≡ Some (next_header c.log c.conts format)
      → ((p : ℕ) → p < partition_count c → PartSame old new p × ((v p).log.prepared ≡ []) × (is_format_under format (v p).log.header.format ≡ true))
      → Stood r new devices (other_log which) (with_snapshot c format) v
  snapshot_stood old new devices which c v payload format h counting other spells parts = record {
    coordinator = snapshot_stands r old new which c payload format h.coordinator other counting spells;
    part = λ p low. snapshot_part r c new devices p (v p) format (part_same r c old new devices p (v p) (h.part p low) (parts p low).0) (parts p low).1 (parts p low).2;
  }

  pub snapshot_found : (c : Coordinator D) (v : ℕ → PartView) (format : ℕ) → ((p : ℕ) → p < partition_count c → (v p).log.prepared ≡ [])
      → found_of (with_snapshot c format) v ≡ (let before = found_of c v in record before { format = format })
  snapshot_found c v format none =
      ap (λ ts. let before = found_with c ts in record before { format = format }) (listed_same (each_tables (with_snapshot c format) v) (each_tables c v) 0 (partition_count c) (λ p low. snapshot_tables r c p (v p) format (none p (omega (arith, low)))))
