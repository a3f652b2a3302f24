-- During a commit each image stands for what stood before, or with the unit; after it, with the unit.
use Rattle.salt_bytes.specs.declared.moves.Move.{Move}
use Rattle.salt_model.specs.Tables.{Tables, with_changes}
use Rattle.salt_values.specs.declared.change.Change.{Change}
use Rattle.salt_values.specs.declared.cont.Cont.{Cont}
use Rattle.salt_bytes.specs.Coordinator.{Decision}
use Rattle.salt_bytes.specs.Generations.{WhichLog}
use Rattle.salt_stands.proofs.Assembled.{part_is_at, stands_from}
use Rattle.salt_stands.proofs.Coordinators.{decision_stands}
use Rattle.salt_stands.proofs.Decided.{prepared_last}
use Rattle.salt_stands.proofs.Generations.{pages_elsewhere}
use Rattle.salt_stands.proofs.Joined.{joined_changes}
use Rattle.salt_stands.proofs.Pairs.{pair_same}
use Rattle.salt_stands.proofs.PlacedParts.{placed_part}
use Rattle.salt_stands.proofs.Prepared.{decided_stands, decided_tables, prepared_stands, prepared_tables, undecided_stands, undecided_tables}
use Rattle.salt_stands.specs.Commits.{IsDecided, IsUndecided, MayCommit, PagesSame, PartMore, PartSame, Spelled, Stood, each_tables, found_after, found_of, partition_count, share, view_after}
use Rattle.salt_stands.specs.Coordinator.{Coordinator, Logs}
use Rattle.salt_stands.specs.CoordinatorLog.{coordinator_generation, coordinator_in}
use Rattle.salt_stands.specs.Partition.{part_at, part_device}
use Rattle.salt_stands.specs.PartitionLog.{partition_generation, partition_in}
use Rattle.salt_stands.specs.Pieces.{CoordinatorStands, PartStands, PartView, listed, tables_at_part, with_decision, with_prepared_unit}
use Rattle.salt_stands.specs.Placed.{changes_at}
use Rattle.salt_stands.specs.Reading.{Reading}
use Rattle.salt_stands.specs.Stands.{stands_in}
use Rattle.salt_stands.specs.Tables.{joined}
use Rattle.salt_stands.specs.Words.{has_bit}
use Rattle.salt_place.specs.declared.placement.Shape.{Shape}
use Rattle.std.proofs.Common.{Bool, List, Ok, [], ap, arith, false, inl, inr, refl, suc, sym, true, zero, ℕ, ◌+◌, ◌<◌, ◌≡◌, ◌⊎◌, ◌∙◌, ◌∷◌}
use Rattle.std.specs.Prelude.{if◌then◌else◌}

pub listed_same : {A : Type 0} (f g : ℕ → A) (p n : ℕ) → ((k : ℕ) → k < p + n → f k ≡ g k) → listed f p n ≡ listed g p n
listed_same f g p zero h = refl
listed_same f g p (suc n) h = λ i. h p (omega arith) i ∷ listed_same f g (suc p) n (λ k low. h k (omega (arith, low))) i

no_changes : (t : Tables) → with_changes [] t ≡ t
unfolding with_changes
no_changes t = refl

module _ {D : Type 0} (r : Reading D) where
  -- a partition whose logs are the same stands as before
  pub part_same : (c : Coordinator D) (old new : Logs) (devices : ℕ → List ℕ) (p : ℕ) (v : PartView) → PartStands r c old devices p v → PartSame old new p → PartStands r c new devices p v
  part_same c old new devices p v h same = record { counts = pair_same partition_generation (partition_in p) (part_device p) old new same.a same.b ∙ h.counts; sound = h.sound; rows = h.rows }

  module _ (c : Coordinator D) (v : ℕ → PartView) (which : WhichLog) (cs : List Change) (d : Decision) (m : Move) (open' : List Cont) (decision : List ℕ) (prepared : ℕ → List ℕ)
      (may : MayCommit r c v cs d m open') (spelled : Spelled c v cs d decision prepared) (old new : Logs) (before after : ℕ → List ℕ) (h : Stood r old before which c v) (pages : PagesSame c v before after) where
    with_entry : (p : ℕ) → p < partition_count c → PartMore old new p (v p).which (prepared p) → PartStands r c new after p (with_prepared_unit (v p) (share c d.unit cs p))
    with_entry p low more = pages_elsewhere r c new before after p (with_prepared_unit (v p) (share c d.unit cs p))
        (prepared_stands r c old new before p (v p) (prepared p) (share c d.unit cs p) (h.part p low) more.more more.other (spelled.part p low) (may.sound p low)) (pages p low)

    without_entry : (p : ℕ) → p < partition_count c → PartSame old new p → PartStands r c new after p (v p)
    without_entry p low same = pages_elsewhere r c new before after p (v p) (part_same c old new before p (v p) (h.part p low) same) (pages p low)

    -- UNDECIDED: what stood before
    pub undecided : (asked : Shape) → IsUndecided c v old new prepared → stands_in r new after asked ≡ Ok (found_of c v)
    undecided asked u = stands_from r new after asked which c (each_tables c v) coordinator part
      where
        coordinator : CoordinatorStands r new which c
        coordinator = record { counts = pair_same coordinator_generation coordinator_in 0 old new u.a u.b ∙ h.coordinator.counts; is = h.coordinator.is }

        each : (p : ℕ) → p < partition_count c → PartSame old new p ⊎ PartMore old new p (v p).which (prepared p) → part_at r c new after p ≡ Ok (each_tables c v p)
        each p low (inl same) = part_is_at r c new after p (v p) (without_entry p low same)
        each p low (inr more) = part_is_at r c new after p (with_prepared_unit (v p) (share c d.unit cs p)) (with_entry p low more) ∙ ap Ok (prepared_tables r c p (v p) (share c d.unit cs p) (may.new p low))

        part : (p : ℕ) → p < partition_count c → part_at r c new after p ≡ Ok (each_tables c v p)
        part p low = each p low (u.part p low)

    -- DECIDED: the store stands with the unit
    pub decided : IsDecided c v which old new d.mask decision prepared → Stood r new after which (with_decision c d open') (view_after c v cs d)
    decided x = record {
      coordinator = decision_stands r old new which c decision d m open' h.coordinator x.more x.other spelled.coordinator may.number may.boot may.spells may.moves may.named;
      part = λ p low. each p low (has_bit d.mask p) refl;
    }
      where
        each : (p : ℕ) → p < partition_count c → (b : Bool) → has_bit d.mask p ≡ b → PartStands r (with_decision c d open') new after p (if b then with_prepared_unit (v p) (share c d.unit cs p) else v p)
        each p low true bit = decided_stands r c new after p (with_prepared_unit (v p) (share c d.unit cs p)) d open' (with_entry p low (x.with_bit p low bit)) bit (prepared_last (v p).log.prepared (share c d.unit cs p))
        each p low false bit = undecided_stands r c new after p (v p) d open' (without_entry p low (x.without p low bit)) bit

    -- each partition's tables with the unit's changes of its places
    tables_with : (p : ℕ) → p < partition_count c → each_tables (with_decision c d open') (view_after c v cs d) p ≡ with_changes (changes_at c.log.header.shape p cs) (each_tables c v p)
    tables_with p low = by (has_bit d.mask p) refl
      where
        by : (b : Bool) → has_bit d.mask p ≡ b → tables_at_part (with_decision c d open') p (if b then with_prepared_unit (v p) (share c d.unit cs p) else v p) ≡ with_changes (changes_at c.log.header.shape p cs) (each_tables c v p)
        by true bit = decided_tables r c p (v p) (share c d.unit cs p) d open' bit refl (may.fresh p low) (may.new p low)
        by false bit = undecided_tables r c p (v p) d open' bit ∙ sym (ap (λ ds. with_changes ds (each_tables c v p)) (may.bits p low bit) ∙ no_changes (each_tables c v p))

    -- and all stand for what stood before with the unit
    pub found_decided : found_of (with_decision c d open') (view_after c v cs d) ≡ found_after c v cs d open'
    found_decided =
        let shape = c.log.header.shape in
        let U : ℕ → Tables = each_tables (with_decision c d open') (view_after c v cs d) in
        let all : joined (listed U 0 (partition_count c)) ≡ with_changes cs (joined (listed (each_tables c v) 0 (partition_count c))) =
        ap joined (listed_same U (λ p. with_changes (changes_at shape p cs) (each_tables c v p)) 0 (partition_count c) (λ p low. tables_with p (omega (arith, low))))
        ∙ joined_changes shape (each_tables c v) (partition_count c) cs (λ p low. placed_part r c old before p (v p) (h.part p low)) may.below in
        λ i. record (found_of c v) { kept = record (found_of c v).kept { decisions = may.number i; tables = all i; conts = open' } }

    pub decided_stands_for : (asked : Shape) → IsDecided c v which old new d.mask decision prepared → stands_in r new after asked ≡ Ok (found_after c v cs d open')
    decided_stands_for asked x =
        let now = decided x in
        stands_from r new after asked which (with_decision c d open') (each_tables (with_decision c d open') (view_after c v cs d)) now.coordinator (λ p low. part_is_at r (with_decision c d open') new after p (view_after c v cs d p) (now.part p low))
        ∙ ap Ok found_decided
