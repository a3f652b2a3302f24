-- Generations of a store.
use Rattle.law_generations.specs.AsIf.{IsAsIf, IsAsIfIn, in_format}
use Rattle.salt_bytes.specs.Partition.{PartitionHeader}
use Rattle.salt_model.specs.Tables.{no_rows, with_changes}
use Rattle.salt_stands.proofs.Generations.{checkpoint_tables}
use Rattle.salt_stands.proofs.Stores.{checkpoint_found, snapshot_found}
use Rattle.salt_stands.specs.Commits.{found_of, partition_count, with_view}
use Rattle.salt_stands.specs.Coordinator.{Coordinator}
use Rattle.salt_stands.specs.Pieces.{PartView, checkpointed, is_prepared_in, tables_at_part, with_snapshot}
use Rattle.salt_stands.specs.Reading.{Reading}
use Rattle.salt_values.specs.declared.change.Change.{Change}
use Rattle.salt_values.specs.declared.id.Id.{Id}
use Rattle.std.proofs.Common.{Bool, List, [], ap, false, refl, sym, true, ℕ, ◌<◌, ◌≡◌, ◌∙◌}
use Rattle.std.specs.Prelude.{if◌then◌else◌, ◌==◌}

pub as_if_same : {D : Type 0} (c : Coordinator D) (v : ℕ → PartView) → IsAsIf c v c v
as_if_same c v = record { found = refl; parts = refl; names = λ u new. new }

pub as_if_on : {D : Type 0} (c c1 c2 : Coordinator D) (v v1 v2 : ℕ → PartView) → IsAsIf c v c1 v1 → IsAsIf c1 v1 c2 v2 → IsAsIf c v c2 v2
as_if_on c c1 c2 v v1 v2 first second = record { found = second.found ∙ first.found; parts = second.parts ∙ first.parts; names = λ u new. second.names u (first.names u new) }

-- a partition that has its tables without a prepared unit
pub emptied_as_if : {D : Type 0} (r : Reading D) (c : Coordinator D) (v : ℕ → PartView) (p : ℕ) (x : PartView) → x.log.prepared ≡ [] → tables_at_part c p x ≡ tables_at_part c p (v p) → IsAsIf c v c (with_view p x v)
emptied_as_if r c v p x none same = record {
  found = checkpoint_found r c v p x same;
  parts = refl;
  names = λ u new. record { fresh = λ q low. by u (q == p) q (new.fresh q low); new = new.new };
}
  where
    by : (u : Id) (b : Bool) (q : ℕ) → is_prepared_in u (v q).log.prepared ≡ false → is_prepared_in u (if b then x else v q).log.prepared ≡ false
    by u true q fresh = ap (is_prepared_in u) none
    by u false q fresh = fresh

pub checkpoint_as_if : {D : Type 0} (r : Reading D) (c : Coordinator D) (v : ℕ → PartView) (p : ℕ) (h : PartitionHeader) (rows : List Change) → with_changes rows no_rows ≡ tables_at_part c p (v p)
    → IsAsIf c v c (with_view p (checkpointed (v p) h rows) v)
checkpoint_as_if r c v p h rows same = emptied_as_if r c v p (checkpointed (v p) h rows) refl (checkpoint_tables r c p (v p) h rows same)

-- IN ANOTHER FORMAT

pub as_if_in_on : {D : Type 0} (format : ℕ) (c c1 c2 : Coordinator D) (v v1 v2 : ℕ → PartView) → IsAsIf c v c1 v1 → IsAsIfIn format c1 v1 c2 v2 → IsAsIfIn format c v c2 v2
as_if_in_on format c c1 c2 v v1 v2 first second =
    record { found = second.found ∙ ap (in_format format) first.found; parts = second.parts ∙ first.parts; names = λ u new. second.names u (first.names u new) }

-- in the format that it has it is the same
pub as_if_in_own : {D : Type 0} (format : ℕ) (c c1 : Coordinator D) (v v1 : ℕ → PartView) → c.log.header.format ≡ format → IsAsIfIn format c v c1 v1 → IsAsIf c v c1 v1
as_if_in_own format c c1 v v1 own is = record { found = is.found ∙ ap (λ (k : ℕ). in_format k (found_of c v)) (sym own); parts = is.parts; names = is.names }

pub as_if_in_same : {D : Type 0} (format : ℕ) (c c1 : Coordinator D) (v v1 : ℕ → PartView) → c.log.header.format ≡ format → IsAsIf c v c1 v1 → IsAsIfIn format c v c1 v1
as_if_in_same format c c1 v v1 own is = record { found = is.found ∙ ap (λ (k : ℕ). in_format k (found_of c v)) own; parts = is.parts; names = is.names }

pub snapshot_as_if_in : {D : Type 0} (r : Reading D) (c : Coordinator D) (v : ℕ → PartView) (format : ℕ) → ((p : ℕ) → p < partition_count c → (v p).log.prepared ≡ []) → IsAsIfIn format c v (with_snapshot c format) v
snapshot_as_if_in r c v format none = record { found = snapshot_found r c v format none; parts = refl; names = λ u new. record { fresh = new.fresh; new = λ p low. refl } }

pub snapshot_as_if : {D : Type 0} (r : Reading D) (c : Coordinator D) (v : ℕ → PartView) → ((p : ℕ) → p < partition_count c → (v p).log.prepared ≡ []) → IsAsIf c v (with_snapshot c c.log.header.format) v
snapshot_as_if r c v none = as_if_in_own c.log.header.format c (with_snapshot c c.log.header.format) v v refl (snapshot_as_if_in r c v c.log.header.format none)
