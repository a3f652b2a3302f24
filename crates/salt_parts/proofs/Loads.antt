-- The rows of a range are loaded from one partition after another.
use Rattle.salt_directory.proofs.Loading.{with_none, with_twice}
use Rattle.salt_directory.specs.Loading.{HasLoaded, part_of}
use Rattle.salt_disk.proofs.CallAfterCall.{cause_none, cause_on, keeps_on}
use Rattle.salt_disk.specs.Disks.{HasCause, KeepsAll, View}
use Rattle.salt_loaded.specs.Rows.{RowsOf, are_apart, tables_in, with_rows}
use Rattle.salt_model.specs.Tables.{Tables}
use Rattle.salt_paged.specs.Partitions.{ArePartitions, IsPartition}
use Rattle.salt_paged.specs.declared.partition.Partition.{Partition}
use Rattle.salt_parts.proofs.Passed.{one_there, put_back}
use Rattle.salt_parts.specs.Loading.{HaveAllLoaded, all_of}
use Rattle.salt_ranges.specs.declared.range.KeyRange.{KeyRange}
use Rattle.salt_rows.proofs.Applied.{keeps_same}
use Rattle.salt_stands.specs.Partition.{part_tables}
use Rattle.salt_stands.specs.Pieces.{PartView}
use Rattle.salt_values.specs.declared.id.Id.{Id}
use Rattle.salt_values.specs.declared.value.Value.{Value}
use Rattle.std.proofs.Common.{IsTrue, List, None, [], ap, arith, cond, get_or, inl, inr, length, refl, slice_set, subst, suc, sym, true, zero, ℕ, ◌+◌, ◌++◌, ◌<◌, ◌==◌, ◌≡◌, ◌≢◌, ◌⊎◌, ◌∙◌}
use Rattle.std.proofs.lemmas.Bool.{cases_eq, eq-eqb, ne_eqb}
use Rattle.std.proofs.lemmas.List.{length-set}

-- ONE PARTITION MORE

module _ (more : ℕ → List (List Value)) (n : ℕ) (last : List (List Value)) where
  abbrev and_last : ℕ → List (List Value)
  and_last p = cond (p == n) last (more p)

  at_last : and_last n ≡ last
  at_last = ap (λ b. cond b last (more n)) (eq-eqb n n refl)

  before : (p : ℕ) → p ≢ n → and_last p ≡ more p
  before p other = ap (λ b. cond b last (more p)) (ne_eqb p n other)

  same_before : (m : ℕ) → m < n + 1 → all_of and_last m ≡ all_of more m
  same_before zero low = refl
  same_before (suc m) low = λ i. same_before m (omega (arith, low)) i ++ before m (λ same. omega (arith, low, same)) i

one_more : (range : KeyRange) (T : ℕ → Tables) (n : ℕ) (start now new : RowsOf) → HaveAllLoaded range T n start now → HasLoaded range (T n) now new → HaveAllLoaded range T (suc n) start new
one_more range T n start now new so one = record {
  more = and_last so.more n one.more;
  came = one.came ∙ ap (with_rows one.more) so.came ∙ with_twice (all_of so.more n) one.more start
      ∙ ap (λ l. with_rows l start) (λ i. sym (same_before so.more n one.more n (omega arith)) i ++ sym (at_last so.more n one.more) i);
  each = λ p low. at p low (cases_eq p n);
}
  where
    at : (p : ℕ) → p < suc n → (p ≡ n) ⊎ (p ≢ n) → (are_apart (and_last so.more n one.more p) ≡ true) × (tables_in start.table (and_last so.more n one.more p) ≡ part_of start.table range (T p))
    at p low (inl here) = subst (λ k. (are_apart (and_last so.more n one.more k) ≡ true) × (tables_in start.table (and_last so.more n one.more k) ≡ part_of start.table range (T k))) (sym here)
        (subst (λ l. (are_apart l ≡ true) × (tables_in start.table l ≡ part_of start.table range (T n))) (sym (at_last so.more n one.more))
        (one.apart, subst (λ t. tables_in t one.more ≡ part_of t range (T n)) (ap (λ (r : RowsOf). r.table) so.came) one.rows))
    at p low (inr other) = subst (λ l. (are_apart l ≡ true) × (tables_in start.table l ≡ part_of start.table range (T p))) (sym (before so.more n one.more p other)) (so.each p (omega (arith, low, other)))

-- HOW FAR

abbrev pub tables_at : (ℕ → PartView) → (ℕ → List Id) → ℕ → Tables
tables_at v applied p = part_tables (applied p) (v p).log (v p).rows

pub record LoadedSoFar (d0 d : View) (parts0 parts : List Partition) (range : KeyRange) (start now : RowsOf) (n : ℕ) : Type 0 where
  pub size : length parts ≡ length parts0
  pub are : (v : ℕ → PartView) (applied : ℕ → List Id) → ArePartitions d0 parts0 v applied → ArePartitions d parts v applied
  pub keeps : KeepsAll d0 d None
  pub cause : HasCause d0 d None
  pub loaded : (v : ℕ → PartView) (applied : ℕ → List Id) → ArePartitions d0 parts0 v applied → IsTrue d0.told → HaveAllLoaded range (tables_at v applied) n start now

pub none_loaded : (d : View) (parts : List Partition) (range : KeyRange) (start : RowsOf) → LoadedSoFar d d parts parts range start start 0
none_loaded d parts range start = record {
  size = refl;
  are = λ v applied h. h;
  keeps = keeps_same (λ _. ⊥) d;
  cause = cause_none d;
  loaded = λ v applied h told. record { more = λ p. []; came = sym (with_none start); each = λ p low. absurd (omega (arith, low)) };
}

module _ (d0 d : View) (parts0 parts : List Partition) (range : KeyRange) (start now : RowsOf) (n : ℕ) (so : LoadedSoFar d0 d parts0 parts range start now n) (x : Partition) (within : n < length parts) (read : x ≡ get_or parts n x) where
  pub this_one : (v : ℕ → PartView) (applied : ℕ → List Id) → ArePartitions d0 parts0 v applied → IsPartition d x n (v n) (applied n)
  this_one v applied h = one_there d parts n x within read v applied (so.are v applied h)

  pub one_loaded : (e : View) (x' : Partition) (new : RowsOf) → KeepsAll d e None → HasCause d e None
      → ((p : ℕ) (v : PartView) (applied : List Id) → IsPartition d x p v applied → IsPartition e x' p v applied)
      → ((p : ℕ) (v : PartView) (applied : List Id) → IsPartition d x p v applied → IsTrue d.told → HasLoaded range (part_tables applied v.log v.rows) now new)
      → LoadedSoFar d0 e parts0 (slice_set parts n x') range start new (n + 1)
  one_loaded e x' new keeps cause stands came = record {
    size = length-set parts n x' ∙ so.size;
    are = λ v applied h. put_back d parts n within v applied (so.are v applied h) e x' None keeps (stands n (v n) (applied n) (this_one v applied h));
    keeps = keeps_on (λ _. ⊥) d0 d e None so.keeps keeps;
    cause = cause_on d0 d e None so.cause cause;
    loaded = λ v applied h told. subst (λ k. HaveAllLoaded range (tables_at v applied) k start new) one_on
        (one_more range (tables_at v applied) n start now new (so.loaded v applied h told) (came n (v n) (applied n) (this_one v applied h) (so.keeps.shape.told ∙ told)));
  }
    where
      one_on : suc n ≡ n + 1
      one_on = omega arith
