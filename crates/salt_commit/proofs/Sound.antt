-- The rows of a store that stands on disks that tell their bytes meet their tables.
use Rattle.salt_ast.specs.declared.trees.TableDef.{TableDef}
use Rattle.salt_bytes.specs.Generations.{WhichLog}
use Rattle.salt_commit.proofs.Standing.{part_at}
use Rattle.salt_commit.specs.Loads.{IsRowAt}
use Rattle.salt_commit.specs.Stores.{IsStore, decided_by, reading}
use Rattle.salt_commit.specs.declared.store.Store.{Store}
use Rattle.salt_stands.specs.Fitting.{is_row_of, tables_defined}
use Rattle.salt_disk.specs.Disks.{View}
use Rattle.salt_eval.specs.Meets.{meets_table}
use Rattle.salt_eval.specs.Scans.{IsKeyed}
use Rattle.salt_model.specs.Kept.{Definition}
use Rattle.salt_model.specs.Tables.{Tables, changed_at, make_change, no_rows, place, place_cmp, row_at, with_changes}
use Rattle.salt_model.specs.declared.places.Place.{Place}
use Rattle.salt_stands.proofs.Booleans.{left, right}
use Rattle.salt_paged.proofs.Keyed.{part_keyed}
use Rattle.salt_parts.proofs.Fit.{row_of}
use Rattle.salt_parts.proofs.Keyed.{joined_keyed}
use Rattle.salt_stands.proofs.PlacedParts.{decided_sound}
use Rattle.salt_stands.proofs.Places.{equal_is, or_row, place_same, row_at_entries, row_at_set}
use Rattle.salt_stands.proofs.Prepared.{sound_units}
use Rattle.salt_stands.specs.Commits.{each_tables, found_of, partition_count}
use Rattle.salt_stands.specs.Coordinator.{Coordinator}
use Rattle.salt_stands.specs.Partition.{decided_changes, is_sound_change, is_sound_to, part_of_key}
use Rattle.salt_stands.specs.Pieces.{PartView, listed}
use Rattle.salt_stands.specs.Reading.{Reading}
use Rattle.salt_stands.specs.Tables.{joined}
use Rattle.salt_values.specs.declared.change.Change.{Change}
use Rattle.salt_values.specs.declared.value.Value.{Value}
use Rattle.std.proofs.Common.{Bool, IsTrue, List, None, Option, Some, [], ap, arith, false, refl, subst, sym, true, ℕ, ◌+◌, ◌++◌, ◌<◌, ◌≡◌, ◌∙◌, ◌∷◌}
use Rattle.std.proofs.lemmas.List.Folds.{list_all-append}
use Rattle.std.specs.List.{list_all}
use Rattle.std.specs.Ordering.{is_eq}
use Rattle.std.specs.Prelude.{IfSome, cond, nat_lt, slice_get, suc, zero, ◌&&◌, ◌==◌}
use Rattle.salt_values.specs.Value.{key_of}

-- THE ROWS of a store have their keys
pub store_keyed : {D : Type 0} (r : Reading D) (d : View) (x : Store) (which : WhichLog) (c : Coordinator D) (v : ℕ → PartView) → IsStore r d x which c v → IsKeyed (found_of c v).kept.tables
store_keyed r d x which c v is = joined_keyed (each_tables c v) 0 (partition_count c) each
  where
    each : (k : ℕ) → k < 0 + partition_count c → IsKeyed (each_tables c v k)
    each k low =
        let one = part_at d x.parts v (decided_by c) is.parts k (omega (arith, low, is.size)) in
        part_keyed d one.0 k (v k) (decided_by c k) one.1

-- A ROW THAT MEETS its table is one of it
pub is_row_at : (schema : List TableDef) (table : ℕ) (row : List Value) → meets_table schema table row ≡ true → is_row_of (slice_get schema table) row ≡ true
is_row_at schema table row meets = row_of (slice_get schema table) row ∙ meets

-- each row fits the table of its place
abbrev pub AreFit : {D : Type 0} → Reading D → Coordinator D → Tables → Type 0
AreFit r c t = (q : Place) (row : List Value) → row_at q t ≡ Some row → r.fits_row c.definitions q.table row ≡ true

module _ {D : Type 0} (r : Reading D) (c : Coordinator D) (p : ℕ) where
  changes_are_fit : (cs : List Change) (t : Tables) → list_all (is_sound_change r c p) cs ≡ true → AreFit r c t → AreFit r c (with_changes cs t)
  unfolding with_changes
  changes_are_fit [] t sound fit = fit
  changes_are_fit (ch ∷ cs) t sound fit = changes_are_fit cs (make_change ch t) (right (is_sound_change r c p ch) (list_all (is_sound_change r c p) cs) sound) made
    where
      to : (row : Option (List Value)) → is_sound_to r c p (changed_at ch) row ≡ true → (found : List Value) → row ≡ Some found → r.fits_row c.definitions ch.table found ≡ true
      to None s found e = cc
      to (Some x) s found e = subst (λ y. r.fits_row c.definitions ch.table y ≡ true) same (left (r.fits_row c.definitions ch.table x) (part_of_key c.log.header.shape ch.key == p) s)
        where
          same : x ≡ found
          same = cc

      here : is_sound_to r c p (changed_at ch) ch.row ≡ true
      here = right (nat_lt ch.table (r.count_tables c.definitions)) (is_sound_to r c p (changed_at ch) ch.row) (left (is_sound_change r c p ch) (list_all (is_sound_change r c p) cs) sound)

      made : AreFit r c (make_change ch t)
      made q row is = one (is_eq (place_cmp q (changed_at ch))) refl (sym (row_at_set q (changed_at ch) ch.row t) ∙ is)
        where
          one : (b : Bool) → is_eq (place_cmp q (changed_at ch)) ≡ b → cond b ch.row (row_at q t) ≡ Some row → r.fits_row c.definitions q.table row ≡ true
          one true f g = ap (λ (x : Place). r.fits_row c.definitions x.table row) (place_same q (changed_at ch) (equal_is _ f)) ∙ to ch.row here row g
          one false f g = fit q row g

joined_are_fit : {D : Type 0} (r : Reading D) (c : Coordinator D) (T : ℕ → Tables) (p n : ℕ) → ((k : ℕ) → k < p + n → AreFit r c (T k)) → AreFit r c (joined (listed T p n))
unfolding joined
joined_are_fit r c T p zero h q row e = cc
joined_are_fit r c T p (suc n) h q row e = by (row_at q (T p)) refl (joined_are_fit r c T (suc p) n (λ k low. h k (omega (arith, low))) q row) (sym (row_at_entries q (T p).list (joined (listed T (suc p) n))) ∙ e)
  where
    by : (o : Option (List Value)) → row_at q (T p) ≡ o → (row_at q (joined (listed T (suc p) n)) ≡ Some row → r.fits_row c.definitions q.table row ≡ true) → or_row o (row_at q (joined (listed T (suc p) n))) ≡ Some row → r.fits_row c.definitions q.table row ≡ true
    by None is more found = more found
    by (Some x) is more found = h p (omega arith) q row (is ∙ found)

-- the tables of a partition
part_is_fit : {D : Type 0} (r : Reading D) (d : View) (x : Store) (which : WhichLog) (c : Coordinator D) (v : ℕ → PartView) → IsStore r d x which c v → IsTrue d.told → (k : ℕ) → k < partition_count c → AreFit r c (each_tables c v k)
part_is_fit r d x which c v is told k low =
    let units = decided_changes (decided_by c k) (v k).log.prepared in
    changes_are_fit r c k ((v k).rows ++ units) no_rows
    (list_all-append (is_sound_change r c k) (v k).rows units ∙ ap (λ b. b && list_all (is_sound_change r c k) units) ((is.sound told).rows k low)
    ∙ decided_sound r c k (decided_by c k) (v k).log.prepared (sound_units r c k (v k).log ((is.sound told).part k low)))
    no_row
  where
    no_row : AreFit r c no_rows
    no_row q row e = cc

store_is_fit : {D : Type 0} (r : Reading D) (d : View) (x : Store) (which : WhichLog) (c : Coordinator D) (v : ℕ → PartView) → IsStore r d x which c v → IsTrue d.told → AreFit r c (found_of c v).kept.tables
store_is_fit r d x which c v is told = joined_are_fit r c (each_tables c v) 0 (partition_count c) (λ k low. part_is_fit r d x which c v is told k (omega (arith, low)))

-- each row fits its table, and stands at the place of its key
pub store_fits : (d : View) (x : Store) (which : WhichLog) (c : Coordinator Definition) (v : ℕ → PartView) → IsStore reading d x which c v → IsTrue d.told → (schema : List TableDef) → schema ≡ tables_defined c.definitions
    → (q : Place) (row : List Value) → row_at q (found_of c v).kept.tables ≡ Some row → IsRowAt schema q row
store_fits d x which c v is told schema same q row found = (
  ap (λ (ts : List TableDef). is_row_of (slice_get ts q.table) row) same ∙ store_is_fit reading d x which c v is told q row found,
  sym (subst (λ o. IfSome o (λ row. key_of row ≡ q.key)) found (store_keyed reading d x which c v is q)),
)
