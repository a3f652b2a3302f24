-- A partition under a coordinator with one more boot or definition.
use Rattle.salt_model.specs.Tables.{changed_at}
use Rattle.salt_values.specs.declared.change.Change.{Change}
use Rattle.salt_values.specs.declared.value.Value.{Value}
use Rattle.salt_bytes.specs.Coordinator.{NumberedText}
use Rattle.salt_bytes.specs.Formats.{has_nulls}
use Rattle.salt_bytes.specs.Page.{TableRow}
use Rattle.salt_bytes.specs.Partition.{Prepared}
use Rattle.salt_stands.proofs.Booleans.{all_weaker, join, left, right}
use Rattle.salt_stands.proofs.Coordinators.{at_most_later}
use Rattle.salt_stands.proofs.Prepared.{sound_format, sound_log, sound_there, sound_units}
use Rattle.salt_stands.specs.Coordinator.{Coordinator, Logs}
use Rattle.salt_stands.specs.Partition.{are_distinct, are_sound_rows, is_sound_change, is_sound_prepared, is_sound_to, pages_device, part_of_key, rows_from, rows_of_pages}
use Rattle.salt_stands.specs.PartitionLog.{PartitionLog}
use Rattle.salt_stands.specs.Pieces.{StaysFitting, PartStands, PartView, with_boot, with_definition}
use Rattle.salt_stands.specs.Reading.{Reading}
use Rattle.salt_stands.specs.Tables.{change_of_row}
use Rattle.std.proofs.Common.{Bool, List, None, Option, Some, [], ap, arith, false, refl, true, ℕ, ◌+◌, ◌++◌, ◌≡◌, ◌≤◌, ◌∙◌, ◌∷◌}
use Rattle.std.proofs.lemmas.Bool.Decides.{nat_tests}
use Rattle.std.specs.List.{list_all}
use Rattle.std.specs.Prelude.{map, nat_le, nat_lt, ◌==◌, option_and_then}
use Rattle.std.specs.Bool.{then_some}

below_later : (a b c : ℕ) → b ≤ c → nat_lt a b ≡ true → nat_lt a c ≡ true
below_later a b c h e = grind (arith, nat_tests)

module _ {D : Type 0} (r : Reading D) where
  -- where each row that is sound under one coordinator is so under another of the same shape, the same rows stand on the pages
  rows_again : (c d : Coordinator D) (p : ℕ) (log : PartitionLog) (bytes : List ℕ) (rows : List Change)
      → ((ch : Change) → is_sound_change r c p ch ≡ true → is_sound_change r d p ch ≡ true)
      → rows_of_pages r c p log bytes ≡ Some rows → rows_of_pages r d p log bytes ≡ Some rows
  rows_again c d p log bytes rows more e = by (rows_from (has_nulls log.header.format) bytes 0 log.header.sides) e
    where
      chosen : (a b : Bool) (x : List Change) → (a ≡ true → b ≡ true) → then_some a x ≡ Some rows → then_some b x ≡ Some rows
      chosen true b x h e = ap (λ v. then_some v x) (h refl) ∙ e
      chosen false b x h e = cc

      by : (o : Option (List TableRow)) → option_and_then (λ rs. then_some (are_sound_rows r c p (map change_of_row rs)) (map change_of_row rs)) o ≡ Some rows → option_and_then (λ rs. then_some (are_sound_rows r d p (map change_of_row rs)) (map change_of_row rs)) o ≡ Some rows
      by None e = cc
      by (Some rs) e =
          let cs = map change_of_row rs in
          chosen (are_sound_rows r c p cs) (are_sound_rows r d p cs) cs (λ h. join (list_all (is_sound_change r d p) cs) (are_distinct cs)
          (all_weaker (is_sound_change r c p) (is_sound_change r d p) more cs (left (list_all (is_sound_change r c p) cs) (are_distinct cs) h))
          (right (list_all (is_sound_change r c p) cs) (are_distinct cs) h)) e

  pub boot_part : (c : Coordinator D) (logs : Logs) (devices : ℕ → List ℕ) (p : ℕ) (v : PartView) → PartStands r c logs devices p v → PartStands r (with_boot c) logs devices p v
  boot_part c logs devices p v h = record {
    counts = h.counts;
    sound = sound_log r (with_boot c) p v.log (sound_format r c p v.log h.sound) (sound_there r c p v.log h.sound)
        (all_weaker (is_sound_prepared r c p) (is_sound_prepared r (with_boot c) p) unit v.log.prepared (sound_units r c p v.log h.sound));
    rows = h.rows;
  }
    where
      unit : (x : Prepared) → is_sound_prepared r c p x ≡ true → is_sound_prepared r (with_boot c) p x ≡ true
      unit x e = join (nat_le x.unit.boot (c.log.told.boot + 1)) (list_all (is_sound_change r c p) x.changes)
          (at_most_later x.unit.boot c.log.told.boot (c.log.told.boot + 1) (omega arith) (left (nat_le x.unit.boot c.log.told.boot) (list_all (is_sound_change r c p) x.changes) e))
          (right (nat_le x.unit.boot c.log.told.boot) (list_all (is_sound_change r c p) x.changes) e)

  pub definition_part : (c : Coordinator D) (logs : Logs) (devices : ℕ → List ℕ) (p : ℕ) (v : PartView) (t : NumberedText) (d : D) → StaysFitting r c.definitions d → PartStands r c logs devices p v → PartStands r (with_definition c t d) logs devices p v
  definition_part c logs devices p v t d grows h = record {
    counts = h.counts;
    sound = sound_log r (with_definition c t d) p v.log (sound_format r c p v.log h.sound) (sound_there r c p v.log h.sound)
        (all_weaker (is_sound_prepared r c p) (is_sound_prepared r (with_definition c t d) p) unit v.log.prepared (sound_units r c p v.log h.sound));
    rows = rows_again c (with_definition c t d) p v.log (devices (pages_device p)) v.rows change h.rows;
  }
    where
      to : (ch : Change) (row : Option (List Value)) → nat_lt ch.table (r.count_tables c.definitions) ≡ true → is_sound_to r c p (changed_at ch) row ≡ true → is_sound_to r (with_definition c t d) p (changed_at ch) row ≡ true
      to ch None few e = grows.key ch.table ch.key few e
      to ch (Some row) few e = join (r.fits_row (c.definitions ++ d ∷ []) ch.table row) (part_of_key c.log.header.shape (ch.key) == p)
          (grows.row ch.table row few (left (r.fits_row c.definitions ch.table row) (part_of_key c.log.header.shape (ch.key) == p) e))
          (right (r.fits_row c.definitions ch.table row) (part_of_key c.log.header.shape (ch.key) == p) e)

      change : (ch : Change) → is_sound_change r c p ch ≡ true → is_sound_change r (with_definition c t d) p ch ≡ true
      change ch e =
          let few = left (nat_lt ch.table (r.count_tables c.definitions)) (is_sound_to r c p (changed_at ch) ch.row) e in
          join (nat_lt ch.table (r.count_tables (c.definitions ++ d ∷ []))) (is_sound_to r (with_definition c t d) p (changed_at ch) ch.row)
          (below_later ch.table (r.count_tables c.definitions) (r.count_tables (c.definitions ++ d ∷ [])) grows.tables few)
          (to ch ch.row few (right (nat_lt ch.table (r.count_tables c.definitions)) (is_sound_to r c p (changed_at ch) ch.row) e))

      unit : (x : Prepared) → is_sound_prepared r c p x ≡ true → is_sound_prepared r (with_definition c t d) p x ≡ true
      unit x e = join (nat_le x.unit.boot c.log.told.boot) (list_all (is_sound_change r (with_definition c t d) p) x.changes)
          (left (nat_le x.unit.boot c.log.told.boot) (list_all (is_sound_change r c p) x.changes) e)
          (all_weaker (is_sound_change r c p) (is_sound_change r (with_definition c t d) p) change x.changes (right (nat_le x.unit.boot c.log.told.boot) (list_all (is_sound_change r c p) x.changes) e))
