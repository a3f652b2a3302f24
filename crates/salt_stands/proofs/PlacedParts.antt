-- Each row of a partition that stands is of that partition.
use Rattle.salt_model.specs.Tables.{Tables, changed_at, make_change, no_rows, place_cmp, row_at, with_changes}
use Rattle.salt_values.specs.Id.{has_id}
use Rattle.salt_model.specs.declared.places.Place.{Place}
use Rattle.salt_values.specs.declared.change.Change.{Change}
use Rattle.salt_values.specs.declared.value.Value.{Value}
use Rattle.salt_bytes.specs.Formats.{has_nulls}
use Rattle.salt_bytes.specs.Page.{TableRow}
use Rattle.salt_bytes.specs.Partition.{Prepared}
use Rattle.salt_stands.proofs.Booleans.{left, right}
use Rattle.salt_stands.proofs.Places.{equal_is, place_same, row_at_set}
use Rattle.salt_stands.proofs.Prepared.{sound_units}
use Rattle.salt_stands.specs.Coordinator.{Coordinator, Logs, decided_for}
use Rattle.salt_stands.specs.Partition.{are_distinct, are_sound_rows, changes_if, decided_changes, is_sound_change, is_sound_prepared, is_sound_to, pages_device, part_of_key, rows_from, rows_of_pages}
use Rattle.salt_stands.specs.PartitionLog.{PartitionLog}
use Rattle.salt_stands.specs.Pieces.{PartStands, PartView, tables_at_part}
use Rattle.salt_stands.specs.Placed.{IsPlaced}
use Rattle.salt_stands.specs.Reading.{Reading}
use Rattle.salt_stands.specs.Tables.{change_of_row}
use Rattle.salt_values.specs.declared.id.Id.{Id}
use Rattle.std.proofs.Common.{Bool, List, None, Option, Some, [], ap, false, refl, sym, true, ℕ, ◌++◌, ◌≡◌, ◌∙◌, ◌∷◌}
use Rattle.std.proofs.lemmas.Bool.Decides.{Decides-eqb}
use Rattle.std.proofs.lemmas.List.Folds.{list_all-append}
use Rattle.std.specs.List.{list_all}
use Rattle.std.specs.Ordering.{is_eq}
use Rattle.std.specs.Prelude.{cond, map, nat_le, nat_lt, ◌&&◌, ◌==◌, option_and_then}
use Rattle.std.specs.Bool.{then_some}

module _ {D : Type 0} (r : Reading D) (c : Coordinator D) (p : ℕ) where
  sound_placed : (cs : List Change) (t : Tables) → list_all (is_sound_change r c p) cs ≡ true → IsPlaced c.log.header.shape p t → IsPlaced c.log.header.shape p (with_changes cs t)
  unfolding with_changes
  sound_placed [] t sound placed = placed
  sound_placed (ch ∷ cs) t sound placed = sound_placed cs (make_change ch t) (right (is_sound_change r c p ch) (list_all (is_sound_change r c p) cs) sound) made
    where
      to : (row : Option (List Value)) → is_sound_to r c p (changed_at ch) row ≡ true → (found : List Value) → row ≡ Some found → part_of_key c.log.header.shape ch.key ≡ p
      to None s found e = cc
      to (Some x) s found e = (Decides-eqb (part_of_key c.log.header.shape ch.key) p).0 (right (r.fits_row c.definitions ch.table x) (part_of_key c.log.header.shape ch.key == p) s)

      here : is_sound_to r c p (changed_at ch) ch.row ≡ true
      here = right (nat_lt ch.table (r.count_tables c.definitions)) (is_sound_to r c p (changed_at ch) ch.row) (left (is_sound_change r c p ch) (list_all (is_sound_change r c p) cs) sound)

      made : IsPlaced c.log.header.shape p (make_change ch t)
      made q row is = one (is_eq (place_cmp q (changed_at ch))) refl (sym (row_at_set q (changed_at ch) ch.row t) ∙ is)
        where
          one : (b : Bool) → is_eq (place_cmp q (changed_at ch)) ≡ b → cond b ch.row (row_at q t) ≡ Some row → part_of_key c.log.header.shape q.key ≡ p
          one true f g = ap (λ (x : Place). part_of_key c.log.header.shape x.key) (place_same q (changed_at ch) (equal_is _ f)) ∙ to ch.row here row g
          one false f g = placed q row g

  pub decided_sound : (us : List Id) (ps : List Prepared) → list_all (is_sound_prepared r c p) ps ≡ true → list_all (is_sound_change r c p) (decided_changes us ps) ≡ true
  decided_sound us [] e = refl
  decided_sound us (x ∷ ps) e =
      list_all-append (is_sound_change r c p) (changes_if (has_id x.unit us) x.changes) (decided_changes us ps)
      ∙ ap (λ b. b && list_all (is_sound_change r c p) (decided_changes us ps)) (own (has_id x.unit us)) ∙ decided_sound us ps (right (is_sound_prepared r c p x) (list_all (is_sound_prepared r c p) ps) e)
    where
      own : (b : Bool) → list_all (is_sound_change r c p) (changes_if b x.changes) ≡ true
      own true = right (nat_le x.unit.boot c.log.told.boot) (list_all (is_sound_change r c p) x.changes) (left (is_sound_prepared r c p x) (list_all (is_sound_prepared r c p) ps) e)
      own false = refl

  pub rows_sound : (log : PartitionLog) (bytes : List ℕ) (rows : List Change) → rows_of_pages r c p log bytes ≡ Some rows → list_all (is_sound_change r c p) rows ≡ true
  rows_sound log bytes rows e = by (rows_from (has_nulls log.header.format) bytes 0 log.header.sides) e
    where
      chosen : (xs : List Change) (b : Bool) → are_sound_rows r c p xs ≡ b → then_some b xs ≡ Some rows → list_all (is_sound_change r c p) rows ≡ true
      chosen xs false s e = cc
      chosen xs true s e = ap (list_all (is_sound_change r c p)) (sym same) ∙ left (list_all (is_sound_change r c p) xs) (are_distinct xs) s
        where
          same : xs ≡ rows
          same = cc

      by : (o : Option (List TableRow)) → option_and_then (λ rs. then_some (are_sound_rows r c p (map change_of_row rs)) (map change_of_row rs)) o ≡ Some rows → list_all (is_sound_change r c p) rows ≡ true
      by None e = cc
      by (Some rs) e = chosen (map change_of_row rs) (are_sound_rows r c p (map change_of_row rs)) refl e

pub placed_part : {D : Type 0} (r : Reading D) (c : Coordinator D) (logs : Logs) (devices : ℕ → List ℕ) (p : ℕ) (v : PartView) → PartStands r c logs devices p v → IsPlaced c.log.header.shape p (tables_at_part c p v)
placed_part r c logs devices p v h =
    let us = decided_for p c.log.told.decided in
    sound_placed r c p (v.rows ++ decided_changes us v.log.prepared) no_rows
    (list_all-append (is_sound_change r c p) v.rows (decided_changes us v.log.prepared)
    ∙ ap (λ b. b && list_all (is_sound_change r c p) (decided_changes us v.log.prepared)) (rows_sound r c p v.log (devices (pages_device p)) v.rows h.rows)
    ∙ decided_sound r c p us v.log.prepared (sound_units r c p v.log h.sound))
    (λ q row e. none q row e)
  where
    none : (q : Place) (row : List Value) → None ≡ Some row → part_of_key c.log.header.shape q.key ≡ p
    none q row e = cc
