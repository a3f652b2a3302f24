-- One change of a store: a row is taken out, put again where it is to, and room is made.
use Rattle.salt_disk.specs.Disks.{View}
use Rattle.salt_disk.specs.declared.disks.DiskErr.{DiskErr}
use Rattle.salt_model.specs.Tables.{Tables, changed_at, make_change, put_row, remove_at, set_row}
use Rattle.salt_model.specs.declared.places.Place.{Place}
use Rattle.salt_rows.specs.Changing.{tables_left}
use Rattle.salt_rows.specs.Stores.{IsRowStore, IsStanding}
use Rattle.salt_rows.specs.declared.split.Way.TheVariants.{Done, Open}
use Rattle.salt_rows.specs.declared.split.Way.{Way}
use Rattle.salt_rows.specs.declared.store.RowStore.{RowStore}
use Rattle.salt_values.specs.declared.change.Change.{Change}
use Rattle.salt_values.specs.declared.value.Value.{Value}
use Rattle.std.proofs.Common.{List, None, OnOk, Option, Result, Some, ap, subst, sym, ℕ, ◌≡◌, ◌∙◌}

pub changed_tables : (c : Change) (q : Place) (row : Option (List Value)) (t : Tables) → q ≡ changed_at c → row ≡ c.row → set_row q row t ≡ make_change c t
changed_tables c q row t at is = λ i. set_row (at i) (is i) t

-- WHAT IS LEFT TO DO

module _ (d e1 : View) (x x1 : RowStore) (q : Place) (row : Option (List Value)) (way : Way) (stands : (dev : ℕ) (named : List ℕ) (t : Tables) → IsRowStore d x dev named t → IsRowStore e1 x1 dev named (tables_left way q row t)) where
  -- a new row may come
  pub opened : (beside : Option ℕ) → way ≡ Open beside → (dev : ℕ) (named : List ℕ) (t : Tables) → IsRowStore d x dev named t → IsRowStore e1 x1 dev named (remove_at q t)
  opened beside free dev named t is = subst (λ (w : Way). IsRowStore e1 x1 dev named (tables_left w q row t)) free (stands dev named t is)

  module _ (c : Change) (at : q ≡ changed_at c) (own : row ≡ c.row) where
    -- but none is to come
    pub none_comes : (beside : Option ℕ) → way ≡ Open beside → row ≡ None → (dev : ℕ) (named : List ℕ) (t : Tables) → IsRowStore d x dev named t → IsRowStore e1 x1 dev named (make_change c t)
    none_comes beside free none dev named t is =
        subst (IsRowStore e1 x1 dev named) (ap (λ (r : Option (List Value)). set_row q r t) (sym none) ∙ changed_tables c q row t at own) (opened beside free dev named t is)

    pub is_made : way ≡ Done → (dev : ℕ) (named : List ℕ) (t : Tables) → IsRowStore d x dev named t → IsRowStore e1 x1 dev named (make_change c t)
    is_made done dev named t is = subst (IsRowStore e1 x1 dev named) (changed_tables c q row t at own) (subst (λ (w : Way). IsRowStore e1 x1 dev named (tables_left w q row t)) done (stands dev named t is))

-- ROOM IS MADE behind a row that is put

pub rows_room : {T : Type 0} (d e2 e3 : View) (x x2 x3 : RowStore) (q : Place) (row : List Value) → ((dev : ℕ) (named : List ℕ) (t : Tables) → IsRowStore d x dev named t → IsStanding e2 x2 dev named (put_row q row t)) → (r : Result T DiskErr)
    → ((dev : ℕ) (named : List ℕ) (t : Tables) → IsStanding e2 x2 dev named t → OnOk r (IsRowStore e3 x3 dev named t)) → (c : Change) → q ≡ changed_at c → Some row ≡ c.row
    → (dev : ℕ) (named : List ℕ) (t : Tables) → IsRowStore d x dev named t → OnOk r (IsRowStore e3 x3 dev named (make_change c t))
rows_room d e2 e3 x x2 x3 q row stands r rows c at own dev named t is = subst (λ (u : Tables). OnOk r (IsRowStore e3 x3 dev named u)) (changed_tables c q (Some row) t at own) (rows dev named (put_row q row t) (stands dev named t is))
