-- Tables: a finite map from places to rows, as the list of its entries in order of table and key.
use Rattle.salt_model.specs.declared.locks.Reach.{Reach}
use Rattle.salt_model.specs.declared.places.Place.{Place}
use Rattle.salt_ranges.specs.Ranges.{has_key}
use Rattle.salt_values.specs.Value.{value_cmp, value_total}
use Rattle.salt_values.specs.declared.change.Change.{Change}
use Rattle.salt_values.specs.declared.value.Value.{Value}
use Rattle.std.specs.Cmp.{IsTotalOrder, nat_cmp_total, on_total, then_total}
use Rattle.std.specs.FinMap.Entries.{find, is_sorted, is_sorted-put, is_sorted-where_key, put, where_key}
use Rattle.std.specs.Ordering.{is_eq, nat_cmp, on, then_cmp}
use Rattle.std.specs.Prelude.{Bool, List, None, Option, Some, [], not, ℕ, ◌&&◌, ◌==◌, ◌∷◌}
use Rattle.std.specs.declared.cmp.Ordering.{Ordering}
use lib.Dec.{T}

abbrev pub place_cmp : Place → Place → Ordering
place_cmp = then_cmp (on (λ (p : Place). p.table) nat_cmp) (on (λ (p : Place). p.key) value_cmp)

pub place_total : IsTotalOrder place_cmp
place_total = then_total (on_total (λ (p : Place). p.table) nat_cmp_total) (on_total (λ (p : Place). p.key) value_total)

abbrev pub place : ℕ → Value → Place
place t k = record { table = t; key = k }

abbrev pub Entry : Type 0
Entry = Place × List Value

pub record Tables : Type 0 where
  pub list : List Entry
  pub sorted : T (is_sorted place_cmp list)

abbrev pub no_rows : Tables
no_rows = record { list = []; sorted = tt }

-- the row at a place
abbrev pub row_at : Place → Tables → Option (List Value)
row_at p es = find place_cmp p es.list

abbrev pub put_row : Place → List Value → Tables → Tables
put_row p row es = record { list = put place_cmp p row es.list; sorted = is_sorted-put place_cmp place_total p row es.list es.sorted }

abbrev pub is_other : Place → Place → Bool
is_other p q = not (is_eq (place_cmp p q))

abbrev pub remove_at : Place → Tables → Tables
remove_at p es = record { list = where_key place_cmp (is_other p) es.list; sorted = is_sorted-where_key place_cmp (is_other p) es.list es.sorted }

abbrev pub is_within : Reach → Place → Bool
is_within r p = (r.table == p.table) && has_key r.range p.key

-- the entries in a reach, in order
abbrev pub rows_in : Option Reach → Tables → List Entry
rows_in None es = []
rows_in (Some r) es = where_key place_cmp (is_within r) es.list

abbrev pub changed_at : Change → Place
changed_at c = place c.table c.key

abbrev pub set_row : Place → Option (List Value) → Tables → Tables
set_row p None es = remove_at p es
set_row p (Some row) es = put_row p row es

abbrev pub make_change : Change → Tables → Tables
make_change c es = set_row (changed_at c) c.row es

-- the tables with changes made, in order
unfoldable pub with_changes : List Change → Tables → Tables
with_changes [] es = es
with_changes (c ∷ cs) es = with_changes cs (make_change c es)

-- what changes make of tables: at each place that they change a row, or its removal
pub record Edits : Type 0 where
  pub list : List (Place × Option (List Value))
  pub sorted : T (is_sorted place_cmp list)

abbrev pub put_change : Change → Edits → Edits
put_change c ds = record {
  list = put place_cmp (changed_at c) c.row ds.list;
  sorted = is_sorted-put place_cmp place_total (changed_at c) c.row ds.list ds.sorted;
}

abbrev pub put_changes : List Change → Edits → Edits
put_changes [] ds = ds
put_changes (c ∷ cs) ds = put_changes cs (put_change c ds)

-- the row at a place under edits of tables
abbrev pub row_under : Edits → Tables → Place → Option (List Value)
row_under ds es p = elim (find place_cmp p ds.list) [ None ↦ row_at p es | Some row ↦ row ]
