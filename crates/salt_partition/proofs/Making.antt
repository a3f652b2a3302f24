-- Rows with one change more.
use Rattle.salt_partition.proofs.Entries.{insert-put, remove-where}
use Rattle.salt_model.specs.Tables.{Entry, Tables, changed_at, make_change, place_cmp, set_row, with_changes}
use Rattle.salt_values.specs.declared.change.Change.{Change}
use Rattle.salt_values.specs.declared.value.Value.{Value}
use Rattle.std.proofs.Common.{sym, ap, ◌∙◌}
use Rattle.std.specs.BTreeMap.{insert_entry, is_at}
use Rattle.std.specs.Map.{remove_entry}
use Rattle.std.specs.Prelude.{List, None, Some, [], refl, ◌++◌, ◌∷◌, ◌≡◌}

pub made-more : (cs : List Change) (c : Change) (es : Tables) → with_changes (cs ++ c ∷ []) es ≡ make_change c (with_changes cs es)
unfolding with_changes
made-more [] c es = refl
made-more (x ∷ cs) c es = made-more cs c (make_change x es)

pub row-put : (cs : List Change) (c : Change) (row : List Value) (es : Tables) (rows : List Entry) → c.row ≡ Some row → rows ≡ (with_changes cs es).list →
    insert_entry place_cmp rows (changed_at c) row ≡ (with_changes (cs ++ c ∷ []) es).list
row-put cs c row es rows is same =
    ap (λ l. insert_entry place_cmp l (changed_at c) row) same ∙ insert-put (changed_at c) row (with_changes cs es).list
    ∙ sym (ap (λ (t : Tables). t.list) (made-more cs c es ∙ ap (λ r. set_row (changed_at c) r (with_changes cs es)) is))

pub row-removed : (cs : List Change) (c : Change) (es : Tables) (rows : List Entry) → c.row ≡ None → rows ≡ (with_changes cs es).list →
    remove_entry (is_at (place_cmp (changed_at c))) rows ≡ (with_changes (cs ++ c ∷ []) es).list
row-removed cs c es rows is same =
    ap (remove_entry (is_at (place_cmp (changed_at c)))) same ∙ remove-where (changed_at c) (with_changes cs es).list (with_changes cs es).sorted
    ∙ sym (ap (λ (t : Tables). t.list) (made-more cs c es ∙ ap (λ r. set_row (changed_at c) r (with_changes cs es)) is))
