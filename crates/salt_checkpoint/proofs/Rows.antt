-- The tables that rows of pages make: by the row at each place, whatever their order and their pages.
use Rattle.salt_checkpoint.specs.Rows.{after, found_row, is_row_at}
use Rattle.salt_bytes.specs.Page.{TableRow}
use Rattle.salt_model.specs.Tables.{changed_at, make_change, no_rows, place_cmp, row_at, set_row, with_changes}
use Rattle.salt_model.specs.declared.places.Place.{Place}
use Rattle.salt_stands.proofs.Booleans.{left, right}
use Rattle.salt_stands.proofs.Places.{equal_is, place_same, row_at_set, same_tables}
use Rattle.salt_stands.specs.Partition.{are_distinct, is_at_other}
use Rattle.salt_stands.specs.Tables.{change_of_row}
use Rattle.salt_values.specs.declared.change.Change.{Change}
use Rattle.salt_values.specs.declared.value.Value.{Value}
use Rattle.std.proofs.Common.{Bool, List, None, Option, Some, [], ap, false, refl, subst, sym, true, ◌≡◌, ◌∙◌, ◌∷◌}
use Rattle.std.specs.List.{list_all}
use Rattle.std.specs.Ordering.{is_eq}
use Rattle.std.specs.Prelude.{cond, map, not}
use Rattle.salt_model.specs.Tables.{Tables}

pub with_after : (q : Place) (cs : List Change) (t : Tables) → row_at q (with_changes cs t) ≡ after q cs (row_at q t)
unfolding with_changes
with_after q [] t = refl
with_after q (c ∷ cs) t = with_after q cs (make_change c t) ∙ ap (after q cs) (row_at_set q (changed_at c) c.row t)

away_after : (q : Place) (cs : List Change) (row : Option (List Value)) → list_all (is_at_other q) cs ≡ true → after q cs row ≡ row
away_after q [] row away = refl
away_after q (c ∷ cs) row away =
    ap (λ b. after q cs (cond b c.row row)) (by (is_eq (place_cmp q (changed_at c))) (left (is_at_other q c) (list_all (is_at_other q) cs) away))
    ∙ away_after q cs row (right (is_at_other q c) (list_all (is_at_other q) cs) away)
  where
    by : (b : Bool) → not b ≡ true → b ≡ false
    by true h = cc
    by false h = refl

-- where no key stands twice
found_after : (q : Place) (rs : List TableRow) → are_distinct (map change_of_row rs) ≡ true → after q (map change_of_row rs) None ≡ found_row q rs
found_after q [] apart = refl
found_after q (r ∷ rs) apart = by (found_after q rs (right (list_all (is_at_other (changed_at (change_of_row r))) (map change_of_row rs)) (are_distinct (map change_of_row rs)) apart)) (is_row_at q r) refl
  where
    alone : list_all (is_at_other (changed_at (change_of_row r))) (map change_of_row rs) ≡ true
    alone = left (list_all (is_at_other (changed_at (change_of_row r))) (map change_of_row rs)) (are_distinct (map change_of_row rs)) apart

    by : after q (map change_of_row rs) None ≡ found_row q rs → (b : Bool) → is_row_at q r ≡ b → after q (map change_of_row rs) (cond b (Some r.row) None) ≡ cond b (Some r.row) (found_row q rs)
    by below true same = away_after q (map change_of_row rs) (Some r.row) (subst (λ p. list_all (is_at_other p) (map change_of_row rs) ≡ true) (sym (place_same q (changed_at (change_of_row r)) (equal_is (place_cmp q (changed_at (change_of_row r))) same))) alone)
    by below false other = below

pub row_found : (q : Place) (rs : List TableRow) → are_distinct (map change_of_row rs) ≡ true → row_at q (with_changes (map change_of_row rs) no_rows) ≡ found_row q rs
row_found q rs apart = with_after q (map change_of_row rs) no_rows ∙ found_after q rs apart

-- rows that are found alike make the same tables
pub found_alike : (rs ss : List TableRow) → are_distinct (map change_of_row rs) ≡ true → are_distinct (map change_of_row ss) ≡ true → ((q : Place) → found_row q rs ≡ found_row q ss)
    → with_changes (map change_of_row rs) no_rows ≡ with_changes (map change_of_row ss) no_rows
found_alike rs ss one two alike = same_tables (with_changes (map change_of_row rs) no_rows) (with_changes (map change_of_row ss) no_rows) (λ q. row_found q rs one ∙ alike q ∙ sym (row_found q ss two))

-- and those that are found with one place changed make them with that change
pub found_changed : (rs ss : List TableRow) (p : Place) (row : Option (List Value)) → are_distinct (map change_of_row rs) ≡ true → are_distinct (map change_of_row ss) ≡ true
    → ((q : Place) → found_row q ss ≡ cond (is_eq (place_cmp q p)) row (found_row q rs)) → with_changes (map change_of_row ss) no_rows ≡ set_row p row (with_changes (map change_of_row rs) no_rows)
found_changed rs ss p row one two changed =
    let t = with_changes (map change_of_row rs) no_rows in
    same_tables (with_changes (map change_of_row ss) no_rows) (set_row p row t)
    (λ q. row_found q ss two ∙ changed q ∙ ap (λ found. cond (is_eq (place_cmp q p)) row found) (sym (row_found q rs one)) ∙ sym (row_at_set q p row t))
