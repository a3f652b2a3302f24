-- What a map of rows makes of one edit, and of edits one after another.
use Rattle.law_states.specs.Overlays.{Edit, put_all, with_edits}
use Rattle.salt_model.specs.Tables.{Entry, Tables, changed_at, is_other, place_cmp, place_total, set_row}
use Rattle.salt_model.specs.declared.places.Place.{Place}
use Rattle.salt_values.specs.declared.change.Change.{Change}
use Rattle.salt_values.specs.declared.value.Value.{Value}
use Rattle.std.proofs.Common.{ap, sym, ◌∙◌}
use Rattle.std.specs.BTreeMap.{insert_entry, is_at}
use Rattle.std.specs.FinMap.Entries.{below_all, by_order, is_sorted, put, where_key}
use Rattle.std.specs.Map.{remove_entry}
use Rattle.std.specs.Ordering.{is_eq, is_lt, match_ordering}
use Rattle.std.specs.Prelude.{Bool, List, None, Some, [], cond, false, not, refl, true, ◌&&◌, ◌++◌, ◌∷◌, ◌≡◌}
use Rattle.std.specs.declared.cmp.Ordering.{Ordering}
use Rattle.std.specs.declared.cmp.Ordering.TheVariants.{Equal, Greater, Less}
use lib.Dec.{T}

pub insert-put : {X : Type 0} (p : Place) (row : X) (es : List (Place × X)) → insert_entry place_cmp es p row ≡ put place_cmp p row es
insert-put p row [] = refl
insert-put p row (e ∷ es) = by (place_cmp p e.0) (insert-put p row es)
  where
    by : (r : Ordering) → insert_entry place_cmp es p row ≡ put place_cmp p row es →
        match_ordering r ((p, row) ∷ e ∷ es) ((e.0, row) ∷ es) (e ∷ insert_entry place_cmp es p row) ≡ by_order r ((p, row) ∷ e ∷ es) ((e.0, row) ∷ es) (e ∷ put place_cmp p row es)
    by Less same = refl
    by Equal same = refl
    by Greater same = ap (λ more. e ∷ more) same

second : (a b : Bool) → T (a && b) → T b
second true b p = p
second false b p = absurd p

first : (a b : Bool) → T (a && b) → T a
first true b p = tt
first false b p = absurd p

below-apart : (r : Ordering) → T (is_lt r) → is_eq r ≡ false
below-apart Less h = refl
below-apart Equal h = absurd h
below-apart Greater h = absurd h

-- entries above a place that ties with p are not at p
none-there : (p q : Place) → place_cmp p q ≡ Equal → (es : List Entry) → T (below_all place_cmp q es) → where_key place_cmp (is_other p) es ≡ es
none-there p q tie [] h = refl
none-there p q tie (e ∷ es) h =
    let rest = none-there p q tie es (second _ _ h) in
    let apart : is_eq (place_cmp p e.0) ≡ false = ap is_eq (place_total.congr p q e.0 tie) ∙ below-apart (place_cmp q e.0) (first _ _ h) in
    λ i. cond (not (apart i)) (e ∷ rest i) (rest i)

pub remove-where : (p : Place) (es : List Entry) → T (is_sorted place_cmp es) →
    remove_entry (is_at (place_cmp p)) es ≡ where_key place_cmp (is_other p) es
remove-where p [] h = refl
remove-where p (e ∷ es) h = by (place_cmp p e.0) refl (remove-where p es (second (below_all place_cmp e.0 es) _ h))
  where
    by : (r : Ordering) → place_cmp p e.0 ≡ r → remove_entry (is_at (place_cmp p)) es ≡ where_key place_cmp (is_other p) es →
        cond (is_eq r) es (e ∷ remove_entry (is_at (place_cmp p)) es) ≡ cond (not (is_eq r)) (e ∷ where_key place_cmp (is_other p) es) (where_key place_cmp (is_other p) es)
    by Equal tie more = sym (none-there p e.0 tie es (first _ _ h))
    by Less tie more = ap (λ xs. e ∷ xs) more
    by Greater tie more = ap (λ xs. e ∷ xs) more

pub one-more : (ds : List Edit) (d : Edit) (es : Tables) → with_edits (ds ++ d ∷ []) es ≡ set_row d.0 d.1 (with_edits ds es)
one-more [] d es = refl
one-more (x ∷ ds) d es = one-more ds d (set_row x.0 x.1 es)

pub row-put : (ds : List Edit) (p : Place) (row : List Value) (es : Tables) (rows : List Entry) → rows ≡ (with_edits ds es).list →
    insert_entry place_cmp rows p row ≡ (with_edits (ds ++ (p, Some row) ∷ []) es).list
row-put ds p row es rows same =
    ap (λ l. insert_entry place_cmp l p row) same ∙ insert-put p row (with_edits ds es).list
    ∙ sym (ap (λ (t : Tables). t.list) (one-more ds (p, Some row) es))

pub row-removed : (ds : List Edit) (p : Place) (es : Tables) (rows : List Entry) → rows ≡ (with_edits ds es).list →
    remove_entry (is_at (place_cmp p)) rows ≡ (with_edits (ds ++ (p, None) ∷ []) es).list
row-removed ds p es rows same =
    ap (remove_entry (is_at (place_cmp p))) same ∙ remove-where p (with_edits ds es).list (with_edits ds es).sorted
    ∙ sym (ap (λ (t : Tables). t.list) (one-more ds (p, None) es))

-- one change more, put on edits
pub one-put : (cs : List Change) (c : Change) (ds : List Edit) → put_all (cs ++ c ∷ []) ds ≡ put place_cmp (changed_at c) c.row (put_all cs ds)
one-put [] c ds = refl
one-put (x ∷ cs) c ds = one-put cs c (put place_cmp (changed_at x) x.row ds)

pub change-put : (cs : List Change) (c : Change) (ds edits : List Edit) → edits ≡ put_all cs ds →
    insert_entry place_cmp edits (changed_at c) c.row ≡ put_all (cs ++ c ∷ []) ds
change-put cs c ds edits same =
    ap (λ (l : List Edit). insert_entry place_cmp l (changed_at c) c.row) same ∙ insert-put (changed_at c) c.row (put_all cs ds)
    ∙ sym (one-put cs c ds)
