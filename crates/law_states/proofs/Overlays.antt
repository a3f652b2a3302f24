-- Tables under edits have the rows that `row_under` says, and tables with the same rows are the same.
use Rattle.law_states.specs.Overlays.{AreInOrder, AreRows, Edit, Views, edits_within, over, put_all, row_edited, rows_edited, tables_within, with_edits}
use Rattle.law_story.proofs.Places.{Agree, agree-rows, equal-is, place_same, row_at-set}
use Rattle.salt_model.specs.Tables.{Edits, Entry, Tables, is_within, place_cmp, place_total, put_change, put_changes, row_at, row_under, rows_in, set_row}
use Rattle.salt_model.specs.declared.locks.Reach.{Reach}
use Rattle.salt_model.specs.declared.places.Place.{Place}
use Rattle.salt_values.specs.declared.change.Change.{Change}
use Rattle.salt_values.specs.declared.value.Value.{Value}
use Rattle.std.proofs.Common.{ap, subst, sym, ◌∙◌}
use Rattle.std.specs.FinMap.Entries.{below_all, find, find-where_key, is_sorted, is_sorted-where_key, same_entries, where_key}
use Rattle.std.specs.Ordering.{is_eq, is_lt}
use Rattle.std.specs.Prelude.{Bool, List, None, Option, Some, [], cond, false, refl, true, ◌&&◌, ◌∷◌, ◌≡◌}
use Rattle.std.specs.declared.cmp.Ordering.{Ordering}
use Rattle.std.specs.declared.cmp.Ordering.TheVariants.{Equal, Greater, Less}
use lib.Dec.{T, T_prop}
use mathlib.Core.HLevel.{Σ_prop_path}

same-tables : (a b : Tables) → a.list ≡ b.list → a ≡ b
same-tables a b e =
    let pairs : ◌≡◌ {A = (es : List Entry) × T (is_sorted place_cmp es)} (a.list, a.sorted) (b.list, b.sorted) = Σ_prop_path (λ es. T_prop _) e in
    λ i. record { list = (pairs i).0; sorted = (pairs i).1 }

-- tables with the same rows are the same
pub tables-same : (a b : Tables) → ((q : Place) → row_at q a ≡ row_at q b) → a ≡ b
tables-same a b same = same-tables a b (same_entries place_cmp place_total place_same a.list b.list a.sorted b.sorted same)

second : (a b : Bool) → T (a && b) → T b
second true b p = p
second false b p = absurd p

first : (a b : Bool) → T (a && b) → T a
first true b p = tt
first false b p = absurd p

is-less : (o : Ordering) → T (is_lt o) → is_eq o ≡ false
is-less Less p = refl
is-less Equal p = absurd p
is-less Greater p = absurd p

below-none : (q : Place) (ds : List Edit) → T (below_all place_cmp q ds) → find place_cmp q ds ≡ None
below-none q [] h = refl
below-none q (d ∷ ds) h = rw (is-less (place_cmp q d.0) (first _ _ h)) (below-none q ds (second _ _ h))

pub edited-row : (ds : List Edit) (es : Tables) (q : Place) → T (is_sorted place_cmp ds) → row_at q (with_edits ds es) ≡ row_edited ds es q
edited-row [] es q h = refl
edited-row (d ∷ ds) es q h =
    edited-row ds (set_row d.0 d.1 es) q (second (below_all place_cmp d.0 ds) _ h)
    ∙ ap (over (find place_cmp q ds)) (row_at-set q d.0 d.1 es)
    ∙ by (is_eq (place_cmp q d.0)) refl
  where
    by : (b : Bool) → is_eq (place_cmp q d.0) ≡ b →
        over (find place_cmp q ds) (cond b d.1 (row_at q es)) ≡ over (cond b (Some d.1) (find place_cmp q ds)) (row_at q es)
    by true e =
        let s : q ≡ d.0 = place_same q d.0 (equal-is _ e) in
        let n : find place_cmp q ds ≡ None = subst (λ p. find place_cmp p ds ≡ None) (sym s) (below-none d.0 ds (first _ _ h)) in
        ap (λ x. over x d.1) n
    by false e = refl

-- the model's word for it
pub row-under : (ds : Edits) (es : Tables) (q : Place) → row_under ds es q ≡ row_edited ds.list es q
row-under ds es q = by (find place_cmp q ds.list)
  where
    by : (o : Option (Option (List Value))) → elim o [ None ↦ row_at q es | Some row ↦ row ] ≡ over o (row_at q es)
    by None = refl
    by (Some row) = refl

pub put-all : (cs : List Change) (ds : Edits) → (put_changes cs ds).list ≡ put_all cs ds.list
put-all [] ds = refl
put-all (c ∷ cs) ds = put-all cs (put_change c ds)

-- tables with exactly these rows are the tables with the edits made, in whatever way they came to be
pub is-edited : (ds : List Edit) (es now : Tables) → AreInOrder ds → ((q : Place) → row_at q now ≡ row_edited ds es q) → now ≡ with_edits ds es
is-edited ds es now h same = tables-same now (with_edits ds es) (λ q. same q ∙ sym (edited-row ds es q h))

-- a view gives the entries of its reach
pub view-rows : (o : Option Reach) (ds : List Edit) (es view : Tables) → AreInOrder ds → Views o ds es view →
    rows_in o view ≡ rows_in o (with_edits ds es)
view-rows None ds es view s h = refl
view-rows (Some r) ds es view s h = agree-rows r view (with_edits ds es) (λ q w. h q w ∙ sym (edited-row ds es q s))

pub listed-rows : (o : Option Reach) (ds : List Edit) (es : Tables) (rows : List Entry) → AreInOrder ds → AreRows o ds es rows →
    rows ≡ rows_in o (with_edits ds es)
listed-rows None ds es rows s h = h
listed-rows (Some r) ds es rows s h =
    same_entries place_cmp place_total place_same rows (where_key place_cmp (is_within r) (with_edits ds es).list) h.sorted (is_sorted-where_key place_cmp (is_within r) (with_edits ds es).list (with_edits ds es).sorted)
    (λ q. h.found q ∙ ap (λ x. cond (is_within r q) x None) (sym (edited-row ds es q s)) ∙ sym (find-where_key place_cmp (is_within r) q (λ x e. ap (is_within r) (sym (place_same q x e))) (with_edits ds es).list))

-- a store's rows of a reach, with the edits made in them, are a view
pub small-views : (r : Reach) (ds : List Edit) (es small : Tables) → AreInOrder ds → Agree r small es → Views (Some r) ds es (with_edits ds small)
small-views r ds es small s same q w = edited-row ds small q s ∙ ap (over (find place_cmp q ds)) (same q w)

find-within : {X : Type 0} (r : Reach) (q : Place) (es : List (Place × X)) →
    find place_cmp q (where_key place_cmp (is_within r) es) ≡ cond (is_within r q) (find place_cmp q es) None
find-within r q es = find-where_key place_cmp (is_within r) q (λ x e. ap (is_within r) (sym (place_same q x e))) es

-- a reach's rows alone, with its edits alone
pub rows-edited : (o : Option Reach) (ds : List Edit) (es : Tables) → AreInOrder ds → rows_in o (with_edits ds es) ≡ rows_edited o ds es
rows-edited None ds es h = refl
rows-edited (Some r) ds es h =
    same_entries place_cmp place_total place_same (where_key place_cmp (is_within r) (with_edits ds es).list) small.list
    (is_sorted-where_key place_cmp (is_within r) (with_edits ds es).list (with_edits ds es).sorted) small.sorted
    (λ q. find-within r q (with_edits ds es).list ∙ ap (λ x. cond (is_within r q) x None) (edited-row ds es q h) ∙ by (is_within r q) (find place_cmp q ds) (row_at q es)
    ∙ sym (edited-row (edits_within r ds) (tables_within r es) q (is_sorted-where_key place_cmp (is_within r) ds h) ∙ (λ i. over (find-within r q ds i) (find-within r q es.list i))))
  where
    small : Tables
    small = with_edits (edits_within r ds) (tables_within r es)

    by : (b : Bool) (d : Option (Option (List Value))) (x : Option (List Value)) → cond b (over d x) None ≡ over (cond b d None) (cond b x None)
    by true d x = refl
    by false d x = refl
