-- Places, and what changes make of the row at one.
use Rattle.salt_model.specs.Tables.{Entry, Tables, is_other, place_cmp, place_total, row_at, set_row}
use Rattle.salt_model.specs.declared.places.Place.{Place}
use Rattle.salt_values.specs.Value.{value_cmp}
use Rattle.salt_values.specs.declared.value.Value.{Value}
use Rattle.salt_values.specs.declared.value.Value.TheVariants.{Int, Null, Text}
use Rattle.salt_stands.specs.Tables.{put_entries}
use Rattle.std.proofs.Common.{Bool, List, None, Option, Some, [], ap, false, refl, sym, true, ◌≡◌, ◌∙◌, ◌∷◌}
use Rattle.std.proofs.lemmas.Cmp.{alike_right, eq_by_cmp_equiv}
use Rattle.std.specs.FinMap.Entries.{find, find-put, find-where_key, is_sorted, same_entries}
use Rattle.std.specs.FinMap.{int_cmp-IsAntisymmetric, nat_cmp-IsAntisymmetric, slice_cmp-IsAntisymmetric}
use Rattle.std.specs.Ordering.{int_cmp, is_eq, nat_cmp, ordering_then}
use Rattle.std.specs.Prelude.{cond, not}
use Rattle.std.specs.declared.cmp.Ordering.TheVariants.{Equal, Greater, Less}
use Rattle.std.specs.declared.cmp.Ordering.{Ordering}
use lib.Dec.{T, T_prop}
use mathlib.Core.HLevel.{Σ_prop_path}

then_first : (a b : Ordering) → ordering_then a b ≡ Equal → a ≡ Equal
then_first Less b e = e
then_first Equal b e = refl
then_first Greater b e = e

then_second : (a b : Ordering) → ordering_then a b ≡ Equal → b ≡ Equal
then_second Less b e = cc
then_second Equal b e = e
then_second Greater b e = cc

value_same : (v w : Value) → value_cmp v w ≡ Equal → v ≡ w
value_same (Int x) (Int y) e = ap Value.Int (int_cmp-IsAntisymmetric x y (then_first (int_cmp x y) Equal e))
value_same (Text s) (Text t) e = ap Value.Text (slice_cmp-IsAntisymmetric nat_cmp-IsAntisymmetric s t e)
value_same Null Null e = refl
value_same (Int x) (Text t) e = cc
value_same (Int x) Null e = cc
value_same (Text s) (Int y) e = cc
value_same (Text s) Null e = cc
value_same Null (Int y) e = cc
value_same Null (Text t) e = cc

pub place_same : (p q : Place) → place_cmp p q ≡ Equal → p ≡ q
place_same p q e = λ i. record {
  table = nat_cmp-IsAntisymmetric p.table q.table (then_first (nat_cmp p.table q.table) _ e) i;
  key = value_same p.key q.key (then_second (nat_cmp p.table q.table) _ e) i;
}

pub equal_is : (o : Ordering) → is_eq o ≡ true → o ≡ Equal
equal_is Less e = cc
equal_is Equal e = refl
equal_is Greater e = cc

-- the row at a place, after one place is set
pub row_at_set : (q p : Place) (row : Option (List Value)) (es : Tables) → row_at q (set_row p row es) ≡ cond (is_eq (place_cmp q p)) row (row_at q es)
row_at_set q p (Some row) es = find-put place_cmp place_total q p row es.list
row_at_set q p None es =
    find-where_key place_cmp (is_other p) q (λ x e. ap (λ o. not (is_eq o)) (sym (alike_right place_total q x p e))) es.list
    ∙ turned (is_eq (place_cmp p q)) (row_at q es)
    ∙ ap (λ b. cond b None (row_at q es)) ((eq_by_cmp_equiv place_total).symm p q)
  where
    turned : (b : Bool) (x : Option (List Value)) → cond (not b) x None ≡ cond b None x
    turned true x = refl
    turned false x = refl

-- x, else y
abbrev pub or_row : Option (List Value) → Option (List Value) → Option (List Value)
or_row None y = y
or_row (Some row) y = Some row

pub row_at_entries : (q : Place) (es : List Entry) (t : Tables) → row_at q (put_entries es t) ≡ or_row (find place_cmp q es) (row_at q t)
row_at_entries q [] t = refl
row_at_entries q (e ∷ es) t = find-put place_cmp place_total q e.0 e.1 (put_entries es t).list ∙ by (is_eq (place_cmp q e.0)) (row_at_entries q es t)
  where
    by : (b : Bool) → row_at q (put_entries es t) ≡ or_row (find place_cmp q es) (row_at q t) → cond b (Some e.1) (row_at q (put_entries es t)) ≡ or_row (cond b (Some e.1) (find place_cmp q es)) (row_at q t)
    by true h = refl
    by false h = h

-- tables are the same where they have the same row at each place
pub same_tables : (s t : Tables) → ((q : Place) → row_at q s ≡ row_at q t) → s ≡ t
same_tables s t h =
    let e : s.list ≡ t.list = same_entries place_cmp place_total place_same s.list t.list s.sorted t.sorted h in
    let pairs : ◌≡◌ {A = (es : List Entry) × T (is_sorted place_cmp es)} (s.list, s.sorted) (t.list, t.sorted) = Σ_prop_path (λ es. T_prop _) e in
    λ i. record { list = (pairs i).0; sorted = (pairs i).1 }
