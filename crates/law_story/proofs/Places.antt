-- Places and reaches: changes outside a reach leave the rows in it, and rows in a reach tell all that is in it.
use Rattle.salt_ast.specs.declared.trees.ColType.TheVariants.{Int, Text}
use Rattle.salt_model.specs.Locks.{is_read, touches}
use Rattle.salt_model.specs.Tables.{Tables, changed_at, is_other, is_within, make_change, place, place_cmp, place_total, row_at, rows_in, set_row, with_changes}
use Rattle.salt_model.specs.Words.{Every}
use Rattle.salt_model.specs.declared.locks.Mode.TheVariants.{Write}
use Rattle.salt_model.specs.declared.locks.Mode.{Mode}
use Rattle.salt_model.specs.declared.locks.Reach.{Reach}
use Rattle.salt_model.specs.declared.places.Place.{Place}
use Rattle.salt_ranges.specs.Ranges.{ends_meet, has_key, is_above_low, is_below_high, meets, one_key}
use Rattle.salt_ranges.specs.declared.range.KeyRange.{KeyRange}
use Rattle.salt_values.specs.Value.{value_cmp, value_total}
use Rattle.salt_values.specs.declared.change.Change.{Change}
use Rattle.salt_values.specs.declared.value.Value.TheVariants.{Int, Null, Text}
use Rattle.salt_values.specs.declared.value.Value.{Value}
use Rattle.std.proofs.Common.{ap, sym, ◌∙◌}
use Rattle.std.proofs.lemmas.Bool.{eq-eqb, eqb-true}
use Rattle.std.proofs.lemmas.Cmp.{alike_right, eq_by_cmp_equiv, tied_itself, upto}
use Rattle.std.specs.FinMap.Entries.{find, find-put, find-where_key, is_sorted-where_key, same_entries, where_key}
use Rattle.std.specs.FinMap.{int_cmp-IsAntisymmetric, nat_cmp-IsAntisymmetric, slice_cmp-IsAntisymmetric}
use Rattle.std.specs.Ordering.{int_cmp, is_eq, is_gt, nat_cmp, ordering_then}
use Rattle.std.specs.Prelude.{Bool, List, None, Option, Some, [], cond, false, not, refl, true, ℕ, ◌&&◌, ◌==◌, ◌∷◌, ◌≡◌}
use Rattle.std.specs.declared.cmp.Ordering.TheVariants.{Equal, Greater, Less}
use Rattle.std.specs.declared.cmp.Ordering.{Ordering}

then_first : (a b : Ordering) → ordering_then a b ≡ Equal → a ≡ Equal
then_first Less b e = e
then_first Equal b e = refl
then_first Greater b e = e

then_second : (a b : Ordering) → ordering_then a b ≡ Equal → b ≡ Equal
then_second Less b e = cc
then_second Equal b e = e
then_second Greater b e = cc

value_same : (v w : Value) → value_cmp v w ≡ Equal → v ≡ w
value_same (Int x) (Int y) e = ap Value.Int (int_cmp-IsAntisymmetric x y (then_first (int_cmp x y) Equal e))
value_same (Text s) (Text t) e = ap Value.Text (slice_cmp-IsAntisymmetric nat_cmp-IsAntisymmetric s t e)
value_same Null Null e = refl
value_same (Int x) (Text t) e = cc
value_same (Int x) Null e = cc
value_same (Text s) (Int y) e = cc
value_same (Text s) Null e = cc
value_same Null (Int y) e = cc
value_same Null (Text t) e = cc

pub place_same : (p q : Place) → place_cmp p q ≡ Equal → p ≡ q
place_same p q e = λ i. record {
  table = nat_cmp-IsAntisymmetric p.table q.table (then_first (nat_cmp p.table q.table) _ e) i;
  key = value_same p.key q.key (then_second (nat_cmp p.table q.table) _ e) i;
}

pub equal-is : (o : Ordering) → is_eq o ≡ true → o ≡ Equal
equal-is Less e = cc
equal-is Equal e = refl
equal-is Greater e = cc

-- the row at a place, after one place is set
pub row_at-set : (q p : Place) (row : Option (List Value)) (es : Tables) → row_at q (set_row p row es) ≡ cond (is_eq (place_cmp q p)) row (row_at q es)
row_at-set q p (Some row) es = find-put place_cmp place_total q p row es.list
row_at-set q p None es =
    find-where_key place_cmp (is_other p) q (λ x e. ap (λ o. not (is_eq o)) (sym (alike_right place_total q x p e))) es.list
    ∙ turned (is_eq (place_cmp p q)) (row_at q es)
    ∙ ap (λ b. cond b None (row_at q es)) ((eq_by_cmp_equiv place_total).symm p q)
  where
    turned : (b : Bool) (x : Option (List Value)) → cond (not b) x None ≡ cond b None x
    turned true x = refl
    turned false x = refl

-- two tables have the same rows in a reach
abbrev pub Agree : Reach → Tables → Tables → Type 0
Agree r a b = (q : Place) → is_within r q ≡ true → row_at q a ≡ row_at q b

pub agree-rows : (r : Reach) (a b : Tables) → Agree r a b → rows_in (Some r) a ≡ rows_in (Some r) b
agree-rows r a b same =
    same_entries place_cmp place_total place_same _ _ (is_sorted-where_key place_cmp (is_within r) a.list a.sorted) (is_sorted-where_key place_cmp (is_within r) b.list b.sorted)
    (λ q. seen a q ∙ by (is_within r q) q refl ∙ sym (seen b q))
  where
    seen : (es : Tables) (q : Place) → find place_cmp q (where_key place_cmp (is_within r) es.list) ≡ cond (is_within r q) (row_at q es) None
    seen es q = find-where_key place_cmp (is_within r) q (λ x e. ap (is_within r) (sym (place_same q x e))) es.list

    by : (v : Bool) (q : Place) → is_within r q ≡ v → cond v (row_at q a) None ≡ cond v (row_at q b) None
    by true q e = same q e
    by false q e = refl

-- the same changes on both sides
pub agree-changes : (r : Reach) (cs : List Change) (a b : Tables) → Agree r a b → Agree r (with_changes cs a) (with_changes cs b)
unfolding with_changes
agree-changes r [] a b same = same
agree-changes r (c ∷ cs) a b same =
    agree-changes r cs (make_change c a) (make_change c b)
    (λ q h. row_at-set q (changed_at c) c.row a ∙ ap (cond (is_eq (place_cmp q (changed_at c))) c.row) (same q h) ∙ sym (row_at-set q (changed_at c) c.row b))

abbrev pub IsAway : Reach → Change → Type 0
IsAway r c = is_within r (changed_at c) ≡ false

-- changes away from the reach
pub agree-away : (r : Reach) (cs : List Change) (a : Tables) → Every (IsAway r) cs → Agree r (with_changes cs a) a
unfolding with_changes
agree-away r [] a h q w = refl
agree-away r (c ∷ cs) a h q w =
    agree-away r cs (make_change c a) h.1 q w ∙ row_at-set q (changed_at c) c.row a ∙ by (is_eq (place_cmp q (changed_at c))) refl
  where
    by : (b : Bool) → is_eq (place_cmp q (changed_at c)) ≡ b → cond b c.row (row_at q a) ≡ row_at q a
    by true e = let s : q ≡ changed_at c = place_same q (changed_at c) (equal-is _ e) in let f : is_within r q ≡ false = ap (is_within r) s ∙ h.0 in cc
    by false e = refl

-- a key in two ranges: they meet
low-high : (lo hi : Option Value) (k : Value) → is_above_low lo k ≡ true → is_below_high hi k ≡ true → ends_meet lo hi ≡ true
low-high None hi k a b = refl
low-high (Some lo) None k a b = refl
low-high (Some lo) (Some hi) k a b = ap not (upto value_total lo k hi (un (is_gt (value_cmp lo k)) a) (un (is_gt (value_cmp k hi)) b))
  where
    un : (b : Bool) → not b ≡ true → b ≡ false
    un true e = cc
    un false e = refl

pub both_true : (p q : Bool) → (p && q) ≡ true → (p ≡ true) × (q ≡ true)
both_true true q h = (refl, h)
both_true false q h = cc

pub meet-common : (a b : KeyRange) (k : Value) → has_key a k ≡ true → has_key b k ≡ true → meets a b ≡ true
meet-common a b k ha hb =
    let x = both_true (is_above_low a.lo k) _ ha in
    let y = both_true (is_above_low b.lo k) _ hb in
    rw (low-high a.lo a.hi k x.0 x.1, low-high b.lo b.hi k y.0 y.1, low-high a.lo b.hi k x.0 y.1, low-high b.lo a.hi k y.0 x.1) refl

-- what a reach writes is away from a reach that it does not touch
pub away-untouched : (r s : Reach) (c : Change) → touches r s ≡ false → s.mode ≡ Write → is_within s (changed_at c) ≡ true → IsAway r c
away-untouched r s c none write within = by (is_within r (changed_at c)) refl
  where
    wrote : not (is_read r.mode && is_read s.mode) ≡ true
    wrote = ap (λ m. not (is_read r.mode && is_read m)) write ∙ unread (is_read r.mode)
      where
        unread : (b : Bool) → not (b && false) ≡ true
        unread true = refl
        unread false = refl

    by : (b : Bool) → is_within r (changed_at c) ≡ b → b ≡ false
    by false e = refl
    by true e =
        let x = both_true (r.table == c.table) _ e in
        let y = both_true (s.table == c.table) _ within in
        let t : (r.table == s.table) ≡ true = eq-eqb r.table s.table (eqb-true r.table c.table x.0 ∙ sym (eqb-true s.table c.table y.0)) in
        let all : touches r s ≡ true = rw (t, meet-common r.range s.range c.key x.1 y.1, wrote) refl in
        cc

pub has-itself : (t : ℕ) (k : Value) (mode : Mode) → is_within (record { table = t; range = one_key k; mode = mode }) (place t k) ≡ true
has-itself t k mode = rw (eq-eqb t t refl, tied_itself value_total k) refl
