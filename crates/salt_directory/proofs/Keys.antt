-- A directory with one change has the places of the tables with one change.
use Rattle.salt_model.specs.Tables.{Entry, is_other, place_cmp, place_total}
use Rattle.salt_model.specs.declared.places.Place.{Place}
use Rattle.salt_directory.proofs.Alike.{turned}
use Rattle.salt_directory.specs.Pages.{page_of}
use Rattle.salt_stands.proofs.Places.{equal_is, place_same}
use Rattle.salt_values.specs.declared.value.Value.{Value}
use Rattle.std.proofs.Common.{Bool, Equal, Greater, Less, List, None, Option, Ordering, Some, [], ap, cond, false, is_some, not, refl, sym, true, ℕ, ◌&&◌, ◌≡◌, ◌∙◌, ◌∷◌}
use Rattle.std.specs.BTreeMap.{insert_entry, is_at}
use Rattle.std.specs.FinMap.Entries.{below_all, by_order, find, find-put, is_sorted, put, where_key}
use Rattle.std.specs.Map.{keys_of, lookup, remove_entry}
use Rattle.std.specs.Ordering.{is_eq, is_lt, match_ordering}
use lib.Dec.{T}

pub first : (a b : Bool) → T (a && b) → T a
first true b p = tt
first false b p = absurd p

pub second : (a b : Bool) → T (a && b) → T b
second true b p = p
second false b p = absurd p

less : (o : Ordering) → T (is_lt o) → o ≡ Less
less Less p = refl
less Equal p = absurd p
less Greater p = absurd p

-- LOOKED UP

pub lookup_is : {X : Type 0} (q : Place) (es : List (Place × X)) → lookup (is_at (place_cmp q)) es ≡ find place_cmp q es
lookup_is q [] = refl
lookup_is q (e ∷ es) = ap (λ o. cond (is_eq (place_cmp q e.0)) (Some e.1) o) (lookup_is q es)

pub insert_is : {X : Type 0} (p : Place) (x : X) (es : List (Place × X)) → insert_entry place_cmp es p x ≡ put place_cmp p x es
insert_is p x [] = refl
insert_is p x (e ∷ es) = by (place_cmp p e.0) (insert_is p x es)
  where
    by : (o : Ordering) → insert_entry place_cmp es p x ≡ put place_cmp p x es
        → match_ordering o ((p, x) ∷ e ∷ es) ((e.0, x) ∷ es) (e ∷ insert_entry place_cmp es p x) ≡ by_order o ((p, x) ∷ e ∷ es) ((e.0, x) ∷ es) (e ∷ put place_cmp p x es)
    by Less same = refl
    by Equal same = refl
    by Greater same = ap (λ more. e ∷ more) same

pub page_put : (p q : Place) (page : ℕ) (es : List (Place × ℕ)) → page_of (insert_entry place_cmp es q page) p ≡ cond (is_eq (place_cmp p q)) (Some page) (page_of es p)
page_put p q page es =
    ap (λ (l : List (Place × ℕ)). page_of l p) (insert_is q page es)
    ∙ lookup_is p (put place_cmp q page es)
    ∙ find-put place_cmp place_total p q page es
    ∙ ap (λ o. cond (is_eq (place_cmp p q)) (Some page) o) (sym (lookup_is p es))

-- found in both or in none
pub found_alike : {X Y : Type 0} (q : Place) (ds : List (Place × X)) (es : List (Place × Y)) → keys_of ds ≡ keys_of es → is_some (find place_cmp q ds) ≡ is_some (find place_cmp q es)
found_alike q [] [] same = refl
found_alike q [] (e ∷ es) same = cc
found_alike q (d ∷ ds) [] same = cc
found_alike q (d ∷ ds) (e ∷ es) same =
    ap (λ (k : Place). is_some (cond (is_eq (place_cmp q k)) (Some d.1) (find place_cmp q ds))) head
    ∙ by (is_eq (place_cmp q e.0)) (found_alike q ds es tail)
  where
    head : d.0 ≡ e.0
    head = cc

    tail : keys_of ds ≡ keys_of es
    tail = cc

    by : (b : Bool) → is_some (find place_cmp q ds) ≡ is_some (find place_cmp q es) → is_some (cond b (Some d.1) (find place_cmp q ds)) ≡ is_some (cond b (Some e.1) (find place_cmp q es))
    by true h = refl
    by false h = h

pub page_alike : (q : Place) (ds : List (Place × ℕ)) (es : List Entry) → keys_of ds ≡ keys_of es → is_some (page_of ds q) ≡ is_some (find place_cmp q es)
page_alike q ds es same = ap is_some (lookup_is q ds) ∙ found_alike q ds es same

-- KEYS

pub keys_put : (q : Place) (page : ℕ) (row : List Value) (ds : List (Place × ℕ)) (es : List Entry) → keys_of ds ≡ keys_of es → keys_of (insert_entry place_cmp ds q page) ≡ keys_of (put place_cmp q row es)
keys_put q page row [] [] same = refl
keys_put q page row [] (e ∷ es) same = cc
keys_put q page row (d ∷ ds) [] same = cc
keys_put q page row (d ∷ ds) (e ∷ es) same =
    ap (λ (k : Place). keys_of (match_ordering (place_cmp q k) ((q, page) ∷ d ∷ ds) ((d.0, page) ∷ ds) (d ∷ insert_entry place_cmp ds q page))) head
    ∙ by (place_cmp q e.0) (keys_put q page row ds es tail)
  where
    head : d.0 ≡ e.0
    head = cc

    tail : keys_of ds ≡ keys_of es
    tail = cc

    by : (o : Ordering) → keys_of (insert_entry place_cmp ds q page) ≡ keys_of (put place_cmp q row es)
        → keys_of (match_ordering o ((q, page) ∷ d ∷ ds) ((d.0, page) ∷ ds) (d ∷ insert_entry place_cmp ds q page)) ≡ keys_of (by_order o ((q, row) ∷ e ∷ es) ((e.0, row) ∷ es) (e ∷ put place_cmp q row es))
    by Less h = ap (λ (l : List Place). q ∷ l) same
    by Equal h = same
    by Greater h = λ i. head i ∷ h i

-- entries above a place are not at it
none_there : (p q : Place) → place_cmp p q ≡ Equal → (es : List Entry) → T (below_all place_cmp q es) → where_key place_cmp (is_other p) es ≡ es
none_there p q tie [] h = refl
none_there p q tie (e ∷ es) h =
    let rest = none_there p q tie es (second (is_lt (place_cmp q e.0)) _ h) in
    let apart : is_eq (place_cmp p e.0) ≡ false = ap is_eq (place_total.congr p q e.0 tie ∙ less (place_cmp q e.0) (first (is_lt (place_cmp q e.0)) _ h)) in
    λ i. cond (not (apart i)) (e ∷ rest i) (rest i)

pub keys_gone : (q : Place) (ds : List (Place × ℕ)) (es : List Entry) → T (is_sorted place_cmp es) → keys_of ds ≡ keys_of es → keys_of (remove_entry (is_at (place_cmp q)) ds) ≡ keys_of (where_key place_cmp (is_other q) es)
keys_gone q [] [] sorted same = refl
keys_gone q [] (e ∷ es) sorted same = cc
keys_gone q (d ∷ ds) [] sorted same = cc
keys_gone q (d ∷ ds) (e ∷ es) sorted same =
    ap (λ (k : Place). keys_of (cond (is_eq (place_cmp q k)) ds (d ∷ remove_entry (is_at (place_cmp q)) ds))) head
    ∙ by (place_cmp q e.0) refl (keys_gone q ds es (second (below_all place_cmp e.0 es) _ sorted) tail)
  where
    head : d.0 ≡ e.0
    head = cc

    tail : keys_of ds ≡ keys_of es
    tail = cc

    by : (o : Ordering) → place_cmp q e.0 ≡ o → keys_of (remove_entry (is_at (place_cmp q)) ds) ≡ keys_of (where_key place_cmp (is_other q) es)
        → keys_of (cond (is_eq o) ds (d ∷ remove_entry (is_at (place_cmp q)) ds)) ≡ keys_of (cond (not (is_eq o)) (e ∷ where_key place_cmp (is_other q) es) (where_key place_cmp (is_other q) es))
    by Equal is h = tail ∙ ap (λ (l : List Entry). keys_of l) (sym (none_there q e.0 is es (first (below_all place_cmp e.0 es) _ sorted)))
    by Less is h = λ i. head i ∷ h i
    by Greater is h = λ i. head i ∷ h i

-- nothing is found below a list in order
below : (q k : Place) (es : List Entry) → place_cmp q k ≡ Less → T (below_all place_cmp k es) → find place_cmp q es ≡ None
below q k [] low h = refl
below q k (e ∷ es) low h =
    ap (λ o. cond (is_eq o) (Some e.1) (find place_cmp q es)) (place_total.trans q k e.0 low (less (place_cmp k e.0) (first (is_lt (place_cmp k e.0)) _ h)))
    ∙ below q k es low (second (is_lt (place_cmp k e.0)) _ h)

-- where a row is there, its place stays
pub keys_stay : (q : Place) (row : List Value) (es : List Entry) → T (is_sorted place_cmp es) → is_some (find place_cmp q es) ≡ true → keys_of (put place_cmp q row es) ≡ keys_of es
keys_stay q row [] sorted some = cc
keys_stay q row (e ∷ es) sorted some = by (place_cmp q e.0) refl some (λ h. keys_stay q row es (second (below_all place_cmp e.0 es) _ sorted) h)
  where
    by : (o : Ordering) → place_cmp q e.0 ≡ o → is_some (cond (is_eq o) (Some e.1) (find place_cmp q es)) ≡ true
        → (is_some (find place_cmp q es) ≡ true → keys_of (put place_cmp q row es) ≡ keys_of es) → keys_of (by_order o ((q, row) ∷ e ∷ es) ((e.0, row) ∷ es) (e ∷ put place_cmp q row es)) ≡ keys_of (e ∷ es)
    by Equal is h on = refl
    by Greater is h on = ap (λ (l : List Place). e.0 ∷ l) (on h)
    by Less is h on = absurd (clash (ap is_some (below q e.0 es is (first (below_all place_cmp e.0 es) _ sorted))) h)
      where
        clash : {b : Bool} → b ≡ false → b ≡ true → ⊥
        clash x y = cc

-- WITHOUT A PLACE

own_none : (k : Place) (es : List Entry) → T (below_all place_cmp k es) → find place_cmp k es ≡ None
own_none k [] h = refl
own_none k (e ∷ es) h =
    ap (λ o. cond (is_eq o) (Some e.1) (find place_cmp k es)) (less (place_cmp k e.0) (first (is_lt (place_cmp k e.0)) _ h))
    ∙ own_none k es (second (is_lt (place_cmp k e.0)) _ h)

none_of : {X : Type 0} (o : Option X) → is_some o ≡ false → o ≡ None
none_of None h = refl
none_of (Some x) h = cc

pub page_gone : (q p : Place) (ds : List (Place × ℕ)) (es : List Entry) → T (is_sorted place_cmp es) → keys_of ds ≡ keys_of es → page_of (remove_entry (is_at (place_cmp q)) ds) p ≡ cond (is_eq (place_cmp q p)) None (page_of ds p)
page_gone q p [] [] sorted same = by (is_eq (place_cmp q p))
  where
    by : (b : Bool) → ◌≡◌ {A = Option ℕ} None (cond b None None)
    by true = refl
    by false = refl
page_gone q p [] (e ∷ es) sorted same = cc
page_gone q p (d ∷ ds) [] sorted same = cc
page_gone q p (d ∷ ds) (e ∷ es) sorted same = by (is_eq (place_cmp q d.0)) refl (is_eq (place_cmp q p)) refl (page_gone q p ds es (second (below_all place_cmp e.0 es) _ sorted) tail)
  where
    head : d.0 ≡ e.0
    head = cc

    tail : keys_of ds ≡ keys_of es
    tail = cc

    is_one : (k : Place) → is_eq (place_cmp q k) ≡ true → q ≡ k
    is_one k at = place_same q k (equal_is (place_cmp q k) at)

    by : (a : Bool) → is_eq (place_cmp q d.0) ≡ a → (b : Bool) → is_eq (place_cmp q p) ≡ b → page_of (remove_entry (is_at (place_cmp q)) ds) p ≡ cond (is_eq (place_cmp q p)) None (page_of ds p)
        → page_of (cond a ds (d ∷ remove_entry (is_at (place_cmp q)) ds)) p ≡ cond b None (page_of (d ∷ ds) p)
    by true at true here rest = none_of (page_of ds p) (page_alike p ds es tail ∙ ap (λ (k : Place). is_some (find place_cmp k es)) own ∙ ap is_some (own_none e.0 es (first (below_all place_cmp e.0 es) _ sorted)))
      where
        own : p ≡ e.0
        own = sym (is_one p here) ∙ is_one d.0 at ∙ head
    by true at false there rest = sym (ap (λ c. cond c (Some d.1) (page_of ds p)) other)
      where
        other : is_eq (place_cmp p d.0) ≡ false
        other = turned p d.0 ∙ ap (λ (k : Place). is_eq (place_cmp k p)) (sym (is_one d.0 at)) ∙ there
    by false at true here rest =
        ap (λ c. cond c (Some d.1) (page_of (remove_entry (is_at (place_cmp q)) ds) p)) (ap (λ (k : Place). is_eq (place_cmp k d.0)) (sym (is_one p here)) ∙ at)
        ∙ rest ∙ ap (λ c. cond c None (page_of ds p)) here
    by false at false there rest = ap (λ o. cond (is_eq (place_cmp p d.0)) (Some d.1) o) (rest ∙ ap (λ c. cond c None (page_of ds p)) there)
