-- The changes of a range made in its rows are the rows of the range under the changes.
use Rattle.law_states.specs.Overlays.{AreInOrder, edits_of, with_edits}
use Rattle.law_story.proofs.Places.{place_same}
use Rattle.salt_eval.proofs.Collected.{head-key, tail-keys}
use Rattle.salt_eval.proofs.InOrder.{joined, less_is, parted}
use Rattle.salt_eval.proofs.Nexts.{both_true, same_table}
use Rattle.salt_eval.specs.Scans.{IsKeyed, row_list}
use Rattle.salt_eval.specs.Views.{coming_where, is_next, range_rows}
use Rattle.salt_model.specs.Tables.{Entry, Tables, changed_at, is_other, place_cmp, place_total, set_row}
use Rattle.salt_model.specs.Words.{Every}
use Rattle.salt_model.specs.declared.places.Place.{Place}
use Rattle.salt_ranges.specs.Ranges.{has_key}
use Rattle.salt_ranges.specs.declared.range.KeyRange.{KeyRange}
use Rattle.salt_units.proofs.Cuts.{drop-some}
use Rattle.salt_units.proofs.Keyed.{keyed-under}
use Rattle.salt_units.proofs.Searches.{within-is}
use Rattle.salt_units.specs.Acting.{HaveTheirKeys}
use Rattle.salt_units.specs.Edited.{HasItsKey, is_passed, is_to_end}
use Rattle.salt_units.specs.Merging.{changes_ahead, either, merged, put_at, put_by, put_in, rows_ahead, shown_at, waiting_cmp}
use Rattle.salt_units.specs.Putting.{ArePassed}
use Rattle.salt_values.specs.Value.{key_of, value_cmp, value_total}
use Rattle.salt_values.specs.declared.change.Change.{Change}
use Rattle.salt_values.specs.declared.value.Value.{Value}
use Rattle.std.proofs.Common.{ap, arith, drop, get_or, subst, sym, take, ◌<◌, ◌∙◌, ◌≤◌}
use Rattle.std.proofs.lemmas.Bool.{eqb-true}
use Rattle.std.proofs.lemmas.Cmp.{tied_itself}
use Rattle.std.specs.FinMap.Entries.{below_all, by_order, find, is_sorted, put, where_key}
use Rattle.std.specs.List.{filter}
use Rattle.std.specs.Option.{ForSome}
use Rattle.std.specs.Ordering.{is_eq, is_lt, ordering_reverse}
use Rattle.std.specs.Prelude.{Bool, IfSome, List, None, Option, Some, [], cond, false, is_some, length, map, not, option_and_then, refl, slice_get, suc, true, zero, ℕ, ⊤, ◌&&◌, ◌++◌, ◌-◌, ◌==◌, ◌∷◌, ◌≡◌}
use Rattle.std.specs.declared.cmp.Ordering.TheVariants.{Equal, Greater, Less}
use Rattle.std.specs.declared.cmp.Ordering.{Ordering}
use lib.Dec.{T}

abbrev Rows : Type 0
Rows = List (List Value)

-- a key is below that of the first of changes
abbrev IsSooner : Value → List Change → Type 0
IsSooner k [] = ⊤
IsSooner k (c ∷ cs) = value_cmp k c.key ≡ Less

-- a row before all changes stays before what is made of the rows behind it
sooner-first : (row : List Value) (rows : Rows) (cs : List Change) → IsSooner (key_of row) cs → merged cs (row ∷ rows) ≡ row ∷ merged cs rows
sooner-first row rows [] less = refl
sooner-first row rows (c ∷ cs) less = ap (λ o. put_by o (row_list c.row) (row ∷ put_in c (merged cs) rows) (merged cs rows) (merged cs (row ∷ rows))) less

-- and so does a row that is put, or none
listed-first : (put : Option (List Value)) (rows : Rows) (cs : List Change) → IfSome put (λ row. IsSooner (key_of row) cs) → row_list put ++ merged cs rows ≡ merged cs (row_list put ++ rows)
listed-first None rows cs less = refl
listed-first (Some row) rows cs less = sym (sooner-first row rows cs less)

-- the first change made alone, and then the others
module _ (c : Change) (cs : List Change) (key : HasItsKey c) (sooner : IsSooner c.key cs) where
  put-sooner : IfSome c.row (λ row. IsSooner (key_of row) cs)
  put-sooner = by c.row key
    where
      by : (put : Option (List Value)) → IfSome put (λ row. key_of row ≡ c.key) → IfSome put (λ row. IsSooner (key_of row) cs)
      by None h = tt
      by (Some row) h = subst (λ k. IsSooner k cs) (sym h) sooner

  later : (k : Value) → value_cmp k c.key ≡ Less → IsSooner k cs
  later k less = by cs sooner
    where
      by : (ds : List Change) → IsSooner c.key ds → IsSooner k ds
      by [] h = tt
      by (d ∷ ds) h = value_total.trans k c.key d.key less h

  one-by-one : (rows : Rows) → merged (c ∷ cs) rows ≡ merged cs (put_in c (λ l. l) rows)
  one-by-one [] = listed-first c.row [] cs put-sooner
  one-by-one (row ∷ rows) = by (value_cmp (key_of row) c.key) refl (one-by-one rows)
    where
      by : (o : Ordering) → value_cmp (key_of row) c.key ≡ o → merged (c ∷ cs) rows ≡ merged cs (put_in c (λ l. l) rows)
          → put_by o (row_list c.row) (row ∷ put_in c (merged cs) rows) (merged cs rows) (merged cs (row ∷ rows))
          ≡ merged cs (put_by o (row_list c.row) (row ∷ put_in c (λ l. l) rows) rows (row ∷ rows))
      by Less is more = ap (λ (l : Rows). row ∷ l) more ∙ sym (sooner-first row (put_in c (λ l. l) rows) cs (later (key_of row) is))
      by Equal is more = listed-first c.row rows cs put-sooner
      by Greater is more = listed-first c.row (row ∷ rows) cs put-sooner

-- what is to come by the first change still to come, and by the row below, where one waits
pub stepped : (waits : Bool) (row : List Value) (rows : Rows) (c : Change) (cs : List Change) (o : Ordering) → waiting_cmp waits row c.key ≡ o → (waits ≡ false → rows ≡ [])
    → merged (c ∷ cs) (rows_ahead waits row rows) ≡ put_by o (row_list c.row) (row ∷ merged (c ∷ cs) rows) (merged cs rows) (merged cs (rows_ahead waits row rows))
stepped true row rows c cs o is none = ap (λ o. put_by o (row_list c.row) (row ∷ merged (c ∷ cs) rows) (merged cs rows) (merged cs (row ∷ rows))) is
stepped false row [] c cs o is none = ap (λ o. put_by o (row_list c.row) (row ∷ merged (c ∷ cs) []) (merged cs []) (merged cs [])) is
stepped false row (other ∷ rows) c cs o is none = let nothing : other ∷ rows ≡ [] = none refl in absurd cc

-- the changes still to come, of which one more is passed
pub ahead-next : (cs : List Change) (n m : ℕ) (c : Change) → n < m → slice_get cs n ≡ Some c → changes_ahead n m cs ≡ c ∷ changes_ahead (suc n) m cs
ahead-next cs n m c less is =
    let count : m - n ≡ suc (m - suc n) = omega (less, arith) in
    ap (λ k. take k (drop n cs)) count ∙ ap (take (suc (m - suc n))) (drop-some cs n c is)

pub ahead-none : (cs : List Change) (n m : ℕ) → m ≤ n → changes_ahead n m cs ≡ []
ahead-none cs n m le = let count : m - n ≡ 0 = omega (le, arith) in ap (λ k. take k (drop n cs)) count

-- a view that was asked for its next row, where none waited
pub waited : (more : Bool) (row : List Value) (old new : Rows) → old ≡ coming_where more row new → (more ≡ false → new ≡ []) → rows_ahead more row new ≡ old
waited true row old new is none = sym is
waited false row old new is none = none refl ∙ sym is

-- a row that is put, if there is one, comes before the others
pub listed-either : (put : Option (List Value)) (below : List Value) (rows : Rows) → row_list put ++ rows ≡ either (is_some put) (shown_at put below) rows
listed-either None below rows = refl
listed-either (Some row) below rows = refl

-- one step over the first change still to come: what comes first, and what is to come behind it
module _ (waits : Bool) (row : List Value) (rows : Rows) (cs : List Change) (n m : ℕ) (c : Change) (less : n < m) (at : slice_get cs n ≡ Some c) (none : waits ≡ false → rows ≡ []) where
  abbrev coming : Rows
  coming = merged (changes_ahead n m cs) (rows_ahead waits row rows)

  by-order : (o : Ordering) → waiting_cmp waits row c.key ≡ o
      → coming ≡ put_by o (row_list c.row) (row ∷ merged (changes_ahead n m cs) rows) (merged (changes_ahead (suc n) m cs) rows) (merged (changes_ahead (suc n) m cs) (rows_ahead waits row rows))
  by-order o is =
      let next : changes_ahead n m cs ≡ c ∷ changes_ahead (suc n) m cs = ahead-next cs n m c less at in
      ap (λ (l : List Change). merged l (rows_ahead waits row rows)) next
      ∙ stepped waits row rows c (changes_ahead (suc n) m cs) o is none
      ∙ ap (λ (l : List Change). put_by o (row_list c.row) (row ∷ merged l rows) (merged (changes_ahead (suc n) m cs) rows) (merged (changes_ahead (suc n) m cs) (rows_ahead waits row rows))) (sym next)

  -- the row below comes before the change
  pub passed-row : waiting_cmp waits row c.key ≡ Less → coming ≡ row ∷ merged (changes_ahead n m cs) rows
  passed-row is = by-order Less is

  is-put : put_at cs (Some n) ≡ c.row
  is-put = ap (option_and_then (λ (x : Change). x.row)) at

  -- the change is at its place
  pub passed-both : waiting_cmp waits row c.key ≡ Equal → coming ≡ either (is_some c.row) (shown_at (put_at cs (Some n)) row) (merged (changes_ahead (suc n) m cs) rows)
  passed-both is =
      by-order Equal is ∙ listed-either c.row row (merged (changes_ahead (suc n) m cs) rows)
      ∙ ap (λ (o : Option (List Value)). either (is_some c.row) (shown_at o row) (merged (changes_ahead (suc n) m cs) rows)) (sym is-put)

  -- the change comes before it
  pub passed-change : waiting_cmp waits row c.key ≡ Greater → coming ≡ either (is_some c.row) (shown_at (put_at cs (Some n)) row) (merged (changes_ahead (suc n) m cs) (rows_ahead waits row rows))
  passed-change is =
      by-order Greater is ∙ listed-either c.row row (merged (changes_ahead (suc n) m cs) (rows_ahead waits row rows))
      ∙ ap (λ (o : Option (List Value)). either (is_some c.row) (shown_at o row) (merged (changes_ahead (suc n) m cs) (rows_ahead waits row rows))) (sym is-put)

abbrev values : List Entry → Rows
values es = map (λ (e : Entry). e.1) es

-- each row stands at the place of its key
abbrev AtKeys : List Entry → Type 0
AtKeys es = Every (λ (e : Entry). key_of e.1 ≡ e.0.key) es

at-keys : (es : List Entry) → T (is_sorted place_cmp es) → ((p : Place) → IfSome (find place_cmp p es) (λ row. key_of row ≡ p.key)) → AtKeys es
at-keys [] sorted keys = tt
at-keys (e ∷ es) sorted keys = (head-key e es keys, at-keys es (parted _ _ sorted).1 (tail-keys e es (parted _ _ sorted).0 keys))

-- a place below the first of entries in order is below all of them
below-all : (x : Place) (e : Entry) (es : List Entry) → place_cmp x e.0 ≡ Less → T (below_all place_cmp e.0 es) → T (below_all place_cmp x es)
below-all x e [] less h = tt
below-all x e (f ∷ es) less h = joined _ _ (subst (λ o. T (is_lt o)) (sym (place_total.trans x e.0 f.0 less (less_is _ (parted _ _ h).0))) tt) (below-all x e es less (parted _ _ h).1)

below-both : (x : Place) (e : Entry) (es : List Entry) → place_cmp x e.0 ≡ Less → T (below_all place_cmp e.0 es) → T (below_all place_cmp x (e ∷ es))
below-both x e es less h = joined _ _ (subst (λ o. T (is_lt o)) (sym less) tt) (below-all x e es less h)

-- none of the entries behind a place is at it
all-other : (x : Place) (es : List Entry) → T (below_all place_cmp x es) → where_key place_cmp (is_other x) es ≡ es
all-other x [] h = refl
all-other x (e ∷ es) h =
    ap (λ o. cond (not (is_eq o)) (e ∷ where_key place_cmp (is_other x) es) (where_key place_cmp (is_other x) es)) (less_is _ (parted _ _ h).0)
    ∙ ap (λ (l : List Entry). e ∷ l) (all-other x es (parted _ _ h).1)

module _ (t : ℕ) (range : KeyRange) where
  abbrev within : Place → Bool
  within = is_next t range None

  abbrev rows_of : List Entry → Rows
  rows_of es = values (where_key place_cmp within es)

  in-table : (p : Place) → within p ≡ true → (t == p.table) ≡ true
  in-table p h = (both_true (t == p.table) (has_key range p.key) (both_true ((t == p.table) && has_key range p.key) true h).0).0

  -- of two places in the range the keys tell the order
  by-keys : (p q : Place) → within p ≡ true → within q ≡ true → place_cmp p q ≡ value_cmp p.key q.key
  by-keys p q hp hq =
      let same : (p.table == q.table) ≡ true = subst (λ u. (u == q.table) ≡ true) (eqb-true t p.table (in-table p hp)) (in-table q hq) in
      same_table p.table p.key q same

  module _ (c : Change) where
    abbrev at : Place
    at = changed_at c

    -- a change outside the range leaves its rows
    module _ (out : within at ≡ false) where
      put-outside : (row : List Value) (es : List Entry) → rows_of (put place_cmp at row es) ≡ rows_of es
      put-outside row [] = ap (λ b. values (cond b ((at, row) ∷ []) [])) out
      put-outside row (e ∷ es) = by (place_cmp at e.0) refl (put-outside row es)
        where
          by : (o : Ordering) → place_cmp at e.0 ≡ o → rows_of (put place_cmp at row es) ≡ rows_of es → rows_of (by_order o ((at, row) ∷ e ∷ es) ((e.0, row) ∷ es) (e ∷ put place_cmp at row es)) ≡ rows_of (e ∷ es)
          by Less is more = ap (λ b. values (cond b ((at, row) ∷ where_key place_cmp within (e ∷ es)) (where_key place_cmp within (e ∷ es)))) out
          by Equal is more =
              let gone : within e.0 ≡ false = ap within (sym (place_same at e.0 is)) ∙ out in
              ap (λ b. values (cond b ((e.0, row) ∷ where_key place_cmp within es) (where_key place_cmp within es))) gone
              ∙ sym (ap (λ b. values (cond b (e ∷ where_key place_cmp within es) (where_key place_cmp within es))) gone)
          by Greater is more = on (within e.0)
            where
              on : (b : Bool) → values (cond b (e ∷ where_key place_cmp within (put place_cmp at row es)) (where_key place_cmp within (put place_cmp at row es))) ≡ values (cond b (e ∷ where_key place_cmp within es) (where_key place_cmp within es))
              on true = ap (λ (l : Rows). e.1 ∷ l) more
              on false = more

      removed-outside : (es : List Entry) → rows_of (where_key place_cmp (is_other at) es) ≡ rows_of es
      removed-outside [] = refl
      removed-outside (e ∷ es) = by (is_eq (place_cmp at e.0)) refl (removed-outside es)
        where
          by : (b : Bool) → is_eq (place_cmp at e.0) ≡ b → rows_of (where_key place_cmp (is_other at) es) ≡ rows_of es
              → rows_of (cond (not b) (e ∷ where_key place_cmp (is_other at) es) (where_key place_cmp (is_other at) es)) ≡ rows_of (e ∷ es)
          by true tied more =
              let gone : within e.0 ≡ false = ap within (sym (place_same at e.0 (tied-is _ tied))) ∙ out in
              more ∙ sym (ap (λ b. values (cond b (e ∷ where_key place_cmp within es) (where_key place_cmp within es))) gone)
            where
              tied-is : (o : Ordering) → is_eq o ≡ true → o ≡ Equal
              tied-is Less h = absurd cc
              tied-is Equal h = refl
              tied-is Greater h = absurd cc
          by false apart more = on (within e.0)
            where
              on : (b : Bool) → values (cond b (e ∷ where_key place_cmp within (where_key place_cmp (is_other at) es)) (where_key place_cmp within (where_key place_cmp (is_other at) es))) ≡ values (cond b (e ∷ where_key place_cmp within es) (where_key place_cmp within es))
              on true = ap (λ (l : Rows). e.1 ∷ l) more
              on false = more

      pub set-outside : (es : Tables) → range_rows t range (set_row at c.row es) ≡ range_rows t range es
      set-outside es = by c.row
        where
          by : (put : Option (List Value)) → range_rows t range (set_row at put es) ≡ range_rows t range es
          by None = removed-outside es.list
          by (Some row) = put-outside row es.list

    -- a change in the range is made in its rows
    module _ (in_it : within at ≡ true) where
      -- where all are behind it, it comes first
      before-all : (es : List Entry) → T (below_all place_cmp at es) → AtKeys es → put_in c (λ l. l) (rows_of es) ≡ row_list c.row ++ rows_of es
      before-all [] below keys = refl
      before-all (e ∷ es) below keys = by (within e.0) refl (before-all es (parted _ _ below).1 keys.1)
        where
          by : (b : Bool) → within e.0 ≡ b → put_in c (λ l. l) (rows_of es) ≡ row_list c.row ++ rows_of es
              → put_in c (λ l. l) (values (cond b (e ∷ where_key place_cmp within es) (where_key place_cmp within es))) ≡ row_list c.row ++ values (cond b (e ∷ where_key place_cmp within es) (where_key place_cmp within es))
          by false is more = more
          by true is more =
              let above : value_cmp (key_of e.1) c.key ≡ Greater =
              ap (λ k. value_cmp k c.key) keys.0 ∙ value_total.antisymm e.0.key c.key ∙ ap ordering_reverse (sym (by-keys at e.0 in_it is) ∙ less_is _ (parted _ _ below).0) in
              ap (λ o. put_by o (row_list c.row) (e.1 ∷ put_in c (λ l. l) (rows_of es)) (rows_of es) (e.1 ∷ rows_of es)) above

      -- at an entry of its place
      at-one : (e : Entry) (es : List Entry) → place_cmp at e.0 ≡ Equal → key_of e.1 ≡ e.0.key → put_in c (λ l. l) (rows_of (e ∷ es)) ≡ row_list c.row ++ rows_of es
      at-one e es tied key =
          let same : at ≡ e.0 = place_same at e.0 tied in
          let here : within e.0 ≡ true = ap within (sym same) ∙ in_it in
          let equal : value_cmp (key_of e.1) c.key ≡ Equal = ap (λ k. value_cmp k c.key) (key ∙ ap (λ (x : Place). x.key) (sym same)) ∙ itself c.key in
          ap (λ b. put_in c (λ l. l) (values (cond b (e ∷ where_key place_cmp within es) (where_key place_cmp within es)))) here
          ∙ ap (λ o. put_by o (row_list c.row) (e.1 ∷ put_in c (λ l. l) (rows_of es)) (rows_of es) (e.1 ∷ rows_of es)) equal
        where
          itself : (k : Value) → value_cmp k k ≡ Equal
          itself k = tied_itself value_total k

      -- behind an entry
      behind-one : (e : Entry) (es : List Entry) (l : Rows) → place_cmp at e.0 ≡ Greater → key_of e.1 ≡ e.0.key → l ≡ put_in c (λ l. l) (rows_of es)
          → cond (within e.0) (e.1 ∷ l) l ≡ put_in c (λ l. l) (rows_of (e ∷ es))
      behind-one e es l greater key is = by (within e.0) refl
        where
          by : (b : Bool) → within e.0 ≡ b → cond b (e.1 ∷ l) l ≡ put_in c (λ l. l) (values (cond b (e ∷ where_key place_cmp within es) (where_key place_cmp within es)))
          by false out = is
          by true here =
              let less : value_cmp (key_of e.1) c.key ≡ Less =
              ap (λ k. value_cmp k c.key) key ∙ value_total.antisymm e.0.key c.key ∙ ap ordering_reverse (sym (by-keys at e.0 in_it here) ∙ greater) in
              ap (λ (r : Rows). e.1 ∷ r) is ∙ sym (ap (λ o. put_by o (row_list c.row) (e.1 ∷ put_in c (λ l. l) (rows_of es)) (rows_of es) (e.1 ∷ rows_of es)) less)

      values-by : (b : Bool) (e : Entry) (es : List Entry) → values (cond b (e ∷ es) es) ≡ cond b (e.1 ∷ values es) (values es)
      values-by true e es = refl
      values-by false e es = refl

      put-inside : (row : List Value) → c.row ≡ Some row → (es : List Entry) → T (is_sorted place_cmp es) → AtKeys es → rows_of (put place_cmp at row es) ≡ put_in c (λ l. l) (rows_of es)
      put-inside row is [] sorted keys = ap (λ b. values (cond b ((at, row) ∷ []) [])) in_it ∙ ap (λ (o : Option (List Value)). row_list o ++ []) (sym is)
      put-inside row is (e ∷ es) sorted keys = by (place_cmp at e.0) refl (put-inside row is es (parted _ _ sorted).1 keys.1)
        where
          by : (o : Ordering) → place_cmp at e.0 ≡ o → rows_of (put place_cmp at row es) ≡ put_in c (λ l. l) (rows_of es)
              → rows_of (by_order o ((at, row) ∷ e ∷ es) ((e.0, row) ∷ es) (e ∷ put place_cmp at row es)) ≡ put_in c (λ l. l) (rows_of (e ∷ es))
          by Less less more =
              ap (λ b. values (cond b ((at, row) ∷ where_key place_cmp within (e ∷ es)) (where_key place_cmp within (e ∷ es)))) in_it
              ∙ ap (λ (o : Option (List Value)). row_list o ++ rows_of (e ∷ es)) (sym is)
              ∙ sym (before-all (e ∷ es) (below-both at e es less (parted _ _ sorted).0) keys)
          by Equal tied more =
              let here : within e.0 ≡ true = ap within (sym (place_same at e.0 tied)) ∙ in_it in
              ap (λ b. values (cond b ((e.0, row) ∷ where_key place_cmp within es) (where_key place_cmp within es))) here
              ∙ ap (λ (o : Option (List Value)). row_list o ++ rows_of es) (sym is)
              ∙ sym (at-one e es tied keys.0)
          by Greater greater more = values-by (within e.0) e (where_key place_cmp within (put place_cmp at row es)) ∙ behind-one e es (rows_of (put place_cmp at row es)) greater keys.0 more

      removed-inside : c.row ≡ None → (es : List Entry) → T (is_sorted place_cmp es) → AtKeys es → rows_of (where_key place_cmp (is_other at) es) ≡ put_in c (λ l. l) (rows_of es)
      removed-inside is [] sorted keys = ap (λ (o : Option (List Value)). row_list o ++ []) (sym is)
      removed-inside is (e ∷ es) sorted keys = by (place_cmp at e.0) refl (removed-inside is es (parted _ _ sorted).1 keys.1)
        where
          by : (o : Ordering) → place_cmp at e.0 ≡ o → rows_of (where_key place_cmp (is_other at) es) ≡ put_in c (λ l. l) (rows_of es)
              → rows_of (cond (not (is_eq o)) (e ∷ where_key place_cmp (is_other at) es) (where_key place_cmp (is_other at) es)) ≡ put_in c (λ l. l) (rows_of (e ∷ es))
          by Less less more =
              ap (λ (l : List Entry). rows_of (e ∷ l)) (all-other at es (below-all at e es less (parted _ _ sorted).0))
              ∙ ap (λ (o : Option (List Value)). row_list o ++ rows_of (e ∷ es)) (sym is)
              ∙ sym (before-all (e ∷ es) (below-both at e es less (parted _ _ sorted).0) keys)
          by Equal tied more =
              ap rows_of (all-other at es (subst (λ (x : Place). T (below_all place_cmp x es)) (sym (place_same at e.0 tied)) (parted _ _ sorted).0))
              ∙ ap (λ (o : Option (List Value)). row_list o ++ rows_of es) (sym is)
              ∙ sym (at-one e es tied keys.0)
          by Greater greater more = values-by (within e.0) e (where_key place_cmp within (where_key place_cmp (is_other at) es)) ∙ behind-one e es (rows_of (where_key place_cmp (is_other at) es)) greater keys.0 more

      pub set-inside : (es : Tables) → IsKeyed es → range_rows t range (set_row at c.row es) ≡ put_in c (λ l. l) (range_rows t range es)
      set-inside es keyed = by c.row refl
        where
          keys : AtKeys es.list
          keys = at-keys es.list es.sorted keyed

          by : (put : Option (List Value)) → c.row ≡ put → range_rows t range (set_row at put es) ≡ put_in c (λ l. l) (range_rows t range es)
          by None is = removed-inside is es.list es.sorted keys
          by (Some row) is = put-inside row is es.list es.sorted keys

  abbrev changes_of : List Change → List Change
  changes_of cs = filter (λ (c : Change). within (changed_at c)) cs

  -- the first change comes before those behind it that are in the range
  before-those : (c : Change) (cs : List Change) → within (changed_at c) ≡ true → T (below_all place_cmp (changed_at c) (edits_of cs)) → IsSooner c.key (changes_of cs)
  before-those c [] here below = tt
  before-those c (d ∷ cs) here below = by (within (changed_at d)) refl (before-those c cs here (parted _ _ below).1)
    where
      by : (b : Bool) → within (changed_at d) ≡ b → IsSooner c.key (changes_of cs) → IsSooner c.key (cond b (d ∷ changes_of cs) (changes_of cs))
      by true is more = sym (by-keys (changed_at c) (changed_at d) here is) ∙ less_is _ (parted _ _ below).0
      by false is more = more

  its-key : (c : Change) (cs : List Change) → HaveTheirKeys (edits_of (c ∷ cs)) → HasItsKey c
  its-key c cs keys = by c.row (keys 0 (changed_at c, c.row) refl)
    where
      by : (put : Option (List Value)) → ForSome put (λ row. key_of row ≡ c.key) → IfSome put (λ row. key_of row ≡ c.key)
      by None h = tt
      by (Some row) h = h row refl

  -- the changes in the range made in its rows
  pub merged-rows : (cs : List Change) (es : Tables) → AreInOrder (edits_of cs) → HaveTheirKeys (edits_of cs) → IsKeyed es → merged (changes_of cs) (range_rows t range es) ≡ range_rows t range (with_edits (edits_of cs) es)
  merged-rows [] es in_order keys keyed = refl
  merged-rows (c ∷ cs) es in_order keys keyed =
      by (within (changed_at c)) refl (merged-rows cs (set_row (changed_at c) c.row es) (parted _ _ in_order).1 (λ k. keys (suc k)) (keyed-under ((changed_at c, c.row) ∷ []) es tt (first-alone keys) keyed))
    where
      first-alone : HaveTheirKeys (edits_of (c ∷ cs)) → HaveTheirKeys ((changed_at c, c.row) ∷ [])
      first-alone keys zero = keys 0
      first-alone keys (suc k) = λ d is. absurd cc

      by : (b : Bool) → within (changed_at c) ≡ b → merged (changes_of cs) (range_rows t range (set_row (changed_at c) c.row es)) ≡ range_rows t range (with_edits (edits_of (c ∷ cs)) es)
          → merged (cond b (c ∷ changes_of cs) (changes_of cs)) (range_rows t range es) ≡ range_rows t range (with_edits (edits_of (c ∷ cs)) es)
      by true here more =
          one-by-one c (changes_of cs) (its-key c cs keys) (before-those c cs here (parted _ _ in_order).0) (range_rows t range es)
          ∙ ap (merged (changes_of cs)) (sym (set-inside c here es keyed))
          ∙ more
      by false out more = ap (merged (changes_of cs)) (sym (set-outside c out es)) ∙ more

  abbrev no-changes : List Change
  no-changes = []

  taken-none : (k : ℕ) → take k no-changes ≡ no-changes
  taken-none zero = refl
  taken-none (suc k) = refl

  dropped-none : (n : ℕ) → drop n no-changes ≡ no-changes
  dropped-none zero = refl
  dropped-none (suc n) = refl

  take-zero : (k : ℕ) (l : List Change) → k ≡ 0 → take k l ≡ no-changes
  take-zero k l is = ap (λ j. take j l) is

  -- those in the range stand from the first that does not come before it up to the last that does not come behind it
  slice-is : (f : Change → Bool) (cs : List Change) (n m : ℕ)
      → ((k : ℕ) (d : Change) → k < length cs → k < n → f (get_or cs k d) ≡ false)
      → ((k : ℕ) (d : Change) → k < length cs → m ≤ k → f (get_or cs k d) ≡ false)
      → ((k : ℕ) (d : Change) → k < length cs → n ≤ k → k < m → f (get_or cs k d) ≡ true)
      → filter f cs ≡ take (m - n) (drop n cs)
  slice-is f [] n m low high mid = sym (ap (take (m - n)) (dropped-none n) ∙ taken-none (m - n))
  slice-is f (c ∷ cs) zero zero low high mid =
      ap (λ b. cond b (c ∷ filter f cs) (filter f cs)) (high 0 c (omega arith) (omega arith))
      ∙ slice-is f cs 0 0 (λ k d within less. absurd (omega (less, arith))) (λ k d within le. high (suc k) d (omega (within, arith)) (omega arith)) (λ k d within le less. absurd (omega (less, arith)))
      ∙ take-zero (0 - 0) (drop 0 cs) (omega arith)
      ∙ sym (take-zero (0 - 0) (drop 0 (c ∷ cs)) (omega arith))
  slice-is f (c ∷ cs) zero (suc m) low high mid =
      let e : suc m - 0 ≡ suc (m - 0) = omega arith in
      ap (λ b. cond b (c ∷ filter f cs) (filter f cs)) (mid 0 c (omega arith) (omega arith) (omega arith))
      ∙ ap (λ (l : List Change). c ∷ l) (slice-is f cs 0 m (λ k d within less. absurd (omega (less, arith))) (λ k d within le. high (suc k) d (omega (within, arith)) (omega (le, arith))) (λ k d within le less. mid (suc k) d (omega (within, arith)) (omega arith) (omega (less, arith))))
      ∙ sym (ap (λ k. take k (c ∷ cs)) e)
  slice-is f (c ∷ cs) (suc n) zero low high mid =
      ap (λ b. cond b (c ∷ filter f cs) (filter f cs)) (high 0 c (omega arith) (omega arith))
      ∙ slice-is f cs n 0 (λ k d within less. low (suc k) d (omega (within, arith)) (omega (less, arith))) (λ k d within le. high (suc k) d (omega (within, arith)) (omega arith)) (λ k d within le less. absurd (omega (less, arith)))
      ∙ take-zero (0 - n) (drop n cs) (omega arith)
      ∙ sym (take-zero (0 - suc n) (drop (suc n) (c ∷ cs)) (omega arith))
  slice-is f (c ∷ cs) (suc n) (suc m) low high mid =
      let e : suc m - suc n ≡ m - n = omega arith in
      ap (λ b. cond b (c ∷ filter f cs) (filter f cs)) (low 0 c (omega arith) (omega arith))
      ∙ slice-is f cs n m (λ k d within less. low (suc k) d (omega (within, arith)) (omega (less, arith))) (λ k d within le. high (suc k) d (omega (within, arith)) (omega (le, arith))) (λ k d within le less. mid (suc k) d (omega (within, arith)) (omega (le, arith)) (omega (less, arith)))
      ∙ sym (ap (λ k. take k (drop n cs)) e)

  pub ahead-are : (cs : List Change) (n m : ℕ) → ArePassed (is_passed t range) cs n → ArePassed (is_to_end t range) cs m → changes_of cs ≡ changes_ahead n m cs
  ahead-are cs n m passed ended =
      slice-is (λ (c : Change). within (changed_at c)) cs n m
      (λ k d inside less. within-is t range (changed_at (get_or cs k d)) ∙ ap (λ b. not b && is_to_end t range (changed_at (get_or cs k d))) (passed.0 k d (omega arith) less))
      (λ k d inside le. within-is t range (changed_at (get_or cs k d)) ∙ ap (λ b. not (is_passed t range (changed_at (get_or cs k d))) && b) (ended.1 k d le inside) ∙ and-false _)
      (λ k d inside le less. within-is t range (changed_at (get_or cs k d)) ∙ (ap (λ b. not b && is_to_end t range (changed_at (get_or cs k d))) (passed.1 k d le inside) ∙ ended.0 k d (omega arith) less))
    where
      and-false : (b : Bool) → (b && false) ≡ false
      and-false true = refl
      and-false false = refl

  -- so what is to come at the start is what the tables under the changes have in the range
  pub started : (cs : List Change) (es : Tables) (n m : ℕ) (rows : Rows) → AreInOrder (edits_of cs) → HaveTheirKeys (edits_of cs) → IsKeyed es → ArePassed (is_passed t range) cs n → ArePassed (is_to_end t range) cs m → rows ≡ range_rows t range es
      → merged (changes_ahead n m cs) rows ≡ range_rows t range (with_edits (edits_of cs) es)
  started cs es n m rows in_order keys keyed passed ended is =
      ap (λ (l : List Change). merged l rows) (sym (ahead-are cs n m passed ended)) ∙ ap (merged (changes_of cs)) is ∙ merged-rows cs es in_order keys keyed
