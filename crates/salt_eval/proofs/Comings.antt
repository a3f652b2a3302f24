-- Entries of a map from the lower end of a range on: those in the range come first.
use Rattle.salt_eval.proofs.InOrder.{none, parted, tables_of-list}
use Rattle.salt_eval.proofs.Nexts.{and_true, falls, from, from_start, narrower, next_is}
use Rattle.salt_eval.specs.Comings.{AreComing}
use Rattle.salt_eval.specs.MapViews.{row_of}
use Rattle.salt_eval.specs.Views.{coming_where, is_next, range_rows, shown_where, start_of, tables_of}
use Rattle.salt_model.specs.Tables.{Entry, place_cmp}
use Rattle.salt_model.specs.declared.places.Place.{Place}
use Rattle.salt_ranges.specs.Ranges.{has_key}
use Rattle.salt_ranges.specs.declared.range.KeyRange.{KeyRange}
use Rattle.salt_values.specs.declared.value.Value.{Value}
use Rattle.std.proofs.Common.{ap, subst, sym, ◌∙◌}
use Rattle.std.specs.BTreeMap.Range.{entries_between, is_from_start}
use Rattle.std.specs.FinMap.Entries.{is_sorted, is_sorted-where_key, where_key}
use Rattle.std.specs.List.{list_all}
use Rattle.std.specs.Prelude.{Bool, List, MatchOption, None, Option, Some, [], cond, false, is_some, map, option_map, refl, true, ℕ, ◌&&◌, ◌==◌, ◌∷◌, ◌≡◌}
use Rattle.std.specs.declared.ops.Bound.TheVariants.{Unbounded}
use lib.Dec.{T}

abbrev values : List Entry → List (List Value)
values es = map (λ (e : Entry). e.1) es

-- a narrower test after a wider one
narrowed : (p q : Place → Bool) → ((x : Place) → p x ≡ true → q x ≡ true) → (es : List Entry) → where_key place_cmp p (where_key place_cmp q es) ≡ where_key place_cmp p es
narrowed p q narrow [] = refl
narrowed p q narrow (e ∷ es) = by (q e.0) refl (p e.0) refl (narrowed p q narrow es)
  where
    kept : List Entry
    kept = where_key place_cmp p (where_key place_cmp q es)

    by : (b : Bool) → q e.0 ≡ b → (c : Bool) → p e.0 ≡ c → kept ≡ where_key place_cmp p es
        → where_key place_cmp p (cond b (e ∷ where_key place_cmp q es) (where_key place_cmp q es)) ≡ cond c (e ∷ where_key place_cmp p es) (where_key place_cmp p es)
    by true wide c is more = ap (λ (d : Bool). cond d (e ∷ kept) kept) is ∙ ap (λ (l : List Entry). cond c (e ∷ l) l) more
    by false wide true is more = let so : q e.0 ≡ true = narrow e.0 is in absurd cc
    by false wide false is more = more

-- what passes a test passes a wider one
all-pass : (q r : Place → Bool) → ((x : Place) → q x ≡ true → r x ≡ true) → (es : List Entry) → list_all (λ (e : Entry). r e.0) (where_key place_cmp q es) ≡ true
all-pass q r wider [] = refl
all-pass q r wider (e ∷ es) = by (q e.0) refl (all-pass q r wider es)
  where
    by : (b : Bool) → q e.0 ≡ b → list_all (λ (e : Entry). r e.0) (where_key place_cmp q es) ≡ true → list_all (λ (e : Entry). r e.0) (cond b (e ∷ where_key place_cmp q es) (where_key place_cmp q es)) ≡ true
    by true is more = rw (wider e.0 is, more) refl
    by false is more = more

both-true : (a b : Bool) → (a && b) ≡ true → (a ≡ true) × (b ≡ true)
both-true true b h = (refl, h)
both-true false b h = absurd cc

module _ (t : ℕ) (range : KeyRange) where
  pub begun-coming : (es : List Entry) → T (is_sorted place_cmp es) → AreComing t range (entries_between place_cmp (start_of t range.lo None) Unbounded es)
  begun-coming es sorted = record {
    in_order = is_sorted-where_key place_cmp (from t range None) es sorted;
    begun = all-pass (from t range None) (is_from_start place_cmp (start_of t range.lo None)) (from_start t range None) es;
  }

  pub begun-rows : (es : List Entry) → T (is_sorted place_cmp es) → values (where_key place_cmp (is_next t range None) (entries_between place_cmp (start_of t range.lo None) Unbounded es)) ≡ range_rows t range (tables_of es)
  begun-rows es sorted =
      ap values (narrowed (is_next t range None) (from t range None) (narrower t range None) es)
      ∙ ap (λ (l : List Entry). values (where_key place_cmp (is_next t range None) l)) (sym (tables_of-list es sorted))

  tail-coming : (e : Entry) (es : List Entry) → AreComing t range (e ∷ es) → AreComing t range es
  tail-coming e es h = record { in_order = (parted _ _ h.in_order).1; begun = (both-true _ _ h.begun).1 }

  -- what is left when the first is taken, if there is one
  pub left-coming : {A : Type 0} (entry : A → Entry) (first : Option A) (old new : List Entry) → AreComing t range old → MatchOption first ((old ≡ []) × (new ≡ [])) (λ e. old ≡ entry e ∷ new) → AreComing t range new
  left-coming entry None old new h left = subst (λ (es : List Entry). AreComing t range es) (left.0 ∙ sym left.1) h
  left-coming entry (Some e) old new h left = tail-coming (entry e) new (subst (λ (es : List Entry). AreComing t range es) left h)

  begun-first : (e : Entry) (es : List Entry) → AreComing t range (e ∷ es) → from t range None e.0 ≡ true
  begun-first e es h = and_true _ ∙ (both-true _ _ h.begun).0

  -- the first entry, where it is in the range
  pub first-comes : (e : Entry) (es : List Entry) → AreComing t range (e ∷ es) → ((t == e.0.table) && has_key range e.0.key) ≡ true
      → values (where_key place_cmp (is_next t range None) (e ∷ es)) ≡ e.1 ∷ values (where_key place_cmp (is_next t range None) es)
  first-comes e es h within =
      ap (λ (b : Bool). values (cond b (e ∷ where_key place_cmp (is_next t range None) es) (where_key place_cmp (is_next t range None) es))) (next_is t range None e.0 (begun-first e es h) ∙ within)

  -- where it is not, none is
  pub none-comes : (e : Entry) (es : List Entry) → AreComing t range (e ∷ es) → ((t == e.0.table) && has_key range e.0.key) ≡ false
      → values (where_key place_cmp (is_next t range None) (e ∷ es)) ≡ []
  none-comes e es h outside =
      let out : is_next t range None e.0 ≡ false = next_is t range None e.0 (begun-first e es h) ∙ outside in
      ap (λ (b : Bool). values (cond b (e ∷ where_key place_cmp (is_next t range None) es) (where_key place_cmp (is_next t range None) es))) out
      ∙ ap values (none place_cmp (is_next t range None) (from t range None) (narrower t range None) (falls t range None) e (begun-first e es h) out es (parted _ _ h.in_order).0)

  -- and none behind it is
  pub none-behind : (e : Entry) (es : List Entry) → AreComing t range (e ∷ es) → ((t == e.0.table) && has_key range e.0.key) ≡ false → values (where_key place_cmp (is_next t range None) es) ≡ []
  none-behind e es h outside =
      let out : is_next t range None e.0 ≡ false = next_is t range None e.0 (begun-first e es h) ∙ outside in
      ap values (none place_cmp (is_next t range None) (from t range None) (narrower t range None) (falls t range None) e (begun-first e es h) out es (parted _ _ h.in_order).0)

-- a row that is there is shown
pub shown-row : (row : Option (List Value)) → row ≡ shown_where (is_some row) (row_of row)
shown-row None = refl
shown-row (Some row) = refl

-- and comes first
pub coming-row : (row : Option (List Value)) (old new : List (List Value)) → MatchOption row ((old ≡ []) × (new ≡ [])) (λ r. old ≡ r ∷ new) → old ≡ coming_where (is_some row) (row_of row) new
coming-row None old new h = h.0
coming-row (Some row) old new h = h

pub ended-row : (row : Option (List Value)) (old new : List (List Value)) → MatchOption row ((old ≡ []) × (new ≡ [])) (λ r. old ≡ r ∷ new) → is_some row ≡ false → new ≡ []
ended-row None old new h none = h.1
ended-row (Some row) old new h none = absurd cc

pub mapped-some : {A B : Type 0} (f : A → B) (o : Option A) → is_some (option_map f o) ≡ is_some o
mapped-some f None = refl
mapped-some f (Some x) = refl
