-- Entries in order, as a map lists them.
use Rattle.salt_model.specs.Words.{first_of_list}
use Rattle.std.proofs.Common.{ap, subst, sym, ◌∙◌}
use Rattle.std.specs.FinMap.Entries.{below_all, by_order, find-put, is_sorted, put}
use Rattle.std.specs.BTreeMap.{is_at}
use Rattle.std.specs.List.Sorted.{IsStrictlySortedBy}
use Rattle.std.specs.List.{AllByRecursion, filter}
use Rattle.std.specs.Map.{keys_of, lookup}
use Rattle.std.specs.Ordering.{is_eq, is_lt}
use Rattle.std.specs.Prelude.{Bool, List, None, Option, Some, [], cond, false, refl, true, ◌&&◌, ◌∷◌, ◌≡◌}
use Rattle.std.specs.declared.cmp.Ordering.TheVariants.{Equal, Greater, Less}
use Rattle.std.specs.declared.cmp.Ordering.{Ordering}
use Rattle.salt_eval.specs.Views.{tables_of}
use Rattle.salt_model.specs.Tables.{Entry, place_cmp, place_total, row_at}
use Rattle.salt_model.specs.declared.places.Place.{Place}
use lib.Dec.{T}

pub joined : (a b : Bool) → T a → T b → T (a && b)
joined true b p q = q
joined false b p q = p

pub parted : (a b : Bool) → T (a && b) → T a × T b
parted true b h = (tt, h)
parted false b h = absurd h

pub less_is : (o : Ordering) → T (is_lt o) → o ≡ Less
less_is Less h = refl
less_is Equal h = absurd h
less_is Greater h = absurd h

module _ {K X : Type 0} (R : K → K → Ordering) where
  below : (x : K) (es : List (K × X)) → AllByRecursion (λ y. R x y ≡ Less) (keys_of es) → T (below_all R x es)
  below x [] h = tt
  below x (e ∷ es) h = joined _ _ (subst (λ o. T (is_lt o)) (sym h.0) tt) (below x es h.1)

  pub in_order : (es : List (K × X)) → IsStrictlySortedBy R (keys_of es) → T (is_sorted R es)
  unfolding IsStrictlySortedBy
  in_order [] h = tt
  in_order (e ∷ es) h = joined _ _ (below e.0 es h.0) (in_order es h.1)

  put-first : (e : K × X) (es : List (K × X)) → T (below_all R e.0 es) → put R e.0 e.1 es ≡ e ∷ es
  put-first e [] h = refl
  put-first e (f ∷ es) h = ap (λ r. by_order r ((e.0, e.1) ∷ f ∷ es) ((f.0, e.1) ∷ es) (f ∷ put R e.0 e.1 es)) (less_is _ (parted _ _ h).0)

  module _ (p q : K → Bool) where
    -- the entry, if its key passes
    abbrev pub if_passes : Option (K × X) → Option (K × X)
    if_passes None = None
    if_passes (Some e) = cond (p e.0) (Some e) None

    module _ (narrower : (x : K) → p x ≡ true → q x ≡ true) (falls : (x y : K) → R x y ≡ Less → q x ≡ true → p y ≡ true → p x ≡ true) where
      pub none : (e : K × X) → q e.0 ≡ true → p e.0 ≡ false → (es : List (K × X)) → T (below_all R e.0 es) → filter (λ f. p f.0) es ≡ []
      none e qe pe [] h = refl
      none e qe pe (f ∷ es) h = by (p f.0) refl (none e qe pe es (parted _ _ h).1)
        where
          by : (b : Bool) → p f.0 ≡ b → filter (λ f. p f.0) es ≡ [] → cond b (f ∷ filter (λ f. p f.0) es) (filter (λ f. p f.0) es) ≡ []
          by true pf more = let pt : p e.0 ≡ true = falls e.0 f.0 (less_is _ (parted _ _ h).0) qe pf in absurd cc
          by false pf more = more

      -- the first that passes a test is the first that passes a wider one, or none is
      pub first-where : (es : List (K × X)) → T (is_sorted R es) → first_of_list (filter (λ e. p e.0) es) ≡ if_passes (first_of_list (filter (λ e. q e.0) es))
      first-where [] h = refl
      first-where (e ∷ es) h = by (q e.0) (p e.0) refl refl (first-where es (parted _ _ h).1)
        where
          by : (b c : Bool) → q e.0 ≡ b → p e.0 ≡ c → first_of_list (filter (λ e. p e.0) es) ≡ if_passes (first_of_list (filter (λ e. q e.0) es)) → first_of_list (cond c (e ∷ filter (λ e. p e.0) es) (filter (λ e. p e.0) es)) ≡ if_passes (first_of_list (cond b (e ∷ filter (λ e. q e.0) es) (filter (λ e. q e.0) es)))
          by true true qe pe more = rw pe refl
          by true false qe pe more = rw (pe, none e qe pe es (parted _ _ h).0) refl
          by false true qe pe more = let qt : q e.0 ≡ true = narrower e.0 pe in absurd cc
          by false false qe pe more = more

-- the tables of entries in order have these entries
pub tables_of-list : (es : List Entry) → T (is_sorted place_cmp es) → (tables_of es).list ≡ es
tables_of-list [] h = refl
tables_of-list (e ∷ es) h = ap (put place_cmp e.0 e.1) (tables_of-list es (parted _ _ h).1) ∙ put-first place_cmp e es (parted _ _ h).0

pub row_at-tables_of : (q : Place) (es : List Entry) → row_at q (tables_of es) ≡ lookup (is_at (place_cmp q)) es
row_at-tables_of q [] = refl
row_at-tables_of q (e ∷ es) = find-put place_cmp place_total q e.0 e.1 (tables_of es).list ∙ ap (cond (is_eq (place_cmp q e.0)) (Some e.1)) (row_at-tables_of q es)
