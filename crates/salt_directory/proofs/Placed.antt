-- What stands in a sorted list is found there at its place.
use Rattle.salt_directory.proofs.Alike.{own_place}
use Rattle.salt_directory.proofs.Keys.{first, lookup_is, second}
use Rattle.salt_directory.specs.Pages.{page_of}
use Rattle.salt_model.specs.Tables.{place_cmp, place_total}
use Rattle.salt_model.specs.Words.{first_of_list}
use Rattle.salt_model.specs.declared.places.Place.{Place}
use Rattle.salt_stands.proofs.Places.{equal_is, place_same}
use Rattle.std.proofs.Common.{Bool, IfSome, IsSome, List, None, Option, Some, [], ap, cond, false, filter, refl, slice_get, subst, suc, sym, true, zero, ℕ, ◌≡◌, ◌∙◌, ◌∷◌}
use Rattle.std.proofs.lemmas.Cmp.{tied_itself}
use Rattle.std.specs.FinMap.Entries.{below_all, find, is_sorted}
use Rattle.std.specs.Map.Iter.{TakesFirst, deref_pair}
use Rattle.std.specs.Ordering.{is_eq, is_gt, is_lt}
use Rattle.std.specs.declared.cmp.Ordering.TheVariants.{Equal, Greater, Less}
use Rattle.std.specs.declared.cmp.Ordering.{Ordering}
use denote.Ref.{Bor}
use lib.Dec.{T}

pub less_apart : (o : Ordering) → T (is_lt o) → is_eq o ≡ false
less_apart Less h = refl
less_apart Equal h = absurd h
less_apart Greater h = absurd h

module _ {X : Type 0} where
  none_above : (q : Place) (es : List (Place × X)) → T (below_all place_cmp q es) → find place_cmp q es ≡ None
  none_above q [] h = refl
  none_above q (e ∷ es) h =
      ap (λ b. cond b (Some e.1) (find place_cmp q es)) (less_apart (place_cmp q e.0) (first (is_lt (place_cmp q e.0)) _ h))
      ∙ none_above q es (second (is_lt (place_cmp q e.0)) _ h)

  pub found_filtered : (p : Place → Bool) (es : List (Place × X)) → T (is_sorted place_cmp es) → (i : ℕ) (e : Place × X) → slice_get (filter (λ f. p f.0) es) i ≡ Some e → find place_cmp e.0 es ≡ Some e.1
  found_filtered p [] sorted i e is = cc
  found_filtered p (f ∷ es) sorted i e is = by (p f.0) i is (λ k at. found_filtered p es (second (below_all place_cmp f.0 es) _ sorted) k e at)
    where
      some_none : None ≡ Some e.1 → ⊥
      some_none x = cc

      behind : find place_cmp e.0 es ≡ Some e.1 → find place_cmp e.0 (f ∷ es) ≡ Some e.1
      behind found = other (is_eq (place_cmp e.0 f.0)) refl
        where
          other : (b : Bool) → is_eq (place_cmp e.0 f.0) ≡ b → cond (is_eq (place_cmp e.0 f.0)) (Some f.1) (find place_cmp e.0 es) ≡ Some e.1
          other false apart = ap (λ b. cond b (Some f.1) (find place_cmp e.0 es)) apart ∙ found
          other true tied =
              let same : e.0 ≡ f.0 = place_same e.0 f.0 (equal_is (place_cmp e.0 f.0) tied) in
              absurd (some_none (sym (none_above e.0 es (subst (λ (q : Place). T (below_all place_cmp q es)) (sym same) (first (below_all place_cmp f.0 es) _ sorted))) ∙ found))

      by : (b : Bool) (k : ℕ) → slice_get (cond b (f ∷ filter (λ g. p g.0) es) (filter (λ g. p g.0) es)) k ≡ Some e → ((k : ℕ) → slice_get (filter (λ g. p g.0) es) k ≡ Some e → find place_cmp e.0 es ≡ Some e.1) → find place_cmp e.0 (f ∷ es) ≡ Some e.1
      by true zero at on =
          let same : f ≡ e = cc in
          subst (λ (g : Place × X). find place_cmp g.0 (f ∷ es) ≡ Some g.1) same (ap (λ b. cond b (Some f.1) (find place_cmp f.0 es)) (own_place f.0))
      by true (suc k) at on = behind (on k at)
      by false k at on = behind (on k at)

  pub first_there : (es : List (Place × X)) (e : Place × X) → first_of_list es ≡ Some e → slice_get es 0 ≡ Some e
  first_there [] e is = cc
  first_there (f ∷ es) e is = is

-- the page of a place that stands in a directory
pub page_there : (p : Place → Bool) (directory : List (Place × ℕ)) → T (is_sorted place_cmp directory) → (i : ℕ) (e : Place × ℕ) → slice_get (filter (λ f. p f.0) directory) i ≡ Some e → page_of directory e.0 ≡ Some e.1
page_there p directory sorted i e is = lookup_is e.0 directory ∙ found_filtered p directory sorted i e is

-- as an iterator takes the first one
pub page_first : (p : Place → Bool) (directory left : List (Place × ℕ)) → T (is_sorted place_cmp directory) → (o : Option (Bor Place × Bor ℕ)) → TakesFirst deref_pair (filter (λ f. p f.0) directory) o left → IfSome o (λ e. page_of directory e.0.now ≡ Some e.1.now)
page_first p directory left sorted None takes = tt
page_first p directory left sorted (Some e) takes = page_there p directory sorted 0 (deref_pair e) (ap (λ (l : List (Place × ℕ)). slice_get l 0) takes)

-- WHAT IS UP TO A PLACE

pub up_to_itself : (q : Place) → is_gt (place_cmp q q) ≡ false
up_to_itself q = ap is_gt (tied_itself place_total q)

no_order : (o : Ordering) → is_gt o ≡ false → is_eq o ≡ false → is_lt o ≡ false → ⊥
no_order Less up other more = cc
no_order Equal up other more = cc
no_order Greater up other more = cc

-- the greatest place up to q is another one, so there is no row at q
pub none_at : (q last : Place) (found : Option ℕ) → is_gt (place_cmp last q) ≡ false → is_eq (place_cmp last q) ≡ false → (IsSome found → is_lt (place_cmp last q) ≡ false) → found ≡ None
none_at q last None up other greatest = refl
none_at q last (Some page) up other greatest = absurd (no_order (place_cmp last q) up other (greatest refl))
