-- Changes in order, cut where a test that the first of them pass ends: what is looked for stands there, or nowhere.
use Rattle.salt_eval.proofs.InOrder.{less_is, parted}
use Rattle.law_states.specs.Overlays.{AreInOrder, edits_of}
use Rattle.salt_model.specs.Tables.{changed_at, place_cmp}
use Rattle.salt_model.specs.declared.places.Place.{Place}
use Rattle.salt_units.specs.Putting.{ArePassed}
use Rattle.salt_values.specs.declared.change.Change.{Change}
use Rattle.std.proofs.Common.{ap, arith, drop, get_or, subst, sym, ◌<◌, ◌∙◌}
use Rattle.std.proofs.lemmas.Option.{get_or_from_slice_get, slice_get_within}
use Rattle.std.specs.FinMap.Entries.{below_all}
use Rattle.std.specs.List.Sorted.{IsPartitionedBy}
use Rattle.std.specs.Prelude.{Bool, List, None, Some, [], cond, false, find, length, refl, slice_get, suc, true, zero, ℕ, ◌∷◌, ◌≡◌, ◌≤◌}
use Rattle.std.specs.declared.cmp.Ordering.TheVariants.{Less}
use lib.Dec.{T}

drop-none : (cs : List Change) (n : ℕ) → slice_get cs n ≡ None → drop n cs ≡ []
drop-none [] zero is = refl
drop-none [] (suc n) is = refl
drop-none (c ∷ cs) zero is = absurd cc
drop-none (c ∷ cs) (suc n) is = drop-none cs n is

pub drop-some : (cs : List Change) (n : ℕ) (c : Change) → slice_get cs n ≡ Some c → drop n cs ≡ c ∷ drop (suc n) cs
drop-some [] n c is = absurd cc
drop-some (d ∷ cs) zero c is = let same : d ≡ c = cc in ap (λ x. x ∷ cs) same
drop-some (d ∷ cs) (suc n) c is = drop-some cs n c is

dropped : (cs : List Change) (n : ℕ) → AreInOrder (edits_of cs) → AreInOrder (edits_of (drop n cs))
dropped cs zero h = h
dropped [] (suc n) h = tt
dropped (c ∷ cs) (suc n) h = dropped cs n (parted _ _ h).1

-- a test that the places behind one that fails it fail
abbrev pub Ends : (Place → Bool) → Type 0
Ends p = (x y : Place) → place_cmp x y ≡ Less → p x ≡ false → p y ≡ false

module _ (p : Place → Bool) (ends : Ends p) where
  fails-behind : (x : Place) (cs : List Change) → p x ≡ false → T (below_all place_cmp x (edits_of cs)) → (j : ℕ) (d : Change) → j < length cs → p (changed_at (get_or cs j d)) ≡ false
  fails-behind x [] not_so h j d within = absurd (omega (within, arith))
  fails-behind x (c ∷ cs) not_so h zero d within = ends x (changed_at c) (less_is _ (parted _ _ h).0) not_so
  fails-behind x (c ∷ cs) not_so h (suc j) d within = fails-behind x cs not_so (parted _ _ h).1 j d (omega (within, arith))

  pub parted-by : (cs : List Change) → AreInOrder (edits_of cs) → IsPartitionedBy (λ c. p (changed_at c)) cs
  parted-by [] h i j d le within so = absurd (omega (within, arith))
  parted-by (c ∷ cs) h zero zero d le within so = so
  parted-by (c ∷ cs) h zero (suc j) d le within so = by (p (changed_at c)) refl
    where
      by : (b : Bool) → p (changed_at c) ≡ b → b ≡ true
      by true is = refl
      by false is = let not_so : p (changed_at (get_or cs j d)) ≡ false = fails-behind (changed_at c) cs is (parted _ _ h).0 j d (omega (within, arith)) in absurd cc
  parted-by (c ∷ cs) h (suc i) zero d le within so = absurd (omega (le, arith))
  parted-by (c ∷ cs) h (suc i) (suc j) d le within so = parted-by cs (parted _ _ h).1 i j d (omega (le, arith)) (omega (within, arith)) so

module _ (p g : Place → Bool) (apart : (x : Place) → p x ≡ true → g x ≡ false) where
  abbrev wanted : Change → Bool
  wanted c = g (changed_at c)

  skipped : (cs : List Change) (n : ℕ) → ((k : ℕ) (d : Change) → k < n → wanted (get_or cs k d) ≡ false) → n ≤ length cs → find wanted cs ≡ find wanted (drop n cs)
  skipped cs zero h within = refl
  skipped [] (suc n) h within = absurd (omega (within, arith))
  skipped (c ∷ cs) (suc n) h within = ap (λ b. cond b (Some c) (find wanted cs)) (h 0 c (omega arith)) ∙ skipped cs n (λ k d below. h (suc k) d (omega (below, arith))) (omega (within, arith))

  module _ (cs : List Change) (n : ℕ) (cut : ArePassed p cs n) (within : n ≤ length cs) where
    behind-cut : find wanted cs ≡ find wanted (drop n cs)
    behind-cut = skipped cs n (λ k d below. apart (changed_at (get_or cs k d)) (cut.0 k d (omega arith) below)) within

    pub found-none : slice_get cs n ≡ None → find wanted cs ≡ None
    found-none is = behind-cut ∙ ap (find wanted) (drop-none cs n is)

    pub found-here : (c : Change) → slice_get cs n ≡ Some c → wanted c ≡ true → find wanted cs ≡ Some c
    found-here c is so = behind-cut ∙ ap (find wanted) (drop-some cs n c is) ∙ ap (λ b. cond b (Some c) (find wanted (drop (suc n) cs))) so

    module _ (over : (x y : Place) → place_cmp x y ≡ Less → p x ≡ false → g x ≡ false → g y ≡ false) where
      none-behind : (x : Place) (ds : List Change) → p x ≡ false → g x ≡ false → T (below_all place_cmp x (edits_of ds)) → find wanted ds ≡ None
      none-behind x [] not_so out h = refl
      none-behind x (d ∷ ds) not_so out h = ap (λ b. cond b (Some d) (find wanted ds)) (over x (changed_at d) (less_is _ (parted _ _ h).0) not_so out) ∙ none-behind x ds not_so out (parted _ _ h).1

      pub found-past : (c : Change) → AreInOrder (edits_of cs) → slice_get cs n ≡ Some c → wanted c ≡ false → find wanted cs ≡ None
      found-past c h is out =
          let at : get_or cs n c ≡ c = get_or_from_slice_get cs n c c is in
          let not_so : p (changed_at c) ≡ false = ap (λ (x : Change). p (changed_at x)) (sym at) ∙ cut.1 n c (omega arith) (slice_get_within cs n c is) in
          let order : AreInOrder (edits_of (c ∷ drop (suc n) cs)) = subst (λ (l : List Change). AreInOrder (edits_of l)) (drop-some cs n c is) (dropped cs n h) in
          behind-cut ∙ ap (find wanted) (drop-some cs n c is) ∙ ap (λ b. cond b (Some c) (find wanted (drop (suc n) cs))) out ∙ none-behind (changed_at c) (drop (suc n) cs) not_so out (parted _ _ order).0
