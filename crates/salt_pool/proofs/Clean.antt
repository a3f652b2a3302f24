-- The frame that gives way: it is there and clean; and there is one, where fewer pages are dirty than there are frames.
use Rattle.salt_pool.proofs.Numbers.{same, true_is_not_false}
use Rattle.salt_pool.proofs.Pigeons.{AreAmong, pigeons}
use Rattle.salt_pool.specs.Dirtied.{is_dirty}
use Rattle.salt_pool.specs.Frames.{last_clean, or_clean}
use Rattle.salt_pool.specs.declared.places.Dirty.{Dirty}
use Rattle.std.proofs.Common.{Bool, List, None, Option, Some, [], ap, arith, cond, false, is_some, length, map, nat_eq, refl, subst, sym, true, ℕ, ◌++◌, ◌||◌, ◌≡◌, ◌≤◌, ◌∙◌, ◌∷◌}
use Rattle.std.proofs.lemmas.Bool.Decides.{Decides-eqb}
use Rattle.std.proofs.lemmas.List.{length-map}
use Rattle.std.specs.List.{IsDistinct, list_any}
use Rattle.std.specs.Map.{keys_of, lookup}

abbrev pub pages_of : List Dirty → List ℕ
pages_of = map (λ d. d.page)

flipped : (a b : ℕ) → nat_eq a b ≡ nat_eq b a
flipped a b = by (nat_eq a b) refl (nat_eq b a) refl
  where
    by : (c : Bool) → nat_eq a b ≡ c → (d : Bool) → nat_eq b a ≡ d → nat_eq a b ≡ nat_eq b a
    by true is true back = is ∙ sym back
    by true is false back = absurd (true_is_not_false (sym ((Decides-eqb b a).1 (sym ((Decides-eqb a b).0 is))) ∙ back))
    by false is true back = absurd (true_is_not_false (sym ((Decides-eqb a b).1 (sym ((Decides-eqb b a).0 back))) ∙ is))
    by false is false back = is ∙ sym back

-- a page is dirty where it is among the dirty pages
pub dirty_is : (ds : List Dirty) (page : ℕ) → is_dirty ds page ≡ list_any (nat_eq page) (pages_of ds)
dirty_is [] page = refl
dirty_is (d ∷ ds) page = λ i. flipped d.page page i || dirty_is ds page i

module _ {X : Type 0} where
  there : (v : ℕ) (e : ℕ × X) (es : List (ℕ × X)) → is_some (lookup (nat_eq v) es) ≡ true → is_some (lookup (nat_eq v) (e ∷ es)) ≡ true
  there v e es some = by (nat_eq v e.0) refl
    where
      by : (b : Bool) → nat_eq v e.0 ≡ b → is_some (cond (nat_eq v e.0) (Some e.1) (lookup (nat_eq v) es)) ≡ true
      by true is = ap (λ c. is_some (cond c (Some e.1) (lookup (nat_eq v) es))) is
      by false is = ap (λ c. is_some (cond c (Some e.1) (lookup (nat_eq v) es))) is ∙ some

  -- it is not dirty, and has a frame
  pub clean : (ds : List Dirty) (es : List (ℕ × X)) (v : ℕ) → last_clean ds es ≡ Some v → (is_dirty ds v ≡ false) × (is_some (lookup (nat_eq v) es) ≡ true)
  clean ds [] v is = cc
  clean ds (e ∷ es) v is = by (last_clean ds es) refl (is_dirty ds e.0) refl is (λ h. clean ds es v h)
    where
      by : (o : Option ℕ) → last_clean ds es ≡ o → (b : Bool) → is_dirty ds e.0 ≡ b → or_clean o b e.0 ≡ Some v → (last_clean ds es ≡ Some v → (is_dirty ds v ≡ false) × (is_some (lookup (nat_eq v) es) ≡ true)) → (is_dirty ds v ≡ false) × (is_some (lookup (nat_eq v) (e ∷ es)) ≡ true)
      by (Some u) later b own is on = let rest = on (later ∙ is) in (rest.0, there v e es rest.1)
      by None later true own is on = cc
      by None later false own is on =
          let it : e.0 ≡ v = cc in
          (subst (λ u. is_dirty ds u ≡ false) it own, ap (λ u. is_some (cond (nat_eq u e.0) (Some e.1) (lookup (nat_eq u) es))) (sym it) ∙ ap (λ c. is_some (cond c (Some e.1) (lookup (nat_eq e.0) es))) (same e.0))

  -- where none is clean, each frame's page is dirty
  all_dirty : (ds : List Dirty) (es : List (ℕ × X)) → last_clean ds es ≡ None → AreAmong (keys_of es) (pages_of ds)
  all_dirty ds [] none = tt
  all_dirty ds (e ∷ es) none = by (last_clean ds es) refl (is_dirty ds e.0) refl none (λ h. all_dirty ds es h)
    where
      by : (o : Option ℕ) → last_clean ds es ≡ o → (b : Bool) → is_dirty ds e.0 ≡ b → or_clean o b e.0 ≡ None → (last_clean ds es ≡ None → AreAmong (keys_of es) (pages_of ds)) → AreAmong (keys_of (e ∷ es)) (pages_of ds)
      by (Some u) later b own none on = cc
      by None later true own none on = (sym (dirty_is ds e.0) ∙ own, on later)
      by None later false own none on = cc

  pub all_taken : (ds : List Dirty) (es : List (ℕ × X)) → IsDistinct nat_eq (keys_of es) → last_clean ds es ≡ None → length es ≤ length ds
  all_taken ds es distinct none =
      let few : length (keys_of es) ≤ length (pages_of ds) = pigeons (keys_of es) (pages_of ds) distinct (all_dirty ds es none) in
      let one : length (keys_of es) ≡ length es = length-map es (λ e. e.0) in
      let two : length (pages_of ds) ≡ length ds = length-map ds (λ d. d.page) in
      omega (arith, few, one, two)

  -- of frames with one more behind them
  pub last_of : (ds : List Dirty) (es : List (ℕ × X)) (e : ℕ × X) → last_clean ds (es ++ e ∷ []) ≡ cond (is_dirty ds e.0) (last_clean ds es) (Some e.0)
  last_of ds [] e = by (is_dirty ds e.0)
    where
      by : (b : Bool) → or_clean None b e.0 ≡ cond b None (Some e.0)
      by true = refl
      by false = refl
  last_of ds (f ∷ es) e = ap (λ o. or_clean o (is_dirty ds f.0) f.0) (last_of ds es e) ∙ by (is_dirty ds e.0)
    where
      by : (b : Bool) → or_clean (cond b (last_clean ds es) (Some e.0)) (is_dirty ds f.0) f.0 ≡ cond b (or_clean (last_clean ds es) (is_dirty ds f.0) f.0) (Some e.0)
      by true = refl
      by false = refl

  pub looked_up : (page : ℕ) (es : List (ℕ × X)) → is_some (lookup (nat_eq page) es) ≡ list_any (nat_eq page) (keys_of es)
  looked_up page [] = refl
  looked_up page (e ∷ es) = by (nat_eq page e.0) (looked_up page es)
    where
      by : (b : Bool) → is_some (lookup (nat_eq page) es) ≡ list_any (nat_eq page) (keys_of es) → is_some (cond b (Some e.1) (lookup (nat_eq page) es)) ≡ b || list_any (nat_eq page) (keys_of es)
      by true on = refl
      by false on = on
