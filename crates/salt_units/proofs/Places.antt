-- Changes put into changes in order.
use Rattle.law_states.specs.Overlays.{AreInOrder, Edit, edit_of, edits_of, put_all}
use Rattle.law_story.proofs.Places.{equal-is, place_same}
use Rattle.salt_model.specs.Tables.{changed_at, place_cmp, place_total}
use Rattle.salt_units.proofs.Searches.{at-place, is_there}
use Rattle.salt_units.specs.Putting.{ArePassed, is_before, put_change, put_each}
use Rattle.salt_values.specs.declared.change.Change.{Change}
use Rattle.std.proofs.Common.{ap, arith, subst, drop, drop-cons, get_or, length, suc, sym, take, ◌++◌, ◌<◌, ◌∙◌, ◌≤◌}
use Rattle.std.specs.FinMap.Entries.{by_order, is_sorted-put, put}
use Rattle.std.specs.Ordering.{is_eq, is_lt, ordering_reverse}
use Rattle.std.specs.Prelude.{List, [], false, refl, slice_set, true, zero, ◌∷◌, ◌≡◌, ℕ}
use Rattle.std.specs.declared.cmp.Ordering.TheVariants.{Equal, Greater, Less}
use Rattle.std.specs.declared.cmp.Ordering.{Ordering}

-- the edits of changes, put one after another, are put one after another
pub put-edits : (c : Change) (ds : List Change) → edits_of (put_change c ds) ≡ put place_cmp (changed_at c) c.row (edits_of ds)
put-edits c [] = refl
put-edits c (d ∷ ds) = by (place_cmp (changed_at c) (changed_at d)) refl (put-edits c ds)
  where
    by : (o : Ordering) → place_cmp (changed_at c) (changed_at d) ≡ o → edits_of (put_change c ds) ≡ put place_cmp (changed_at c) c.row (edits_of ds) →
        edits_of (by_order o (c ∷ d ∷ ds) (c ∷ ds) (d ∷ put_change c ds)) ≡ by_order o ((changed_at c, c.row) ∷ edits_of (d ∷ ds)) ((changed_at d, c.row) ∷ edits_of ds) (edit_of d ∷ put place_cmp (changed_at c) c.row (edits_of ds))
    by Less is more = refl
    by Equal is more = λ i. (place_same (changed_at c) (changed_at d) is i, c.row) ∷ edits_of ds
    by Greater is more = ap (λ l. edit_of d ∷ l) more

pub in-order-put : (c : Change) (ds : List Change) → AreInOrder (edits_of ds) → AreInOrder (edits_of (put_change c ds))
in-order-put c ds h = subst (λ (l : List Edit). AreInOrder l) (sym (put-edits c ds)) (is_sorted-put place_cmp place_total (changed_at c) c.row (edits_of ds) h)

pub each-edits : (cs ds : List Change) → edits_of (put_each cs ds) ≡ put_all cs (edits_of ds)
each-edits [] ds = refl
each-edits (c ∷ cs) ds = each-edits cs (put_change c ds) ∙ ap (put_all cs) (put-edits c ds)

less-greater : (c d : Change) → is_lt (place_cmp (changed_at d) (changed_at c)) ≡ true → place_cmp (changed_at c) (changed_at d) ≡ Greater
less-greater c d h = place_total.antisymm (changed_at c) (changed_at d) ∙ ap ordering_reverse (by (place_cmp (changed_at d) (changed_at c)) h)
  where
    by : (o : Ordering) → is_lt o ≡ true → o ≡ Less
    by Less h = refl
    by Equal h = absurd cc
    by Greater h = absurd cc

-- those that come before are passed
pub placed-at : (c : Change) (ds : List Change) (n : ℕ) → ArePassed (is_before (changed_at c)) ds n → n ≤ length ds → put_change c ds ≡ take n ds ++ put_change c (drop n ds)
placed-at c ds n cut within = by ds n (λ k d below. cut.0 k d (omega arith) below) within
  where
    by : (ds : List Change) (n : ℕ) → ((k : ℕ) (d : Change) → k < n → is_before (changed_at c) (changed_at (get_or ds k d)) ≡ true) → n ≤ length ds → put_change c ds ≡ take n ds ++ put_change c (drop n ds)
    by ds zero all within = refl
    by [] (suc n) all within = absurd (omega (within, arith))
    by (d ∷ ds) (suc n) all within =
        ap (λ o. by_order o (c ∷ d ∷ ds) (c ∷ ds) (d ∷ put_change c ds)) (less-greater c d (all 0 d (omega arith)))
        ∙ ap (λ l. d ∷ l) (by ds n (λ k e below. all (suc k) e (omega (below, arith))) (omega (within, arith)))

-- in the place of one that is there
pub there : (c : Change) (ds : List Change) (at : ℕ) (d : Change) → at < length ds → d ≡ get_or ds at d → is_there (changed_at c) (changed_at d) ≡ true →
    put_change c ds ≡ take at ds ++ put_change c (drop at ds) → put_change c ds ≡ take at ds ++ c ∷ drop (suc at) ds
there c ds at d within is same placed =
    placed
    ∙ (ap (λ l. take at ds ++ put_change c l) (drop-cons ds at d within ∙ ap (λ x. x ∷ drop (suc at) ds) (sym is))
    ∙ ap (λ o. take at ds ++ by_order o (c ∷ d ∷ drop (suc at) ds) (c ∷ drop (suc at) ds) (d ∷ put_change c (drop (suc at) ds))) (equal-is _ (sym (at-place (changed_at c) (changed_at d)) ∙ same)))

-- before one that comes behind it
pub before : (c : Change) (ds : List Change) (at : ℕ) (d : Change) → at < length ds → d ≡ get_or ds at d → is_before (changed_at c) (changed_at d) ≡ false →
    is_there (changed_at c) (changed_at d) ≡ false → put_change c ds ≡ take at ds ++ put_change c (drop at ds) →
    take at ds ++ c ∷ drop at ds ≡ put_change c ds
before c ds at d within is not_less not_same placed =
    let whole = drop-cons ds at d within ∙ ap (λ x. x ∷ drop (suc at) ds) (sym is) in
    sym (placed
    ∙ (ap (λ l. take at ds ++ put_change c l) whole
    ∙ (ap (λ o. take at ds ++ by_order o (c ∷ d ∷ drop (suc at) ds) (c ∷ drop (suc at) ds) (d ∷ put_change c (drop (suc at) ds))) (by (place_cmp (changed_at c) (changed_at d)) refl (sym (at-place (changed_at c) (changed_at d)) ∙ not_same))
    ∙ ap (λ l. take at ds ++ c ∷ l) (sym whole))))
  where
    by : (o : Ordering) → place_cmp (changed_at c) (changed_at d) ≡ o → is_eq o ≡ false → o ≡ Less
    by Less is h = refl
    by Equal is h = absurd cc
    by Greater is h = let yes : is_before (changed_at c) (changed_at d) ≡ true = ap is_lt (place_total.antisymm (changed_at d) (changed_at c) ∙ ap ordering_reverse is) in absurd cc

none-after : (ds : List Change) (at : ℕ) → length ds ≤ at → drop at ds ≡ []
none-after [] zero past = refl
none-after [] (suc at) past = refl
none-after (d ∷ ds) zero past = absurd (omega (past, arith))
none-after (d ∷ ds) (suc at) past = none-after ds at (omega (past, arith))

-- behind all
pub behind : (c : Change) (ds : List Change) (at : ℕ) → length ds ≤ at → put_change c ds ≡ take at ds ++ put_change c (drop at ds) →
    take at ds ++ c ∷ drop at ds ≡ put_change c ds
behind c ds at past placed =
    sym (placed ∙ (ap (λ l. take at ds ++ put_change c l) (none-after ds at past) ∙ ap (λ l. take at ds ++ c ∷ l) (sym (none-after ds at past))))

-- a list with one item set
pub set-parts : (ds : List Change) (at : ℕ) (c : Change) → at < length ds → slice_set ds at c ≡ take at ds ++ c ∷ drop (suc at) ds
set-parts [] at c within = absurd (omega (within, arith))
set-parts (d ∷ ds) zero c within = refl
set-parts (d ∷ ds) (suc at) c within = ap (λ l. d ∷ l) (set-parts ds at c (omega (within, arith)))
