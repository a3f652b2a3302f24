-- The places of a range in a directory are passed one by one, and their pages are marked.
use Rattle.salt_directory.proofs.Keys.{lookup_is}
use Rattle.salt_directory.specs.Directories.{is_in}
use Rattle.salt_directory.specs.Loading.{HaveAllOf, count_in}
use Rattle.salt_directory.specs.Pages.{page_of}
use Rattle.salt_eval.proofs.InOrder.{none, parted}
use Rattle.salt_eval.proofs.Nexts.{and_true, falls, from, narrower}
use Rattle.salt_eval.proofs.Points.{filter-alike}
use Rattle.salt_eval.specs.Views.{is_next, start_of}
use Rattle.salt_model.specs.Tables.{place_cmp}
use Rattle.salt_model.specs.declared.places.Place.{Place}
use Rattle.salt_ranges.specs.declared.range.KeyRange.{KeyRange}
use Rattle.salt_stands.proofs.Booleans.{join, left, right}
use Rattle.salt_stands.proofs.Places.{place_same}
use Rattle.std.proofs.Common.{Bool, List, None, Some, [], ap, arith, cond, false, get_or, get_or-set_other, get_or-set_same, inl, inr, length, refl, set, subst, suc, sym, true, ℕ, ◌+◌, ◌^◌, ◌<◌, ◌≡◌, ◌⊎◌, ◌∙◌, ◌∷◌}
use Rattle.std.proofs.lemmas.Bool.{cases_eq}
use Rattle.std.proofs.lemmas.List.{length-set}
use Rattle.std.specs.BTreeMap.Range.{entries_between}
use Rattle.std.specs.FinMap.Entries.{below_all, find, find-where_key, is_sorted, is_sorted-where_key, where_key}
use Rattle.std.specs.List.{list_all}
use Rattle.std.specs.Ordering.{is_eq}
use Rattle.std.specs.declared.ops.Bound.TheVariants.{Unbounded}
use lib.Dec.{T}

-- A narrower test after a wider one
pub narrowed : (p q : Place → Bool) → ((x : Place) → p x ≡ true → q x ≡ true) → (es : List (Place × ℕ)) → where_key place_cmp p (where_key place_cmp q es) ≡ where_key place_cmp p es
narrowed p q narrow [] = refl
narrowed p q narrow (e ∷ es) = by (q e.0) refl (p e.0) refl (narrowed p q narrow es)
  where
    clash : true ≡ false → ⊥
    clash h = cc

    after : List (Place × ℕ)
    after = where_key place_cmp p (where_key place_cmp q es)

    by : (b : Bool) → q e.0 ≡ b → (c : Bool) → p e.0 ≡ c → after ≡ where_key place_cmp p es
        → where_key place_cmp p (cond b (e ∷ where_key place_cmp q es) (where_key place_cmp q es)) ≡ cond c (e ∷ where_key place_cmp p es) (where_key place_cmp p es)
    by true wide c is more = ap (λ (d : Bool). cond d (e ∷ after) after) is ∙ ap (λ (l : List (Place × ℕ)). cond c (e ∷ l) l) more
    by false wide true is more = absurd (clash (sym (narrow e.0 is) ∙ wide))
    by false wide false is more = more

pub all_pass : (p : Place → Bool) (es : List (Place × ℕ)) → list_all (λ (e : Place × ℕ). p e.0) (where_key place_cmp p es) ≡ true
all_pass p [] = refl
all_pass p (e ∷ es) = by (p e.0) refl (all_pass p es)
  where
    by : (b : Bool) → p e.0 ≡ b → list_all (λ (f : Place × ℕ). p f.0) (where_key place_cmp p es) ≡ true → list_all (λ (f : Place × ℕ). p f.0) (cond b (e ∷ where_key place_cmp p es) (where_key place_cmp p es)) ≡ true
    by true is more = join (p e.0) (list_all (λ (f : Place × ℕ). p f.0) (where_key place_cmp p es)) is more
    by false is more = more

module _ (t : ℕ) (range : KeyRange) where
  -- What is left of the directory comes in order, at or behind the lower end. What is in the range is marked, or is left; and it is counted, or is left.
  pub record IsMarking (directory : List (Place × ℕ)) (marks : List Bool) (rows : ℕ) (rest : List (Place × ℕ)) : Type 0 where
    pub in_order : T (is_sorted place_cmp rest)
    pub begun : list_all (λ (e : Place × ℕ). from t range None e.0) rest ≡ true
    pub marked : (q : Place) (page : ℕ) → page_of directory q ≡ Some page → is_in t range q ≡ true → page < length marks → (get_or marks page false ≡ true) ⊎ (page_of rest q ≡ Some page)
    pub counted : rows + count_in t range rest ≡ count_in t range directory
    pub few : rows + length rest < 2 ^ 63

  pub in_from : (x : Place) → is_in t range x ≡ true → from t range None x ≡ true
  in_from x within = narrower t range None x (and_true (is_in t range x) ∙ within)

  page_left : (p : Place → Bool) (es : List (Place × ℕ)) (q : Place) → p q ≡ true → page_of (where_key place_cmp p es) q ≡ page_of es q
  page_left p es q passes =
      lookup_is q (where_key place_cmp p es)
      ∙ find-where_key place_cmp p q (λ x tie. ap p (sym (place_same q x tie))) es
      ∙ ap (λ b. cond b (find place_cmp q es) None) passes
      ∙ sym (lookup_is q es)

  pub marking_begins : (directory : List (Place × ℕ)) (marks : List Bool) (rest : List (Place × ℕ)) → T (is_sorted place_cmp directory) → rest ≡ entries_between place_cmp (start_of t range.lo None) Unbounded directory → length rest < 2 ^ 63 → IsMarking directory marks 0 rest
  marking_begins directory marks rest sorted is few = subst (IsMarking directory marks 0) (sym is) (record {
    in_order = is_sorted-where_key place_cmp (from t range None) directory sorted;
    begun = all_pass (from t range None) directory;
    marked = λ q page found within low. inr (page_left (from t range None) directory q (in_from q within) ∙ found);
    counted = omega (arith, ap (λ (l : List (Place × ℕ)). length l) (narrowed (is_in t range) (from t range None) in_from directory));
    few = omega (arith, few, ap (λ (l : List (Place × ℕ)). length l) is);
  })

  -- behind the range nothing is in it
  pub none_behind : (e : Place × ℕ) (left_over : List (Place × ℕ)) → T (is_sorted place_cmp (e ∷ left_over)) → list_all (λ (f : Place × ℕ). from t range None f.0) (e ∷ left_over) ≡ true → is_in t range e.0 ≡ false → where_key place_cmp (is_in t range) (e ∷ left_over) ≡ []
  none_behind e left_over sorted all_from outside =
      let begun = left (from t range None e.0) (list_all (λ (f : Place × ℕ). from t range None f.0) left_over) all_from in
      let out : is_next t range None e.0 ≡ false = and_true (is_in t range e.0) ∙ outside in
      ap (λ b. cond b (e ∷ where_key place_cmp (is_in t range) left_over) (where_key place_cmp (is_in t range) left_over)) outside
      ∙ filter-alike (λ (f : Place × ℕ). is_in t range f.0) (λ (f : Place × ℕ). is_next t range None f.0) (λ f. sym (and_true (is_in t range f.0))) left_over
      ∙ none place_cmp (is_next t range None) (from t range None) (narrower t range None) (falls t range None) e begun out left_over (parted (below_all place_cmp e.0 left_over) (is_sorted place_cmp left_over) sorted).0

  module _ (directory : List (Place × ℕ)) (marks : List Bool) (rows : ℕ) (rest : List (Place × ℕ)) (so : IsMarking directory marks rows rest) where
    -- a place in the range is passed
    pub marking_goes : (e : Place × ℕ) (left_over : List (Place × ℕ)) (new : List Bool) → rest ≡ e ∷ left_over → is_in t range e.0 ≡ true → new ≡ set marks e.1 true → IsMarking directory new (rows + 1) left_over
    marking_goes e left_over new is within made = subst (λ l. IsMarking directory l (rows + 1) left_over) (sym made) (by (subst (IsMarking directory marks rows) is so))
      where
        there : (page : ℕ) → page < length marks → page ≡ e.1 → get_or (set marks e.1 true) page false ≡ true
        there page low same = ap (λ n. get_or (set marks e.1 true) n false) same ∙ get_or-set_same marks e.1 true false (omega (arith, low, same))

        still : (page : ℕ) → page < length marks → get_or marks page false ≡ true → get_or (set marks e.1 true) page false ≡ true
        still page low is_marked = on (cases_eq page e.1)
          where
            on : (page ≡ e.1) ⊎ (page ≡ e.1 → ⊥) → get_or (set marks e.1 true) page false ≡ true
            on (inl same) = there page low same
            on (inr other) = get_or-set_other marks e.1 page true false other ∙ is_marked

        mark : (q : Place) (page : ℕ) → page < length marks → (get_or marks page false ≡ true) ⊎ (page_of (e ∷ left_over) q ≡ Some page) → (get_or (set marks e.1 true) page false ≡ true) ⊎ (page_of left_over q ≡ Some page)
        mark q page low (inl is_marked) = inl (still page low is_marked)
        mark q page low (inr found) = on (is_eq (place_cmp q e.0)) found
          where
            on : (b : Bool) → cond b (Some e.1) (page_of left_over q) ≡ Some page → (get_or (set marks e.1 true) page false ≡ true) ⊎ (page_of left_over q ≡ Some page)
            on true h = let same : e.1 ≡ page = cc in inl (there page low (sym same))
            on false h = inr h

        counts : count_in t range (e ∷ left_over) ≡ suc (count_in t range left_over)
        counts = ap (λ b. length (cond b (e ∷ where_key place_cmp (is_in t range) left_over) (where_key place_cmp (is_in t range) left_over))) within

        by : IsMarking directory marks rows (e ∷ left_over) → IsMarking directory (set marks e.1 true) (rows + 1) left_over
        by h = record {
          in_order = (parted (below_all place_cmp e.0 left_over) (is_sorted place_cmp left_over) h.in_order).1;
          begun = right (from t range None e.0) (list_all (λ (f : Place × ℕ). from t range None f.0) left_over) h.begun;
          marked = λ q page found inside low. mark q page (omega (arith, low, length-set marks e.1 true)) (h.marked q page found inside (omega (arith, low, length-set marks e.1 true)));
          counted = omega (arith, h.counted, counts);
          few = omega (arith, h.few);
        }

    -- nothing in the range is left
    ended : where_key place_cmp (is_in t range) rest ≡ [] → HaveAllOf t range directory marks × (rows ≡ count_in t range directory)
    ended none_left = (
      λ q page found within low. by q page within (so.marked q page found within low),
      omega (arith, so.counted, ap (λ (l : List (Place × ℕ)). length l) none_left),
    )
      where
        by : (q : Place) (page : ℕ) → is_in t range q ≡ true → (get_or marks page false ≡ true) ⊎ (page_of rest q ≡ Some page) → get_or marks page false ≡ true
        by q page within (inl is_marked) = is_marked
        by q page within (inr found) = absurd (clash (sym found ∙ sym (page_left (is_in t range) rest q within) ∙ ap (λ (l : List (Place × ℕ)). page_of l q) none_left))
          where
            clash : Some page ≡ None → ⊥
            clash h = cc

    -- the directory is at its end
    pub marking_ends : rest ≡ [] → HaveAllOf t range directory marks × (rows ≡ count_in t range directory)
    marking_ends done = ended (ap (where_key place_cmp (is_in t range)) done)

    -- or what comes is behind the range
    pub marking_stops : (e : Place × ℕ) (left_over : List (Place × ℕ)) → rest ≡ e ∷ left_over → is_in t range e.0 ≡ false → HaveAllOf t range directory marks × (rows ≡ count_in t range directory)
    marking_stops e left_over is outside = ended (ap (where_key place_cmp (is_in t range)) is ∙ by (subst (IsMarking directory marks rows) is so))
      where
        by : IsMarking directory marks rows (e ∷ left_over) → where_key place_cmp (is_in t range) (e ∷ left_over) ≡ []
        by h = none_behind e left_over h.in_order h.begun outside
