-- The tables of all partitions together, and what changes make of them.
use Rattle.salt_model.specs.Tables.{Tables, changed_at, make_change, place_cmp, row_at, with_changes}
use Rattle.salt_model.specs.declared.places.Place.{Place}
use Rattle.salt_values.specs.declared.change.Change.{Change}
use Rattle.salt_values.specs.declared.value.Value.{Value}
use Rattle.salt_stands.proofs.Places.{equal_is, or_row, place_same, row_at_entries, row_at_set, same_tables}
use Rattle.salt_stands.specs.Partition.{part_of_key}
use Rattle.salt_stands.specs.Pieces.{listed}
use Rattle.salt_stands.specs.Tables.{joined}
use Rattle.salt_stands.specs.Placed.{AreOfParts, IsPlaced, changes_at, is_of_part}
use Rattle.salt_place.specs.declared.placement.Shape.{Shape}
use Rattle.std.proofs.Common.{Bool, List, None, Option, Some, [], ap, arith, false, refl, suc, sym, true, zero, ℕ, ◌+◌, ◌<◌, ◌≡◌, ◌≢◌, ◌≤◌, ◌∙◌, ◌∷◌, ◌⊎◌, inl, inr}
use Rattle.std.proofs.lemmas.Bool.Decides.{Decides-eqb, nat_tests}
use Rattle.std.specs.Ordering.{is_eq}
use Rattle.std.specs.Prelude.{cond, ◌==◌}

-- the last change at a place, if there is one
abbrev last_at : Place → List Change → Option (Option (List Value))
last_at q [] = None
last_at q (c ∷ cs) = elim (last_at q cs) [ Some row ↦ Some row | None ↦ cond (is_eq (place_cmp q (changed_at c))) (Some c.row) None ]

abbrev or_now : Option (Option (List Value)) → Option (List Value) → Option (List Value)
or_now None now = now
or_now (Some row) now = row

row_at_changes : (q : Place) (cs : List Change) (t : Tables) → row_at q (with_changes cs t) ≡ or_now (last_at q cs) (row_at q t)
unfolding with_changes
row_at_changes q [] t = refl
row_at_changes q (c ∷ cs) t = row_at_changes q cs (make_change c t) ∙ ap (or_now (last_at q cs)) (row_at_set q (changed_at c) c.row t) ∙ by (last_at q cs) (is_eq (place_cmp q (changed_at c)))
  where
    by : (o : Option (Option (List Value))) (b : Bool) → or_now o (cond b c.row (row_at q t)) ≡ or_now (elim o [ Some row ↦ Some row | None ↦ cond b (Some c.row) None ]) (row_at q t)
    by (Some row) b = refl
    by None true = refl
    by None false = refl

module _ (shape : Shape) where
  part : Place → ℕ
  part q = part_of_key shape q.key

  -- at a place of part k the changes of part k are all that matter
  last_of_part : (q : Place) (cs : List Change) → last_at q (changes_at shape (part_of_key shape q.key) cs) ≡ last_at q cs
  last_of_part q [] = refl
  last_of_part q (c ∷ cs) = by (is_of_part shape (part_of_key shape q.key) c) refl (last_of_part q cs)
    where
      other : (b : Bool) → is_eq (place_cmp q (changed_at c)) ≡ b → is_of_part shape (part_of_key shape q.key) c ≡ false → b ≡ false
      other false e f = refl
      other true e f =
          let s : q ≡ (changed_at c) = place_same q (changed_at c) (equal_is _ e) in
          let g : is_of_part shape (part_of_key shape q.key) c ≡ true = (Decides-eqb (part_of_key shape c.key) (part_of_key shape q.key)).1 (ap (λ (x : Place). part_of_key shape x.key) (sym s)) in
          cc

      by : (b : Bool) → is_of_part shape (part_of_key shape q.key) c ≡ b → last_at q (changes_at shape (part_of_key shape q.key) cs) ≡ last_at q cs
          → last_at q (cond b (c ∷ changes_at shape (part_of_key shape q.key) cs) (changes_at shape (part_of_key shape q.key) cs)) ≡ last_at q (c ∷ cs)
      by true e h = ap (λ o. elim o [ Some row ↦ Some row | None ↦ cond (is_eq (place_cmp q (changed_at c))) (Some c.row) None ]) h
      by false e h = h ∙ step (last_at q cs)
        where
          step : (o : Option (Option (List Value))) → o ≡ elim o [ Some row ↦ Some row | None ↦ cond (is_eq (place_cmp q (changed_at c))) (Some c.row) None ]
          step (Some row) = refl
          step None = ap (λ b. cond b (Some c.row) None) (sym (other (is_eq (place_cmp q (changed_at c))) refl e))

  -- where no change is at a part, none is at its places
  last_none : (q : Place) (n : ℕ) (cs : List Change) → AreOfParts shape n cs → n ≤ part_of_key shape q.key → last_at q cs ≡ None
  last_none q n [] below h = refl
  last_none q n (c ∷ cs) below h = ap (λ o. elim o [ Some row ↦ Some row | None ↦ cond (is_eq (place_cmp q (changed_at c))) (Some c.row) None ]) (last_none q n cs below.1 h) ∙ ap (λ b. cond b (Some c.row) None) (other (is_eq (place_cmp q (changed_at c))) refl)
    where
      other : (b : Bool) → is_eq (place_cmp q (changed_at c)) ≡ b → b ≡ false
      other false e = refl
      other true e =
          let s : q ≡ (changed_at c) = place_same q (changed_at c) (equal_is _ e) in
          let g : part_of_key shape q.key ≡ part_of_key shape c.key = ap (λ (x : Place). part_of_key shape x.key) s in
          absurd (omega (arith, below.0, h, g))

  -- placed tables have no row at a place of another part
  elsewhere : (p : ℕ) (t : Tables) (q : Place) → IsPlaced shape p t → part_of_key shape q.key ≢ p → row_at q t ≡ None
  elsewhere p t q placed other = by (row_at q t) refl
    where
      by : (o : Option (List Value)) → row_at q t ≡ o → o ≡ None
      by None e = refl
      by (Some row) e = absurd (other (placed q row e))

  -- the row at a place, among n parts from p on: that of its own part
  found_none : (T : ℕ → Tables) (q : Place) (p n : ℕ) → ((k : ℕ) → k < p + n → IsPlaced shape k (T k)) → ((part_of_key shape q.key < p) ⊎ (p + n ≤ part_of_key shape q.key)) → row_at q (joined (listed T p n)) ≡ None
  unfolding joined
  found_none T q p zero placed out = refl
  found_none T q p (suc n) placed out =
      row_at_entries q (T p).list (joined (listed T (suc p) n))
      ∙ ap (λ o. or_row o (row_at q (joined (listed T (suc p) n)))) (elsewhere p (T p) q (placed p (omega arith)) (apart out))
      ∙ found_none T q (suc p) n (λ k low. placed k (omega (arith, low))) (behind out)
    where
      apart : ((part_of_key shape q.key < p) ⊎ (p + suc n ≤ part_of_key shape q.key)) → part_of_key shape q.key ≢ p
      apart (inl h) e = omega (arith, h, e)
      apart (inr h) e = omega (arith, h, e)

      behind : ((part_of_key shape q.key < p) ⊎ (p + suc n ≤ part_of_key shape q.key)) → (part_of_key shape q.key < suc p) ⊎ (suc p + n ≤ part_of_key shape q.key)
      behind (inl h) = inl (omega (arith, h))
      behind (inr h) = inr (omega (arith, h))

  pub row_at_joined : (T : ℕ → Tables) (q : Place) (p n : ℕ) → ((k : ℕ) → k < p + n → IsPlaced shape k (T k)) → p ≤ part_of_key shape q.key → part_of_key shape q.key < p + n → row_at q (joined (listed T p n)) ≡ row_at q (T (part_of_key shape q.key))
  unfolding joined
  row_at_joined T q p zero placed low high = absurd (omega (arith, low, high))
  row_at_joined T q p (suc n) placed low high =
      row_at_entries q (T p).list (joined (listed T (suc p) n)) ∙ by (part_of_key shape q.key == p) refl (row_at_joined T q (suc p) n (λ k low. placed k (omega (arith, low))))
    where
      or_none : (o : Option (List Value)) → or_row o None ≡ o
      or_none None = refl
      or_none (Some row) = refl

      by : (b : Bool) → (part_of_key shape q.key == p) ≡ b
          → (suc p ≤ part_of_key shape q.key → part_of_key shape q.key < suc p + n → row_at q (joined (listed T (suc p) n)) ≡ row_at q (T (part_of_key shape q.key)))
          → or_row (row_at q (T p)) (row_at q (joined (listed T (suc p) n))) ≡ row_at q (T (part_of_key shape q.key))
      by true e h =
          let same : part_of_key shape q.key ≡ p = (Decides-eqb (part_of_key shape q.key) p).0 e in
          ap (λ o. or_row (row_at q (T p)) o) (found_none T q (suc p) n (λ k low. placed k (omega (arith, low))) (inl (omega (arith, same)))) ∙ or_none (row_at q (T p)) ∙ ap (λ k. row_at q (T k)) (sym same)
      by false e h =
          let other : part_of_key shape q.key ≢ p = λ s. grind (arith, nat_tests) in
          ap (λ o. or_row o (row_at q (joined (listed T (suc p) n)))) (elsewhere p (T p) q (placed p (omega arith)) other) ∙ h (omega (arith, low, other)) (omega (arith, high))

  -- changes of places of part p leave tables placed there
  pub placed_changes : (p : ℕ) (cs : List Change) (t : Tables) → IsPlaced shape p t → IsPlaced shape p (with_changes (changes_at shape p cs) t)
  unfolding with_changes
  placed_changes p [] t placed = placed
  placed_changes p (c ∷ cs) t placed = by (is_of_part shape p c) refl (placed_changes p cs)
    where
      made : is_of_part shape p c ≡ true → IsPlaced shape p (make_change c t)
      made e q row is = one (is_eq (place_cmp q (changed_at c))) refl (sym (row_at_set q (changed_at c) c.row t) ∙ is)
        where
          one : (b : Bool) → is_eq (place_cmp q (changed_at c)) ≡ b → cond b c.row (row_at q t) ≡ Some row → part_of_key shape q.key ≡ p
          one true f g = ap (λ (x : Place). part_of_key shape x.key) (place_same q (changed_at c) (equal_is _ f)) ∙ (Decides-eqb (part_of_key shape c.key) p).0 e
          one false f g = placed q row g

      by : (b : Bool) → is_of_part shape p c ≡ b → ((u : Tables) → IsPlaced shape p u → IsPlaced shape p (with_changes (changes_at shape p cs) u)) → IsPlaced shape p (with_changes (cond b (c ∷ changes_at shape p cs) (changes_at shape p cs)) t)
      by true e h = h (make_change c t) (made e)
      by false e h = h t placed

  -- WHAT CHANGES MAKE OF ALL TABLES: each part's, where the part has those of its places
  pub joined_changes : (T : ℕ → Tables) (n : ℕ) (cs : List Change) → ((k : ℕ) → k < n → IsPlaced shape k (T k)) → AreOfParts shape n cs
      → joined (listed (λ k. with_changes (changes_at shape k cs) (T k)) 0 n) ≡ with_changes cs (joined (listed T 0 n))
  joined_changes T n cs placed below = same_tables (joined (listed U 0 n)) (with_changes cs (joined (listed T 0 n))) (λ q. at q (Rattle.std.proofs.lemmas.Bool.cases_lt (part_of_key shape q.key) n))
    where
      U : ℕ → Tables
      U k = with_changes (changes_at shape k cs) (T k)

      placed_now : (k : ℕ) → k < 0 + n → IsPlaced shape k (U k)
      placed_now k low = placed_changes k cs (T k) (placed k (omega (arith, low)))

      placed_all : (k : ℕ) → k < 0 + n → IsPlaced shape k (T k)
      placed_all k low = placed k (omega (arith, low))

      at : (q : Place) → ((part_of_key shape q.key < n) ⊎ (n ≤ part_of_key shape q.key)) → row_at q (joined (listed U 0 n)) ≡ row_at q (with_changes cs (joined (listed T 0 n)))
      at q (inl h) =
          let k = part_of_key shape q.key in
          row_at_joined U q 0 n placed_now (omega arith) (omega (arith, h))
          ∙ row_at_changes q (changes_at shape k cs) (T k)
          ∙ ap (λ o. or_now o (row_at q (T k))) (last_of_part q cs)
          ∙ sym (row_at_changes q cs (joined (listed T 0 n)) ∙ ap (or_now (last_at q cs)) (row_at_joined T q 0 n placed_all (omega arith) (omega (arith, h))))
      at q (inr h) =
          found_none U q 0 n placed_now (inr (omega (arith, h)))
          ∙ sym (row_at_changes q cs (joined (listed T 0 n)) ∙ ap (λ o. or_now o (row_at q (joined (listed T 0 n)))) (last_none q n cs below h) ∙ found_none T q 0 n placed_all (inr (omega (arith, h))))
