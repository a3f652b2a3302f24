-- What the calls of restoring leave: the cover, and the group.
use Rattle.law_states.specs.DependencyCalls.{AreSame}
use Rattle.law_states.specs.KeptCover.{group_of}
use Rattle.law_states.specs.KeptLocks.{Numbered, is_owned_by, numbered_from, saline_of}
use Rattle.law_states.specs.KeptSources.{Dependencies, WritesIn, no_dependencies}
use Rattle.law_states.specs.LockCalls.{HasSalted}
use Rattle.law_states.specs.Members.{In, SameMembers}
use Rattle.law_states.specs.Restoring.{AreKeys, ForgotEach, ReadEach, TakenEach, WroteEach, whole}
use Rattle.law_story.proofs.Ids.{and_left, and_right, is_same_id-refl}
use Rattle.law_story.proofs.Lists.{either, has-in, in-has}
use Rattle.law_story.proofs.Places.{equal-is, place_same}
use Rattle.salt_model.specs.Locks.{cover_lock, lock_of}
use Rattle.salt_model.specs.Tables.{place, place_cmp, place_total}
use Rattle.salt_model.specs.declared.events.Owner.TheVariants.{Unit}
use Rattle.salt_model.specs.declared.locks.Family.{Family}
use Rattle.salt_model.specs.declared.locks.Lock.{Lock}
use Rattle.salt_model.specs.declared.locks.Reach.{Reach}
use Rattle.salt_model.specs.declared.places.Place.{Place}
use Rattle.salt_values.specs.Id.{has_id, is_same_id}
use Rattle.salt_values.specs.declared.id.Id.{Id}
use Rattle.salt_values.specs.declared.value.Value.{Value}
use Rattle.salt_values.specs.declared.value.Value.TheVariants.{Int}
use Rattle.std.proofs.Common.{ap, arith, inl, inr, subst, sym, ◌∙◌}
use Rattle.std.proofs.lemmas.Bool.Decides.{nat_tests}
use Rattle.std.proofs.lemmas.Cmp.{tied_itself}
use Rattle.std.specs.Ordering.{is_eq}
use Rattle.std.specs.Prelude.{Bool, IsTrue, List, None, Option, Some, [], cond, false, length, map, nat_lt, not, pos, refl, true, ℕ, ◌&&◌, ◌+◌, ◌<◌, ◌↔◌, ◌∷◌, ◌≡◌, ◌≤◌, ◌⊎◌}

-- LOCKS

module _ (u b : Id) (f : Family) where
  abbrev mine : ℕ → Lock
  mine t = lock_of (Unit u) f (whole t)

  taken-forth : (k : ℕ) (ts : List ℕ) (old new : List Numbered) → TakenEach u f k ts old new → (n : Numbered) → In n new → In n old ⊎ In n (numbered_from k (map mine ts))
  taken-forth k [] old new h n i = inl ((h n).0 i)
  taken-forth k (t ∷ ts) old new h n i = either
      (λ j. either (λ x. inl x) (λ e. inr (inl (sym e))) ((h.1 n).0 j))
      (λ j. inr (inr j))
      (taken-forth (k + 1) ts h.0 new h.2 n i)

  taken-back : (k : ℕ) (ts : List ℕ) (old new : List Numbered) → TakenEach u f k ts old new → (n : Numbered) → In n old ⊎ In n (numbered_from k (map mine ts)) → In n new
  taken-back k [] old new h n (inl i) = (h n).1 i
  taken-back k [] old new h n (inr i) = absurd i
  taken-back k (t ∷ ts) old new h n (inl i) = taken-back (k + 1) ts h.0 new h.2 n (inl ((h.1 n).1 (inl i)))
  taken-back k (t ∷ ts) old new h n (inr (inl e)) = taken-back (k + 1) ts h.0 new h.2 n (inl ((h.1 n).1 (inr (sym e))))
  taken-back k (t ∷ ts) old new h n (inr (inr i)) = taken-back (k + 1) ts h.0 new h.2 n (inr i)

  abbrev salted : Numbered → Numbered
  salted m = record { number = m.number; lock = saline_of b m.lock }

  salted-in : (k : ℕ) (ts : List ℕ) (m : Numbered) → In m (numbered_from k (map mine ts)) → In (salted m) (numbered_from k (map (cover_lock b) ts))
  salted-in k [] m i = absurd i
  salted-in k (t ∷ ts) m (inl e) = inl (ap salted e)
  salted-in k (t ∷ ts) m (inr i) = inr (salted-in (k + 1) ts m i)

  salted-from : (k : ℕ) (ts : List ℕ) (n : Numbered) → In n (numbered_from k (map (cover_lock b) ts)) → (m : Numbered) × In m (numbered_from k (map mine ts)) × (n ≡ salted m)
  salted-from k [] n i = absurd i
  salted-from k (t ∷ ts) n (inl e) = (record { number = k; lock = mine t }, inl refl, sym e)
  salted-from k (t ∷ ts) n (inr i) = let r = salted-from (k + 1) ts n i in (r.0, inr r.1, r.2)

  own : (k : ℕ) (ts : List ℕ) (m : Numbered) → In m (numbered_from k (map mine ts)) → is_owned_by (Unit u) m.lock ≡ true
  own k [] m i = absurd i
  own k (t ∷ ts) m (inl e) = subst (λ (x : Numbered). is_owned_by (Unit u) x.lock ≡ true) e (is_same_id-refl u)
  own k (t ∷ ts) m (inr i) = own (k + 1) ts m i

  pub restored-locks : (ts : List ℕ) (mid new : List Numbered) → TakenEach u f 0 ts [] mid → HasSalted u b mid new → SameMembers new (numbered_from 0 (map (cover_lock b) ts))
  restored-locks ts mid new h s n = (forth, back)
    where
      unit-lock : (m : Numbered) → In m mid → In m (numbered_from 0 (map mine ts))
      unit-lock m i = either (λ x. absurd x) (λ j. j) (taken-forth 0 ts [] mid h m i)

      forth : In n new → In n (numbered_from 0 (map (cover_lock b) ts))
      forth i = either
          (λ r. let t : true ≡ false = sym (own 0 ts n (unit-lock n r.0)) ∙ r.1 in cc)
          (λ r. subst (λ x. In x (numbered_from 0 (map (cover_lock b) ts))) (sym r.3) (salted-in 0 ts r.0 (unit-lock r.0 r.1)))
          ((s n).0 i)

      back : In n (numbered_from 0 (map (cover_lock b) ts)) → In n new
      back i = let r = salted-from 0 ts n i in (s n).1 (inr (r.0, taken-back 0 ts [] mid h r.0 (inr r.1), own 0 ts r.0 r.1, r.2))

-- PAIRS

at-least : (k j : ℕ) → k ≤ j → (j ≡ k) ⊎ (k + 1 ≤ j)
at-least k j h = by (nat_lt k j) refl
  where
    by : (t : Bool) → nat_lt k j ≡ t → (j ≡ k) ⊎ (k + 1 ≤ j)
    by true e = inr (grind (arith, nat_tests))
    by false e = inl (grind (arith, nat_tests))

module _ (r : Reach) (key : ℕ → Value) (keys : AreKeys r key) where
  abbrev at : ℕ → Place
  at i = place r.table (key i)

  other-key : (i k : ℕ) → i < k → is_eq (place_cmp (at i) (at k)) ≡ false
  other-key i k h = by (is_eq (place_cmp (at i) (at k))) refl
    where
      by : (t : Bool) → is_eq (place_cmp (place r.table (key i)) (place r.table (key k))) ≡ t → t ≡ false
      by true e = let q = keys.apart i k e in absurd (omega arith)
      by false e = refl

  written-later : (k : ℕ) (bs : List Id) (old new : Dependencies) → WroteEach r key k bs old new → (i : ℕ) → i < k → new.writer (at i) ≡ old.writer (at i)
  written-later k [] old new h i l = h.writer (at i)
  written-later k (b ∷ bs) old new h i l =
      written-later (k + 1) bs h.0 new h.2 i (omega arith) ∙ h.1.writer (at i) ∙ ap (λ t. cond t (Some b) (old.writer (at i))) (other-key i k l)

  written-in : (k : ℕ) (bs : List Id) (old new : Dependencies) → WroteEach r key k bs old new → (y : Id) → In y bs → (i : ℕ) × (new.writer (at i) ≡ Some y)
  written-in k [] old new h y i = absurd i
  written-in k (b ∷ bs) old new h y (inl e) =
      (k, written-later (k + 1) bs h.0 new h.2 k (omega arith) ∙ h.1.writer (at k) ∙ ap (λ t. cond t (Some b) (old.writer (at k))) (ap is_eq (tied_itself place_total (at k))) ∙ ap Some e)
  written-in k (b ∷ bs) old new h y (inr i) = written-in (k + 1) bs h.0 new h.2 y i

  -- whoever wrote last did so before, or is one of these, at a key of theirs
  written-back : (k : ℕ) (bs : List Id) (old new : Dependencies) → WroteEach r key k bs old new → (q : Place) (y : Id) → new.writer q ≡ Some y →
      (old.writer q ≡ Some y) ⊎ (In y bs × ((j : ℕ) × (k ≤ j) × (j < k + length bs) × (is_eq (place_cmp q (at j)) ≡ true)))
  written-back k [] old new h q y e = inl (sym (h.writer q) ∙ e)
  written-back k (b ∷ bs) old new h q y e = either
      (λ g. by (is_eq (place_cmp q (at k))) refl (sym (h.1.writer q) ∙ g))
      (λ m. inr (inr m.0, (m.1.0, omega (arith, m.1.1), omega (arith, m.1.2), m.1.3)))
      (written-back (k + 1) bs h.0 new h.2 q y e)
    where
      by : (t : Bool) → is_eq (place_cmp q (place r.table (key k))) ≡ t → cond t (Some b) (old.writer q) ≡ Some y →
          (old.writer q ≡ Some y) ⊎ (In y (b ∷ bs) × ((j : ℕ) × (k ≤ j) × (j < k + length (b ∷ bs)) × (is_eq (place_cmp q (place r.table (key j))) ≡ true)))
      by true z g = let s : b ≡ y = cc in inr (inl s, (k, omega arith, omega arith, z))
      by false z g = inl g

  forgot-back : (k : ℕ) (bs : List Id) (old new : Dependencies) → ForgotEach r key k bs old new → (q : Place) (y : Id) → new.writer q ≡ Some y →
      (old.writer q ≡ Some y) × ((j : ℕ) → k ≤ j → j < k + length bs → is_eq (place_cmp q (at j)) ≡ false)
  forgot-back k [] old new h q y e = (sym (h.writer q) ∙ e, λ j l m. absurd (omega arith))
  forgot-back k (b ∷ bs) old new h q y e =
      let more = forgot-back (k + 1) bs h.0 new h.2 q y e in
      by (is_eq (place_cmp q (at k))) refl (sym (h.1.writer q) ∙ more.0) more.1
    where
      by : (t : Bool) → is_eq (place_cmp q (place r.table (key k))) ≡ t → cond t None (old.writer q) ≡ Some y →
          ((j : ℕ) → k + 1 ≤ j → j < (k + 1) + length bs → is_eq (place_cmp q (place r.table (key j))) ≡ false) →
          (old.writer q ≡ Some y) × ((j : ℕ) → k ≤ j → j < k + length (b ∷ bs) → is_eq (place_cmp q (place r.table (key j))) ≡ false)
      by true z g more = cc
      by false z g more = (
        g,
        λ j l m. either
            (λ s. subst (λ x. is_eq (place_cmp q (place r.table (key x))) ≡ false) (sym s) z)
            (λ s. more j s (omega arith)) (at-least k j l),
      )

  read-writer : (bs : List Id) (old new : Dependencies) → ReadEach r bs old new → (q : Place) → new.writer q ≡ old.writer q
  read-writer [] old new h q = h.writer q
  read-writer (b ∷ bs) old new h q = read-writer bs h.0 new h.2 q ∙ h.1.writer q

  through : (f g : Place → Option Id) → ((q : Place) → f q ≡ g q) → (y : Id) → WritesIn f (Some r) y → WritesIn g (Some r) y
  through f g e y h = (h.0, h.1, sym (e (place r.table h.0)) ∙ h.2)

  read-pairs : (bs : List Id) (old new : Dependencies) → ReadEach r bs old new → (x y : Id) →
      IsTrue (new.reads x y) ↔ (IsTrue (old.reads x y) ⊎ (In x bs × (is_same_id y x ≡ false) × WritesIn old.writer (Some r) y))
  read-pairs [] old new h x y = ((λ t. inl ((h.reads x y).0 t)), (λ t. either (λ i. (h.reads x y).1 i) (λ m. absurd m.0) t))
  read-pairs (b ∷ bs) old new h x y = (
    (λ t. either
        (λ i. either (λ j. inl j) (λ m. inr (inl m.0, m.1, m.2)) ((h.1.reads x y).0 i))
        (λ m. inr (inr m.0, m.1, through h.0.writer old.writer h.1.writer y m.2)) ((read-pairs bs h.0 new h.2 x y).0 t)),
    (λ t. either
        (λ i. (read-pairs bs h.0 new h.2 x y).1 (inl ((h.1.reads x y).1 (inl i))))
        (λ m. either
        (λ e. (read-pairs bs h.0 new h.2 x y).1 (inl ((h.1.reads x y).1 (inr (e, m.1, m.2)))))
        (λ j. (read-pairs bs h.0 new h.2 x y).1 (inr (j, m.1, through old.writer h.0.writer (λ q. sym (h.1.writer q)) y m.2))) m.0) t),
  )

  write-pairs : (k : ℕ) (bs : List Id) (old new : Dependencies) → WroteEach r key k bs old new → (x y : Id) → IsTrue (new.reads x y) ↔ IsTrue (old.reads x y)
  write-pairs k [] old new h x y = h.reads x y
  write-pairs k (b ∷ bs) old new h x y = let m = write-pairs (k + 1) bs h.0 new h.2 x y in ((λ t. (h.1.reads x y).0 (m.0 t)), (λ t. m.1 ((h.1.reads x y).1 t)))

  forget-pairs : (k : ℕ) (bs : List Id) (old new : Dependencies) → ForgotEach r key k bs old new → (x y : Id) → IsTrue (new.reads x y) ↔ IsTrue (old.reads x y)
  forget-pairs k [] old new h x y = h.reads x y
  forget-pairs k (b ∷ bs) old new h x y = let m = forget-pairs (k + 1) bs h.0 new h.2 x y in ((λ t. (h.1.reads x y).0 (m.0 t)), (λ t. m.1 ((h.1.reads x y).1 t)))

  write-done : (k : ℕ) (bs : List Id) (old new : Dependencies) → WroteEach r key k bs old new → (c : Id) → IsTrue (new.finished c) → IsTrue (old.finished c)
  write-done k [] old new h c t = (h.finished c).0 t
  write-done k (b ∷ bs) old new h c t = (h.1.finished c).0 (write-done (k + 1) bs h.0 new h.2 c t)

  read-done : (bs : List Id) (old new : Dependencies) → ReadEach r bs old new → (c : Id) → IsTrue (new.finished c) → IsTrue (old.finished c)
  read-done [] old new h c t = (h.finished c).0 t
  read-done (b ∷ bs) old new h c t = (h.1.finished c).0 (read-done bs h.0 new h.2 c t)

  forget-done : (k : ℕ) (bs : List Id) (old new : Dependencies) → ForgotEach r key k bs old new → (c : Id) → IsTrue (new.finished c) → IsTrue (old.finished c)
  forget-done k [] old new h c t = (h.finished c).0 t
  forget-done k (b ∷ bs) old new h c t = (h.1.finished c).0 (forget-done (k + 1) bs h.0 new h.2 c t)

  pub restored-group : (bs : List Id) (one two new : Dependencies) → WroteEach r key 0 bs no_dependencies one → ReadEach r bs one two → ForgotEach r key 0 bs two new →
      AreSame (group_of bs) new
  restored-group bs one two new h g f = record {
    writer = λ q. none (new.writer q) refl q refl;
    reads = λ x y. (forth x y, back x y);
    finished = λ c. ((λ t. absurd (never (write-done 0 bs no_dependencies one h c (read-done bs one two g c (forget-done 0 bs two new f c t))))), (λ t. absurd (never t)));
  }
    where
      never : IsTrue false → ⊥
      never t = cc

      none : (o : Option Id) → o ≡ o → (q : Place) → new.writer q ≡ o → o ≡ None
      none None z q e = refl
      none (Some y) z q e =
          let m = forgot-back 0 bs two new f q y e in
          either (λ n. cc) (λ w. let t : true ≡ false = sym w.1.3 ∙ m.1 w.1.0 w.1.1 w.1.2 in cc)
          (written-back 0 bs no_dependencies one h q y (sym (read-writer bs one two g q) ∙ m.0))

      split : (x y : Id) → (has_id x bs && has_id y bs && not (is_same_id y x)) ≡ true → (has_id x bs ≡ true) × (has_id y bs ≡ true) × (is_same_id y x ≡ false)
      split x y t = (and_left _ _ (and_left (has_id x bs && has_id y bs) _ t), and_right (has_id x bs) _ (and_left (has_id x bs && has_id y bs) _ t), un-not _ (and_right (has_id x bs && has_id y bs) _ t))
        where
          un-not : (t : Bool) → not t ≡ true → t ≡ false
          un-not true h = cc
          un-not false h = refl

      three : (a b c : Bool) → a ≡ true → b ≡ true → c ≡ false → (a && b && not c) ≡ true
      three true true false e f g = refl
      three false b c e f g = cc
      three true false c e f g = cc
      three true true true e f g = cc

      forth : (x y : Id) → IsTrue (new.reads x y) → IsTrue ((group_of bs).reads x y)
      forth x y t = either
          (λ i. absurd (never ((write-pairs 0 bs no_dependencies one h x y).0 i)))
          (λ m. let w = written-back 0 bs no_dependencies one h (place r.table m.2.0) y m.2.2 in
          three _ _ _ (in-has x bs m.0) (in-has y bs (either (λ n. cc) (λ z. z.0) w)) m.1)
          ((read-pairs bs one two g x y).0 ((forget-pairs 0 bs two new f x y).0 t))

      back : (x y : Id) → IsTrue ((group_of bs).reads x y) → IsTrue (new.reads x y)
      back x y t =
          let m = split x y t in
          let w = written-in 0 bs no_dependencies one h y (has-in y bs m.1) in
          (forget-pairs 0 bs two new f x y).1 ((read-pairs bs one two g x y).1 (inr (has-in x bs m.0, m.2, (key w.0, keys.within w.0, w.1))))

-- the numbers are keys for it
pub number-keys : (t : ℕ) → AreKeys (whole t) (λ i. Int (pos i))
number-keys t = record { within = λ i. refl; apart = apart }
  where
    apart : (i j : ℕ) → is_eq (place_cmp (place t (Int (pos i))) (place t (Int (pos j)))) ≡ true → i ≡ j
    apart i j e =
        let q : place t (Int (pos i)) ≡ place t (Int (pos j)) = place_same _ _ (equal-is _ e) in
        let v : Int (pos i) ≡ Int (pos j) = ap (λ (p : Place). p.key) q in cc
