-- Names widened within finitely many: after as many steps as there are of these, nothing more comes.
use Rattle.law_story.proofs.Lists.{In, either, has-in, in-cases, in-has, in-left, in-order, in-right, into-order}
use Rattle.salt_model.specs.Words.{widened}
use Rattle.salt_values.specs.Id.{has_id, in_order, without}
use Rattle.salt_values.specs.declared.id.Id.{Id}
use Rattle.std.proofs.Common.{arith, inl, inr, subst, sym}
use Rattle.std.specs.List.{filter, flat_map}
use Rattle.std.specs.Prelude.{Bool, List, [], cond, false, length, not, refl, suc, true, zero, ℕ, ◌++◌, ◌<◌, ◌∷◌, ◌≡◌, ◌≤◌, ◌⊎◌}

-- a way of steps, or of none
pub data Path (next : Id → List Id) : Id → Id → Type 0 where
  here : {u : Id} → Path next u u
  onward : {u v w : Id} → In v (next u) → Path next v w → Path next u w

in-flat_map : {A B : Type 0} (f : A → List B) (y : B) (xs : List A) → In y (flat_map f xs) → (x : A) × In x xs × In y (f x)
in-flat_map f y [] h = absurd h
in-flat_map f y (x ∷ xs) h =
    either (λ g. (x, inl refl, g)) (λ g. let r = in-flat_map f y xs g in (r.0, inr r.1, r.2)) (in-cases y (f x) (flat_map f xs) h)

into-flat_map : {A B : Type 0} (f : A → List B) (x : A) (y : B) (xs : List A) → In x xs → In y (f x) → In y (flat_map f xs)
into-flat_map f x y [] i h = absurd i
into-flat_map f x y (z ∷ zs) (inl e) h = in-left y (f z) (flat_map f zs) (subst (λ w. In y (f w)) (sym e) h)
into-flat_map f x y (z ∷ zs) (inr i) h = in-right y (f z) (flat_map f zs) (into-flat_map f x y zs i h)

-- a test q that passes all that p passes: it leaves no more of a list, and fewer where it passes one more
module _ {A : Type 0} (p q : A → Bool) (more : (x : A) → p x ≡ true → q x ≡ true) where
  abbrev left_by : (A → Bool) → List A → List A
  left_by t xs = filter (λ x. not (t x)) xs

  leaves-no_more : (xs : List A) → length (left_by q xs) ≤ length (left_by p xs)
  leaves-no_more [] = omega arith
  leaves-no_more (x ∷ xs) = by (p x) (q x) (more x) (leaves-no_more xs)
    where
      by : (a b : Bool) → (a ≡ true → b ≡ true) → length (left_by q xs) ≤ length (left_by p xs) → length (cond (not b) (x ∷ left_by q xs) (left_by q xs)) ≤ length (cond (not a) (x ∷ left_by p xs) (left_by p xs))
      by true true m h = h
      by true false m h = let e = m refl in cc
      by false true m h = omega arith
      by false false m h = omega arith

  leaves-fewer : (xs : List A) → ((x : A) → In x xs → q x ≡ true → p x ≡ true) ⊎ (length (left_by q xs) < length (left_by p xs))
  leaves-fewer [] = inl (λ x i. absurd i)
  leaves-fewer (x ∷ xs) = by (p x) refl (q x) refl (leaves-no_more xs) (leaves-fewer xs)
    where
      by : (a : Bool) → p x ≡ a → (b : Bool) → q x ≡ b → length (left_by q xs) ≤ length (left_by p xs) → ((y : A) → In y xs → q y ≡ true → p y ≡ true) ⊎ (length (left_by q xs) < length (left_by p xs)) →
          ((y : A) → In y (x ∷ xs) → q y ≡ true → p y ≡ true) ⊎ (length (cond (not b) (x ∷ left_by q xs) (left_by q xs)) < length (cond (not a) (x ∷ left_by p xs) (left_by p xs)))
      by true e true f l (inl h) = inl (λ y i g. either (λ s. subst (λ z. p z ≡ true) s e) (λ j. h y j g) i)
      by true e true f l (inr h) = inr h
      by true e false f l h = let t = more x e in cc
      by false e true f l h = inr (omega arith)
      by false e false f l (inl h) = inl (λ y i g. either (λ s. let t : q x ≡ true = subst (λ z. q z ≡ true) (sym s) g in cc) (λ j. h y j g) i)
      by false e false f l (inr h) = inr (omega arith)

abbrev wider : (Id → List Id) → List Id → List Id
wider next seen = in_order (seen ++ flat_map next seen)

into-wider : (next : Id → List Id) (seen : List Id) (x : Id) → In x seen → In x (wider next seen)
into-wider next seen x i = into-order x _ (in-left x seen (flat_map next seen) i)

stays : (next : Id → List Id) (n : ℕ) (seen : List Id) (x : Id) → In x seen → In x (widened next n seen)
stays next zero seen x i = i
stays next (suc n) seen x i = stays next n (wider next seen) x (into-wider next seen x i)

-- what has come has come by a way
pub comes-by : (next : Id → List Id) (n : ℕ) (seen : List Id) (c : Id) → In c (widened next n seen) → (y : Id) × In y seen × Path next y c
comes-by next zero seen c h = (c, h, here)
comes-by next (suc n) seen c h =
    let r = comes-by next n (wider next seen) c h in
    either (λ i. (r.0, i, r.2)) (λ i. let m = in-flat_map next r.0 seen i in (m.0, m.1, onward m.2 r.2)) (in-cases r.0 seen _ (in-order r.0 _ r.1))

-- whatever a step leads to is among the names, or leads nowhere
module _ (next : Id → List Id) (names : List Id) (inner : (x y : Id) → In x (next y) → In x names ⊎ (next x ≡ [])) where
  abbrev IsClosed : List Id → Type 0
  IsClosed seen = (x y : Id) → In x names → In y seen → In x (next y) → In x seen

  closed-wider : (seen : List Id) → IsClosed seen → IsClosed (wider next seen)
  closed-wider seen k x y n i h = into-wider next seen x (either (λ j. k x y n j h) (λ j. from (in-flat_map next y seen j)) (in-cases y seen (flat_map next seen) (in-order y _ i)))
    where
      from : (z : Id) × In z seen × In y (next z) → In x seen
      from r = either (λ m. k x y n (k y r.0 m r.1 r.2) h) (λ e. absurd (subst (In x) e h)) (inner y r.0 r.2)

  closed-stays : (n : ℕ) (seen : List Id) → IsClosed seen → IsClosed (widened next n seen)
  closed-stays zero seen k = k
  closed-stays (suc n) seen k = closed-stays n (wider next seen) (closed-wider seen k)

  closed-or-fewer : (seen : List Id) → IsClosed seen ⊎ (length (without (wider next seen) names) < length (without seen names))
  closed-or-fewer seen = either (λ same. inl (λ x y n i h. has-in x seen (same x n (in-has x _ (into-order x _ (in-right x seen _ (into-flat_map next y x seen i h))))))) (λ l. inr l)
      (leaves-fewer (λ u. has_id u seen) (λ u. has_id u (wider next seen)) (λ x h. in-has x _ (into-wider next seen x (has-in x seen h))) names)

  ends-closed : (n : ℕ) (seen : List Id) → length (without seen names) ≤ n → IsClosed (widened next n seen)
  ends-closed zero seen h = either (λ k. k) (λ l. absurd (omega arith)) (closed-or-fewer seen)
  ends-closed (suc n) seen h = either (λ k. closed-stays (suc n) seen k) (λ l. ends-closed n (wider next seen) (omega arith)) (closed-or-fewer seen)

  led : (seen : List Id) → IsClosed seen → (y c : Id) → Path next y c → In c names → In y seen → In c seen
  led seen k y c here n i = i
  led seen k y c (onward {v = z} h r) n i = either (λ m. led seen k z c r n (k z y m i h)) (λ e. stop z c r e h n) (inner z y h)
    where
      stop : (x d : Id) → Path next x d → next x ≡ [] → In x (next y) → In d names → In d seen
      stop x d here e g m = k d y m i g
      stop x d (onward {v = v} j s) e g m = absurd (subst (In v) e j)

  -- as many steps as names are not seen yet bring each name to which a way leads
  pub all-come : (n : ℕ) (seen : List Id) → length (without seen names) ≤ n → (y c : Id) → In y seen → Path next y c → In c names → In c (widened next n seen)
  all-come n seen h y c i r m = led (widened next n seen) (ends-closed n seen h) y c r m (stays next n seen y i)
