-- Names that are different.
use Rattle.salt_ast.specs.Judgement.{doubled_name}
use Rattle.salt_ast.specs.Words.{is_among}
use Rattle.salt_schema.specs.Definitions.{AreDistinct, is_named, number_named}
use Rattle.salt_ast.specs.TokenSpelling.{same_bytes}
use Rattle.std.proofs.Common.{Bool, List, None, Option, Some, [], ap, arith, cond, false, map, refl, subst, sym, true, ℕ, ◌+◌, ◌++◌, ◌||◌, ◌==◌, ◌∙◌, ◌∷◌, ◌≡◌, ◌<◌, drop, drop-cons, get_or, length, slice_get, suc, take, zero}
use Rattle.std.proofs.lemmas.List.{map-append, take_more}
use Rattle.std.proofs.lemmas.Bool.Decides.{nat_tests}
use Rattle.std.specs.Borrow.{Bor}
use Rattle.std.specs.List.{position_from}
use Rattle.std.specs.Option.{option_copied}
use Rattle.std.specs.Prelude.{IfSome}

pub same_bytes_refl : (n : List ℕ) → same_bytes n n ≡ true
same_bytes_refl [] = refl
same_bytes_refl (x ∷ xs) = let own : (x == x) ≡ true = grind (arith, nat_tests) in rw (own, same_bytes_refl xs) refl

neither : (a b : Bool) → (a || b) ≡ false → (a ≡ false) × (b ≡ false)
neither true b h = absurd cc
neither false b h = (refl, h)

module _ {T : Type 0} (name : T → List ℕ) where
  -- no name of these is among those before
  head-distinct : (before : List (List ℕ)) (x : T) (xs : List T) → doubled_name before (map name (x ∷ xs)) ≡ None →
      (is_among (name x) before ≡ false) × (doubled_name (name x ∷ before) (map name xs) ≡ None)
  head-distinct before x xs h = by (is_among (name x) before) h
    where
      by : (b : Bool) → cond b (Some (name x)) (doubled_name (name x ∷ before) (map name xs)) ≡ None → (b ≡ false) × (doubled_name (name x ∷ before) (map name xs) ≡ None)
      by true h = absurd cc
      by false h = (refl, h)

  head-new : (n : List ℕ) (i : ℕ) (x : T) (xs : List T) → position_from (is_named name n) i (x ∷ xs) ≡ None →
      (same_bytes n (name x) ≡ false) × (position_from (is_named name n) (i + 1) xs ≡ None)
  head-new n i x xs h = by (same_bytes n (name x)) h
    where
      by : (b : Bool) → cond b (Some i) (position_from (is_named name n) (i + 1) xs) ≡ None → (b ≡ false) × (position_from (is_named name n) (i + 1) xs ≡ None)
      by true h = absurd cc
      by false h = (refl, h)

  -- a new name behind them is different too
  pub doubled_name-push : (before : List (List ℕ)) (xs : List T) (n : List ℕ) (i : ℕ) → doubled_name before (map name xs) ≡ None → is_among n before ≡ false →
      position_from (is_named name n) i xs ≡ None → doubled_name before (map name xs ++ n ∷ []) ≡ None
  doubled_name-push before [] n i distinct apart new = rw apart refl
  doubled_name-push before (x ∷ xs) n i distinct apart new =
      let d = head-distinct before x xs distinct in
      let w = head-new n i x xs new in
      let among : is_among n (name x ∷ before) ≡ false = rw (w.0, apart) refl in
      rw d.0 (doubled_name-push (name x ∷ before) xs n (i + 1) d.1 among w.1)

  later : (before : List (List ℕ)) (xs : List T) (i : ℕ) (x : T) → doubled_name before (map name xs) ≡ None → slice_get xs i ≡ Some x → is_among (name x) before ≡ false
  later before [] i x distinct at = absurd cc
  later before (y ∷ ys) zero x distinct at = let d = head-distinct before y ys distinct in let same : y ≡ x = cc in subst (λ z. is_among (name z) before ≡ false) same d.0
  later before (y ∷ ys) (suc i) x distinct at =
      let d = head-distinct before y ys distinct in
      (neither (same_bytes (name x) (name y)) (is_among (name x) before) (later (name y ∷ before) ys i x d.1 at)).1

  own-place : (before : List (List ℕ)) (xs : List T) (k i : ℕ) (x : T) → doubled_name before (map name xs) ≡ None → slice_get xs i ≡ Some x →
      position_from (is_named name (name x)) k xs ≡ Some (k + i)
  own-place before [] k i x distinct at = absurd cc
  own-place before (y ∷ ys) k zero x distinct at =
      let same : y ≡ x = cc in
      let own : same_bytes (name x) (name y) ≡ true = subst (λ z. same_bytes (name x) (name z) ≡ true) (sym same) (same_bytes_refl (name x)) in
      let number : k ≡ k + 0 = omega arith in
      rw own (ap Some number)
  own-place before (y ∷ ys) k (suc i) x distinct at =
      let d = head-distinct before y ys distinct in
      let apart = (neither (same_bytes (name x) (name y)) (is_among (name x) before) (later (name y ∷ before) ys i x d.1 at)).0 in
      let number : k + 1 + i ≡ k + suc i = omega arith in
      rw apart (own-place (name y ∷ before) ys (k + 1) i x d.1 at ∙ ap Some number)

  -- each has its own number
  pub number_named-own : (xs : List T) (i : ℕ) (x : T) → AreDistinct name xs → slice_get xs i ≡ Some x → number_named name (name x) xs ≡ Some i
  number_named-own xs i x distinct at = let number : 0 + i ≡ i = omega arith in own-place [] xs 0 i x distinct at ∙ ap Some number

  pub lent-own : (xs : List T) (i : ℕ) (lent : Option (Bor T)) → AreDistinct name xs → option_copied lent ≡ slice_get xs i →
      IfSome lent (λ x. number_named name (name x.now) xs ≡ Some i)
  lent-own xs i None distinct at = tt
  lent-own xs i (Some x) distinct at = number_named-own xs i x.now distinct (sym at)

or-false : (b : Bool) → (b || false) ≡ b
or-false true = refl
or-false false = refl

or_comm : (a b : Bool) → (a || b) ≡ (b || a)
or_comm true true = refl
or_comm true false = refl
or_comm false true = refl
or_comm false false = refl

or_rotate : (a b c : Bool) → (c || (a || b)) ≡ (a || (b || c))
or_rotate true b true = refl
or_rotate true b false = refl
or_rotate false b c = or_comm c b

is_among-push : (n m : List ℕ) (ms : List (List ℕ)) → is_among n (ms ++ m ∷ []) ≡ (is_among n ms || same_bytes n m)
is_among-push n m [] = or-false (same_bytes n m)
is_among-push n m (k ∷ ms) = by (same_bytes n k) (is_among-push n m ms)
  where
    by : (b : Bool) → is_among n (ms ++ m ∷ []) ≡ (is_among n ms || same_bytes n m) → (b || is_among n (ms ++ m ∷ [])) ≡ ((b || is_among n ms) || same_bytes n m)
    by true rest = refl
    by false rest = rest

-- the names that are seen are those before these, and those of the first so many of them
pub record IsSeen {T : Type 0} (name : T → List ℕ) (before : List (List ℕ)) (xs : List T) (i : ℕ) (seen : List (List ℕ)) : Type 0 where
  pub rest : doubled_name before (map name xs) ≡ doubled_name seen (map name (drop i xs))
  pub same : (n : List ℕ) → is_among n seen ≡ (is_among n before || is_among n (map name (take i xs)))

module _ {T : Type 0} (name : T → List ℕ) (before : List (List ℕ)) (xs : List T) where
  pub IsSeen-first : IsSeen name before xs 0 before
  IsSeen-first = record { rest = refl; same = λ n. sym (or-false (is_among n before)) }

  module _ (i : ℕ) (x : T) (seen : List (List ℕ)) (so_far : IsSeen name before xs i seen) (within : i < length xs) (is : x ≡ get_or xs i x) where
    split : drop i xs ≡ x ∷ drop (i + 1) xs
    split = let one : suc i ≡ i + 1 = omega arith in drop-cons xs i x within ∙ ap (λ y. y ∷ drop (suc i) xs) (sym is) ∙ ap (λ k. x ∷ drop k xs) one

    -- one that is seen comes twice
    pub IsSeen-doubled : (is_among (name x) before || is_among (name x) (map name (take i xs))) ≡ true → doubled_name before (map name xs) ≡ Some (name x)
    IsSeen-doubled h = so_far.rest ∙ rw (split, so_far.same (name x), h) refl

    -- any other is seen from here on
    pub IsSeen-more : (is_among (name x) before || is_among (name x) (map name (take i xs))) ≡ false → IsSeen name before xs (i + 1) (name x ∷ seen)
    IsSeen-more h = record {
      rest = so_far.rest ∙ rw (split, so_far.same (name x), h) refl;
      same = λ n.
          let taken : map name (take (i + 1) xs) ≡ map name (take i xs) ++ name x ∷ [] =
          ap (map name) (take_more xs i x within ∙ ap (λ y. take i xs ++ y ∷ []) (sym is)) ∙ map-append name (take i xs) (x ∷ []) in
          rw (so_far.same n, taken, is_among-push n (name x) (map name (take i xs)))
          (or_rotate (is_among n before) (is_among n (map name (take i xs))) (same_bytes n (name x)));
    }
