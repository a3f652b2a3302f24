-- Elements of lists that are made of parts.
use Rattle.std.proofs.Common.{List, [], arith, length, refl, zero, suc, ℕ, ◌+◌, ◌++◌, ◌<◌, ◌∷◌, ◌∙◌, ◌≡◌, ap, length-append}
use Rattle.std.specs.List.{flat_map, range_with_len, slice_get}

pub slice_get-append_left : {X : Type 0} (xs ys : List X) (i : ℕ) → i < length xs → slice_get (xs ++ ys) i ≡ slice_get xs i
slice_get-append_left [] ys i h = absurd (omega arith)
slice_get-append_left (x ∷ xs) ys zero h = refl
slice_get-append_left (x ∷ xs) ys (suc i) h = slice_get-append_left xs ys i (omega arith)

pub slice_get-append_right : {X : Type 0} (xs ys : List X) (n i : ℕ) → n ≡ length xs → slice_get (xs ++ ys) (n + i) ≡ slice_get ys i
slice_get-append_right [] ys n i e = ap (slice_get ys) (omega arith)
slice_get-append_right (x ∷ xs) ys zero i e = absurd (omega arith)
slice_get-append_right (x ∷ xs) ys (suc n) i e =
    let next : suc n + i ≡ suc (n + i) = omega arith in
    rw next (slice_get-append_right xs ys n i (omega arith))

-- element j of the i-th block stands behind the blocks before it
pub slice_get-blocks : {X : Type 0} (f : ℕ → List X) (a n i j : ℕ) → i < n → j < length (f (a + i))
    → slice_get (flat_map f (range_with_len a n)) (length (flat_map f (range_with_len a i)) + j) ≡ slice_get (f (a + i)) j
slice_get-blocks f a zero i j h k = absurd (omega arith)
slice_get-blocks f a (suc n) zero j h k =
    let here : a + 0 ≡ a = omega arith in
    let first : 0 + j ≡ j = omega arith in
    rw (here, first) (slice_get-append_left (f a) (flat_map f (range_with_len (a + 1) n)) j (rw here at k))
slice_get-blocks f a (suc n) (suc i) j h k =
    let more = range_with_len (a + 1) in
    let before = length (flat_map f (more i)) in
    let far : length (f a ++ flat_map f (more i)) + j ≡ length (f a) + (before + j) = omega (arith, length-append (f a) (flat_map f (more i))) in
    let next : a + suc i ≡ (a + 1) + i = omega arith in
    rw (far, next) (slice_get-append_right (f a) (flat_map f (more n)) (length (f a)) (before + j) refl
    ∙ slice_get-blocks f (a + 1) n i j (omega arith) (rw next at k))
