-- One more item behind those that were read.
use Rattle.std.proofs.Common.{List, None, Option, Result, Some, [], ap, arith, length, refl, suc, sym, zero, ℕ, ◌++◌, ◌<◌, ◌∙◌, ◌∷◌, ◌≡◌, ◌≤◌}
use Rattle.std.specs.Option.{option_or}
use Rattle.std.specs.Prelude.{Err, Ok, OnOk}
use Rattle.salt_ast.specs.Limits.{passed_in_list}
use Rattle.salt_ast.specs.Words.{first_in}
use Rattle.salt_ast.specs.declared.limit.LimitName.{LimitName}
use Rattle.salt_script.specs.Literals.{HoldsList}

-- what holds anyway holds where a call succeeded
pub on_ok : {E P Q : Type 0} (r : Result (Unit {0}) E) → (P → Q) → OnOk r P → OnOk r Q
on_ok (Ok d) f h = f h
on_ok (Err e) f h = tt

none_or : (o : Option LimitName) → option_or o None ≡ o
none_or None = refl
none_or (Some l) = refl

or_assoc : (o p q : Option LimitName) → option_or (option_or o p) q ≡ option_or o (option_or p q)
or_assoc None p q = refl
or_assoc (Some l) p q = refl

-- the first limit of a list with one more item
pub first_behind : {A : Type 0} (f : A → Option LimitName) (xs : List A) (x : A) → first_in f (xs ++ x ∷ []) ≡ option_or (first_in f xs) (f x)
first_behind f [] x = none_or (f x)
first_behind f (y ∷ ys) x = ap (option_or (f y)) (first_behind f ys x) ∙ sym (or_assoc (f y) (first_in f ys) (f x))

-- the same of a counted list: while nothing is passed it is within its room
pub within_room : {A : Type 0} (l : LimitName) (f : A → Option LimitName) (room : ℕ) (xs : List A) → passed_in_list room l f xs ≡ None → length xs ≤ room
within_room l f room [] h = omega arith
within_room l f zero (x ∷ xs) h = absurd cc
within_room l f (suc room) (x ∷ xs) h = omega (arith, within_room l f room xs (others (f x) h))
  where
    others : (o : Option LimitName) → option_or o (passed_in_list room l f xs) ≡ None → passed_in_list room l f xs ≡ None
    others None e = e
    others (Some k) e = absurd cc

pub still_passed : {A : Type 0} (l : LimitName) (f : A → Option LimitName) (room : ℕ) (xs : List A) (x : A) (k : LimitName) →
    passed_in_list room l f xs ≡ Some k → passed_in_list room l f (xs ++ x ∷ []) ≡ Some k
still_passed l f room [] x k h = absurd cc
still_passed l f zero (y ∷ ys) x k h = h
still_passed l f (suc room) (y ∷ ys) x k h = go (f y) h (still_passed l f room ys x k)
  where
    go : (o : Option LimitName) → option_or o (passed_in_list room l f ys) ≡ Some k →
        (passed_in_list room l f ys ≡ Some k → passed_in_list room l f (ys ++ x ∷ []) ≡ Some k) →
        option_or o (passed_in_list room l f (ys ++ x ∷ [])) ≡ Some k
    go None e again = again e
    go (Some j) e again = e

pub full_passes : {A : Type 0} (l : LimitName) (f : A → Option LimitName) (room : ℕ) (xs : List A) (x : A) → passed_in_list room l f xs ≡ None →
    length xs ≡ room → passed_in_list room l f (xs ++ x ∷ []) ≡ Some l
full_passes l f zero [] x h e = refl
full_passes l f (suc room) [] x h e = absurd (omega arith)
full_passes l f zero (y ∷ ys) x h e = absurd cc
full_passes l f (suc room) (y ∷ ys) x h e = go (f y) h (λ g. full_passes l f room ys x g (omega arith))
  where
    go : (o : Option LimitName) → option_or o (passed_in_list room l f ys) ≡ None →
        (passed_in_list room l f ys ≡ None → passed_in_list room l f (ys ++ x ∷ []) ≡ Some l) →
        option_or o (passed_in_list room l f (ys ++ x ∷ [])) ≡ Some l
    go None g again = again g
    go (Some j) g again = absurd cc

pub room_passes : {A : Type 0} (l : LimitName) (f : A → Option LimitName) (room : ℕ) (xs : List A) (x : A) → passed_in_list room l f xs ≡ None →
    length xs < room → passed_in_list room l f (xs ++ x ∷ []) ≡ f x
room_passes l f zero xs x h lt = absurd (omega arith)
room_passes l f (suc room) [] x h lt = none_or (f x)
room_passes l f (suc room) (y ∷ ys) x h lt = go (f y) h (λ g. room_passes l f room ys x g (omega (arith, lt)))
  where
    go : (o : Option LimitName) → option_or o (passed_in_list room l f ys) ≡ None →
        (passed_in_list room l f ys ≡ None → passed_in_list room l f (ys ++ x ∷ []) ≡ f x) →
        option_or o (passed_in_list room l f (ys ++ x ∷ [])) ≡ f x
    go None g again = again g
    go (Some j) g again = absurd cc

module _ {A : Type 0} (limit_of : List A → Option LimitName) where
  -- a limit is passed, now or before
  pub holds_limit : (kept read : List A) (l : LimitName) → limit_of read ≡ Some l → HoldsList limit_of (Some l) kept read
  holds_limit kept read l h = record { limit = sym h; whole = λ e. absurd cc }

  -- no limit is passed
  pub holds_whole : (passed : Option LimitName) (kept read : List A) → passed ≡ None → limit_of read ≡ None → kept ≡ read → HoldsList limit_of passed kept read
  holds_whole passed kept read none h same = record { limit = none ∙ sym h; whole = λ e. same }

  -- what is told of what was read
  pub limit_is : {passed : Option LimitName} {kept read : List A} {o : Option LimitName} → HoldsList limit_of passed kept read → passed ≡ o → limit_of read ≡ o
  limit_is h e = sym h.limit ∙ e

  pub whole_is : {passed : Option LimitName} {kept read : List A} → HoldsList limit_of passed kept read → passed ≡ None → kept ≡ read
  whole_is h e = h.whole e
