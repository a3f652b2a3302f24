-- Where the continuation of a program stands, and what a move makes of continuations in their order.
use Rattle.salt_bytes.specs.declared.moves.Move.TheVariants.{Continue, Finish}
use Rattle.salt_model.specs.Kept.{cont_in}
use Rattle.salt_stands.proofs.Booleans.{all_weaker, left, right}
use Rattle.salt_stands.proofs.OpenConts.{same_id}
use Rattle.salt_stands.specs.OpenConts.{do_rise, go_to, is_later_than, is_not_of, make_move, replace_cont}
use Rattle.salt_values.specs.Id.{is_same_id}
use Rattle.salt_values.specs.declared.cont.Cont.{Cont}
use Rattle.salt_values.specs.declared.id.Id.{Id}
use Rattle.std.proofs.Common.{ap, arith, subst, sym, ◌∙◌}
use Rattle.std.proofs.lemmas.Bool.Decides.{nat_tests}
use Rattle.std.proofs.lemmas.List.Quantifiers.{position-Some}
use Rattle.std.specs.List.{filter, find, list_all, position, position_or_len, remove}
use Rattle.std.specs.Prelude.{Bool, List, None, Option, Some, [], cond, false, get_or, if◌then◌else◌, length, nat_lt, not, option_map, refl, set, suc, true, zero, ℕ, ◌++◌, ◌+◌, ◌<◌, ◌==◌, ◌∷◌, ◌≡◌}
use Rattle.std.specs.Bool.{then_some}

abbrev is_of : Id → Cont → Bool
is_of b c = is_same_id b c.base

-- the first of the program stands at this place
abbrev pub IsFirst : Id → List Cont → ℕ → Type 0
IsFirst b [] at = ⊥
IsFirst b (c ∷ cs) zero = is_same_id b c.base ≡ true
IsFirst b (c ∷ cs) (suc at) = (is_same_id b c.base ≡ false) × IsFirst b cs at

first_of : (b : Id) (cs : List Cont) (at : ℕ) (d : Cont) → at < length cs → is_same_id b (get_or cs at d).base ≡ true →
    ((k : ℕ) → k < at → is_same_id b (get_or cs k d).base ≡ false) → IsFirst b cs at
first_of b [] at d l h before = absurd (omega arith)
first_of b (c ∷ cs) zero d l h before = h
first_of b (c ∷ cs) (suc at) d l h before = (before 0 (omega arith), first_of b cs at d (omega arith) h (λ k m. before (suc k) (omega arith)))

first_found : (b : Id) (cs : List Cont) (at : ℕ) (d : Cont) → position (λ (c : Cont). is_same_id b c.base) cs ≡ Some at → IsFirst b cs at
first_found b cs at d h = let t = position-Some (is_of b) cs at d h in first_of b cs at d t.0 t.1 t.2

pub within_found : (b : Id) (cs : List Cont) (at : ℕ) (d : Cont) → position (λ (c : Cont). is_same_id b c.base) cs ≡ Some at → at < length cs
within_found b cs at d h = (position-Some (is_of b) cs at d h).0

found_first : (b : Id) (cs : List Cont) (at : ℕ) (d : Cont) → IsFirst b cs at → cont_in b cs ≡ Some (get_or cs at d)
found_first b [] at d h = absurd h
found_first b (c ∷ cs) zero d h = rw h refl
found_first b (c ∷ cs) (suc at) d h = rw h.0 (found_first b cs at d h.1)

absent : {A : Type 0} (p : A → Bool) (xs : List A) → nat_lt (position_or_len p xs) (length xs) ≡ false → find p xs ≡ None
absent p [] h = refl
absent {A = A} p (x ∷ xs) h = by (p x) (absent p xs) h
  where
    by : (t : Bool) → (nat_lt (position_or_len p xs) (length xs) ≡ false → find p xs ≡ None) →
        nat_lt (cond (not t) (1 + position_or_len p xs) 0) (suc (length xs)) ≡ false → cond t (Some x) (find p xs) ≡ None
    by true more h = absurd (grind (arith, nat_tests))
    by false more h = more (grind (arith, nat_tests))

none_found : {A : Type 0} (p : A → Bool) (xs : List A) → position p xs ≡ None → find p xs ≡ None
none_found p xs h = absent p xs (by (nat_lt (position_or_len p xs) (length xs)) h)
  where
    by : (t : Bool) → cond t (Some (position_or_len p xs)) None ≡ None → t ≡ false
    by false e = refl
    by true e = absurd (cc)

cont_in_find : (b : Id) (cs : List Cont) → find (λ (c : Cont). is_same_id b c.base) cs ≡ cont_in b cs
cont_in_find b [] = refl
cont_in_find b (c ∷ cs) = ap (λ (o : Option Cont). cond (is_same_id b c.base) (Some c) o) (cont_in_find b cs)

no_cont : (b : Id) (cs : List Cont) → position (λ (c : Cont). is_same_id b c.base) cs ≡ None → cont_in b cs ≡ None
no_cont b cs h = sym (cont_in_find b cs) ∙ none_found (is_of b) cs h

-- WHERE NONE IS OF THE PROGRAM

from_not : (b : Bool) → not b ≡ true → b ≡ false
from_not true e = cc
from_not false e = refl

apart_replaced : (c : Cont) (ds : List Cont) → list_all (is_not_of c.base) ds ≡ true → replace_cont c ds ≡ ds
apart_replaced c [] e = refl
apart_replaced c (d ∷ ds) e =
    ap (λ b. (if b then c else d) ∷ replace_cont c ds) (from_not (is_same_id c.base d.base) (left (is_not_of c.base d) (list_all (is_not_of c.base) ds) e))
    ∙ ap (λ l. d ∷ l) (apart_replaced c ds (right (is_not_of c.base d) (list_all (is_not_of c.base) ds) e))

apart_left : (b : Id) (ds : List Cont) → list_all (is_not_of b) ds ≡ true → filter (is_not_of b) ds ≡ ds
apart_left b [] e = refl
apart_left b (d ∷ ds) e =
    ap (λ t. cond t (d ∷ filter (is_not_of b) ds) (filter (is_not_of b) ds)) (left (is_not_of b d) (list_all (is_not_of b) ds) e)
    ∙ ap (λ l. d ∷ l) (apart_left b ds (right (is_not_of b d) (list_all (is_not_of b) ds) e))

-- behind the one of a program there is no other
apart_behind : (b : Id) (d : Cont) (ds : List Cont) → is_same_id b d.base ≡ true → list_all (is_later_than d) ds ≡ true → list_all (is_not_of b) ds ≡ true
apart_behind b d ds same e =
    subst (λ u. list_all (is_not_of u) ds ≡ true) (sym (same_id b d.base same))
    (all_weaker (is_later_than d) (is_not_of d.base) (λ x f. right (nat_lt d.accepted x.accepted) (is_not_of d.base x) f) ds e)

tail_rises : (d : Cont) (ds : List Cont) → do_rise (d ∷ ds) ≡ true → do_rise ds ≡ true
tail_rises d ds e = right (list_all (is_later_than d) ds) (do_rise ds) e

replaced : (c : Cont) (cs : List Cont) (at : ℕ) → IsFirst c.base cs at → do_rise cs ≡ true → replace_cont c cs ≡ set cs at c
replaced c [] at h rise = absurd h
replaced c (d ∷ ds) zero h rise =
    ap (λ b. (if b then c else d) ∷ replace_cont c ds) h
    ∙ ap (λ l. c ∷ l) (apart_replaced c ds (apart_behind c.base d ds h (left (list_all (is_later_than d) ds) (do_rise ds) rise)))
replaced c (d ∷ ds) (suc at) h rise =
    ap (λ b. (if b then c else d) ∷ replace_cont c ds) h.0 ∙ ap (λ l. d ∷ l) (replaced c ds at h.1 (tail_rises d ds rise))

taken_out : (b : Id) (cs : List Cont) (at : ℕ) → IsFirst b cs at → do_rise cs ≡ true → filter (is_not_of b) cs ≡ remove cs at
taken_out b [] at h rise = absurd h
taken_out b (d ∷ ds) zero h rise =
    ap (λ t. cond (not t) (d ∷ filter (is_not_of b) ds) (filter (is_not_of b) ds)) h
    ∙ apart_left b ds (apart_behind b d ds h (left (list_all (is_later_than d) ds) (do_rise ds) rise))
taken_out b (d ∷ ds) (suc at) h rise =
    ap (λ t. cond (not t) (d ∷ filter (is_not_of b) ds) (filter (is_not_of b) ds)) h.0 ∙ ap (λ l. d ∷ l) (taken_out b ds at h.1 (tail_rises d ds rise))

given_is : {A : Type 0} (b : Bool) (x y : A) → then_some b x ≡ Some y → x ≡ y
given_is true x y e = cc
given_is false x y e = cc

-- WHAT A MOVE MAKES of continuations that rise

pub goes_in_place : (c : Cont) (cs ds : List Cont) (at : ℕ) → position (λ (d : Cont). is_same_id c.base d.base) cs ≡ Some at → do_rise cs ≡ true → make_move cs (Continue c) ≡ Some ds → set cs at c ≡ ds
goes_in_place c cs ds at here rise e =
    let first = first_found c.base cs at c here in
    let d = get_or cs at c in
    sym (replaced c cs at first rise) ∙ given_is (c.accepted == d.accepted) (replace_cont c cs) ds (ap (λ o. go_to c o cs) (sym (found_first c.base cs at c first)) ∙ e)

pub goes_behind : (c : Cont) (cs ds : List Cont) → position (λ (d : Cont). is_same_id c.base d.base) cs ≡ None → make_move cs (Continue c) ≡ Some ds → cs ++ c ∷ [] ≡ ds
goes_behind c cs ds none e = given_is _ (cs ++ c ∷ []) ds (ap (λ o. go_to c o cs) (sym (no_cont c.base cs none)) ∙ e)

pub ends_here : (b : Id) (cs ds : List Cont) (at : ℕ) (d : Cont) → position (λ (d : Cont). is_same_id b d.base) cs ≡ Some at → do_rise cs ≡ true → make_move cs (Finish b) ≡ Some ds → remove cs at ≡ ds
ends_here b cs ds at d here rise e =
    let first = first_found b cs at d here in
    sym (taken_out b cs at first rise) ∙ is (ap (λ o. option_map (λ d. filter (is_not_of b) cs) o) (sym (found_first b cs at d first)) ∙ e)
  where
    is : Some (filter (is_not_of b) cs) ≡ Some ds → filter (is_not_of b) cs ≡ ds
    is e = cc

pub ends_nowhere : (b : Id) (cs ds : List Cont) → position (λ (d : Cont). is_same_id b d.base) cs ≡ None → make_move cs (Finish b) ≡ Some ds → cs ≡ ds
ends_nowhere b cs ds none e = absurd (never (ap (λ o. option_map (λ d. filter (is_not_of b) cs) o) (sym (no_cont b cs none)) ∙ e))
  where
    never : ◌≡◌ {A = Option (List Cont)} None (Some ds) → ⊥
    never e = cc
