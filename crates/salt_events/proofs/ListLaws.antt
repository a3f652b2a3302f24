-- Lists, each of whose parts has a space before it, read and back.
use Rattle.salt_ast.specs.ProgramTexts.{base_text, stop_text}
use Rattle.salt_ast.specs.Texts.{preceded}
use Rattle.salt_events.proofs.Numbers.{IsId, IsNumber, behind_back, id_back, id_read, map_if, number_back, number_read, then_if}
use Rattle.salt_events.proofs.PartLaws.{map_some}
use Rattle.salt_events.specs.Fronts.{Front, behind, id_at, number_at}
use Rattle.salt_events.specs.Lists.{base_at, each_on, front_if, if_some, list_in, owned, owner_at, pick_at, stop_at}
use Rattle.salt_model.specs.EventTexts.{owner_text}
use Rattle.salt_model.specs.Sized.{IsSized, IsSizedId, IsSizedOwner, IsSizedPair}
use Rattle.salt_model.specs.Words.{Every, is_empty}
use Rattle.salt_model.specs.declared.events.Owner.TheVariants as owner
use Rattle.salt_model.specs.declared.events.Owner.{Owner}
use Rattle.salt_ast.specs.Bytes.{is_digit}
use Rattle.salt_ast.specs.Pieces.{NotNext}
use Rattle.salt_values.specs.declared.id.Id.{Id}
use Rattle.std.proofs.Common.{Bool, IfSome, List, None, Option, Some, [], ap, append-nil, append_assoc, arith, codes, drop, false, get_or, if◌then◌else◌, length, nat_lt, option_and_then, refl, subst, suc, sym, take, take_all, true, zero, ℕ, ◌++◌, ◌-◌, ◌<◌, ◌==◌, ◌^◌, ◌∙◌, ◌∷◌, ◌≡◌, ◌≤◌}
use Rattle.std.proofs.lemmas.Bool.Decides.{nat_tests}
use Rattle.std.proofs.lemmas.List.{length-append}
use Rattle.std.specs.Bool.{then_some}
use Rattle.std.specs.Fmt.{decimal}

-- ONE PART MORE

-- what is behind the first byte
abbrev pub tail_of : List ℕ → List ℕ
tail_of left = take (length left - 1) (drop 1 left)

tail_is : (b : ℕ) (bytes : List ℕ) → tail_of (b ∷ bytes) ≡ bytes
tail_is b bytes = take_all (length (b ∷ bytes) - 1) bytes (omega arith)

pub step_some : {A : Type 0} (read : List ℕ → Front A) (most : ℕ) (xs : List A) (left : List ℕ) (x : A) (rest : List ℕ) → 0 < most → 1 ≤ length left →
    get_or left 0 0 ≡ 32 → read (tail_of left) ≡ Some (x, rest) → each_on read most xs left ≡ each_on read (most - 1) (xs ++ x ∷ []) rest
step_some read zero xs left x rest some nonempty e r = absurd (omega arith)
step_some read (suc n) xs [] x rest some nonempty e r = absurd (omega arith)
step_some read (suc n) xs (b ∷ bytes) x rest some nonempty e r =
    let t : (b == 32) ≡ true = grind (arith, nat_tests) in
    let r' : read bytes ≡ Some (x, rest) = subst (λ l. read l ≡ Some (x, rest)) (tail_is b bytes) r in
    let k : n ≡ suc n - 1 = omega arith in
    rw t (rw r' (ap (λ m. each_on read m (xs ++ x ∷ []) rest) k))

pub step_none : {A : Type 0} (read : List ℕ → Front A) (most : ℕ) (xs : List A) (left : List ℕ) → 0 < most → 1 ≤ length left →
    get_or left 0 0 ≡ 32 → read (tail_of left) ≡ None → each_on read most xs left ≡ None
step_none read zero xs left some nonempty e r = absurd (omega arith)
step_none read (suc n) xs [] some nonempty e r = absurd (omega arith)
step_none read (suc n) xs (b ∷ bytes) some nonempty e r =
    let t : (b == 32) ≡ true = grind (arith, nat_tests) in
    let r' : read bytes ≡ None = subst (λ l. read l ≡ None) (tail_is b bytes) r in
    rw t (rw r' refl)

-- ALL PARTS

some_back : {A : Type 0} (xs : List A) (P : List A → Type 0) → P xs → IfSome (if_some xs) (λ ys. P ys × (is_empty ys ≡ false))
some_back [] P h = tt
some_back (x ∷ xs) P h = (h, refl)

module _ {A : Type 0} (read : List ℕ → Front A) (text : A → List ℕ) (Good : A → Type 0)
    (reads : (x : A) (rest : List ℕ) → Good x → NotNext is_digit rest → read (text x ++ rest) ≡ Some (x, rest))
    (backs : (bytes : List ℕ) → IfSome (read bytes) (λ r. (bytes ≡ text r.0 ++ r.1) × Good r.0)) where
  abbrev spaced : List A → List ℕ
  spaced xs = preceded (codes " ") text xs

  spaced_stops : (xs : List A) → NotNext is_digit (spaced xs)
  spaced_stops [] = tt
  spaced_stops (x ∷ xs) = refl

  pub each_read : (xs ys : List A) (n : ℕ) → Every Good xs → length (spaced xs) ≤ n → each_on read n ys (spaced xs) ≡ Some (ys ++ xs)
  each_read [] ys zero g le = ap (λ l. Some l) (sym (append-nil ys))
  each_read [] ys (suc n) g le = ap (λ l. Some l) (sym (append-nil ys))
  each_read (x ∷ xs) ys zero g le = absurd (omega arith)
  each_read (x ∷ xs) ys (suc n) g le =
      rw (reads x (spaced xs) g.0 (spaced_stops xs))
      (each_read xs (ys ++ x ∷ []) n g.1 (omega (arith, length-append (text x) (spaced xs))) ∙ ap (λ l. Some l) (append_assoc ys (x ∷ []) xs))

  abbrev pub IsEach : List A → List ℕ → List A → Type 0
  IsEach ys bytes zs = (xs : List A) × (zs ≡ ys ++ xs) × (bytes ≡ spaced xs) × Every Good xs

  step_if : (ys : List A) (b : ℕ) (bytes : List ℕ) (o : Option (List A)) → IfSome o (IsEach ys (32 ∷ bytes)) → (t : Bool) → (b == 32) ≡ t →
      IfSome (if t then o else None) (IsEach ys (b ∷ bytes))
  step_if ys b bytes o h true e = let is : b ≡ 32 = grind (arith, nat_tests) in subst (λ c. IfSome o (IsEach ys (c ∷ bytes))) (sym is) h
  step_if ys b bytes o h false e = tt

  pub each_back : (n : ℕ) (ys : List A) (bytes : List ℕ) → IfSome (each_on read n ys bytes) (IsEach ys bytes)
  each_back zero ys [] = ([], sym (append-nil ys), refl, tt)
  each_back zero ys (b ∷ bytes) = tt
  each_back (suc n) ys [] = ([], sym (append-nil ys), refl, tt)
  each_back (suc n) ys (b ∷ bytes) =
      step_if ys b bytes (option_and_then (λ r. each_on read n (ys ++ r.0 ∷ []) r.1) (read bytes))
      (then_if (read bytes) (λ r. each_on read n (ys ++ r.0 ∷ []) r.1) (λ r. (bytes ≡ text r.0 ++ r.1) × Good r.0) (IsEach ys (32 ∷ bytes)) (backs bytes)
      (λ r h. map_some (each_on read n (ys ++ r.0 ∷ []) r.1) (IsEach (ys ++ r.0 ∷ []) r.1) (IsEach ys (32 ∷ bytes)) (each_back n (ys ++ r.0 ∷ []) r.1)
      (λ zs k. (r.0 ∷ k.0, k.1 ∙ append_assoc ys (r.0 ∷ []) k.0, ap (λ l. 32 ∷ l) (h.0 ∙ ap (λ l. text r.0 ++ l) k.2), (h.1, k.3)))))
      (b == 32) refl

  pub list_read : (xs : List A) → Every Good xs → is_empty xs ≡ false → list_in read (spaced xs) ≡ Some xs
  list_read [] g some = absurd cc
  list_read (x ∷ xs) g some = ap (option_and_then if_some) (each_read (x ∷ xs) [] (length (spaced (x ∷ xs))) g (omega arith))

  abbrev pub IsList : List ℕ → List A → Type 0
  IsList bytes xs = ((bytes ≡ preceded (codes " ") text xs) × Every Good xs) × (is_empty xs ≡ false)

  pub list_back : (bytes : List ℕ) → IfSome (list_in read bytes) (IsList bytes)
  list_back bytes =
      then_if (each_on read (length bytes) [] bytes) if_some (IsEach [] bytes) (IsList bytes) (each_back (length bytes) [] bytes)
      (λ zs h. some_back zs (λ ys. (bytes ≡ spaced ys) × Every Good ys) (h.2 ∙ ap spaced (sym h.1), subst (Every Good) (sym h.1) h.3))

-- OWNERS, PROGRAMS, STOPS

pub front_if_if : {A : Type 0} (o : Option (List ℕ)) (f : List ℕ → Front A) (other : Front A) (P : List ℕ → Type 0) (Q : A × List ℕ → Type 0) →
    IfSome o P → ((x : List ℕ) → P x → IfSome (f x) Q) → IfSome other Q → IfSome (front_if o f other) Q
front_if_if None f other P Q h k l = l
front_if_if (Some x) f other P Q h k l = k x h

pub owner_read : (x : Owner) (rest : List ℕ) → IsSizedOwner x → NotNext is_digit rest → owner_at (owner_text x ++ rest) ≡ Some (x, rest)
owner_read (owner.Unit u) rest g s = rw (id_read u rest g s) refl
owner_read (owner.Base b) rest g s = rw (id_read b rest g s) refl

abbrev pub IsFront : {A : Type 0} → (A → List ℕ) → (A → Type 0) → List ℕ → A × List ℕ → Type 0
IsFront text Good bytes r = (bytes ≡ text r.0 ++ r.1) × Good r.0

pub owner_back : (bytes : List ℕ) → IfSome (owner_at bytes) (IsFront owner_text IsSizedOwner bytes)
owner_back bytes =
    front_if_if (behind (codes "u") bytes) (λ x. owned owner.Unit (id_at x)) _ (λ x. bytes ≡ codes "u" ++ x) (IsFront owner_text IsSizedOwner bytes)
    (behind_back (codes "u") bytes)
    (λ x e. map_if {B = Owner × List ℕ} (id_at x) (λ r. (owner.Unit r.0, r.1)) (λ r. IsId x r.0 r.1) (IsFront owner_text IsSizedOwner bytes) (id_back x)
    (λ r h. (e ∙ ap (λ l. codes "u" ++ l) h.text, h.sized)))
    (front_if_if (behind (codes "b") bytes) (λ x. owned owner.Base (id_at x)) None (λ x. bytes ≡ codes "b" ++ x) (IsFront owner_text IsSizedOwner bytes)
    (behind_back (codes "b") bytes)
    (λ x e. map_if {B = Owner × List ℕ} (id_at x) (λ r. (owner.Base r.0, r.1)) (λ r. IsId x r.0 r.1) (IsFront owner_text IsSizedOwner bytes) (id_back x)
    (λ r h. (e ∙ ap (λ l. codes "b" ++ l) h.text, h.sized))) tt)

pub base_read : (x : Id) (rest : List ℕ) → IsSizedId x → NotNext is_digit rest → base_at (base_text x ++ rest) ≡ Some (x, rest)
base_read x rest g s = id_read x rest g s

pub base_back : (bytes : List ℕ) → IfSome (base_at bytes) (IsFront base_text IsSizedId bytes)
base_back bytes =
    then_if (behind (codes "b") bytes) id_at (λ x. bytes ≡ codes "b" ++ x) (IsFront base_text IsSizedId bytes) (behind_back (codes "b") bytes)
    (λ x e. map_some (id_at x) (λ r. IsId x r.0 r.1) (IsFront base_text IsSizedId bytes) (id_back x) (λ r h. (e ∙ ap (λ l. codes "b" ++ l) h.text, h.sized)))

below_some : (n : ℕ) → n < 2 ^ 8 → nat_lt n (2 ^ 8) ≡ true
below_some n h = grind (arith, nat_tests)

pub stop_read : (x : ℕ × ℕ) (rest : List ℕ) → IsSizedPair x → NotNext is_digit rest → stop_at (stop_text x ++ rest) ≡ Some (x, rest)
stop_read x rest g s =
    let call = number_read x.0 (32 ∷ (decimal x.1 ++ rest)) g.0 refl in
    let pick = number_read x.1 rest (omega (arith, g.1)) s in
    let text : stop_text x ++ rest ≡ decimal x.0 ++ (32 ∷ (decimal x.1 ++ rest)) = append_assoc (decimal x.0) (32 ∷ decimal x.1) rest in
    rw text (rw call (rw pick (rw (below_some x.1 g.1) refl)))

pick_if : (bytes : List ℕ) (call n : ℕ) (rest : List ℕ) → IsSized call → IsSized n → bytes ≡ decimal call ++ (32 ∷ (decimal n ++ rest)) →
    IfSome (then_some {T = (ℕ × ℕ) × List ℕ} (nat_lt n (2 ^ 8)) ((call, n), rest)) (IsFront stop_text IsSizedPair bytes)
pick_if bytes call n rest g h e = go (nat_lt n (2 ^ 8)) refl
  where
    go : (t : Bool) → nat_lt n (2 ^ 8) ≡ t → IfSome (then_some {T = (ℕ × ℕ) × List ℕ} t ((call, n), rest)) (IsFront stop_text IsSizedPair bytes)
    go true k = (e ∙ sym (append_assoc (decimal call) (32 ∷ decimal n) rest), (g, grind (arith, nat_tests)))
    go false k = tt

pub stop_back : (bytes : List ℕ) → IfSome (stop_at bytes) (IsFront stop_text IsSizedPair bytes)
stop_back bytes =
    then_if (number_at bytes) (λ r. option_and_then (pick_at r.0) (behind (codes " ") r.1)) (λ r. IsNumber bytes r.0 r.1) (IsFront stop_text IsSizedPair bytes) (number_back bytes)
    (λ r call. then_if (behind (codes " ") r.1) (pick_at r.0) (λ x. r.1 ≡ codes " " ++ x) (IsFront stop_text IsSizedPair bytes) (behind_back (codes " ") r.1)
    (λ x e. then_if (number_at x) (λ q. then_some (nat_lt q.0 (2 ^ 8)) ((r.0, q.0), q.1)) (λ q. IsNumber x q.0 q.1) (IsFront stop_text IsSizedPair bytes) (number_back x)
    (λ q pick. pick_if bytes r.0 q.0 q.1 call.sized pick.sized (call.text ∙ ap (λ l. decimal r.0 ++ l) (e ∙ ap (λ l. 32 ∷ l) pick.text)))))
