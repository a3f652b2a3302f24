-- What a search among spellings finds.
use Rattle.std.proofs.Common.{◌≡◌, ℕ, ◌-◌, ◌<◌, Bool, true, false, cond, eqb, ◌&&◌, List, [], ◌∷◌, get_or, length, map, Option, Some, None, refl, sym, ap, subst, ◌∙◌, arith, is_some, rules, length-append}
use Rattle.std.specs.Prelude.{find}
use Rattle.std.proofs.lemmas.Bool.{eqb-true}
use Rattle.std.proofs.lemmas.List.{take_at}
use Rattle.salt_ast.specs.declared.keyword.Keyword.{Keyword}
use Rattle.salt_ast.specs.declared.sign.Sign.{Sign}
use Rattle.salt_ast.specs.Bytes.{ends_pair, lower, is_blank, is_letter, is_digit}
use Rattle.salt_ast.specs.Pieces.{doubled, quoted}
use Rattle.salt_ast.specs.TokenSpelling.{keyword_spelling, sign_spelling, all_keywords, all_signs, among, same_bytes, keyword_of, sign_of}
use Rattle.salt_ast.specs.Symbols.{undoubled, between}

same_is : (xs ys : List ℕ) → same_bytes xs ys ≡ true → xs ≡ ys
same_is [] [] h = refl
same_is [] (y ∷ ys) h = absurd cc
same_is (x ∷ xs) [] h = absurd cc
same_is (x ∷ xs) (y ∷ ys) h = go (eqb x y) refl (same_is xs ys) h
  where
    go : (t : Bool) → eqb x y ≡ t → (same_bytes xs ys ≡ true → xs ≡ ys) → (t && same_bytes xs ys) ≡ true → x ∷ xs ≡ y ∷ ys
    go true e ih h = let one : x ≡ y = eqb-true x y e in let rest = ih h in cc
    go false e ih h = absurd cc

found_passes : {A : Type 0} (p : A → Bool) (xs : List A) (x : A) → find p xs ≡ Some x → p x ≡ true
found_passes p [] x h = absurd cc
found_passes p (y ∷ ys) x h = go (p y) refl (found_passes p ys x) h
  where
    go : (t : Bool) → p y ≡ t → (find p ys ≡ Some x → p x ≡ true) → cond t (Some y) (find p ys) ≡ Some x → p x ≡ true
    go true e ih h = let one : y ≡ x = cc h in subst (λ z. p z ≡ true) one e
    go false e ih h = ih h

pub keyword_only : (bs : List ℕ) (k : Keyword) → keyword_of bs ≡ Some k → map lower bs ≡ keyword_spelling k
unfolding keyword_of
keyword_only bs k h = same_is (map lower bs) (keyword_spelling k) (found_passes (λ j. same_bytes (map lower bs) (keyword_spelling j)) all_keywords k h)

pub no_word : (bs : List ℕ) → length bs ≡ 0 → keyword_of bs ≡ None
unfolding keyword_of
no_word [] h = refl
no_word (b ∷ bs) h = absurd (omega arith)

-- a word that begins with a letter is looked for among the keywords that do
pub of_letter : (keywords : List Keyword) (letter : ℕ) (bs rest : List ℕ) → map lower bs ≡ letter ∷ rest
    → ((others : List ℕ) → among keywords (letter ∷ others) ≡ among all_keywords (letter ∷ others)) → among keywords (map lower bs) ≡ keyword_of bs
unfolding keyword_of
of_letter keywords letter bs rest is same = ap (among keywords) is ∙ same rest ∙ ap (among all_keywords) (sym is)

pub begins : (bs : List ℕ) (letter : ℕ) → 0 < length bs → letter ≡ lower (get_or bs 0 0) → (rest : List ℕ) × (map lower bs ≡ letter ∷ rest)
begins [] letter some is = absurd (omega arith)
begins (b ∷ bs) letter some is = (map lower bs, rw is refl)

-- ---- signs

some_sign : (bs : List ℕ) (found : Option Sign) → sign_of bs ≡ found → is_some found ≡ true → (s : Sign) × (bs ≡ sign_spelling s)
unfolding sign_of
some_sign bs None e h = absurd cc
some_sign bs (Some s) e h = (s, same_is bs (sign_spelling s) (found_passes (λ j. same_bytes bs (sign_spelling j)) all_signs s e))

pub sign_is : (bs : List ℕ) → is_some (sign_of bs) ≡ true → (s : Sign) × (bs ≡ sign_spelling s)
sign_is bs h = some_sign bs (sign_of bs) refl h

pub sign_read : (s : Sign) → sign_of (sign_spelling s) ≡ Some s
unfolding sign_of
sign_read = search rules

pub is_sign : (bs : List ℕ) → (s : Sign) × (bs ≡ sign_spelling s) → is_some (sign_of bs) ≡ true
is_sign bs h = let found : sign_of bs ≡ Some h.0 = ap sign_of h.1 ∙ sign_read h.0 in rw found refl

-- a byte that begins no other token
pub record IsOther (b : ℕ) : Type 0 where
  pub blank : is_blank b ≡ false
  pub letter : is_letter b ≡ false
  pub digit : is_digit b ≡ false
  pub quote : eqb b 39 ≡ false

-- one byte or two, the first of which begins no other token
abbrev pub AreSignBytes : List ℕ → Type 0
AreSignBytes [] = ⊥
AreSignBytes (a ∷ []) = IsOther a
AreSignBytes (a ∷ b ∷ []) = IsOther a
AreSignBytes (a ∷ b ∷ c ∷ cs) = ⊥

spelling_AreSignBytes : (s : Sign) → AreSignBytes (sign_spelling s)
spelling_AreSignBytes = search rules

pub sign_bytes : (bs : List ℕ) → (s : Sign) × (bs ≡ sign_spelling s) → AreSignBytes bs
sign_bytes bs h = subst AreSignBytes (sym h.1) (spelling_AreSignBytes h.0)

pub no_three : (a b c : ℕ) → is_some (sign_of (a ∷ b ∷ c ∷ [])) ≡ false
no_three a b c = go (is_some (sign_of (a ∷ b ∷ c ∷ []))) refl
  where
    go : (u : Bool) → is_some (sign_of (a ∷ b ∷ c ∷ [])) ≡ u → u ≡ false
    go true f = absurd (sign_bytes (a ∷ b ∷ c ∷ []) (sign_is (a ∷ b ∷ c ∷ []) f))
    go false f = refl

-- one byte or two, byte by byte
pub of_one : (bs : List ℕ) → length bs ≡ 1 → sign_of (get_or bs 0 0 ∷ []) ≡ sign_of bs
of_one [] h = absurd (omega arith)
of_one (a ∷ []) h = refl
of_one (a ∷ b ∷ bs) h = absurd (omega arith)

pub of_two : (bs : List ℕ) → length bs ≡ 2 → sign_of (get_or bs 0 0 ∷ get_or bs 1 0 ∷ []) ≡ sign_of bs
of_two [] h = absurd (omega arith)
of_two (a ∷ []) h = absurd (omega arith)
of_two (a ∷ b ∷ []) h = refl
of_two (a ∷ b ∷ c ∷ cs) h = absurd (omega arith)

pub ruleset of_few = (of_one, of_two)

-- a pair ends in one of three bytes
abbrev EndsAsPair : List ℕ → Type 0
EndsAsPair [] = Unit {0}
EndsAsPair (a ∷ []) = Unit {0}
EndsAsPair (a ∷ b ∷ bs) = ends_pair b ≡ true

spelling_EndsAsPair : (s : Sign) → EndsAsPair (sign_spelling s)
spelling_EndsAsPair = search rules

pub no_pair : (a b : ℕ) → ends_pair b ≡ false → sign_of (a ∷ b ∷ []) ≡ None
no_pair a b other = go (sign_of (a ∷ b ∷ [])) refl
  where
    go : (found : Option Sign) → sign_of (a ∷ b ∷ []) ≡ found → sign_of (a ∷ b ∷ []) ≡ None
    go None e = e
    go (Some s) e =
        let h = sign_is (a ∷ b ∷ []) (rw e refl) in
        let ends : ends_pair b ≡ true = subst EndsAsPair (sym h.1) (spelling_EndsAsPair h.0) in
        absurd cc

-- ---- texts

undoubled_plain : (b : ℕ) (xs : List ℕ) → eqb b 39 ≡ false → undoubled (b ∷ xs) ≡ b ∷ undoubled xs
undoubled_plain b [] h = refl
undoubled_plain b (x ∷ xs) h = rw h refl

undoubled-doubled : (bs : List ℕ) → undoubled (doubled bs) ≡ bs
undoubled-doubled [] = refl
undoubled-doubled (b ∷ bs) = go (eqb b 39) refl (undoubled-doubled bs)
  where
    go : (t : Bool) → eqb b 39 ≡ t → undoubled (doubled bs) ≡ bs → undoubled (cond t (39 ∷ 39 ∷ doubled bs) (b ∷ doubled bs)) ≡ b ∷ bs
    go true e ih = let is : b ≡ 39 = eqb-true b 39 e in rw is (ap (λ (x : List ℕ). 39 ∷ x) ih)
    go false e ih = undoubled_plain b (doubled bs) e ∙ ap (λ (x : List ℕ). b ∷ x) ih

pub content_is : (bs : List ℕ) → undoubled (between (quoted bs)) ≡ bs
content_is bs = ap undoubled (take_at (doubled bs) (39 ∷ []) (length (quoted bs) - 2) (omega (arith, length-append (doubled bs) (39 ∷ [])))) ∙ undoubled-doubled bs
