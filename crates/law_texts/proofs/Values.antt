-- Values and rows of values.
use Rattle.salt_ast.specs.Texts.{between_commas, value_text}
use Rattle.salt_ast.specs.ProgramTexts.{row_text}
use Rattle.law_texts.proofs.Clear.{Clear, Tells, differ, listed_one}
use Rattle.law_texts.proofs.Numbers.{decimal_begins, decimal_clear, not_quote}
use Rattle.salt_model.specs.Sized.{IsSizedRow}
use Rattle.salt_ast.specs.Pieces.{NotNext, doubled}
use Rattle.salt_ast.specs.Bytes.{is_digit}
use Rattle.salt_values.specs.Value.{IsValue}
use Rattle.salt_values.specs.declared.value.Value.TheVariants as value
use Rattle.salt_values.specs.declared.value.Value.{Value}
use Rattle.std.proofs.Common.{Bool, FitsSigned, List, [], ap, append_assoc, arith, cond, drop, eqb, false, negsuc, pos, refl, suc, subst, sym, true}
use Rattle.std.proofs.Common.{true≢false, ℕ, ◌++◌, ◌<◌, ◌==◌, ◌^◌, ◌∙◌, ◌∷◌, ◌≡◌, ◌≢◌, w64}
use Rattle.std.proofs.lemmas.Bool.{eqb-true}
use Rattle.std.specs.Fmt.{decimal}

-- ---- texts in quotes

no_quote : (x z : List ℕ) → NotNext (λ b. b == 39) x → x ≡ 39 ∷ z → ⊥
no_quote x z n e = true≢false (subst (NotNext (λ b. b == 39)) e n)

not_is : (b : ℕ) → eqb b 39 ≡ false → 39 ≡ b → ⊥
not_is b e is = true≢false (subst (λ (n : ℕ). eqb n 39 ≡ false) (sym is) e)

pub quoted_one : (t u x y : List ℕ) → NotNext (λ b. b == 39) x → NotNext (λ b. b == 39) y →
    (doubled t ++ 39 ∷ []) ++ x ≡ (doubled u ++ 39 ∷ []) ++ y → (t ≡ u) × (x ≡ y)
quoted_one [] [] x y nx ny e = let rest : x ≡ y = cc in (refl, rest)
quoted_one [] (b ∷ u) x y nx ny e = absurd (go (eqb b 39) refl e)
  where
    go : (k : Bool) → eqb b 39 ≡ k → 39 ∷ x ≡ (cond k (39 ∷ 39 ∷ doubled u) (b ∷ doubled u) ++ 39 ∷ []) ++ y → ⊥
    go true is f = let z : x ≡ 39 ∷ ((doubled u ++ 39 ∷ []) ++ y) = cc in no_quote x _ nx z
    go false is f = let z : 39 ≡ b = cc in not_is b is z
quoted_one (a ∷ t) [] x y nx ny e = absurd (go (eqb a 39) refl (sym e))
  where
    go : (k : Bool) → eqb a 39 ≡ k → 39 ∷ y ≡ (cond k (39 ∷ 39 ∷ doubled t) (a ∷ doubled t) ++ 39 ∷ []) ++ x → ⊥
    go true is f = let z : y ≡ 39 ∷ ((doubled t ++ 39 ∷ []) ++ x) = cc in no_quote y _ ny z
    go false is f = let z : 39 ≡ a = cc in not_is a is z
quoted_one (a ∷ t) (b ∷ u) x y nx ny e = go (eqb a 39) refl (eqb b 39) refl (λ f. quoted_one t u x y nx ny f) e
  where
    go : (k : Bool) → eqb a 39 ≡ k → (l : Bool) → eqb b 39 ≡ l → ((doubled t ++ 39 ∷ []) ++ x ≡ (doubled u ++ 39 ∷ []) ++ y → (t ≡ u) × (x ≡ y)) →
        (cond k (39 ∷ 39 ∷ doubled t) (a ∷ doubled t) ++ 39 ∷ []) ++ x ≡ (cond l (39 ∷ 39 ∷ doubled u) (b ∷ doubled u) ++ 39 ∷ []) ++ y →
        (a ∷ t ≡ b ∷ u) × (x ≡ y)
    go true is true js ih f =
        let rest : (doubled t ++ 39 ∷ []) ++ x ≡ (doubled u ++ 39 ∷ []) ++ y = cc in
        let r = ih rest in
        let p = eqb-true a 39 is in
        let q = eqb-true b 39 js in
        let tail = r.0 in
        let all : a ∷ t ≡ b ∷ u = cc in
        (all, r.1)
    go true is false js ih f = let z : 39 ≡ b = cc in absurd (not_is b js z)
    go false is true js ih f = let z : 39 ≡ a = cc in absurd (not_is a is z)
    go false is false js ih f =
        let rest : (doubled t ++ 39 ∷ []) ++ x ≡ (doubled u ++ 39 ∷ []) ++ y = cc in
        let r = ih rest in
        let head : a ≡ b = cc in
        let tail = r.0 in
        let all : a ∷ t ≡ b ∷ u = cc in
        (all, r.1)

-- ---- values

pub pos_sized : (n : ℕ) → FitsSigned w64 (pos n) → n < 2 ^ 64
pos_sized n h = omega arith

neg_sized : (n : ℕ) → FitsSigned w64 (negsuc n) → suc n < 2 ^ 64
neg_sized n h = omega arith

-- a number does not begin with this byte, which is no digit
pub number_begins : (n c : ℕ) (x y : List ℕ) → n < 2 ^ 64 → is_digit c ≡ false → decimal n ++ x ≡ c ∷ y → ⊥
number_begins n c x y h other e =
    let b = decimal_begins n h in
    let is : b.0 ≡ c = ap_first (b.0 ∷ b.1) (decimal n) x c y (sym b.2) e b.0 b.1 refl in
    true≢false (sym b.3 ∙ ap is_digit is ∙ other)
  where
    ap_first : (l m x : List ℕ) (c : ℕ) (y : List ℕ) → l ≡ m → m ++ x ≡ c ∷ y → (d : ℕ) (ds : List ℕ) → l ≡ d ∷ ds → d ≡ c
    ap_first l m x c y p e d ds q = cc

pub value_clear : Clear IsValue value_text
value_clear = record { one = one }
  where
    one : Tells IsValue value_text
    one (value.Int (pos m)) (value.Int (pos n)) x y g h s t e = let r =
        decimal_clear.one m n x y (pos_sized m g) (pos_sized n h) s t e in (ap (λ (k : ℕ). value.Int (pos k)) r.0, r.1)
    one (value.Int (pos m)) (value.Int (negsuc n)) x y g h s t e = absurd (number_begins m 45 x (decimal (suc n) ++ y) (pos_sized m g) refl e)
    one (value.Int (negsuc m)) (value.Int (pos n)) x y g h s t e = absurd (number_begins n 45 y (decimal (suc m) ++ x) (pos_sized n h) refl (sym e))
    one (value.Int (negsuc m)) (value.Int (negsuc n)) x y g h s t e =
        let bare : decimal (suc m) ++ x ≡ decimal (suc n) ++ y = cc in
        let r = decimal_clear.one (suc m) (suc n) x y (neg_sized m g) (neg_sized n h) s t bare in
        let same : m ≡ n = omega (arith, r.0) in
        (ap (λ (k : ℕ). value.Int (negsuc k)) same, r.1)
    one (value.Int (pos m)) (value.Text u) x y g h s t e = absurd (number_begins m 39 x ((doubled u ++ 39 ∷ []) ++ y) (pos_sized m g) refl e)
    one (value.Int (negsuc m)) (value.Text u) x y g h s t e = absurd (differ _ _ e refl)
    one (value.Text u) (value.Int (pos n)) x y g h s t e = absurd (number_begins n 39 y ((doubled u ++ 39 ∷ []) ++ x) (pos_sized n h) refl (sym e))
    one (value.Text u) (value.Int (negsuc n)) x y g h s t e = absurd (differ _ _ e refl)
    one (value.Text u) (value.Text v) x y g h s t e =
        let bare : (doubled u ++ 39 ∷ []) ++ x ≡ (doubled v ++ 39 ∷ []) ++ y = cc in
        let r = quoted_one u v x y (not_quote x s) (not_quote y t) bare in
        (ap value.Text r.0, r.1)
    one value.Null value.Null x y g h s t e = (refl, ap (drop 4) e)
    one value.Null (value.Int (pos n)) x y g h s t e = absurd (number_begins n 110 y (117 ∷ 108 ∷ 108 ∷ x) (pos_sized n h) refl (sym e))
    one value.Null (value.Int (negsuc n)) x y g h s t e = absurd (differ _ _ e refl)
    one value.Null (value.Text u) x y g h s t e = absurd (differ _ _ e refl)
    one (value.Int (pos n)) value.Null x y g h s t e = absurd (number_begins n 110 x (117 ∷ 108 ∷ 108 ∷ y) (pos_sized n g) refl e)
    one (value.Int (negsuc n)) value.Null x y g h s t e = absurd (differ _ _ e refl)
    one (value.Text u) value.Null x y g h s t e = absurd (differ _ _ e refl)

-- a value begins with a digit, a minus sign, a quote or the first letter of `null`
pub value_begins : (v : Value) (c : ℕ) (x y : List ℕ) → IsValue v → is_digit c ≡ false → 45 ≢ c → 39 ≢ c → 110 ≢ c → value_text v ++ x ≡ c ∷ y → ⊥
value_begins (value.Int (pos n)) c x y g d m q k e = number_begins n c x y (pos_sized n g) d e
value_begins (value.Int (negsuc n)) c x y g d m q k e = let z : 45 ≡ c = cc in m z
value_begins (value.Text u) c x y g d m q k e = let z : 39 ≡ c = cc in q z
value_begins value.Null c x y g d m q k e = let z : 110 ≡ c = cc in k z

pub values_one : (xs ys : List Value) (x y : List ℕ) → IsSizedRow xs → IsSizedRow ys →
    between_commas value_text xs ++ (41 ∷ x) ≡ between_commas value_text ys ++ (41 ∷ y) → (xs ≡ ys) × (x ≡ y)
values_one = listed_one value_clear (λ v x y g e. value_begins v 41 x y g refl (λ z. omega arith) (λ z. omega arith) (λ z. omega arith) e)

pub row_clear : Clear IsSizedRow row_text
row_clear = record { one = one }
  where
    one : Tells IsSizedRow row_text
    one a b x y g h s t e =
        let bare : (between_commas value_text a ++ 41 ∷ []) ++ x ≡ (between_commas value_text b ++ 41 ∷ []) ++ y = cc in
        values_one a b x y g h
        (sym (append_assoc (between_commas value_text a) (41 ∷ []) x) ∙ bare ∙ append_assoc (between_commas value_text b) (41 ∷ []) y)
