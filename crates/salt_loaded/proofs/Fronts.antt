-- What stands at the front of a row that is spelled.
use Rattle.salt_bytes.proofs.Only.{if_only}
use Rattle.salt_bytes.specs.Numbers.{take_64}
use Rattle.salt_bytes.specs.Taking.{Take, give, go_on, only_if, take_byte, take_bytes, take_each, then_take}
use Rattle.salt_bytes.specs.Values.{is_row_length, take_row, take_value}
use Rattle.salt_loaded.specs.Keys.{key_text, text_in, text_taken}
use Rattle.salt_loaded.specs.Spots.{is_spelled, row_in, row_of}
use Rattle.salt_values.specs.Text.{is_text}
use Rattle.salt_values.specs.Value.{key_of}
use Rattle.salt_values.specs.declared.value.Value.TheVariants.{Int, Null, Text}
use Rattle.salt_values.specs.declared.value.Value.{Value}
use Rattle.std.proofs.Common.{Bool, List, None, Option, Some, [], ap, arith, cond, drop, false, get_or, length, length-drop, refl, suc, sym, take, true, zero, ℕ, ◌-◌, ◌<◌, ◌≡◌, ◌≤◌, ◌∙◌, ◌∷◌}
use Rattle.std.proofs.lemmas.Bool.{eq-eqb, eqb-true}
use Rattle.std.specs.Int.{cast_signed, from_be_bytes, w64}
use Rattle.std.specs.Prelude.{is_some, ◌==◌}

-- what was taken first, and what was taken behind it
pub went_on : {A B : Type 0} (next : A → Take B) (o : Option (A × List ℕ)) (y : B × List ℕ) → go_on next o ≡ Some y → (x : A) × (rest : List ℕ) × (o ≡ Some (x, rest)) × (next x rest ≡ Some y)
went_on next None y h = absurd cc
went_on next (Some taken) y h = (taken.0, taken.1, refl, h)

pub same_some : {A : Type 0} (x y : A) → Some x ≡ Some y → x ≡ y
same_some x y h = cc

-- the row that is spelled, and the bytes behind it
pub taken : (bytes : List ℕ) → is_spelled bytes ≡ true → (rest : List ℕ) × (take_row true bytes ≡ Some (row_in bytes, rest))
taken bytes h = by (take_row true bytes) refl h
  where
    by : (o : Option (List Value × List ℕ)) → take_row true bytes ≡ o → is_some o ≡ true → (rest : List ℕ) × (o ≡ Some (row_of o, rest))
    by None is h = absurd cc
    by (Some t) is h = (t.1, refl)

pub spelled : (bytes rest : List ℕ) (r : List Value) → take_row true bytes ≡ Some (r, rest) → is_spelled bytes ≡ true
spelled bytes rest r h = ap is_some h

pub row_is : (bytes rest : List ℕ) (r : List Value) → take_row true bytes ≡ Some (r, rest) → row_in bytes ≡ r
row_is bytes rest r h = ap row_of h

-- the values of a row stand behind their number
pub values_of : (count : ℕ) (bytes rest : List ℕ) (r : List Value) → take_row true (count ∷ bytes) ≡ Some (r, rest) → (is_row_length count ≡ true) × (take_each (take_value true) count bytes ≡ Some (r, rest))
values_of count bytes rest r h = if_only (is_row_length count) (take_each (take_value true) count) bytes (r, rest) h

pub first_value : (n : ℕ) (bytes rest : List ℕ) (r : List Value) → take_each (take_value true) (suc n) bytes ≡ Some (r, rest)
    → (v : Value) × (left : List ℕ) × (vs : List Value) × (take_value true bytes ≡ Some (v, left)) × (take_each (take_value true) n left ≡ Some (vs, rest)) × (r ≡ v ∷ vs)
first_value n bytes rest r h =
    let a = went_on (λ x. then_take (take_each (take_value true) n) (λ xs. give (x ∷ xs))) (take_value true bytes) (r, rest) h in
    let b = went_on (λ xs. give (a.0 ∷ xs)) (take_each (take_value true) n a.1) (r, rest) a.3 in
    let p = same_some (a.0 ∷ b.0, b.1) (r, rest) b.3 in
    (a.0, a.1, b.0, a.2, b.2 ∙ ap (λ (l : List ℕ). Some (b.0, l)) (ap (λ (x : List Value × List ℕ). x.1) p), sym (ap (λ (x : List Value × List ℕ). x.0) p))

-- the first value of a row that is spelled is its key
pub key_at : (count : ℕ) (bytes : List ℕ) → is_spelled (count ∷ bytes) ≡ true → (v : Value) × (left : List ℕ) × (take_value true bytes ≡ Some (v, left)) × (key_of (row_in (count ∷ bytes)) ≡ v)
key_at count bytes h = by count (values_of count bytes (taken (count ∷ bytes) h).0 (row_in (count ∷ bytes)) (taken (count ∷ bytes) h).1)
  where
    by : (n : ℕ) → (is_row_length n ≡ true) × (take_each (take_value true) n bytes ≡ Some (row_in (count ∷ bytes), (taken (count ∷ bytes) h).0)) → (v : Value) × (left : List ℕ) × (take_value true bytes ≡ Some (v, left)) × (key_of (row_in (count ∷ bytes)) ≡ v)
    by zero k = let none : false ≡ true = k.0 in absurd cc
    by (suc n) k =
        let f = first_value n bytes (taken (count ∷ bytes) h).0 (row_in (count ∷ bytes)) k.1 in
        (f.0, f.1, f.3, ap key_of f.5)

pub none_at : is_spelled [] ≡ true → ⊥
none_at h = cc

pub none_behind : (count : ℕ) → is_spelled (count ∷ []) ≡ true → ⊥
none_behind count h = let k = key_at count [] h in nothing k.2
  where
    nothing : {x : Value × List ℕ} → None ≡ Some x → ⊥
    nothing h = cc

pub all_behind : (bytes : List ℕ) → take (length bytes) bytes ≡ bytes
all_behind [] = refl
all_behind (b ∷ bytes) = ap (λ (l : List ℕ). b ∷ l) (all_behind bytes)

-- bytes in parts, as a pattern has them
pub one_front : (bytes : List ℕ) → 1 ≤ length bytes → bytes ≡ get_or bytes 0 0 ∷ take (length bytes - 1) (drop 1 bytes)
one_front [] h = absurd (omega arith)
one_front (a ∷ bytes) h = let n : suc (length bytes) - 1 ≡ length bytes = omega arith in ap (λ (l : List ℕ). a ∷ l) (sym (ap (λ (k : ℕ). take k bytes) n ∙ all_behind bytes))

pub two_front : (bytes : List ℕ) → 2 ≤ length bytes → bytes ≡ get_or bytes 0 0 ∷ get_or bytes 1 0 ∷ take (length bytes - 2) (drop 2 bytes)
two_front [] h = absurd (omega arith)
two_front (a ∷ []) h = absurd (omega arith)
two_front (a ∷ b ∷ bytes) h = let n : suc (suc (length bytes)) - 2 ≡ length bytes = omega arith in ap (λ (l : List ℕ). a ∷ b ∷ l) (sym (ap (λ (k : ℕ). take k bytes) n ∙ all_behind bytes))

-- a number behind its byte
pub number_at : (bytes left : List ℕ) (v : Value) → take_value true (1 ∷ bytes) ≡ Some (v, left) → (n : ℕ) × (take_64 bytes ≡ Some (n, left)) × (v ≡ Int (cast_signed w64 n))
number_at bytes left v h =
    let a = went_on (λ n. give (Int (cast_signed w64 n))) (take_64 bytes) (v, left) h in
    let p = same_some (Int (cast_signed w64 a.0), a.1) (v, left) a.3 in
    (a.0, a.2 ∙ ap (λ (l : List ℕ). Some (a.0, l)) (ap (λ (x : Value × List ℕ). x.1) p), sym (ap (λ (x : Value × List ℕ). x.0) p))

-- a text behind its byte
pub text_at : (bytes left : List ℕ) (v : Value) → take_value true (2 ∷ bytes) ≡ Some (v, left) → (t : List ℕ) × (then_take take_byte take_bytes bytes ≡ Some (t, left)) × (v ≡ Text t)
text_at bytes left v h =
    let a = went_on (λ n. then_take (take_bytes n) (λ t. only_if (is_text t) (give (Text t)))) (take_byte bytes) (v, left) h in
    let b = went_on (λ t. only_if (is_text t) (give (Text t))) (take_bytes a.0 a.1) (v, left) a.3 in
    let c = if_only (is_text b.0) (give (Text b.0)) b.1 (v, left) b.3 in
    let p = same_some (Text b.0, b.1) (v, left) c.1 in
    (b.0, ap (go_on take_bytes) a.2 ∙ b.2 ∙ ap (λ (l : List ℕ). Some (b.0, l)) (ap (λ (x : Value × List ℕ). x.1) p), sym (ap (λ (x : Value × List ℕ). x.0) p))

-- any other byte is that of NULL
pub null_at : (kind : ℕ) (bytes left : List ℕ) (v : Value) → take_value true (kind ∷ bytes) ≡ Some (v, left) → (kind ≡ 1 → ⊥) → (kind ≡ 2 → ⊥) → (kind ≡ 0) × (v ≡ Null) × (left ≡ bytes)
null_at zero bytes left v h one two =
    let p = same_some (Null, bytes) (v, left) h in
    (refl, sym (ap (λ (x : Value × List ℕ). x.0) p), sym (ap (λ (x : Value × List ℕ). x.1) p))
null_at (suc zero) bytes left v h one two = absurd (one refl)
null_at (suc (suc zero)) bytes left v h one two = absurd (two refl)
null_at (suc (suc (suc n))) bytes left v h one two = absurd cc

few : (n : ℕ) (bytes : List ℕ) → length bytes < n → take_bytes n bytes ≡ None
few zero bytes less = absurd (omega (arith, less))
few (suc n) [] less = refl
few (suc n) (b ∷ bytes) less = ap (go_on (λ taken. give (b ∷ taken))) (few n bytes (omega (arith, less)))

enough : (n : ℕ) (bytes : List ℕ) → n ≤ length bytes → take_bytes n bytes ≡ Some (take n bytes, drop n bytes)
enough zero bytes more = refl
enough (suc n) [] more = absurd (omega (arith, more))
enough (suc n) (b ∷ bytes) more = ap (go_on (λ taken. give (b ∷ taken))) (enough n bytes (omega (arith, more)))

-- what is taken behind a count that is not too great
pub counted : (count : ℕ) (bytes text rest : List ℕ) → take_bytes count bytes ≡ Some (text, rest) → (count ≤ length bytes) × (take count bytes ≡ text) × (drop count bytes ≡ rest)
counted zero bytes text rest h =
    let p = same_some ([], bytes) (text, rest) h in
    (omega arith, ap (λ (x : List ℕ × List ℕ). x.0) p, ap (λ (x : List ℕ × List ℕ). x.1) p)
counted (suc n) [] text rest h = absurd cc
counted (suc n) (b ∷ bytes) text rest h =
    let a = went_on (λ taken. give (b ∷ taken)) (take_bytes n bytes) (text, rest) h in
    let p = same_some (b ∷ a.0, a.1) (text, rest) a.3 in
    let m = counted n bytes a.0 a.1 a.2 in
    let short : n ≤ length bytes = m.0 in
    (omega arith, ap (λ (l : List ℕ). b ∷ l) m.1 ∙ ap (λ (x : List ℕ × List ℕ). x.0) p, m.2 ∙ ap (λ (x : List ℕ × List ℕ). x.1) p)

-- all that stands behind the first bytes
pub to_end : (n : ℕ) (bytes : List ℕ) → take (length bytes - n) (drop n bytes) ≡ drop n bytes
to_end n bytes = ap (λ (k : ℕ). take k (drop n bytes)) (sym (length-drop n bytes)) ∙ all_behind (drop n bytes)

module _ (bytes : List ℕ) (more : 1 ≤ length bytes) where
  abbrev behind_first : List ℕ
  behind_first = take (length bytes - 1) (drop 1 bytes)

  pub parted : (text rest : List ℕ) → then_take take_byte take_bytes bytes ≡ Some (text, rest) → take_bytes (get_or bytes 0 0) behind_first ≡ Some (text, rest)
  parted text rest h = ap (then_take take_byte take_bytes) (sym (one_front bytes more)) ∙ h

  text_is : text_in bytes ≡ text_taken (take_bytes (get_or bytes 0 0) behind_first)
  text_is = ap text_in (one_front bytes more)

  pub text_whole : get_or bytes 0 0 ≤ length behind_first → take (get_or bytes 0 0) behind_first ≡ text_in bytes
  text_whole fits = sym (text_is ∙ ap text_taken (enough (get_or bytes 0 0) behind_first fits))

  pub text_cut : length behind_first < get_or bytes 0 0 → [] ≡ text_in bytes
  text_cut short = sym (text_is ∙ ap text_taken (few (get_or bytes 0 0) behind_first short))

  value_first : (v : Value) (rest : List ℕ) → take_value true bytes ≡ Some (v, rest) → take_value true (get_or bytes 0 0 ∷ behind_first) ≡ Some (v, rest)
  value_first v rest h = ap (take_value true) (sym (one_front bytes more)) ∙ h

  module _ (v : Value) (rest : List ℕ) (h : take_value true bytes ≡ Some (v, rest)) where
    pub behind_null : get_or bytes 0 0 ≡ 0 → Some behind_first ≡ Some rest
    behind_null z = ap (λ (l : List ℕ). Some l) (sym (null_at (get_or bytes 0 0) behind_first rest v (value_first v rest h) (λ e. omega arith) (λ e. omega arith)).2)

    pub behind_number : get_or bytes 0 0 ≡ 1 → (front : List ℕ) × (take_bytes 8 behind_first ≡ Some (front, rest))
    behind_number z =
        let n = number_at behind_first rest v (ap (λ (b : ℕ). take_value true (b ∷ behind_first)) (sym z) ∙ value_first v rest h) in
        let t = went_on (λ bytes. give (from_be_bytes w64 bytes)) (take_bytes 8 behind_first) (n.0, rest) n.1 in
        (t.0, t.2 ∙ ap (λ (l : List ℕ). Some (t.0, l)) (ap (λ (x : ℕ × List ℕ). x.1) (same_some (from_be_bytes w64 t.0, t.1) (n.0, rest) t.3)))

    pub behind_text : get_or bytes 0 0 ≡ 2 → (text : List ℕ) × (then_take take_byte take_bytes behind_first ≡ Some (text, rest))
    behind_text z =
        let t = text_at behind_first rest v (ap (λ (b : ℕ). take_value true (b ∷ behind_first)) (sym z) ∙ value_first v rest h) in
        (t.0, t.1)

    pub behind_other : (get_or bytes 0 0 ≡ 0 → ⊥) → (get_or bytes 0 0 ≡ 1 → ⊥) → (get_or bytes 0 0 ≡ 2 → ⊥) → ⊥
    behind_other z one two = z (null_at (get_or bytes 0 0) behind_first rest v (value_first v rest h) one two).0

pub text_none : (bytes : List ℕ) → length bytes < 1 → [] ≡ text_in bytes
text_none [] h = refl
text_none (b ∷ bytes) h = absurd (omega arith)

pub no_text : (bytes text rest : List ℕ) → length bytes < 1 → then_take take_byte take_bytes bytes ≡ Some (text, rest) → ⊥
no_text [] text rest short h = cc
no_text (b ∷ bytes) text rest short h = omega arith

pub no_value : (bytes rest : List ℕ) (v : Value) → length bytes < 1 → take_value true bytes ≡ Some (v, rest) → ⊥
no_value [] rest v short h = cc
no_value (b ∷ bytes) rest v short h = omega arith

pub short_text : (row : List ℕ) → length row < 2 → [] ≡ key_text row
short_text [] h = refl
short_text (a ∷ []) h = refl
short_text (a ∷ b ∷ row) h = absurd (omega arith)

module _ (row : List ℕ) (more : 2 ≤ length row) where
  abbrev second : ℕ
  second = get_or row 1 0

  abbrev behind_second : List ℕ
  behind_second = take (length row - 2) (drop 2 row)

  -- the text of a key is told by its byte
  pub text_by_kind : second ≡ 2 → text_in behind_second ≡ key_text row
  text_by_kind h = sym (ap key_text (two_front row more) ∙ ap (λ b. cond b (text_in behind_second) []) (eq-eqb second 2 h))

  pub none_by_kind : (second ≡ 2 → ⊥) → [] ≡ key_text row
  none_by_kind h = sym (ap key_text (two_front row more) ∙ by (second == 2) refl)
    where
      by : (b : Bool) → (second == 2) ≡ b → cond b (text_in behind_second) [] ≡ []
      by false e = refl
      by true e = absurd (h (eqb-true second 2 e))

module _ (row : List ℕ) (is : is_spelled row ≡ true) where
  pub not_short : length row < 2 → ⊥
  not_short h = by row is h
    where
      by : (bytes : List ℕ) → is_spelled bytes ≡ true → length bytes < 2 → ⊥
      by [] is h = none_at is
      by (a ∷ []) is h = none_behind a is
      by (a ∷ b ∷ bytes) is h = omega arith

  module _ (more : 2 ≤ length row) where
    abbrev kind : ℕ
    kind = get_or row 1 0

    abbrev behind : List ℕ
    behind = take (length row - 2) (drop 2 row)

    -- the key by its byte
    value : (v : Value) × (left : List ℕ) × (take_value true (kind ∷ behind) ≡ Some (v, left)) × (key_of (row_in row) ≡ v)
    value =
        let e = two_front row more in
        let k = key_at (get_or row 0 0) (kind ∷ behind) (ap is_spelled (sym e) ∙ is) in
        (k.0, k.1, k.2, ap (λ (l : List ℕ). key_of (row_in l)) e ∙ k.3)

    pub number_first : kind ≡ 1 → (n : ℕ) × (rest : List ℕ) × (take_64 behind ≡ Some (n, rest)) × (key_of (row_in row) ≡ Int (cast_signed w64 n))
    number_first h =
        let v = value in
        let n = number_at behind v.1 v.0 (ap (λ (b : ℕ). take_value true (b ∷ behind)) (sym h) ∙ v.2) in
        (n.0, v.1, n.1, v.3 ∙ n.2)

    pub text_first : kind ≡ 2 → (t : List ℕ) × (rest : List ℕ) × (then_take take_byte take_bytes behind ≡ Some (t, rest)) × (key_of (row_in row) ≡ Text t)
    text_first h =
        let v = value in
        let t = text_at behind v.1 v.0 (ap (λ (b : ℕ). take_value true (b ∷ behind)) (sym h) ∙ v.2) in
        (t.0, v.1, t.1, v.3 ∙ t.2)

    pub null_first : (kind ≡ 1 → ⊥) → (kind ≡ 2 → ⊥) → key_of (row_in row) ≡ Null
    null_first one two =
        let v = value in
        v.3 ∙ (null_at kind behind v.1 v.0 v.2 one two).1
