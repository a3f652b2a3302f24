-- What is taken was spelled: there is no other spelling.
use Rattle.salt_values.specs.declared.value.Value.{Value}
use Rattle.salt_values.specs.declared.value.Value.TheVariants.{Int, Null, Text}
use Rattle.salt_bytes.specs.Numbers.{spell_16, spell_32, spell_64, take_16, take_32, take_64, take_number}
use Rattle.salt_bytes.specs.Spellable.{AreBytes}
use Rattle.salt_bytes.specs.Taking.{Take, give, go_on, only_if, take_bytes, take_each, then_take}
use Rattle.salt_bytes.specs.Values.{is_row_length, spell_value, spell_values, take_row, take_value, take_value_of, take_values}
use Rattle.salt_values.specs.Text.{is_text}
use Rattle.std.proofs.Common.{Bool, List, None, Option, Some, [], ap, append_assoc, arith, false, get_or, length, refl, subst, suc, sym, true, zero, ℕ, ◌++◌, ◌<◌, ◌^◌, ◌≡◌, ◌∙◌, ◌∷◌}
use Rattle.std.proofs.lemmas.Int.{of_z-to_z}
use Rattle.std.proofs.lemmas.Nat.{be_bytes_2, be_bytes_4, be_bytes_8}
use Rattle.std.specs.Int.{Width, byte_len, cast_signed, cast_unsigned, from_be_bytes, to_be_bytes, w16, w32, w64}
use Rattle.std.specs.List.{flat_map}

-- from bytes, no spelling but one is taken
pub record Only {A : Type 0} (take : Take A) (spell : A → List ℕ) : Type 0 where
  pub only : (bytes : List ℕ) → AreBytes bytes → (x : A) (rest : List ℕ) → take bytes ≡ Some (x, rest) → bytes ≡ spell x ++ rest

pub record Took {A B : Type 0} (next : A → Take B) (o : Option (A × List ℕ)) (r : B × List ℕ) : Type 0 where
  pub x : A
  pub rest : List ℕ
  pub was : o ≡ Some (x, rest)
  pub goes : next x rest ≡ Some r

pub took : {A B : Type 0} (next : A → Take B) (o : Option (A × List ℕ)) (r : B × List ℕ) → go_on next o ≡ Some r → Took next o r
took next None r e = cc
took next (Some t) r e = record { x = t.0; rest = t.1; was = refl; goes = e }

pub behind : (as' bs : List ℕ) → AreBytes (as' ++ bs) → AreBytes bs
behind [] bs h = h
behind (a ∷ as') bs h = behind as' bs h.1

pub before : (as' bs : List ℕ) → AreBytes (as' ++ bs) → AreBytes as'
before [] bs h = tt
before (a ∷ as') bs h = (h.0, before as' bs h.1)

-- then what is behind are bytes too
pub rest_of : {A : Type 0} {take : Take A} {spell : A → List ℕ} → Only take spell → (bytes : List ℕ) → AreBytes bytes → (x : A) (rest : List ℕ) → take bytes ≡ Some (x, rest) → AreBytes rest
rest_of {spell = spell} h bytes small x rest e = behind (spell x) rest (subst AreBytes (h.only bytes small x rest e) small)

pub pair_only : {A : Type 0} (x y : A) (as' bs : List ℕ) → ◌≡◌ {A = Option (A × List ℕ)} (Some (x, as')) (Some (y, bs)) → (x ≡ y) × (as' ≡ bs)
pair_only {A = A} x y as' bs e =
    let same : ◌≡◌ {A = A × List ℕ} (x, as') (y, bs) = cc in
    (ap (λ (t : A × List ℕ). t.0) same, ap (λ (t : A × List ℕ). t.1) same)

pub given_only : {A : Type 0} (x y : A) (bytes rest : List ℕ) → give x bytes ≡ Some (y, rest) → (x ≡ y) × (bytes ≡ rest)
given_only {A = A} x y bytes rest e = pair_only x y bytes rest e

pub if_only : {A : Type 0} (b : Bool) (take : Take A) (bytes : List ℕ) (r : A × List ℕ) → only_if b take bytes ≡ Some r → (b ≡ true) × (take bytes ≡ Some r)
if_only true take bytes r e = (refl, e)
if_only false take bytes r e = cc

pub bytes_only : (n : ℕ) (bytes xs rest : List ℕ) → take_bytes n bytes ≡ Some (xs, rest) → (bytes ≡ xs ++ rest) × (length xs ≡ n)
bytes_only zero bytes xs rest e = by (pair_only [] xs bytes rest e)
  where
    by : ([] ≡ xs) × (bytes ≡ rest) → (bytes ≡ xs ++ rest) × (length xs ≡ zero)
    by (x, r) = (r ∙ ap (λ (l : List ℕ). l ++ rest) x, sym (ap length x))
bytes_only (suc n) [] xs rest e = cc
bytes_only (suc n) (b ∷ bytes) xs rest e = by (took (λ taken. give (b ∷ taken)) (take_bytes n bytes) (xs, rest) e) (λ t r f. bytes_only n bytes t r f)
  where
    by : Took (λ taken. give (b ∷ taken)) (take_bytes n bytes) (xs, rest) → ((t r : List ℕ) → take_bytes n bytes ≡ Some (t, r) → (bytes ≡ t ++ r) × (length t ≡ n)) → (b ∷ bytes ≡ xs ++ rest) × (length xs ≡ suc n)
    by t h =
        let g = given_only (b ∷ t.x) xs t.rest rest t.goes in
        let i = h t.x t.rest t.was in
        (ap (λ (l : List ℕ). b ∷ l) (i.0 ∙ ap (λ (l : List ℕ). t.x ++ l) g.1) ∙ ap (λ (l : List ℕ). l ++ rest) g.0, sym (ap length g.0) ∙ ap suc i.1)

small_at : (xs : List ℕ) → AreBytes xs → (i : ℕ) → get_or xs i 0 < 256
small_at [] h i = omega arith
small_at (x ∷ xs) h zero = h.0
small_at (x ∷ xs) h (suc i) = small_at xs h.1 i

module _ (w : Width) (back : (bs : List ℕ) (n : ℕ) → length bs ≡ byte_len w → ((i : ℕ) → get_or bs i 0 < 256) → n ≡ from_be_bytes w bs → to_be_bytes w n ≡ bs) where
  pub record Number (bytes : List ℕ) (n : ℕ) (rest : List ℕ) : Type 0 where
    pub spelled : bytes ≡ to_be_bytes w n ++ rest
    pub digits : List ℕ
    pub small : AreBytes digits
    pub is : n ≡ from_be_bytes w digits

  number : (bytes : List ℕ) → AreBytes bytes → (n : ℕ) (rest : List ℕ) → take_number w bytes ≡ Some (n, rest) → Number bytes n rest
  number bytes small n rest e =
      let t = took (λ bs. give (from_be_bytes w bs)) (take_bytes (byte_len w) bytes) (n, rest) e in
      let g = given_only (from_be_bytes w t.x) n t.rest rest t.goes in
      let f = bytes_only (byte_len w) bytes t.x t.rest t.was in
      let small' : AreBytes t.x = before t.x t.rest (subst AreBytes f.0 small) in
      record {
        spelled = f.0 ∙ ap (λ (l : List ℕ). t.x ++ l) g.1 ∙ ap (λ (l : List ℕ). l ++ rest) (sym (back t.x n f.1 (small_at t.x small') (sym g.0)));
        digits = t.x;
        small = small';
        is = sym g.0;
      }

  only_number : Only (take_number w) (to_be_bytes w)
  only_number = record { only = λ bytes small n rest e. (number bytes small n rest e).spelled }

pub only_16 : Only take_16 spell_16
only_16 = only_number w16 be_bytes_2

pub only_32 : Only take_32 spell_32
only_32 = only_number w32 be_bytes_4

pub only_64 : Only take_64 spell_64
only_64 = only_number w64 be_bytes_8

fits_64 : (bs : List ℕ) → ((i : ℕ) → get_or bs i 0 < 256) → from_be_bytes w64 bs < 2 ^ 64
fits_64 bs small = omega (arith, small 0, small 1, small 2, small 3, small 4, small 5, small 6, small 7)

pub number_fits : (bytes : List ℕ) → AreBytes bytes → (n : ℕ) (rest : List ℕ) → take_64 bytes ≡ Some (n, rest) → n < 2 ^ 64
number_fits bytes small n rest e = let x = number w64 be_bytes_8 bytes small n rest e in subst (λ (m : ℕ). m < 2 ^ 64) (sym x.is) (fits_64 x.digits (small_at x.digits x.small))

only_value_of : (nulls : Bool) (b : ℕ) (bytes : List ℕ) → AreBytes bytes → (v : Value) (rest : List ℕ) → take_value_of nulls b bytes ≡ Some (v, rest) → b ∷ bytes ≡ spell_value v ++ rest
only_value_of nulls zero bytes small v rest e =
    let t = if_only nulls (give Null) bytes (v, rest) e in
    let g = given_only Null v bytes rest t.1 in
    ap (λ (l : List ℕ). 0 ∷ l) g.1 ∙ ap (λ (x : Value). spell_value x ++ rest) g.0
only_value_of nulls (suc zero) bytes small v rest e =
    let t = took (λ n. give (Int (cast_signed w64 n))) (take_64 bytes) (v, rest) e in
    let g = given_only (Int (cast_signed w64 t.x)) v t.rest rest t.goes in
    let whole' : bytes ≡ spell_64 t.x ++ t.rest = only_64.only bytes small t.x t.rest t.was in
    let same : cast_unsigned w64 (cast_signed w64 t.x) ≡ t.x = of_z-to_z w64 t.x (number_fits bytes small t.x t.rest t.was) in
    ap (λ (l : List ℕ). 1 ∷ l) (whole' ∙ ap (λ (l : List ℕ). spell_64 t.x ++ l) g.1 ∙ ap (λ (n : ℕ). spell_64 n ++ rest) (sym same)) ∙ ap (λ (x : Value). spell_value x ++ rest) g.0
only_value_of nulls (suc (suc zero)) [] small v rest e = cc
only_value_of nulls (suc (suc zero)) (n ∷ bytes) small v rest e =
    let t = took (λ t. only_if (is_text t) (give (Text t))) (take_bytes n bytes) (v, rest) e in
    let i = if_only (is_text t.x) (give (Text t.x)) t.rest (v, rest) t.goes in
    let g = given_only (Text t.x) v t.rest rest i.1 in
    let f = bytes_only n bytes t.x t.rest t.was in
    ap (λ (k : ℕ). 2 ∷ k ∷ bytes) (sym f.1) ∙ ap (λ (l : List ℕ). 2 ∷ length t.x ∷ l) (f.0 ∙ ap (λ (l : List ℕ). t.x ++ l) g.1) ∙ ap (λ (x : Value). spell_value x ++ rest) g.0
only_value_of nulls (suc (suc (suc n))) bytes small v rest e = cc

pub only_value : (nulls : Bool) → Only (take_value nulls) spell_value
only_value nulls = record { only = by }
  where
    by : (bytes : List ℕ) → AreBytes bytes → (v : Value) (rest : List ℕ) → take_value nulls bytes ≡ Some (v, rest) → bytes ≡ spell_value v ++ rest
    by [] small v rest e = cc
    by (b ∷ bytes) small v rest e = only_value_of nulls b bytes small.1 v rest e

pub only_each : {A : Type 0} (take : Take A) (spell : A → List ℕ) → Only take spell → (n : ℕ) (bytes : List ℕ) → AreBytes bytes → (xs : List A) (rest : List ℕ) → take_each take n bytes ≡ Some (xs, rest) → (bytes ≡ flat_map spell xs ++ rest) × (length xs ≡ n)
only_each take spell one zero bytes small xs rest e = by (pair_only [] xs bytes rest e)
  where
    by : ([] ≡ xs) × (bytes ≡ rest) → (bytes ≡ flat_map spell xs ++ rest) × (length xs ≡ zero)
    by (x, r) = (r ∙ ap (λ ys. flat_map spell ys ++ rest) x, sym (ap length x))
only_each {A = A} take spell one (suc n) bytes small xs rest e =
    by (took (λ x. then_take (take_each take n) (λ xs. give (x ∷ xs))) (take bytes) (xs, rest) e) (λ b s ys r f. only_each take spell one n b s ys r f)
  where
    by : Took (λ x. then_take (take_each take n) (λ xs. give (x ∷ xs))) (take bytes) (xs, rest)
        → ((b : List ℕ) → AreBytes b → (ys : List A) (r : List ℕ) → take_each take n b ≡ Some (ys, r) → (b ≡ flat_map spell ys ++ r) × (length ys ≡ n))
        → (bytes ≡ flat_map spell xs ++ rest) × (length xs ≡ suc n)
    by t h =
        let u = took (λ ys. give (t.x ∷ ys)) (take_each take n t.rest) (xs, rest) t.goes in
        let g = given_only (t.x ∷ u.x) xs u.rest rest u.goes in
        let first = one.only bytes small t.x t.rest t.was in
        let i = h t.rest (rest_of one bytes small t.x t.rest t.was) u.x u.rest u.was in (
          first ∙ ap (λ (l : List ℕ). spell t.x ++ l) (i.0 ∙ ap (λ (l : List ℕ). flat_map spell u.x ++ l) g.1) ∙ sym (append_assoc (spell t.x) (flat_map spell u.x) rest) ∙ ap (λ ys. flat_map spell ys ++ rest) g.0,
          sym (ap length g.0) ∙ ap suc i.1,
        )

pub only_values : (nulls : Bool) → Only (take_values nulls) spell_values
only_values nulls = record { only = by }
  where
    by : (bytes : List ℕ) → AreBytes bytes → (vs : List Value) (rest : List ℕ) → take_values nulls bytes ≡ Some (vs, rest) → bytes ≡ spell_values vs ++ rest
    by [] small vs rest e = cc
    by (n ∷ bytes) small vs rest e =
        let i = only_each (take_value nulls) spell_value (only_value nulls) n bytes small.1 vs rest e in
        ap (λ (k : ℕ). k ∷ bytes) (sym i.1) ∙ ap (λ (l : List ℕ). length vs ∷ l) i.0

pub only_row : (nulls : Bool) → Only (take_row nulls) spell_values
only_row nulls = record { only = by }
  where
    by : (bytes : List ℕ) → AreBytes bytes → (vs : List Value) (rest : List ℕ) → take_row nulls bytes ≡ Some (vs, rest) → bytes ≡ spell_values vs ++ rest
    by [] small vs rest e = cc
    by (n ∷ bytes) small vs rest e =
        let t = if_only (is_row_length n) (take_each (take_value nulls) n) bytes (vs, rest) e in
        let i = only_each (take_value nulls) spell_value (only_value nulls) n bytes small.1 vs rest t.1 in
        ap (λ (k : ℕ). k ∷ bytes) (sym i.1) ∙ ap (λ (l : List ℕ). length vs ∷ l) i.0

-- ONE SPELLING PER ROW, and none is the beginning of another
pub one_spelling : {A : Type 0} (take : Take A) (as' bs : List ℕ) (x y : A) (r s : List ℕ) → take (as' ++ r) ≡ Some (x, r) → take (bs ++ s) ≡ Some (y, s) → as' ++ r ≡ bs ++ s → (x ≡ y) × (r ≡ s)
one_spelling take as' bs x y r s e f same = pair_only x y r s (sym e ∙ ap take same ∙ f)
