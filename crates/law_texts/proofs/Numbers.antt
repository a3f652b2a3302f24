-- Numbers, and the names of units and programs.
use Rattle.salt_ast.specs.ProgramTexts.{base_text, id_text, stop_text}
use Rattle.salt_model.specs.EventTexts.{owner_text, unit_text}
use Rattle.salt_model.specs.declared.events.Owner.TheVariants as owner
use Rattle.law_texts.proofs.Clear.{Clear, Stops, Tells, differ, first, run_one}
use Rattle.salt_model.specs.Sized.{IsSized, IsSizedId, IsSizedOwner, IsSizedPair, IsSizedPart, IsSizedSession}
use Rattle.salt_ast.specs.Bytes.{is_digit, is_letter}
use Rattle.salt_ast.specs.Pieces.{NotNext, EachPasses}
use Rattle.std.proofs.Common.{Bool, List, [], ap, arith, cond, eqb, false, length, refl, suc, true, zero, ℕ, ◌%◌, ◌++◌, ◌/◌, ◌<◌, ◌==◌, ◌||◌, ◌∷◌}
use Rattle.std.proofs.Common.{◌≡◌, ◌≤◌}
use Rattle.std.proofs.lemmas.Bool.Decides.{nat_tests}
use Rattle.std.proofs.lemmas.Fmt.{decimal_injective, decimal_nonempty}
use Rattle.std.specs.Fmt.{decimal, digit_glyph, digits, digits_onto}

-- ---- digits

digit_is : (d : ℕ) → 48 ≤ d → d ≤ 57 → is_digit d ≡ true
digit_is d a b = grind (arith, nat_tests)

glyph_is : (d : ℕ) → d < 10 → is_digit (digit_glyph false d) ≡ true
glyph_is d h = grind (arith, nat_tests)

onto_digits : (k n : ℕ) (acc : List ℕ) → EachPasses is_digit acc → EachPasses is_digit (digits_onto k 10 false n acc)
onto_digits zero n acc h = h
onto_digits (suc k) n acc h = either (eqb (n / 10) 0) (glyph_is (n % 10) (omega arith)) (onto_digits k (n / 10) (digit_glyph false (n % 10) ∷ acc))
  where
    either : (t : Bool) → is_digit (digit_glyph false (n % 10)) ≡ true →
        (EachPasses is_digit (digit_glyph false (n % 10) ∷ acc) → EachPasses is_digit (digits_onto k 10 false (n / 10) (digit_glyph false (n % 10) ∷ acc))) →
        EachPasses is_digit (cond t (digit_glyph false (n % 10) ∷ acc) (digits_onto k 10 false (n / 10) (digit_glyph false (n % 10) ∷ acc)))
    either true d f = (d, h)
    either false d f = f (d, h)

pub decimal_digits : (n : ℕ) → EachPasses is_digit (decimal n)
unfolding digits
decimal_digits n = onto_digits 64 n [] tt

-- ---- what ends a number

stop_parts : (l d q : Bool) → ((l || d) || q) ≡ false → (l ≡ false) × (d ≡ false) × (q ≡ false)
stop_parts false false false h = (refl, refl, refl)
stop_parts l d q h = absurd cc

pub not_digit : (x : List ℕ) → Stops x → NotNext is_digit x
not_digit [] s = tt
not_digit (b ∷ bs) s = (stop_parts (is_letter b) (is_digit b) (b == 39) s).1

pub not_quote : (x : List ℕ) → Stops x → NotNext (λ b. b == 39) x
not_quote [] s = tt
not_quote (b ∷ bs) s = (stop_parts (is_letter b) (is_digit b) (b == 39) s).2

pub decimal_clear : Clear IsSized decimal
decimal_clear = record {
  one = λ a b x y g h s t e. let r = run_one is_digit (decimal a) (decimal b) x y (decimal_digits a) (decimal_digits b) (not_digit x s)
      (not_digit y t) e in (decimal_injective a b g h r.0, r.1);
}

-- of 8 bits, and of 32
pub byte_clear : Clear IsSizedSession decimal
byte_clear = record { one = λ a b x y g h s t e. decimal_clear.one a b x y (omega (arith, g)) (omega (arith, h)) s t e }

pub part_clear : Clear IsSizedPart decimal
part_clear = record { one = λ a b x y g h s t e. decimal_clear.one a b x y (omega (arith, g)) (omega (arith, h)) s t e }

-- a number begins with a digit
pub decimal_begins : (n : ℕ) → IsSized n → (d : ℕ) × (ds : List ℕ) × (decimal n ≡ d ∷ ds) × (is_digit d ≡ true)
decimal_begins n h = go (decimal n) refl (decimal_digits n) (decimal_nonempty n h)
  where
    go : (l : List ℕ) → decimal n ≡ l → EachPasses is_digit l → 0 < length l → (d : ℕ) × (ds : List ℕ) × (decimal n ≡ d ∷ ds) × (is_digit d ≡ true)
    go [] e r some = absurd (omega arith)
    go (d ∷ ds) e r some = (d, ds, e, r.0)

-- ---- names of units and programs

pub id_clear : Clear IsSizedId id_text
id_clear = record { one = λ a b x y g h s t e. one a b x y g h s t e }
  where
    one : Tells IsSizedId id_text
    one a b x y g h s t e =
        let boot = first decimal_clear a.boot b.boot (46 ∷ decimal a.seq) (46 ∷ decimal b.seq) x y g.0 h.0 refl refl e in
        let rest = boot.1 in
        let bare : decimal a.seq ++ x ≡ decimal b.seq ++ y = cc in
        let seq = decimal_clear.one a.seq b.seq x y g.1 h.1 s t bare in
        let p = boot.0 in
        let q = seq.0 in
        let same : a ≡ b = (λ i. record { boot = p i; seq = q i }) in
        (same, seq.1)

pub base_clear : Clear IsSizedId base_text
base_clear = record { one = λ a b x y g h s t e. let bare : id_text a ++ x ≡ id_text b ++ y = cc in id_clear.one a b x y g h s t bare }

pub unit_clear : Clear IsSizedId unit_text
unit_clear = record { one = λ a b x y g h s t e. let bare : id_text a ++ x ≡ id_text b ++ y = cc in id_clear.one a b x y g h s t bare }

pub owner_clear : Clear IsSizedOwner owner_text
owner_clear = record { one = one }
  where
    one : Tells IsSizedOwner owner_text
    one (owner.Unit u) (owner.Unit v) x y g h s t e = let r = unit_clear.one u v x y g h s t e in (ap owner.Unit r.0, r.1)
    one (owner.Base u) (owner.Base v) x y g h s t e = let r = base_clear.one u v x y g h s t e in (ap owner.Base r.0, r.1)
    one (owner.Unit u) (owner.Base v) x y g h s t e = absurd (differ _ _ e refl)
    one (owner.Base u) (owner.Unit v) x y g h s t e = absurd (differ _ _ e refl)

pub stop_clear : Clear IsSizedPair stop_text
stop_clear = record { one = one }
  where
    one : Tells IsSizedPair stop_text
    one a b x y g h s t e =
        let call = first decimal_clear a.0 b.0 (32 ∷ decimal a.1) (32 ∷ decimal b.1) x y g.0 h.0 refl refl e in
        let rest = call.1 in
        let bare : decimal a.1 ++ x ≡ decimal b.1 ++ y = cc in
        let pick = byte_clear.one a.1 b.1 x y g.1 h.1 s t bare in
        let p = call.0 in
        let q = pick.0 in
        let same : a ≡ b = (λ i. (p i, q i)) in
        (same, pick.1)
