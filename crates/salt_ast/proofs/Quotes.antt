-- The bytes of a text from quote to quote.
use Rattle.salt_ast.specs.Words.{is_no_quote}
use Rattle.salt_ast.proofs.Joins.{Prints-nil, ◌⨾◌}
use Rattle.salt_ast.specs.Prints.{Prints}
use Rattle.salt_ast.specs.declared.printer.Printer.{Printer}
use Rattle.salt_ast.specs.Pieces.{doubled}
use Rattle.std.proofs.Common.{Bool, List, Option, [], add-one, ap, append_assoc, arith, cond, drop, false, if◌then◌else◌, length, length-drop, length-take, not, one-add, refl, subst, suc, sym, take, true, ℕ, ◌+◌, ◌++◌, ◌-◌, ◌<◌, ◌∙◌, ◌∷◌, ◌≡◌, ◌≤◌}
use Rattle.std.proofs.Math.Seq.{take-length}
use Rattle.std.proofs.lemmas.List.Sums.{prefix_len-le-length}
use Rattle.std.specs.List.{prefix_len}
use Rattle.std.specs.Prelude.{◌==◌}

pub run_within : (l : List ℕ) → prefix_len is_no_quote l ≤ length l
run_within l = prefix_len-le-length is_no_quote l

none_step : (quote : Bool) (b : ℕ) (l : List ℕ) (n : ℕ) → (n ≡ length l → doubled l ≡ l) → cond (not quote) (1 + n) 0 ≡ length (b ∷ l) → (if quote then 39 ∷ 39 ∷ doubled l else b ∷ doubled l) ≡ b ∷ l
none_step true b l n h e = absurd (omega arith)
none_step false b l n h e = ap (λ t. b ∷ t) (h (omega arith))

-- a text with no quote stays as it is
pub no_quote : (l : List ℕ) → prefix_len is_no_quote l ≡ length l → doubled l ≡ l
no_quote [] e = refl
no_quote (b ∷ l) e = none_step (b == 39) b l (prefix_len is_no_quote l) (no_quote l) e

quote_step : (quote : Bool) (b : ℕ) (l : List ℕ) (n : ℕ) → (n < length l → doubled l ≡ take n l ++ (39 ∷ 39 ∷ doubled (drop (n + 1) l))) → cond (not quote) (1 + n) 0 < length (b ∷ l) → (if quote then 39 ∷ 39 ∷ doubled l else b ∷ doubled l) ≡ take (cond (not quote) (1 + n) 0) (b ∷ l) ++ (39 ∷ 39 ∷ doubled (drop (cond (not quote) (1 + n) 0 + 1) (b ∷ l)))
quote_step true b l n h lt = refl
quote_step false b l n h lt = rw (one-add n, add-one (suc n)) (ap (λ t. b ∷ t) (rw (add-one n) at (h (omega arith))))

-- the first quote is doubled
pub first_quote : (l : List ℕ) → prefix_len is_no_quote l < length l → doubled l ≡ take (prefix_len is_no_quote l) l ++ (39 ∷ 39 ∷ doubled (drop (prefix_len is_no_quote l + 1) l))
first_quote [] lt = absurd (omega arith)
first_quote (b ∷ l) lt = quote_step (b == 39) b l (prefix_len is_no_quote l) (first_quote l) lt

-- The bytes before the first quote have been counted.

pub at_end : (n : ℕ) (l : List ℕ) → n ≡ prefix_len is_no_quote l → n ≡ length l → take n l ≡ doubled l
at_end n l e h = ap (λ k. take k l) h ∙ (take-length l ∙ sym (no_quote l (sym e ∙ h)))

pub at_quote : (n : ℕ) (l : List ℕ) → n ≡ prefix_len is_no_quote l → n < length l → take n l ++ ((39 ∷ 39 ∷ []) ++ doubled (take (length l - (n + 1)) (drop (n + 1) l))) ≡ doubled l
at_quote n l e lt = rw (← length-drop (n + 1) l, take-length (drop (n + 1) l), e) (sym (first_quote l (rw (← e) lt)))

pub rest_within : (m k : ℕ) (l : List ℕ) (n : ℕ) → length l ≤ n → length (take m (drop k l)) ≤ n
rest_within m k l n h = simp (length-take, length-drop) (omega arith)

-- The quotes of a first part of the text have been doubled and printed, and those of what is left have not.
pub record Doubles {K : Type 0} (held : K → Option (List ℕ)) (faults : K → ℕ) (old now : Printer K) (text left : List ℕ) : Type 0 where
  pub front : List ℕ
  pub printed : Prints held faults old now front
  pub whole : front ++ doubled left ≡ doubled text

module _ {K : Type 0} {held : K → Option (List ℕ)} {faults : K → ℕ} {old : Printer K} {text : List ℕ} where
  pub doubles-none : Doubles held faults old old text text
  doubles-none = record { front = []; printed = Prints-nil held faults old; whole = refl }

  -- what is left has no quote
  pub doubles-all : {now new : Printer K} (n : ℕ) (left : List ℕ) → n ≡ prefix_len is_no_quote left → n ≡ length left →
      Doubles held faults old now text left → Prints held faults now new (take n left) → Prints held faults old new (doubled text)
  doubles-all {new = new} n left run all d p =
      subst (Prints held faults old new) (ap (λ l. d.front ++ l) (at_end n left run all) ∙ d.whole) (d.printed ⨾ p)

  -- the bytes before the next quote, and the quote
  pub doubles-more : {now mid new : Printer K} (n : ℕ) (left : List ℕ) → n ≡ prefix_len is_no_quote left → n < length left →
      Doubles held faults old now text left → Prints held faults now mid (take n left) → Prints held faults mid new (39 ∷ 39 ∷ []) →
      Doubles held faults old new text (take (length left - (n + 1)) (drop (n + 1) left))
  doubles-more n left run more d p q = record {
    front = d.front ++ (take n left ++ 39 ∷ 39 ∷ []);
    printed = d.printed ⨾ p ⨾ q;
    whole = rw (append_assoc d.front, append_assoc (take n left)) (ap (λ l. d.front ++ l) (at_quote n left run more) ∙ d.whole);
  }
