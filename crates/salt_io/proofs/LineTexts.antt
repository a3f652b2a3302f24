-- What is kept of a line, byte by byte.
use Rattle.salt_values.specs.declared.limits.TheConstants.{LINE_MOST}
use Rattle.std.proofs.Common.{◌≡◌, ℕ, ◌+◌, ◌-◌, ◌<◌, ◌≤◌, Bool, true, false, eqb, ◌⊎◌, inl, inr, List, [], ◌∷◌, ◌++◌, length, take, drop, refl, sym, ◌∙◌, ap, subst, append_assoc, arith, length-append, length-drop}
use Rattle.std.proofs.Math.Seq.{take-append_seam}
use Rattle.std.proofs.lemmas.List.{append-nil, length-take-le, take-append-drop}
use Rattle.std.proofs.lemmas.Bool.Decides.{nat_tests}
use Rattle.salt_io.specs.Lines.{ends_in_backslash, spaced, without_cr, last_text}
use Rattle.salt_io.specs.LineText.{tail_bytes, EndsInTail, KeepsFront, IsBeforeTail, IsText}
use Rattle.salt_io.specs.declared.line_text.LineText.{LineText}
use Rattle.salt_io.specs.declared.line_text.Tail.{Tail}
use Rattle.salt_io.specs.declared.line_text.Tail.TheVariants.{Nothing, Cr, Backslash, BackslashCr}
use Rattle.salt_io.proofs.Ends.{ends_in-append, front-append, spaced-append, without_cr-none, without_cr-append}

-- a byte that there is room for
pub kept-push : (line : List ℕ) (is_long : Bool) (text : List ℕ) (byte : ℕ) → KeepsFront line is_long text → length line < LINE_MOST → KeepsFront (line ++ byte ∷ []) is_long (text ++ byte ∷ [])
kept-push line true text byte k room = absurd (omega (arith, (k.long refl).0))
kept-push line false text byte k room = record {
  dropped = [];
  whole = rw k.whole (rw (k.short refl) (rw (append-nil line, append-nil (line ++ byte ∷ [])) refl));
  within = omega (arith, length-append line (byte ∷ []));
  short = λ _. refl;
  long = λ e. cc;
}

-- a byte too many
pub kept-full : (line : List ℕ) (is_long : Bool) (text : List ℕ) (byte : ℕ) → KeepsFront line is_long text → LINE_MOST ≤ length line → KeepsFront line true (text ++ byte ∷ [])
kept-full line is_long text byte k full = record {
  dropped = k.dropped ++ byte ∷ [];
  whole = ap (λ first. first ++ byte ∷ []) k.whole ∙ append_assoc line k.dropped (byte ∷ []);
  within = k.within;
  short = λ e. cc;
  long = λ _. (omega (arith, k.within), omega (arith, length-append k.dropped (byte ∷ [])));
}

-- bytes that there is room for
pub kept-all : (line : List ℕ) (is_long : Bool) (text bytes : List ℕ) → KeepsFront line is_long text → length line + length bytes ≤ LINE_MOST → KeepsFront (line ++ bytes) is_long (text ++ bytes)
kept-all line is_long text [] k room = rw (append-nil line, append-nil text) k
kept-all line true text (b ∷ bs) k room = absurd (omega (arith, (k.long refl).0))
kept-all line false text (b ∷ bs) k room = record {
  dropped = [];
  whole = rw k.whole (rw (k.short refl) (rw (append-nil line, append-nil (line ++ b ∷ bs)) refl));
  within = omega (arith, length-append line (b ∷ bs));
  short = λ _. refl;
  long = λ e. cc;
}

take-none : (bytes : List ℕ) → take 0 bytes ≡ []
take-none [] = refl
take-none (b ∷ bs) = refl

-- bytes behind a line that is full
kept-past : (line : List ℕ) (text bytes : List ℕ) → KeepsFront line true text → KeepsFront line true (text ++ bytes)
kept-past line text bytes k = record {
  dropped = k.dropped ++ bytes;
  whole = ap (λ first. first ++ bytes) k.whole ∙ append_assoc line k.dropped bytes;
  within = k.within;
  short = λ e. cc;
  long = λ _. ((k.long refl).0, omega (arith, (k.long refl).1, length-append k.dropped bytes));
}

-- bytes for the first of which alone there is room
pub kept-cut : (line : List ℕ) (is_long : Bool) (text bytes : List ℕ) (room : ℕ) → KeepsFront line is_long text → room ≡ LINE_MOST - length line → room < length bytes
    → KeepsFront (line ++ take room bytes) true (text ++ bytes)
kept-cut line true text bytes room k is cut =
    let none : room ≡ 0 = omega (arith, (k.long refl).0) in
    let same : line ≡ line ++ take room bytes = sym (ap (λ n. line ++ take n bytes) none ∙ ap (λ first. line ++ first) (take-none bytes) ∙ append-nil line) in
    subst (λ (kept : List ℕ). KeepsFront kept true (text ++ bytes)) same (kept-past line text bytes k)
kept-cut line false text bytes room k is cut = record {
  dropped = drop room bytes;
  whole = rw k.whole (rw (k.short refl) (rw (append-nil line)
      (sym (append_assoc line (take room bytes) (drop room bytes) ∙ ap (λ rest. line ++ rest) (take-append-drop room bytes)))));
  within = omega (arith, k.within, length-append line (take room bytes), length-take-le room bytes (omega arith));
  short = λ e. cc;
  long = λ _. (omega (arith, k.within, length-append line (take room bytes), length-take-le room bytes (omega arith)), omega (arith, length-drop room bytes));
}

-- the text with its tail kept too
pub text_kept : (line new : List ℕ) (state : LineText) (is_long : Bool) (text : List ℕ) (is : IsText line state text)
    → KeepsFront new is_long (is.before_tail ++ tail_bytes state.tail) → KeepsFront new is_long text
text_kept line new state is_long text is kept = rw is.whole kept

-- a text that ends in no backslash, but for the tail
pub no_backslash : (before : List ℕ) (tail : Tail) → IsBeforeTail before tail → (tail ≡ Backslash → ⊥) → ends_in_backslash (before ++ tail_bytes tail) ≡ false
no_backslash before Nothing cut other = rw (append-nil before) cut.1
no_backslash before Cr cut other = ends_in-append 92 before 13
no_backslash before Backslash cut other = absurd (other refl)
no_backslash before BackslashCr cut other = rw (← append_assoc before (92 ∷ []) (13 ∷ [])) (ends_in-append 92 (before ++ 92 ∷ []) 13)

-- an LF ends the line
pub record EndsLine (text line : List ℕ) : Type 0 where
  pub no_join : ends_in_backslash (without_cr text) ≡ false
  pub is : without_cr text ≡ line

pub ends-nothing : (before : List ℕ) → IsBeforeTail before Nothing → EndsLine (before ++ tail_bytes Nothing) before
ends-nothing before cut = rw (append-nil before) (record { no_join = rw (without_cr-none before cut.0) cut.1; is = without_cr-none before cut.0 })

pub ends-cr : (before : List ℕ) → IsBeforeTail before Cr → EndsLine (before ++ tail_bytes Cr) before
ends-cr before cut = record { no_join = rw (without_cr-append before) cut; is = without_cr-append before }

pub ends_line : (line : List ℕ) (state : LineText) (text : List ℕ) → (state.tail ≡ Nothing) ⊎ (state.tail ≡ Cr) → IsText line state text
    → (ends_in_backslash (without_cr text) ≡ false) × KeepsFront line state.is_long (without_cr text)
ends_line line state text ends is = of state.tail state.is_long is.before_tail is.whole is.kept is.cut ends where
  of : (tail : Tail) (is_long : Bool) (before : List ℕ) → text ≡ before ++ tail_bytes tail → KeepsFront line is_long before → IsBeforeTail before tail → (tail ≡ Nothing) ⊎ (tail ≡ Cr)
      → (ends_in_backslash (without_cr text) ≡ false) × KeepsFront line is_long (without_cr text)
  of Nothing is_long before whole kept cut ends = let e = ends-nothing before cut in rw whole (e.no_join, rw e.is kept)
  of Cr is_long before whole kept cut ends = let e = ends-cr before cut in rw whole (e.no_join, rw e.is kept)
  of Backslash is_long before whole kept cut (inl e) = cc
  of Backslash is_long before whole kept cut (inr e) = cc
  of BackslashCr is_long before whole kept cut (inl e) = cc
  of BackslashCr is_long before whole kept cut (inr e) = cc

-- an LF joins the next line on
pub record Joins (text before : List ℕ) : Type 0 where
  pub join : ends_in_backslash (without_cr text) ≡ true
  pub is : spaced (without_cr text) ≡ before ++ 32 ∷ []

joins-at : (text before : List ℕ) → without_cr text ≡ before ++ 92 ∷ [] → Joins text before
joins-at text before e = record { join = rw e (ends_in-append 92 before 92); is = rw e (spaced-append before 92) }

pub joins-backslash : (before : List ℕ) → Joins (before ++ tail_bytes Backslash) before
joins-backslash before = joins-at _ before (without_cr-none (before ++ 92 ∷ []) (ends_in-append 13 before 92))

pub joins-backslash_cr : (before : List ℕ) → Joins (before ++ tail_bytes BackslashCr) before
joins-backslash_cr before = joins-at _ before (rw (← append_assoc before (92 ∷ []) (13 ∷ [])) (without_cr-append (before ++ 92 ∷ [])))

-- after a join nothing is in the tail
pub spaced_text : (line : List ℕ) (state : LineText) (before : List ℕ) → state.tail ≡ Nothing → KeepsFront line state.is_long (before ++ 32 ∷ []) → IsText line state (before ++ 32 ∷ [])
spaced_text line state before none kept = record {
  before_tail = before ++ 32 ∷ [];
  whole = rw none (sym (append-nil (before ++ 32 ∷ [])));
  kept = kept;
  cut = rw none (ends_in-append 13 before 32, ends_in-append 92 before 32);
}

pub joins_line : (line new : List ℕ) (state : LineText) (after : LineText) (text : List ℕ) → (state.tail ≡ Backslash) ⊎ (state.tail ≡ BackslashCr) → after.tail ≡ Nothing
    → ((before : List ℕ) → KeepsFront line state.is_long before → KeepsFront new after.is_long (before ++ 32 ∷ [])) → IsText line state text
    → (ends_in_backslash (without_cr text) ≡ true) × IsText new after (spaced (without_cr text))
joins_line line new state after text joins none goes_on is = of state.tail is.whole joins where
  kept : KeepsFront new after.is_long (is.before_tail ++ 32 ∷ [])
  kept = goes_on is.before_tail is.kept

  of : (tail : Tail) → text ≡ is.before_tail ++ tail_bytes tail → (tail ≡ Backslash) ⊎ (tail ≡ BackslashCr)
      → (ends_in_backslash (without_cr text) ≡ true) × IsText new after (spaced (without_cr text))
  of Backslash whole joins = let j = joins-backslash is.before_tail in rw whole (j.join, rw j.is (spaced_text new after is.before_tail none kept))
  of BackslashCr whole joins = let j = joins-backslash_cr is.before_tail in rw whole (j.join, rw j.is (spaced_text new after is.before_tail none kept))
  of Nothing whole (inl e) = cc
  of Nothing whole (inr e) = cc
  of Cr whole (inl e) = cc
  of Cr whole (inr e) = cc

-- a CR behind a text that ends in no backslash
pub text-cr : (line new : List ℕ) (state : LineText) (is_long : Bool) (text : List ℕ) (is : IsText line state text) → (state.tail ≡ Backslash → ⊥)
    → KeepsFront new is_long (is.before_tail ++ tail_bytes state.tail) → IsText new (record { tail = Cr; is_long = is_long }) (text ++ 13 ∷ [])
text-cr line new state is_long text is other kept = record {
  before_tail = text;
  whole = refl;
  kept = text_kept line new state is_long text is kept;
  cut = rw is.whole (no_backslash is.before_tail state.tail is.cut other);
}

-- a byte that is neither a CR nor a backslash
pub text-other : (line new : List ℕ) (state after : LineText) (text : List ℕ) (byte : ℕ) → (byte ≡ 13 → ⊥) → (byte ≡ 92 → ⊥) → after.tail ≡ Nothing
    → KeepsFront new after.is_long (text ++ byte ∷ []) → IsText new after (text ++ byte ∷ [])
text-other line new state after text byte no_cr no_backslash none kept = record {
  before_tail = text ++ byte ∷ [];
  whole = rw none (sym (append-nil (text ++ byte ∷ [])));
  kept = kept;
  cut = rw none (ends_in-append 13 text byte ∙ other 13 no_cr, ends_in-append 92 text byte ∙ other 92 no_backslash);
} where
  other : (n : ℕ) → (byte ≡ n → ⊥) → eqb byte n ≡ false
  other n ne = grind (arith, nat_tests)

-- bytes whose tail is told
pub text-all : (new : List ℕ) (after : LineText) (text bytes : List ℕ) (tail : Tail) (dropped : ℕ) → EndsInTail bytes tail → dropped ≡ length (tail_bytes tail) → after.tail ≡ tail
    → KeepsFront new after.is_long (text ++ take (length bytes - dropped) bytes) → IsText new after (text ++ bytes)
text-all new after text bytes tail dropped ends count same kept = record {
  before_tail = text ++ ends.front;
  whole = rw same (ap (λ more. text ++ more) ends.whole ∙ sym (append_assoc text ends.front (tail_bytes tail)));
  kept = subst (λ (more : List ℕ). KeepsFront new after.is_long (text ++ more)) first kept;
  cut = rw same (ends.cut text);
} where
  long : length bytes ≡ length ends.front + length (tail_bytes tail)
  long = ap length ends.whole ∙ length-append ends.front (tail_bytes tail)

  first_count : length bytes - dropped ≡ length ends.front
  first_count = omega (arith, long, count)

  first : take (length bytes - dropped) bytes ≡ ends.front
  first = ap (λ n. take n bytes) first_count ∙ ap (λ more. take (length ends.front) more) ends.whole ∙ take-append_seam ends.front (tail_bytes tail)

-- the script ends behind a backslash
pub last-backslash : (line new : List ℕ) (state after : LineText) (text : List ℕ) → state.tail ≡ Backslash
    → ((before : List ℕ) → KeepsFront line state.is_long before → KeepsFront new after.is_long (before ++ 32 ∷ [])) → IsText line state text
    → KeepsFront new after.is_long (last_text text)
last-backslash line new state after text tail goes_on is =
    let whole : text ≡ is.before_tail ++ 92 ∷ [] = is.whole ∙ ap (λ t. is.before_tail ++ tail_bytes t) tail in
    rw (whole, ends_in-append 92 is.before_tail 92, front-append is.before_tail 92) (goes_on is.before_tail is.kept)

-- the script ends otherwise
pub last-other : (line new : List ℕ) (state : LineText) (is_long : Bool) (text : List ℕ) → (state.tail ≡ Backslash → ⊥)
    → (is : IsText line state text) → KeepsFront new is_long (is.before_tail ++ tail_bytes state.tail) → KeepsFront new is_long (last_text text)
last-other line new state is_long text other is kept =
    let no_join : ends_in_backslash text ≡ false = rw is.whole (no_backslash is.before_tail state.tail is.cut other) in
    rw no_join (text_kept line new state is_long text is kept)
