-- Bytes that have ended no line yet.
use Rattle.std.proofs.Common.{◌≡◌, ℕ, ◌++◌, arith, Bool, true, false, eqb, List, [], ◌∷◌, refl, sym, ◌∙◌, ap, append_assoc}
use Rattle.std.proofs.lemmas.Bool.Decides.{nat_tests}
use Rattle.std.proofs.lemmas.List.{append-nil}
use Rattle.salt_io.specs.LineText.{HasNoLf}
use Rattle.salt_io.specs.Lines.{with_byte, pieces_of, Script, ends_in, ends_in_backslash, front, spaced, joined_on, before_script, last_text, without_cr, script_from, script_of}
use Rattle.salt_io.proofs.Ends.{append-is-some, ends_in-append}

HasNoLf-append : (a b : List ℕ) → HasNoLf a → HasNoLf b → HasNoLf (a ++ b)
HasNoLf-append [] b p q = q
HasNoLf-append (x ∷ xs) b p q = (p.0, HasNoLf-append xs b p.1 q)

HasNoLf-front : (a : List ℕ) → HasNoLf a → HasNoLf (front a)
HasNoLf-front [] p = tt
HasNoLf-front (x ∷ []) p = tt
HasNoLf-front (x ∷ y ∷ ys) p = (p.0, HasNoLf-front (y ∷ ys) p.1)

HasNoLf-without_cr : (a : List ℕ) (cr : Bool) → ends_in 13 a ≡ cr → HasNoLf a → HasNoLf (without_cr a)
HasNoLf-without_cr a true e p = rw e (HasNoLf-front a p)
HasNoLf-without_cr a false e p = rw e p

joined_on-nil : (pieces : List (List ℕ)) (last : List ℕ) → joined_on [] pieces last ≡ record { ended = pieces; rest = last }
joined_on-nil [] last = refl
joined_on-nil (p ∷ ps) last = refl

with_byte-joined_on : (byte : ℕ) (text : List ℕ) (pieces : List (List ℕ)) (last : List ℕ) → eqb byte 10 ≡ false → with_byte byte (joined_on text pieces last) ≡ joined_on (byte ∷ text) pieces last
with_byte-joined_on byte text [] last e = rw e
with_byte-joined_on byte text (p ∷ ps) last e = rw e

pieces-no_lf : (text v : List ℕ) → HasNoLf text → pieces_of (text ++ v) ≡ joined_on text (pieces_of v).ended (pieces_of v).rest
pieces-no_lf [] v h = sym (joined_on-nil (pieces_of v).ended (pieces_of v).rest)
pieces-no_lf (x ∷ xs) v h = ap (with_byte x) (pieces-no_lf xs v h.1) ∙ with_byte-joined_on x xs (pieces_of v).ended (pieces_of v).rest h.0

-- the script that pieces are
abbrev script_in : Script → Script
script_in pieces = script_from pieces.ended pieces.rest

-- an LF behind a text
script-lf : (text v : List ℕ) → HasNoLf text → script_of (text ++ 10 ∷ v) ≡ before_script (without_cr text) (script_of v)
script-lf text v h = ap script_in (pieces-no_lf text (10 ∷ v) h) ∙ ap (λ piece. before_script (without_cr piece) (script_of v)) (append-nil text)

-- a text that no LF follows
script-no_lf : (text : List ℕ) → HasNoLf text → script_of text ≡ record { ended = []; rest = last_text text }
script-no_lf text h = ap script_of (sym (append-nil text)) ∙ ap script_in (pieces-no_lf text [] h) ∙ ap (λ rest. let script : Script = record { ended = []; rest = last_text rest } in script) (append-nil text)

ends_in-seam : (byte : ℕ) (text : List ℕ) (x : ℕ) (xs : List ℕ) → ends_in byte (text ++ x ∷ xs) ≡ ends_in byte (x ∷ xs)
ends_in-seam byte [] x xs = refl
ends_in-seam byte (t ∷ []) x xs = refl
ends_in-seam byte (t ∷ u ∷ us) x xs = ends_in-seam byte (u ∷ us) x xs

front-seam : (text : List ℕ) (x : ℕ) (xs : List ℕ) → front (text ++ x ∷ xs) ≡ text ++ front (x ∷ xs)
front-seam [] x xs = refl
front-seam (t ∷ []) x xs = refl
front-seam (t ∷ u ∷ us) x xs = ap (λ rest. t ∷ rest) (front-seam (u ∷ us) x xs)

-- Below, a text that ends in a space.

ends_in-spaced : (byte : ℕ) (s q : List ℕ) → eqb 32 byte ≡ false → ends_in byte ((s ++ 32 ∷ []) ++ q) ≡ ends_in byte q
ends_in-spaced byte s [] e = rw (append-nil (s ++ 32 ∷ [])) (ends_in-append byte s 32 ∙ e)
ends_in-spaced byte s (x ∷ xs) e = ends_in-seam byte (s ++ 32 ∷ []) x xs

without_cr-spaced : (s q : List ℕ) (cr : Bool) → ends_in 13 q ≡ cr → without_cr ((s ++ 32 ∷ []) ++ q) ≡ (s ++ 32 ∷ []) ++ without_cr q
without_cr-spaced s q false e = rw (ends_in-spaced 13 s q refl, e)
without_cr-spaced s [] true e = cc
without_cr-spaced s (x ∷ xs) true e = rw (ends_in-spaced 13 s (x ∷ xs) refl, e) (front-seam (s ++ 32 ∷ []) x xs)

spaced-spaced : (s : List ℕ) (x : ℕ) (xs : List ℕ) → spaced ((s ++ 32 ∷ []) ++ x ∷ xs) ≡ (s ++ 32 ∷ []) ++ spaced (x ∷ xs)
spaced-spaced s x xs = ap (λ first. first ++ 32 ∷ []) (front-seam (s ++ 32 ∷ []) x xs) ∙ append_assoc (s ++ 32 ∷ []) (front (x ∷ xs)) (32 ∷ [])

last_text-spaced : (s q : List ℕ) (joins : Bool) → ends_in_backslash q ≡ joins → last_text ((s ++ 32 ∷ []) ++ q) ≡ (s ++ 32 ∷ []) ++ last_text q
last_text-spaced s q false e = rw (ends_in-spaced 92 s q refl, e)
last_text-spaced s [] true e = cc
last_text-spaced s (x ∷ xs) true e = rw (ends_in-spaced 92 s (x ∷ xs) refl, e) (spaced-spaced s x xs)

joined_on-twice : (a b : List ℕ) (ended : List (List ℕ)) (rest : List ℕ) → joined_on (a ++ b) ended rest ≡ joined_on a (joined_on b ended rest).ended (joined_on b ended rest).rest
joined_on-twice a b [] rest = ap (λ text. let script : Script = record { ended = []; rest = text } in script) (append_assoc a b rest)
joined_on-twice a b (line ∷ lines) rest = ap (λ text. let script : Script = record { ended = text ∷ lines; rest = rest } in script) (append_assoc a b line)

before_script-spaced : (s q : List ℕ) (joins : Bool) → ends_in_backslash q ≡ joins → (script : Script)
    → before_script ((s ++ 32 ∷ []) ++ q) script ≡ joined_on (s ++ 32 ∷ []) (before_script q script).ended (before_script q script).rest
before_script-spaced s q false e script = rw (ends_in-spaced 92 s q refl, e)
before_script-spaced s [] true e script = cc
before_script-spaced s (x ∷ xs) true e script = rw (ends_in-spaced 92 s (x ∷ xs) refl, e, spaced-spaced s x xs) (joined_on-twice (s ++ 32 ∷ []) (spaced (x ∷ xs)) script.ended script.rest)

script_from-spaced : (s : List ℕ) (pieces : List (List ℕ)) (last : List ℕ)
    → script_in (joined_on (s ++ 32 ∷ []) pieces last) ≡ joined_on (s ++ 32 ∷ []) (script_from pieces last).ended (script_from pieces last).rest
script_from-spaced s [] last = ap (λ text. let script : Script = record { ended = []; rest = text } in script) (last_text-spaced s last (ends_in_backslash last) refl)
script_from-spaced s (p ∷ ps) last =
    ap (λ piece. before_script piece (script_from ps last)) (without_cr-spaced s p (ends_in 13 p) refl)
    ∙ before_script-spaced s (without_cr p) (ends_in_backslash (without_cr p)) refl (script_from ps last)

-- a script behind a text that ends in a space
script-spaced : (s v : List ℕ) → HasNoLf s → script_of ((s ++ 32 ∷ []) ++ v) ≡ joined_on (s ++ 32 ∷ []) (script_of v).ended (script_of v).rest
script-spaced s v h =
    ap script_in (pieces-no_lf (s ++ 32 ∷ []) v (HasNoLf-append s (32 ∷ []) h (refl, tt)))
    ∙ script_from-spaced s (pieces_of v).ended (pieces_of v).rest

-- The bytes stand for this text, whatever follows.
pub record IsOpen (used text : List ℕ) : Type 0 where
  pub no_lf : HasNoLf text
  pub goes_on : (v : List ℕ) → script_of (used ++ v) ≡ script_of (text ++ v)
  pub some : text ≡ [] → used ≡ []

pub open-none : IsOpen [] []
open-none = record { no_lf = tt; goes_on = λ v. refl; some = λ e. refl }

pub open-byte : (used text : List ℕ) (byte : ℕ) → IsOpen used text → (byte ≡ 10 → ⊥) → IsOpen (used ++ byte ∷ []) (text ++ byte ∷ [])
open-byte used text byte so_far no_lf = record {
  no_lf = HasNoLf-append text (byte ∷ []) so_far.no_lf (other, tt);
  goes_on = λ v. rw (append_assoc used (byte ∷ []) v, append_assoc text (byte ∷ []) v) (so_far.goes_on (byte ∷ v));
  some = λ e. absurd (append-is-some text byte e);
} where
  other : eqb byte 10 ≡ false
  other = grind (arith, nat_tests)

-- a text that goes on is empty only where it was, and what was taken with it
both-none : (used text bytes : List ℕ) → (text ≡ [] → used ≡ []) → text ++ bytes ≡ [] → used ++ bytes ≡ []
both-none used [] bytes some e = rw (some refl) e
both-none used (x ∷ xs) bytes some e = cc

pub open-text : (used text bytes : List ℕ) → IsOpen used text → HasNoLf bytes → IsOpen (used ++ bytes) (text ++ bytes)
open-text used text bytes so_far none = record {
  no_lf = HasNoLf-append text bytes so_far.no_lf none;
  goes_on = λ v. rw (append_assoc used bytes v, append_assoc text bytes v) (so_far.goes_on (bytes ++ v));
  some = λ e. both-none used text bytes so_far.some e;
}

pub open-join : (used text : List ℕ) → IsOpen used text → ends_in_backslash (without_cr text) ≡ true → IsOpen (used ++ 10 ∷ []) (spaced (without_cr text))
open-join used text so_far joins = record {
  no_lf = HasNoLf-append (front (without_cr text)) (32 ∷ []) first (refl, tt);
  goes_on = λ v. rw (append_assoc used (10 ∷ []) v) (so_far.goes_on (10 ∷ v) ∙ script-lf text v so_far.no_lf ∙ at_join v ∙ sym (script-spaced (front (without_cr text)) v first));
  some = λ e. absurd (append-is-some (front (without_cr text)) 32 e);
} where
  first : HasNoLf (front (without_cr text))
  first = HasNoLf-front (without_cr text) (HasNoLf-without_cr text (ends_in 13 text) refl so_far.no_lf)

  at_join : (v : List ℕ) → before_script (without_cr text) (script_of v) ≡ joined_on (spaced (without_cr text)) (script_of v).ended (script_of v).rest
  at_join v = rw joins

pub open-line : (used text : List ℕ) → IsOpen used text → ends_in_backslash (without_cr text) ≡ false → script_of (used ++ 10 ∷ []) ≡ record { ended = without_cr text ∷ []; rest = [] }
open-line used text so_far ends = so_far.goes_on (10 ∷ []) ∙ script-lf text [] so_far.no_lf ∙ at_end where
  at_end : before_script (without_cr text) (script_of []) ≡ record { ended = without_cr text ∷ []; rest = [] }
  at_end = rw ends

pub open-end : (used text : List ℕ) → IsOpen used text → script_of used ≡ record { ended = []; rest = last_text text }
open-end used text so_far = ap script_of (sym (append-nil used)) ∙ so_far.goes_on [] ∙ ap script_of (append-nil text) ∙ script-no_lf text so_far.no_lf
