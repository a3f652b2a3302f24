-- How far a reader has come in a line.
use Rattle.salt_values.specs.declared.limits.TheConstants.{LINE_MOST}
use Rattle.std.proofs.Common.{◌≡◌, ℕ, ◌+◌, ◌-◌, ◌<◌, ◌≤◌, Bool, true, false, List, [], ◌∷◌, ◌++◌, length, Option, Some, None, inl, inr, IfSome, refl, sym, ◌∙◌, ◌⊎◌, ap, append_assoc, arith, length-append}
use Rattle.std.proofs.Math.Seq.{take-append_seam}
use Rattle.std.proofs.lemmas.List.{append-nil}
use Rattle.salt_io.specs.Lines.{ScriptReading, IsReadingOf, spaced, without_cr, last_text, ends_in_backslash, Script, script_of, TakesLine, TakesLong, EndsNoLine, TakesNoLine, IsCutOff}
use Rattle.salt_io.specs.LineText.{KeepsFront, IsText, TakesText}
use Rattle.salt_io.specs.Streams.{bytes_before, Takes, IsAtEnd}
use Rattle.salt_io.specs.declared.line_text.LineText.{LineText}
use Rattle.salt_io.proofs.OpenLines.{IsOpen, open-none, open-byte, open-text, open-join, open-line, open-end}
use Rattle.salt_io.proofs.ScriptLaws.{ended-prefix, last_text-nil}
use Rattle.salt_io.proofs.Taking.{takes-none, takes-append, takes-part}

-- These bytes have been taken since, and of the line's text so far that much is kept. Either the source was not asked, and what was in
-- hand is what was taken and what is kept; or all that was in hand has been taken.
pub record Reads (before now : Option (List ℕ)) (taken_before taken : ℕ) (line : List ℕ) (state : LineText) (in_hand kept : List ℕ) (Unasked : Type 0) : Type 0 where
  pub used : List ℕ
  pub text : List ℕ
  pub given : Takes before used now
  pub counted : taken ≡ taken_before + length used
  pub stands_for : IsOpen used text
  pub is : IsText line state text
  pub hand : (Unasked × (in_hand ≡ used ++ kept)) ⊎ ((more : List ℕ) × (used ≡ in_hand ++ more))

pub reads-none : (before : Option (List ℕ)) (taken : ℕ) (line : List ℕ) (state : LineText) (in_hand : List ℕ) (Unasked : Type 0) → Unasked → line ≡ [] → IsText [] state []
    → Reads before before taken taken line state in_hand in_hand Unasked
reads-none before taken line state in_hand Unasked unasked empty is = record {
  used = [];
  text = [];
  given = takes-none before;
  counted = omega arith;
  stands_for = open-none;
  is = rw empty is;
  hand = inl (unasked, refl);
}

-- what a byte leaves in hand, and of the source
pub record Steps (kept kept' : List ℕ) (byte : ℕ) (Unasked Unasked' : Type 0) : Type 0 where
  pub unasked : (kept ≡ [] → ⊥) → Unasked → Unasked'
  pub first : (kept ≡ [] → ⊥) → kept ≡ byte ∷ kept'

hand-more : (used in_hand kept kept' : List ℕ) (byte : ℕ) (Unasked Unasked' : Type 0) → Steps kept kept' byte Unasked Unasked'
    → (Unasked × (in_hand ≡ used ++ kept)) ⊎ ((more : List ℕ) × (used ≡ in_hand ++ more))
    → (Unasked' × (in_hand ≡ (used ++ byte ∷ []) ++ kept')) ⊎ ((more : List ℕ) × (used ++ byte ∷ [] ≡ in_hand ++ more))
hand-more used in_hand [] kept' byte Unasked Unasked' steps (inl h) = inr (byte ∷ [], ap (λ l. l ++ byte ∷ []) (sym (h.1 ∙ append-nil used)))
hand-more used in_hand (x ∷ xs) kept' byte Unasked Unasked' steps (inl h) = inl (steps.unasked some h.0, h.1 ∙ ap (λ l. used ++ l) (steps.first some) ∙ sym (append_assoc used (byte ∷ []) kept'))
  where
    some : x ∷ xs ≡ [] → ⊥
    some e = cc
hand-more used in_hand kept kept' byte Unasked Unasked' steps (inr h) = inr (h.0 ++ byte ∷ [], ap (λ l. l ++ byte ∷ []) h.1 ∙ append_assoc in_hand h.0 (byte ∷ []))

pub reads-byte : (before now next : Option (List ℕ)) (taken_before taken after : ℕ) (line new : List ℕ) (state state' : LineText) (byte : ℕ) (in_hand kept kept' : List ℕ) (Unasked Unasked' : Type 0)
    → Reads before now taken_before taken line state in_hand kept Unasked → Steps kept kept' byte Unasked Unasked' → Takes now (byte ∷ []) next → after ≡ taken + 1 → (byte ≡ 10 → ⊥)
    → ((text : List ℕ) → IsText line state text → IsText new state' (text ++ byte ∷ [])) → Reads before next taken_before after new state' in_hand kept' Unasked'
reads-byte before now next taken_before taken after line new state state' byte in_hand kept kept' Unasked Unasked' r steps given counted no_lf add = record {
  used = r.used ++ byte ∷ [];
  text = r.text ++ byte ∷ [];
  given = takes-append before now next r.used (byte ∷ []) r.given given;
  counted = omega (arith, r.counted, length-append r.used (byte ∷ []));
  stands_for = open-byte r.used r.text byte r.stands_for no_lf;
  is = add r.text r.is;
  hand = hand-more r.used in_hand kept kept' byte Unasked Unasked' steps r.hand;
}

hand-text : (used in_hand kept kept' bytes : List ℕ) (Unasked : Type 0) → kept ≡ bytes ++ kept'
    → (Unasked × (in_hand ≡ used ++ kept)) ⊎ ((more : List ℕ) × (used ≡ in_hand ++ more))
    → (Unasked × (in_hand ≡ (used ++ bytes) ++ kept')) ⊎ ((more : List ℕ) × (used ++ bytes ≡ in_hand ++ more))
hand-text used in_hand kept kept' bytes Unasked given (inl h) = inl (h.0, h.1 ∙ ap (λ l. used ++ l) given ∙ sym (append_assoc used bytes kept'))
hand-text used in_hand kept kept' bytes Unasked given (inr h) = inr (h.0 ++ bytes, ap (λ l. l ++ bytes) h.1 ∙ append_assoc in_hand h.0 bytes)

-- bytes in hand that have no LF, taken at once
pub reads-text : (before left : Option (List ℕ)) (taken_before : ℕ) (reading after : ScriptReading) (line new : List ℕ) (state state' : LineText) (in_hand : List ℕ) (Unasked : Type 0)
    → TakesText reading after line new state state' → Reads before (bytes_before reading.kept left) taken_before reading.taken line state in_hand reading.kept Unasked
    → Reads before (bytes_before after.kept left) taken_before after.taken new state' in_hand after.kept Unasked
reads-text before left taken_before reading after line new state state' in_hand Unasked t r = record {
  used = r.used ++ t.bytes;
  text = r.text ++ t.bytes;
  given = takes-append before (bytes_before reading.kept left) (bytes_before after.kept left) r.used t.bytes r.given
      (ap (λ kept. bytes_before kept left) t.given ∙ takes-part t.bytes after.kept left);
  counted = omega (arith, r.counted, t.counted, length-append r.used t.bytes);
  stands_for = open-text r.used r.text t.bytes r.stands_for t.no_lf;
  is = t.puts r.text r.is;
  hand = hand-text r.used in_hand reading.kept after.kept t.bytes Unasked t.given r.hand;
}

behind-none : (bytes kept : List ℕ) → bytes ++ kept ≡ [] → kept ≡ []
behind-none [] kept e = e
behind-none (x ∷ xs) kept e = cc

-- the reader goes on with its source
pub reading-of : (reading after : ScriptReading) (left : Option (List ℕ)) (line new : List ℕ) (state state' : LineText) → TakesText reading after line new state state'
    → IsReadingOf reading left → IsReadingOf after left
reading-of reading after left line new state state' t of =
    λ ended. (behind-none t.bytes after.kept (sym t.given ∙ (of (sym t.ended ∙ ended)).0), (of (sym t.ended ∙ ended)).1)

pub reads-join : (before now next : Option (List ℕ)) (taken_before taken after : ℕ) (line new : List ℕ) (state state' : LineText) (byte : ℕ) (in_hand kept kept' : List ℕ) (Unasked Unasked' : Type 0)
    → Reads before now taken_before taken line state in_hand kept Unasked → Steps kept kept' byte Unasked Unasked' → Takes now (byte ∷ []) next → after ≡ taken + 1 → byte ≡ 10
    → ((text : List ℕ) → IsText line state text → (ends_in_backslash (without_cr text) ≡ true) × IsText new state' (spaced (without_cr text)))
    → Reads before next taken_before after new state' in_hand kept' Unasked'
reads-join before now next taken_before taken after line new state state' byte in_hand kept kept' Unasked Unasked' r steps given counted lf join = record {
  used = r.used ++ 10 ∷ [];
  text = spaced (without_cr r.text);
  given = takes-append before now next r.used (10 ∷ []) r.given (rw lf at given);
  counted = omega (arith, r.counted, length-append r.used (10 ∷ []));
  stands_for = open-join r.used r.text r.stands_for (join r.text r.is).0;
  is = (join r.text r.is).1;
  hand = hand-more r.used in_hand kept kept' 10 Unasked Unasked' (rw lf at steps) r.hand;
}

-- these bytes end no line
no_line : (used text : List ℕ) → IsOpen used text → EndsNoLine used
no_line used text so_far = ap (λ (s : Script). s.ended) (open-end used text so_far)

front-none : {A : Type 0} (xs ys : List A) → xs ++ ys ≡ [] → xs ≡ []
front-none [] ys e = refl
front-none (x ∷ xs) ys e = cc

-- while a whole line is in hand, the source is not asked, and something is kept
pub unasked : (before now : Option (List ℕ)) (taken_before taken : ℕ) (line : List ℕ) (state : LineText) (in_hand kept : List ℕ) (Unasked : Type 0)
    → Reads before now taken_before taken line state in_hand kept Unasked → ((script_of in_hand).ended ≡ [] → ⊥) → Unasked × (kept ≡ [] → ⊥)
unasked before now taken_before taken line state in_hand kept Unasked r whole = by r.hand
  where
    none : EndsNoLine r.used
    none = no_line r.used r.text r.stands_for

    by : (Unasked × (in_hand ≡ r.used ++ kept)) ⊎ ((more : List ℕ) × (r.used ≡ in_hand ++ more)) → Unasked × (kept ≡ [] → ⊥)
    by (inl h) = (h.0, λ empty. whole (ap (λ l. (script_of l).ended) (h.1 ∙ ap (λ l. r.used ++ l) empty ∙ append-nil r.used) ∙ none))
    by (inr h) = let p = ended-prefix in_hand h.0 in absurd (whole (front-none _ p.0 (sym p.1 ∙ ap (λ l. (script_of l).ended) (sym h.1) ∙ none)))

-- a line with this text has been taken, and that much of it is kept
pub record Found (most : ℕ) (before after : Option (List ℕ)) (taken_before : ℕ) (reading : ScriptReading) (line : List ℕ) (is_long : Bool) : Type 0 where
  pub text : List ℕ
  pub kept : KeepsFront line is_long text
  pub takes : TakesLine most before after taken_before reading text

pub reads-line : (most : ℕ) (before now next : Option (List ℕ)) (taken_before taken : ℕ) (after : ScriptReading) (line new : List ℕ) (state : LineText) (in_hand kept : List ℕ) (Unasked : Type 0) (is_long : Bool) (byte : ℕ)
    → Reads before now taken_before taken line state in_hand kept Unasked → Takes now (byte ∷ []) next → after.taken ≡ taken + 1 → after.taken ≤ most → byte ≡ 10
    → ((text : List ℕ) → IsText line state text → (ends_in_backslash (without_cr text) ≡ false) × KeepsFront new is_long (without_cr text)) → Found most before next taken_before after new is_long
reads-line most before now next taken_before taken after line new state in_hand kept Unasked is_long byte r given counted within lf end = record {
  text = without_cr r.text;
  kept = (end r.text r.is).1;
  takes = record {
    used = r.used ++ 10 ∷ [];
    given = takes-append before now next r.used (10 ∷ []) r.given (rw lf at given);
    line = inl (open-line r.used r.text r.stands_for (end r.text r.is).0);
    some = omega (arith, length-append r.used (10 ∷ []));
    counted = omega (arith, r.counted, length-append r.used (10 ∷ []));
    within = within;
  };
}

some-of : (used : List ℕ) → (used ≡ [] → ⊥) → 0 < length used
some-of [] none = absurd (none refl)
some-of (x ∷ xs) none = omega arith

kept-some : (line : List ℕ) (is_long : Bool) (text : List ℕ) → KeepsFront line is_long text → (line ≡ [] → ⊥) → text ≡ [] → ⊥
kept-some [] is_long text kept some none = some refl
kept-some (x ∷ xs) is_long text kept some none = let e : x ∷ xs ++ kept.dropped ≡ [] = sym kept.whole ∙ none in cc

-- at the script's end
pub reads-last : (most : ℕ) (before now next : Option (List ℕ)) (taken_before taken : ℕ) (after : ScriptReading) (line new : List ℕ) (state : LineText) (in_hand kept : List ℕ) (Unasked : Type 0) (is_long : Bool)
    → Reads before now taken_before taken line state in_hand kept Unasked → now ≡ next → after.taken ≡ taken → after.taken ≤ most → after.ended ≡ true → (new ≡ [] → ⊥)
    → ((text : List ℕ) → IsText line state text → KeepsFront new is_long (last_text text)) → Found most before next taken_before after new is_long
reads-last most before now next taken_before taken after line new state in_hand hand Unasked is_long r same counted within at_end some end = record {
  text = last_text r.text;
  kept = kept;
  takes = record {
    used = r.used;
    given = rw (← same) r.given;
    line = inr (at_end, text_some, script);
    some = some-of r.used (λ none. text_some (ap (λ (s : Script). s.rest) (sym script ∙ ap script_of none)));
    counted = counted ∙ r.counted;
    within = within;
  };
} where
  kept : KeepsFront new is_long (last_text r.text)
  kept = end r.text r.is

  text_some : last_text r.text ≡ [] → ⊥
  text_some = kept-some new is_long (last_text r.text) kept some

  script : script_of r.used ≡ record { ended = []; rest = last_text r.text }
  script = open-end r.used r.text r.stands_for

kept-none : (is_long : Bool) (text : List ℕ) → KeepsFront [] is_long text → text ≡ []
kept-none true text kept = absurd (omega (arith, (kept.long refl).0))
kept-none false text kept = kept.whole ∙ kept.short refl

pub at_end-before : (left : Option (List ℕ)) → IsAtEnd left → IsAtEnd (bytes_before [] left)
at_end-before None e = e
at_end-before (Some rest) e = e

-- nothing was there
pub record IsEmpty (before : Option (List ℕ)) (taken_before after : ℕ) : Type 0 where
  pub none : IsAtEnd before
  pub taken : after ≡ taken_before

pub reads-nothing : (before now : Option (List ℕ)) (taken_before taken after : ℕ) (line new : List ℕ) (state : LineText) (in_hand kept : List ℕ) (Unasked : Type 0) (is_long : Bool)
    → Reads before now taken_before taken line state in_hand kept Unasked → after ≡ taken → IsAtEnd now → new ≡ []
    → ((text : List ℕ) → IsText line state text → KeepsFront new is_long (last_text text)) → IsEmpty before taken_before after
reads-nothing before now taken_before taken after line new state in_hand kept Unasked is_long r counted at_end empty end = record {
  none = rw (r.given, none) (at_end-before now at_end);
  taken = let e : length r.used ≡ 0 = ap length none in omega (arith, r.counted);
} where
  none : r.used ≡ []
  none = r.stands_for.some (last_text-nil r.text (ends_in_backslash r.text) refl (kept-none is_long (last_text r.text) (rw empty at (end r.text r.is))))

pub reads-fault : (most : ℕ) (before now left : Option (List ℕ)) (taken_before taken : ℕ) (line : List ℕ) (state : LineText) (in_hand kept : List ℕ) (Unasked : Type 0)
    → Reads before now taken_before taken line state in_hand kept Unasked → now ≡ left → taken ≤ most → TakesNoLine (most - taken_before) before left
reads-fault most before now left taken_before taken line state in_hand kept Unasked r same few = record {
  got = r.used;
  given = rw (← same) r.given;
  no_line = no_line r.used r.text r.stands_for;
  within = omega (arith, r.counted);
}

pub reads-cut_off : (most : ℕ) (before now : Option (List ℕ)) (taken_before taken : ℕ) (line : List ℕ) (state : LineText) (in_hand kept : List ℕ) (Unasked : Type 0)
    → Reads before now taken_before taken line state in_hand kept Unasked → taken ≡ most → IfSome now (λ all. 0 < length all) → IsCutOff (most - taken_before) before
reads-cut_off most before None taken_before taken line state in_hand kept Unasked r full more = rw r.given tt
reads-cut_off most before (Some rest) taken_before taken line state in_hand kept Unasked r full more = rw (r.given, gone) (omega (arith, length-append r.used rest), rw (take-append_seam r.used rest) (no_line r.used r.text r.stands_for)) where
  gone : most - taken_before ≡ length r.used
  gone = omega (arith, r.counted)

-- all of a line that is not long is kept
pub found-line : (most : ℕ) (before after : Option (List ℕ)) (taken_before : ℕ) (taken : ScriptReading) (line : List ℕ) (is_long : Bool) → is_long ≡ false → Found most before after taken_before taken line is_long → TakesLine most before after taken_before taken line
found-line most before after taken_before taken line is_long short found = rw (← same) found.takes where
  same : found.text ≡ line
  same = found.kept.whole ∙ ap (λ others. line ++ others) (found.kept.short short) ∙ append-nil line

pub found-long : (most : ℕ) (before after : Option (List ℕ)) (taken_before : ℕ) (taken : ScriptReading) (line : List ℕ) (is_long : Bool) → is_long ≡ true → Found most before after taken_before taken line is_long → TakesLong LINE_MOST most before after taken_before taken
found-long most before after taken_before taken line is_long long found = record {
  text = found.text;
  long = let e : length found.text ≡ length line + length found.kept.dropped = ap length found.kept.whole ∙ length-append line found.kept.dropped in let f = found.kept.long long in omega (arith, e, f.0, f.1);
  taken = found.takes;
}
