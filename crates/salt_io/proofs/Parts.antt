-- A part of the bytes in hand that has no LF, and is taken at once.
use Rattle.std.proofs.Common.{◌≡◌, ℕ, suc, ◌+◌, ◌-◌, ◌≤◌, Bool, true, false, cond, eqb, List, [], ◌∷◌, ◌++◌, length, take, drop, refl, sym, ◌∙◌, ap, subst, arith, append-nil}
use Rattle.std.proofs.Math.Seq.{take-add}
use Rattle.std.proofs.lemmas.List.Sums.{prefix_len-le-length}
use Rattle.std.proofs.lemmas.List.{drop-drop, length-take, length-take-le, take-take}
use Rattle.std.specs.List.{prefix_len}
use Rattle.std.specs.Prelude.{not}
use Rattle.salt_io.specs.LineText.{HasNoLf, IsText, TakesText, is_no_lf}
use Rattle.salt_io.specs.Lines.{ScriptReading}
use Rattle.salt_io.specs.declared.line_text.LineText.{LineText}

-- the bytes before the first LF have none
pub front_no_lf : (bytes : List ℕ) → HasNoLf (take (prefix_len is_no_lf bytes) bytes)
front_no_lf [] = tt
front_no_lf (b ∷ bs) = go (eqb b 10) refl (front_no_lf bs)
  where
    go : (t : Bool) → eqb b 10 ≡ t → HasNoLf (take (prefix_len is_no_lf bs) bs) → HasNoLf (take (cond (not t) (1 + prefix_len is_no_lf bs) 0) (b ∷ bs))
    go true e ih = tt
    go false e ih = let k : 1 + prefix_len is_no_lf bs ≡ suc (prefix_len is_no_lf bs) = omega arith in rw k (e, ih)

-- a part of an array in two
pub part_split : (bytes : List ℕ) (from to len : ℕ) → from + len ≤ to
    → take (to - from) (drop from bytes) ≡ take len (drop from bytes) ++ take (to - (from + len)) (drop (from + len) bytes)
part_split bytes from to len within =
    let sum : to - from ≡ len + (to - (from + len)) = omega arith in
    ap (λ n. take n (drop from bytes)) sum
    ∙ take-add len (to - (from + len)) (drop from bytes)
    ∙ ap (λ rest. take len (drop from bytes) ++ take (to - (from + len)) rest) (drop-drop len from bytes)

-- none is taken
pub takes_nothing : (before after : ScriptReading) (line : List ℕ) (state : LineText) → after ≡ before → TakesText before after line line state state
takes_nothing before after line state same = record {
  bytes = [];
  no_lf = tt;
  given = ap (λ (r : ScriptReading). r.kept) (sym same);
  counted = omega (arith, ap (λ (r : ScriptReading). r.taken) same);
  ended = ap (λ (r : ScriptReading). r.ended) same;
  puts = λ text is. rw (append-nil text) is;
}

-- the first bytes of what is in hand are taken, as many as stand before an LF
pub takes_first : (buf : List ℕ) (from to most len taken : ℕ) (ended : Bool) (before : ScriptReading) (line new : List ℕ) (state state' : LineText)
    → (let now : ScriptReading = record { kept = take (to - from) (drop from buf); taken = taken; ended = ended } in now ≡ before)
    → most ≤ to - from → from ≤ to → len ≡ prefix_len is_no_lf (take (from + most - from) (drop from buf))
    → ((text : List ℕ) → IsText line state text → IsText new state' (text ++ take len (take (from + most - from) (drop from buf))))
    → TakesText before (record { kept = take (to - (from + len)) (drop (from + len) buf); taken = taken + len; ended = ended }) line new state state'
takes_first buf from to most len taken ended before line new state state' was few ordered is add =
    let in_hand : List ℕ = take (from + most - from) (drop from buf) in
    let fits : len ≤ length in_hand = omega (arith, is, prefix_len-le-length is_no_lf in_hand) in
    let within : len ≤ from + most - from = omega (arith, fits, length-take (from + most - from) (drop from buf)) in
    let same : take len in_hand ≡ take len (drop from buf) = take-take len (from + most - from) (drop from buf) within in
    let ends : from + len ≤ to = omega arith in
    record {
      bytes = take len in_hand;
      no_lf = subst (λ (n : ℕ). HasNoLf (take n in_hand)) (sym is) (front_no_lf in_hand);
      given = sym (ap (λ (r : ScriptReading). r.kept) was) ∙ part_split buf from to len ends ∙ ap (λ part. part ++ take (to - (from + len)) (drop (from + len) buf)) (sym same);
      counted = omega (arith, ap (λ (r : ScriptReading). r.taken) was, length-take-le len in_hand fits);
      ended = ap (λ (r : ScriptReading). r.ended) was;
      puts = add;
    }

pub length_take_most : (n : ℕ) (bytes : List ℕ) → length (take n bytes) ≤ n
length_take_most n bytes = omega (arith, length-take n bytes)

pub ruleset lengths = (prefix_len-le-length, length_take_most)
