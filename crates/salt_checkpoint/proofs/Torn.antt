-- A write that spares the named sides leaves them as they were, whatever a stop makes of it.
use Rattle.salt_checkpoint.specs.Sides.{KeepsNamed, NamedSame, SpareNamed, Spares, side_bytes, writes_end}
use Rattle.salt_checkpoint.specs.declared.writes.Write.{Write}
use Rattle.salt_bytes.specs.Page.{page_length, page_place}
use Rattle.salt_disk.specs.Disks.{IsTorn, Shrinks, Tears, View, written}
use Rattle.std.proofs.Common.{List, [], ap, arith, drop, get_or, inl, inr, length, length-append, length-drop, refl, subst, suc, sym, take, zero, ℕ, ◌+◌, ◌++◌, ◌-◌, ◌≡◌, ◌≤◌, ◌⊎◌, ◌∙◌, ◌∷◌}
use Rattle.std.proofs.lemmas.List.{drop-drop, drop-take, length-take, take_all}
use Rattle.std.specs.Prelude.{max, min}

take_front : (n m : ℕ) (l : List ℕ) → n ≤ m → take n (take m l) ≡ take n l
take_front zero m l few = refl
take_front (suc n) zero l few = absurd (omega (arith, few))
take_front (suc n) (suc m) [] few = refl
take_front (suc n) (suc m) (x ∷ l) few = ap (λ (t : List ℕ). x ∷ t) (take_front n m l (omega (arith, few)))

-- what lies before the write
before_torn : (at place len : ℕ) (old new : List ℕ) → place + len ≤ at → take at new ≡ take at old → take len (drop place new) ≡ take len (drop place old)
before_torn at place len old new low e =
    let one : (l : List ℕ) → take len (drop place l) ≡ drop place (take (place + len) (take at l)) =
    λ l. sym (drop-take place len l) ∙ ap (λ (t : List ℕ). drop place t) (sym (take_front (place + len) at l low)) in
    one new ∙ ap (λ (t : List ℕ). drop place (take (place + len) t)) e ∙ sym (one old)

-- what lies behind it
behind_torn : (end place len : ℕ) (old new : List ℕ) → end ≤ place → drop end new ≡ drop end old → take len (drop place new) ≡ take len (drop place old)
behind_torn end place len old new high e =
    let k = place - end in
    let split : end + k ≡ place = omega (arith, high) in
    let one : (l : List ℕ) → drop place l ≡ drop k (drop end l) = λ l. sym (drop-drop k end l ∙ ap (λ (m : ℕ). drop m l) split) in
    ap (λ (l : List ℕ). take len l) (one new ∙ ap (λ (l : List ℕ). drop k l) e ∙ sym (one old))

pub side_same : (page side at n : ℕ) (old new : List ℕ) → (page_place page side + page_length ≤ at) ⊎ (at + n ≤ page_place page side) → take at new ≡ take at old → drop (at + n) new ≡ drop (at + n) old → side_bytes new page side ≡ side_bytes old page side
side_same page side at n old new (inl low) before after = before_torn at (page_place page side) page_length old new low before
side_same page side at n old new (inr high) before after = behind_torn (at + n) (page_place page side) page_length old new high after

pub names_same : (sides : List ℕ) (at n : ℕ) (old new : List ℕ) → Spares sides at n → take at new ≡ take at old → drop (at + n) new ≡ drop (at + n) old → NamedSame sides old new
names_same sides at n old new spares before after = record { each = λ page side named. side_same page side at n old new (spares.each page side named) before after }

torn_named : (sides : List ℕ) (at n : ℕ) (old new : List ℕ) → Spares sides at n → IsTorn at n old new → NamedSame sides old new
torn_named sides at n old new spares torn = names_same sides at n old new spares torn.before torn.after

pub named_refl : (sides old : List ℕ) → NamedSame sides old old
named_refl sides old = record { each = λ page side named. refl }

pub named_on : (sides a b c : List ℕ) → NamedSame sides a b → NamedSame sides b c → NamedSame sides a c
named_on sides a b c p q = record { each = λ page side named. q.each page side named ∙ p.each page side named }

pub named_back : (sides a b : List ℕ) → NamedSame sides a b → NamedSame sides b a
named_back sides a b p = record { each = λ page side named. sym (p.each page side named) }

-- OF IMAGES

pub keeps_torn : (sides : List ℕ) (old new : View) (dev at n : ℕ) → Spares sides at n → Tears old new dev at n → KeepsNamed sides old new dev
keeps_torn sides old new dev at n spares tears c left =
    let from = tears c left in
    (from.0, from.1, torn_named sides at n from.0 c spares from.2)

pub keeps_all : (sides : List ℕ) (old new : View) (dev : ℕ) → Shrinks old new dev → KeepsNamed sides old new dev
keeps_all sides old new dev shrinks c left = (c, shrinks c left, named_refl sides c)

pub keeps_more : (sides : List ℕ) (a b c : View) (dev : ℕ) → KeepsNamed sides a b dev → KeepsNamed sides b c dev → KeepsNamed sides a c dev
keeps_more sides a b c dev p q image left =
    let second = q image left in
    let first = p second.0 second.1 in
    (first.0, first.1, named_on sides first.0 second.0 image first.2 second.2)

-- how long the bytes are behind a write
pub length-written : (old : List ℕ) (at : ℕ) (bytes : List ℕ) → at ≤ length old → length (written old at bytes) ≡ max (length old) (at + length bytes)
length-written old at bytes low =
    let back = drop (at + length bytes) old in
    let one : length (written old at bytes) ≡ length (take at old ++ bytes) + length back = length-append (take at old ++ bytes) back in
    let two : length (take at old ++ bytes) ≡ length (take at old) + length bytes = length-append (take at old) bytes in
    let three : length (take at old) ≡ min at (length old) = length-take at old in
    let four : length back ≡ length old - (at + length bytes) = length-drop (at + length bytes) old in
    omega (arith, low, one, two, three, four)

-- OF THE WRITES, the first and the rest

pub spares_first : (sides : List ℕ) (ws : List Write) (w : Write) → 1 ≤ length ws → w ≡ get_or ws 0 w → SpareNamed sides ws → Spares sides w.at (length w.bytes)
spares_first sides [] w some is spare = absurd (omega (arith, some))
spares_first sides (x ∷ ws) w some is spare = subst (λ (k : Write). Spares sides k.at (length k.bytes)) (sym is) spare.0

rest_whole : (ws : List Write) → take (length ws - 1) (drop 1 ws) ≡ drop 1 ws
rest_whole ws = take_all (length ws - 1) (drop 1 ws) (omega (arith, length-drop 1 ws))

pub spares_rest : (sides : List ℕ) (ws : List Write) → SpareNamed sides ws → SpareNamed sides (take (length ws - 1) (drop 1 ws))
spares_rest sides ws spare = subst (SpareNamed sides) (sym (rest_whole ws)) (by ws spare)
  where
    by : (xs : List Write) → SpareNamed sides xs → SpareNamed sides (drop 1 xs)
    by [] spare = tt
    by (x ∷ xs) spare = spare.1

pub end_first : (ws : List Write) (w : Write) → 1 ≤ length ws → w ≡ get_or ws 0 w → w.at + length w.bytes ≤ writes_end ws
end_first [] w some is = absurd (omega (arith, some))
end_first (x ∷ ws) w some is = subst (λ (k : Write). k.at + length k.bytes ≤ writes_end (x ∷ ws)) (sym is) (omega arith)

pub end_rest : (ws : List Write) → writes_end (take (length ws - 1) (drop 1 ws)) ≤ writes_end ws
end_rest ws = subst (λ (l : List Write). writes_end l ≤ writes_end ws) (sym (rest_whole ws)) (by ws)
  where
    by : (xs : List Write) → writes_end (drop 1 xs) ≤ writes_end xs
    by [] = omega arith
    by (x ∷ xs) = omega arith
