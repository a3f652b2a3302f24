-- Bytes that are taken from a source, and a reader's array.
use Rattle.std.proofs.Common.{◌≡◌, append-nil, ℕ, ◌+◌, ◌-◌, ◌<◌, ◌≤◌, List, [], ◌∷◌, ◌++◌, length, take, drop, Option, Some, None, refl, sym, ◌∙◌, ap, append_assoc, add-one, arith, drop-cons, slice_index_or, suc}
use Rattle.std.proofs.Math.Seq.{take-add, take-append_seam, take-length}
use Rattle.std.proofs.lemmas.List.{take-append-drop, drop-drop, length-drop, length-take-le}
use Rattle.salt_io.specs.Streams.{bytes_before, Takes, Gains, GainsShort}

pub takes-none : (left : Option (List ℕ)) → Takes left [] left
takes-none None = refl
takes-none (Some rest) = refl

pub takes-append : (a b c : Option (List ℕ)) (first second : List ℕ) → Takes a first b → Takes b second c → Takes a (first ++ second) c
takes-append a b None first second p q = rw (p, q) refl
takes-append a b (Some rest) first second p q = rw (p, q) (ap Some (sym (append_assoc first second rest)))

-- a byte that stands before others has been taken
pub takes-first : (byte : ℕ) (others : List ℕ) (left : Option (List ℕ)) → Takes (bytes_before (byte ∷ others) left) (byte ∷ []) (bytes_before others left)
takes-first byte others None = refl
takes-first byte others (Some rest) = refl

-- bytes that stand before others have been taken
pub takes-part : (bytes others : List ℕ) (left : Option (List ℕ)) → Takes (bytes_before (bytes ++ others) left) bytes (bytes_before others left)
takes-part bytes others None = refl
takes-part bytes others (Some rest) = ap Some (append_assoc bytes others rest)

-- the first byte of a part of an array
pub part-first : (bytes : List ℕ) (from to : ℕ) → from < to → to ≤ length bytes → take (to - from) (drop from bytes) ≡ slice_index_or bytes from 0 ∷ take (to - (from + 1)) (drop (from + 1) bytes)
part-first bytes from to some within =
    let inside : from < length bytes = omega arith in
    let one_more : to - from ≡ suc (to - suc from) = omega arith in
    rw (add-one, drop-cons bytes from 0 inside, one_more) refl

-- a part of the bytes that are left has been given, and stands behind none
pub part-given : (bytes given piece behind : List ℕ) (at n : ℕ) → given ≡ bytes → n ≤ length (take (length given - at) (drop at given)) → piece ≡ take n (take (length given - at) (drop at given))
    → drop at bytes ≡ take n (piece ++ behind) ++ drop (at + n) bytes
part-given bytes given piece behind at n same within is = rw (first, piece_is, ← drop-drop n at bytes) (sym (take-append-drop n (drop at bytes))) where
  long : length (drop at bytes) ≡ length bytes - at
  long = length-drop at bytes

  piece_is : piece ≡ take n (drop at bytes)
  piece_is = is ∙ (rw (same, ← long, take-length (drop at bytes)) refl)

  piece_long : length piece ≡ n
  piece_long = ap length is ∙ length-take-le n (take (length given - at) (drop at given)) within

  first : take n (piece ++ behind) ≡ piece
  first = ap (λ k. take k (piece ++ behind)) (sym piece_long) ∙ take-append_seam piece behind

-- a slice to the end is all that is left
pub all-left : (bytes : List ℕ) (at : ℕ) → take (length bytes - at) (drop at bytes) ≡ drop at bytes
all-left bytes at = rw (← long) (take-length (drop at bytes)) where
  long : length (drop at bytes) ≡ length bytes - at
  long = length-drop at bytes

pub gains-none : (held : Option (List ℕ)) → Gains held [] held
gains-none None = refl
gains-none (Some bytes) = ap Some (sym (append-nil bytes))

pub gains-append : (a b c : Option (List ℕ)) (first second : List ℕ) → Gains a first b → Gains b second c → Gains a (first ++ second) c
gains-append None b c first second p q = rw (q, p) refl
gains-append (Some held) b c first second p q = rw (q, p) (ap Some (append_assoc held first second))

-- a sink has gained the first bytes, and then some more
pub gains-more : (a b c : Option (List ℕ)) (bytes : List ℕ) (done n : ℕ) → Gains a (take done bytes) b → Gains b (take n (take (length bytes - done) (drop done bytes))) c → Gains a (take (done + n) bytes) c
gains-more a b c bytes done n p q = rw (take-add done n bytes) (gains-append a b c (take done bytes) (take n (drop done bytes)) p (rw all-left at q))

pub gains-short : (a b c : Option (List ℕ)) (bytes : List ℕ) (done : ℕ) → done < length bytes → Gains a (take done bytes) b → c ≡ b → GainsShort a bytes c
gains-short a b c bytes done less p same = record {
  part = take done bytes;
  missing = drop done bytes;
  whole = sym (take-append-drop done bytes);
  some = omega (arith, less, length-drop done bytes);
  gained = same ∙ p;
}

pub within-more : (bytes : List ℕ) (done n : ℕ) → done ≤ length bytes → n ≤ length (take (length bytes - done) (drop done bytes)) → done + n ≤ length bytes
within-more bytes done n p q = omega (arith, p, rw (all-left bytes done, length-drop done bytes) at q)
