-- Known bytes that are written and read part by part.
use Rattle.std.proofs.Common.{List, Option, arith, ap, drop, drop_at, length, length-take-le, slice_range, subst, sym, take, ℕ, ◌+◌, ◌++◌, ◌-◌, ◌∙◌, ◌≡◌, ◌≤◌, le_refl}
use Rattle.std.proofs.KnownBytes.{Appends-trans, Consumes-trans}
use Rattle.std.proofs.lemmas.List.{take_rest}
use Rattle.std.proofs.lemmas.Slice.{take-put_mid_below}
use Rattle.std.specs.Io.KnownBytes.{Appends, Consumes}
use borrow.Rule.Slice.PartMut.{post_of, put_mid}
use lib.Seq.{take-add, take-append-le}

-- the first bytes were written, and then some more
pub written-more : (a b c : Option (List ℕ)) (bytes : List ℕ) (done n : ℕ) → Appends a b (take done bytes) → Appends b c (take n (take (length bytes - done) (drop done bytes))) → Appends a c (take (done + n) bytes)
written-more a b c bytes done n first more = subst (Appends a c) joined (Appends-trans a b c _ _ first more) where
  joined : take done bytes ++ take n (take (length bytes - done) (drop done bytes)) ≡ take (done + n) bytes
  joined = ap (λ rest. take done bytes ++ take n rest) (take_rest bytes done) ∙ sym (take-add done n bytes)

-- bytes that were read into the part behind the first of a buffer
pub part-read : (buf part : List ℕ) (count n : ℕ) → count ≤ length buf → n ≤ length part → slice_range (put_mid count (length buf - count) buf part) count (count + n) ≡ take n part
part-read buf part count n within fits = ap (take ((count + n) - count)) behind ∙ ap (λ m. take m (part ++ after)) same ∙ take-append-le n part after fits where
  after : List ℕ
  after = post_of count (length buf - count) buf

  same : (count + n) - count ≡ n
  same = omega arith

  behind : drop count (put_mid count (length buf - count) buf part) ≡ part ++ after
  behind = drop_at (take count buf) (part ++ after) count (length-take-le count buf within)

-- the first bytes of a buffer, and then those that were read behind them
pub front-read : (buf part : List ℕ) (count n : ℕ) → count ≤ length buf → n ≤ length part → take count buf ++ take n part ≡ take (count + n) (put_mid count (length buf - count) buf part)
front-read buf part count n within fits =
    ap (λ l. take count buf ++ l) (sym (part-read buf part count n within fits))
    ∙ ap (λ l. l ++ slice_range now count (count + n)) (sym (take-put_mid_below _ _ _ _ _ (le_refl _) within))
    ∙ sym (take-add count ((count + n) - count) now)
    ∙ ap (λ m. take m now) same where
      now : List ℕ
      now = put_mid count (length buf - count) buf part

      same : count + ((count + n) - count) ≡ count + n
      same = omega arith

-- the first bytes were read, and then some more
pub read-more : (a b c : Option (List ℕ)) (buf part : List ℕ) (count n : ℕ) → count ≤ length buf → n ≤ length part → Consumes a b (take count buf) → Consumes b c (take n part)
    → Consumes a c (take (count + n) (put_mid count (length buf - count) buf part))
read-more a b c buf part count n within fits first more = subst (Consumes a c) (front-read buf part count n within fits) (Consumes-trans a b c _ _ first more)
