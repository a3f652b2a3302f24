-- The bytes that covers keep, one behind another.
use Rattle.salt_disk.proofs.Covered.{AreWithin, kept-append, next_cover, within_next}
use Rattle.salt_disk.specs.Marks.{Cover, cover_mark, kept_bytes, kept_or, place_mark}
use Rattle.salt_disk.specs.Spans.{AreKept, IsWithin, cover_at, covers_at}
use Rattle.salt_disk.specs.declared.covers.Span.{Span}
use Rattle.std.proofs.Common.{List, Some, [], ap, arith, drop, get_or, length, length-append, length-drop, refl, suc, take, ℕ, ◌++◌, ◌+◌, ◌-◌, ◌<◌, ◌≡◌, ◌≤◌, ◌⊎◌, ◌∙◌, ◌∷◌, inl, inr}
use Rattle.std.proofs.Math.Seq.{drop-append_seam, take-length}
use Rattle.std.proofs.lemmas.Bool.Decides.{nat_tests}
use Rattle.std.proofs.lemmas.List.{drop-append-le, get_or-map, length-map, map-append, take-append-le}
use Rattle.std.proofs.lemmas.List.Elements.{All-push, recursion_from_All}
use Rattle.std.specs.List.{AllByRecursion}
use Rattle.std.specs.Prelude.{slice_index}

-- bytes that come behind change no cover
cover_stays : (was more : List ℕ) (span : Span) → IsWithin was span → cover_at (was ++ more) span ≡ cover_at was span
cover_stays was more span within = ap (λ (bytes : List ℕ). record { at = span.at; end = span.end; was = bytes })
    (ap (take (span.till - span.from)) (drop-append-le span.from was more (omega (arith, within.order, within.end)))
    ∙ take-append-le (span.till - span.from) (drop span.from was) more (omega (arith, within.end, length-drop span.from was)))

covers_stay : (was more : List ℕ) (spans : List Span) → AllByRecursion (IsWithin was) spans → covers_at (was ++ more) spans ≡ covers_at was spans
covers_stay was more [] each = refl
covers_stay was more (span ∷ spans) each =
    ap (λ (cover : Cover). cover ∷ covers_at (was ++ more) spans) (cover_stays was more span each.0)
    ∙ ap (λ (covers : List Cover). cover_at was span ∷ covers) (covers_stay was more spans each.1)

-- one more span, whose bytes come behind the others
module _ (was more : List ℕ) (spans : List Span) (span : Span) (from : span.from ≡ length was) (till : span.till ≡ length was + length more) (kept : AreKept was spans) where
  own : take (span.till - span.from) (drop span.from (was ++ more)) ≡ more
  own =
      ap (λ (n : ℕ). take (span.till - n) (drop n (was ++ more))) from ∙ ap (take (span.till - length was)) (drop-append_seam was more)
      ∙ ap (λ (n : ℕ). take n more) (omega (arith, till)) ∙ take-length more

  pub covers_pushed : covers_at (was ++ more) (spans ++ span ∷ []) ≡ covers_at was spans ++ record { at = span.at; end = span.end; was = more } ∷ []
  covers_pushed =
      map-append (cover_at (was ++ more)) spans (span ∷ [])
      ∙ ap (λ (covers : List Cover). covers ++ cover_at (was ++ more) span ∷ []) (covers_stay was more spans (recursion_from_All (IsWithin was) spans kept.within))
      ∙ ap (λ (bytes : List ℕ). covers_at was spans ++ record { at = span.at; end = span.end; was = bytes } ∷ []) own

  pub kept_pushed : AreKept (was ++ more) (spans ++ span ∷ [])
  kept_pushed = record {
    within = All-push (IsWithin (was ++ more)) spans span
        (λ k d known. record { order = (kept.within k d known).order; end = omega (arith, (kept.within k d known).end, length-append was more) })
        (record { order = omega (arith, from, till); end = omega (arith, till, length-append was more) });
    size = omega (arith, length-append was more, kept.size, ap kept_bytes covers_pushed, kept-append (covers_at was spans) (record { at = span.at; end = span.end; was = more }) (length more) refl);
  }

-- where a loop over spans reads past them
abbrev pub no_span : Span
no_span = record { at = 0; end = 0; from = 0; till = 0 }

-- the span that such a loop has come to
module _ (was : List ℕ) (spans : List Span) (n : ℕ) (there : n < length spans) where
  abbrev here : Span
  here = get_or spans n no_span

  size : n < length (covers_at was spans)
  size = omega (arith, there, length-map spans (cover_at was))

  is : (other : Cover) → get_or (covers_at was spans) n other ≡ cover_at was here
  is other = get_or-map (cover_at was) spans n no_span other there

  next : (place : ℕ) → place_mark (drop n (covers_at was spans)) place ≡ kept_or (cover_mark (cover_at was here) place) (place_mark (drop (suc n) (covers_at was spans)) place)
  next place =
      next_cover (covers_at was spans) n place (cover_at was here) size
      ∙ ap (λ (cover : Cover). kept_or (cover_mark cover place) (place_mark (drop (suc n) (covers_at was spans)) place)) (is (cover_at was here))

  pub mark_here : (place : ℕ) → here.at ≤ place → place < here.end → place_mark (drop n (covers_at was spans)) place ≡ Some (slice_index (cover_at was here).was (place - here.at))
  mark_here place low high = next place ∙ covered
    where
      covered : kept_or (cover_mark (cover_at was here) place) (place_mark (drop (suc n) (covers_at was spans)) place) ≡ Some (slice_index (cover_at was here).was (place - here.at))
      covered = grind (arith, nat_tests, low, high)

  one : suc n ≡ n + 1
  one = omega arith

  pub mark_later : (place : ℕ) → (place < here.at) ⊎ (here.end ≤ place) → place_mark (drop n (covers_at was spans)) place ≡ place_mark (drop (n + 1) (covers_at was spans)) place
  mark_later place out = next place ∙ passed out ∙ ap (λ (k : ℕ). place_mark (drop k (covers_at was spans)) place) one
    where
      passed : (place < here.at) ⊎ (here.end ≤ place) → kept_or (cover_mark (cover_at was here) place) (place_mark (drop (suc n) (covers_at was spans)) place) ≡ place_mark (drop (suc n) (covers_at was spans)) place
      passed (inl h) = grind (arith, nat_tests, h)
      passed (inr h) = grind (arith, nat_tests, h)

  pub bounds_next : (first last low high : ℕ) → low ≤ first → low ≤ here.at → last ≤ high → here.end ≤ high → AreWithin (covers_at was spans) n first last → AreWithin (covers_at was spans) (n + 1) low high
  bounds_next first last low high a b c d = within_next (covers_at was spans) n first last low high (cover_at was here) size (is (cover_at was here)) a b c d
