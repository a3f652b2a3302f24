-- What stands, and whose numbers are not spent, opens.
use Rattle.salt_model.specs.Words.{and_then}
use Rattle.salt_stands.specs.Fitting.{definitions_reading}
use Rattle.salt_model.specs.Kept.{Definition, Kept}
use Rattle.salt_promise.specs.Standing.{OpenAs, StandFor}
use Rattle.salt_stands.specs.Coordinator.{Coordinator, coordinator_at}
use Rattle.salt_model.specs.Tables.{Tables}
use Rattle.salt_stands.specs.Reading.{Reading}
use Rattle.salt_stands.specs.Stands as opening
use Rattle.salt_stands.specs.Stands.{Found, Opening, Stands, are_spent, found_with, is_same_kind, is_same_shape, logs_of, of_coordinator, of_parts, parts_at, with_parts}
use Rattle.salt_place.specs.declared.placement.PlaceKind.TheVariants.{Bands, Remainder}
use Rattle.salt_place.specs.declared.placement.PlaceKind.{PlaceKind}
use Rattle.salt_place.specs.declared.placement.Shape.{Shape}
use Rattle.std.proofs.Common.{ap, arith, ◌∙◌, ◌&&◌}
use Rattle.std.specs.Prelude.{Bool, Err, List, None, Ok, Option, Result, Some, false, if◌then◌else◌, not, refl, true, ℕ, ◌==◌, ◌≡◌}

same-number : (n : ℕ) → (n == n) ≡ true
same-number n = grind arith

same-kind : (k : PlaceKind) → is_same_kind k k ≡ true
same-kind Remainder = refl
same-kind Bands = refl

both : (a b : Bool) → a ≡ true → b ≡ true → (a && b) ≡ true
both true b e f = f
both false b e f = e

same-shape : (s : Shape) → is_same_shape s s ≡ true
same-shape s = both (s.parts == s.parts) (is_same_kind s.kind s.kind) (same-number s.parts) (same-kind s.kind)

ok-one : {x y : Found Definition} → ◌≡◌ {A = Result (Found Definition) ℕ} (Ok x) (Ok y) → x ≡ y
ok-one h = cc

choose : (same spent : Bool) (x y z : Opening Definition) → same ≡ true → spent ≡ false
    → (if not same then x else if spent then y else z) ≡ z
choose true false x y z e f = refl
choose true true x y z e f = absurd cc
choose false spent x y z e f = absurd cc

module _ (read : List ℕ → Option Definition) (bytes : ℕ → List ℕ) (shape : Shape) (found : Found Definition) (is_shape : found.shape ≡ shape)
    (unspent : are_spent found.kept.boot found.kept.decisions ≡ false) where
  abbrev reading : Reading Definition
  reading = definitions_reading read

  parts : (c : Coordinator Definition) (p : Result (List Tables) ℕ) → and_then p (λ ts. Ok (found_with c ts)) ≡ Ok found
      → (if not (is_same_shape c.log.header.shape shape) then opening.OtherShape c.log.header.shape shape else
      if are_spent c.log.told.boot c.log.told.decisions then opening.NumbersSpent c.log.told.boot c.log.told.decisions else
      of_parts c p) ≡ Stands found
  parts c (Err dev) h = absurd cc
  parts c (Ok ts) h =
      let f : found_with c ts ≡ found = ok-one h in
      choose (is_same_shape c.log.header.shape shape) (are_spent c.log.told.boot c.log.told.decisions)
      (opening.OtherShape c.log.header.shape shape) (opening.NumbersSpent c.log.told.boot c.log.told.decisions) (Stands (found_with c ts))
      (ap (λ s. is_same_shape s shape) (ap (λ x. x.shape) f ∙ is_shape) ∙ same-shape shape)
      (ap (λ x. are_spent x.kept.boot x.kept.decisions) f ∙ unspent)
      ∙ ap Stands f

  coordinator : (x : Result (Option (Coordinator Definition)) ℕ) → and_then x (with_parts reading (logs_of bytes) bytes shape) ≡ Ok found
      → of_coordinator reading bytes shape x ≡ Stands found
  coordinator (Err dev) h = absurd cc
  coordinator (Ok None) h = ap Stands (ok-one h)
  coordinator (Ok (Some c)) h = parts c (parts_at reading c (logs_of bytes) bytes) h

-- what stands in the shape that is asked for, with numbers that are not spent, opens
pub opens : (shape : Shape) (bytes : ℕ → List ℕ) (k : Kept) → StandFor shape bytes k → are_spent k.boot k.decisions ≡ false → OpenAs shape bytes k
opens shape bytes k s unspent = record {
  found = s.found;
  answers = record {
    read = s.read;
    reads = s.reads;
    is = coordinator s.read bytes shape s.found s.has_shape (ap (λ x. are_spent x.boot x.decisions) s.keeps ∙ unspent) (coordinator_at (definitions_reading s.read) (logs_of bytes)) s.is;
  };
  keeps = s.keeps;
}
