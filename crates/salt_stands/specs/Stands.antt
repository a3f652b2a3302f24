-- What devices stand for, or the first of them that is faulty.
use Rattle.salt_model.specs.Tables.{Tables, no_rows}
use Rattle.salt_model.specs.Words.{and_then}
use Rattle.salt_values.specs.declared.cont.Cont.{Cont}
use Rattle.salt_bytes.specs.Log.{entries_in}
use Rattle.salt_stands.specs.Coordinator.{Coordinator, Logs, coordinator_at}
use Rattle.salt_stands.specs.Partition.{part_at}
use Rattle.salt_stands.specs.Reading.{Reading}
use Rattle.salt_stands.specs.Tables.{joined}
use Rattle.salt_stands.specs.Words.{each_from}
use Rattle.salt_place.specs.declared.placement.PlaceKind.TheVariants.{Bands, Remainder}
use Rattle.salt_place.specs.declared.placement.PlaceKind.{PlaceKind}
use Rattle.salt_place.specs.declared.placement.Shape.{Shape}
use Rattle.std.specs.Prelude.{Bool, Err, List, None, Ok, Option, Result, Some, [], false, if◌then◌else◌, nat_le, not, true, ℕ, ◌&&◌, ◌==◌, ◌^◌, ◌||◌}

pub record Kept (D : Type 0) : Type 0 where
  pub boot : ℕ
  pub decisions : ℕ
  pub definitions : List D
  pub tables : Tables
  pub conts : List Cont

pub record Found (D : Type 0) : Type 0 where
  pub shape : Shape
  -- of the coordinator's header; a new one has format 3
  pub format : ℕ
  pub kept : Kept D

abbrev pub nothing_found : {D : Type 0} → Shape → Found D
nothing_found asked = record { shape = asked; format = 3; kept = record { boot = 0; decisions = 0; definitions = []; tables = no_rows; conts = [] } }

abbrev pub found_with : {D : Type 0} → Coordinator D → List Tables → Found D
found_with c parts = record {
  shape = c.log.header.shape;
  format = c.log.header.format;
  kept = record { boot = c.log.told.boot; decisions = c.log.told.decisions; definitions = c.definitions; tables = joined parts; conts = c.conts };
}

abbrev pub parts_at : {D : Type 0} → Reading D → Coordinator D → Logs → (ℕ → List ℕ) → Result (List Tables) ℕ
parts_at r c logs devices = each_from (part_at r c logs devices) 0 c.log.header.shape.parts

abbrev pub with_parts : {D : Type 0} → Reading D → Logs → (ℕ → List ℕ) → Shape → Option (Coordinator D) → Result (Found D) ℕ
with_parts r logs devices asked None = Ok (nothing_found asked)
with_parts r logs devices asked (Some c) = and_then (parts_at r c logs devices) (λ parts. Ok (found_with c parts))

-- of the entries of the logs; of the devices themselves only those with pages matter here
abbrev pub stands_in : {D : Type 0} → Reading D → Logs → (ℕ → List ℕ) → Shape → Result (Found D) ℕ
stands_in r logs devices asked = and_then (coordinator_at r logs) (with_parts r logs devices asked)

abbrev pub logs_of : (ℕ → List ℕ) → Logs
logs_of devices dev = entries_in (devices dev)

-- STANDS: what the devices stand for, or the first faulty one
abbrev pub stands_on : {D : Type 0} → Reading D → (ℕ → List ℕ) → Shape → Result (Found D) ℕ
stands_on r devices asked = stands_in r (logs_of devices) devices asked

abbrev pub if_ok : {A : Type 0} → Result A ℕ → Option A
if_ok (Ok x) = Some x
if_ok (Err dev) = None

abbrev pub stands_of : {D : Type 0} → Reading D → (ℕ → List ℕ) → Shape → Option (Found D)
stands_of r devices asked = if_ok (stands_on r devices asked)

-- WHAT AN OPENING ANSWERS, in this order: the coordinator's fault, another shape, numbers that are spent, a partition's fault

pub data Opening (D : Type 0) : Type 0 where
  Stands : Found D → Opening D
  NotSalt : ℕ → Opening D
  OtherShape : (kept asked : Shape) → Opening D
  NumbersSpent : (boot decisions : ℕ) → Opening D

abbrev pub is_same_kind : PlaceKind → PlaceKind → Bool
is_same_kind Remainder Remainder = true
is_same_kind Bands Bands = true
is_same_kind _ _ = false

abbrev pub is_same_shape : Shape → Shape → Bool
is_same_shape s t = (s.parts == t.parts) && is_same_kind s.kind t.kind

abbrev pub are_spent : ℕ → ℕ → Bool
are_spent boot decisions = nat_le (2 ^ 63) boot || nat_le (2 ^ 63) decisions

abbrev pub of_parts : {D : Type 0} → Coordinator D → Result (List Tables) ℕ → Opening D
of_parts c (Err dev) = NotSalt dev
of_parts c (Ok parts) = Stands (found_with c parts)

abbrev pub of_coordinator : {D : Type 0} → Reading D → (ℕ → List ℕ) → Shape → Result (Option (Coordinator D)) ℕ → Opening D
of_coordinator r devices asked (Err dev) = NotSalt dev
of_coordinator r devices asked (Ok None) = Stands (nothing_found asked)
of_coordinator r devices asked (Ok (Some c)) =
    if not (is_same_shape c.log.header.shape asked) then OtherShape c.log.header.shape asked else
    if are_spent c.log.told.boot c.log.told.decisions then NumbersSpent c.log.told.boot c.log.told.decisions else
    of_parts c (parts_at r c (logs_of devices) devices)

abbrev pub opening_of : {D : Type 0} → Reading D → (ℕ → List ℕ) → Shape → Opening D
opening_of r devices asked = of_coordinator r devices asked (coordinator_at r (logs_of devices))
