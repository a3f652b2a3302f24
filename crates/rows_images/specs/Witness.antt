-- That the conditions of the laws can be met: two partitions with one table, and a unit that changes both.
use Rattle.salt_bytes.specs.declared.moves.Move.TheVariants.{Plain}
use Rattle.salt_model.specs.Tables.{Entry, with_changes}
use Rattle.salt_values.specs.declared.change.Change.{Change}
use Rattle.salt_values.specs.declared.value.Value.TheVariants.{Int}
use Rattle.salt_bytes.specs.Coordinator.{CoordinatorHeader, Decides, Decision, spell_entry, spell_header}
use Rattle.salt_bytes.specs.Generations.{LogA}
use Rattle.salt_bytes.specs.Partition.{prepared_in, spell_partition_header, spell_prepared}
use Rattle.salt_stands.specs.Commits.{MayCommit, Spelled, Stood, found_after, share}
use Rattle.salt_stands.specs.Coordinator.{Coordinator, Logs}
use Rattle.salt_stands.specs.CoordinatorLog.{told_by_header}
use Rattle.salt_stands.specs.Partition.{is_sound_prepared}
use Rattle.salt_stands.specs.Pieces.{PartStands, PartView}
use Rattle.salt_stands.specs.Placed.{changes_at}
use Rattle.salt_stands.specs.Stands.{Found, stands_in}
use Rattle.salt_stands.specs.Tables.{joined}
use Rattle.salt_stands.specs.Words.{has_bit}
use Rattle.salt_place.specs.declared.placement.PlaceKind.TheVariants.{Remainder}
use Rattle.salt_place.specs.declared.placement.Shape.{Shape}
use Rattle.rows_images.specs.Known.{Known, def_0, reading, text_0}
use Rattle.std.proofs.Common.{arith, lit<, lit≤}
use Rattle.std.specs.Prelude.{Err, List, Ok, Result, Some, [], false, pos, refl, suc, true, zero, ℕ, ◌<◌, ◌≡◌, ◌∷◌}

abbrev shape : Shape
shape = record { parts = 2; kind = Remainder }

abbrev header : CoordinatorHeader
header = record { format = 3; generation = 1; shape = shape; boot = 1; decisions = 1; definitions = record { number = 1; text = text_0 } ∷ []; conts = [] }

abbrev coordinator : Coordinator Known
coordinator = record { log = record { header = header; told = told_by_header header }; definitions = def_0 ∷ []; conts = [] }

abbrev view : ℕ → PartView
view p = record { which = LogA; log = record { header = record { format = 2; generation = 1; part = p; sides = [] }; prepared = [] }; rows = [] }

abbrev entries_of : List (List (List ℕ)) → ℕ → List (List ℕ)
entries_of [] n = []
entries_of (es ∷ rest) zero = es
entries_of (es ∷ rest) (suc n) = entries_of rest n

abbrev part_header : ℕ → List ℕ
part_header p = spell_partition_header (view p).log.header

abbrev logs : Logs
logs dev = Some (entries_of ((spell_header header ∷ []) ∷ [] ∷ (part_header 0 ∷ []) ∷ [] ∷ [] ∷ (part_header 1 ∷ []) ∷ []) dev)

abbrev no_pages : ℕ → List ℕ
no_pages dev = []

part_stands : (p : ℕ) → p < 2 → PartStands reading coordinator logs no_pages p (view p)
part_stands zero low = record { counts = refl; sound = refl; rows = refl }
part_stands (suc zero) low = record { counts = refl; sound = refl; rows = refl }
part_stands (suc (suc p)) low = absurd (omega (arith, low))

stood : Stood reading logs no_pages LogA coordinator view
stood = record { coordinator = record { counts = refl; is = record { defined = refl; moves = refl; rise = refl; named = refl; decided = refl } }; part = part_stands }

-- a row in each partition: key 2 in the first, key 1 in the second
abbrev changes : List Change
changes = record { table = 0; key = Int (pos 1); row = Some (Int (pos 1) ∷ Int (pos 5) ∷ []) } ∷ record { table = 0; key = Int (pos 2); row = Some (Int (pos 2) ∷ Int (pos 6) ∷ []) } ∷ []

abbrev decision : Decision
decision = record { number = 2; unit = record { boot = 1; seq = 1 }; mask = 3; move = 0 ∷ [] }

may_commit : MayCommit reading coordinator view changes decision Plain []
may_commit = record {
  number = refl;
  boot = lit≤ tt;
  fresh = λ p low. refl;
  new = λ p low. refl;
  below = (lit< tt, (lit< tt, tt));
  bits = bits;
  sound = sound;
  spells = refl;
  moves = refl;
  named = refl;
}
  where
    bits : (p : ℕ) → p < 2 → has_bit 3 p ≡ false → changes_at shape p changes ≡ []
    bits zero low e = cc
    bits (suc zero) low e = cc
    bits (suc (suc p)) low e = absurd (omega (arith, low))

    sound : (p : ℕ) → p < 2 → is_sound_prepared reading coordinator p (share coordinator decision.unit changes p) ≡ true
    sound zero low = refl
    sound (suc zero) low = refl
    sound (suc (suc p)) low = absurd (omega (arith, low))

abbrev payload : ℕ → List ℕ
payload p = spell_prepared (share coordinator decision.unit changes p)

spelled : Spelled coordinator view changes decision (spell_entry (Decides decision)) payload
spelled = record { coordinator = refl; part = part }
  where
    part : (p : ℕ) → p < 2 → prepared_in true (payload p) ≡ Some (share coordinator decision.unit changes p)
    part zero low = refl
    part (suc zero) low = refl
    part (suc (suc p)) low = absurd (omega (arith, low))

-- what the law says of it is what the definitions compute
abbrev logs_after : Logs
logs_after dev = Some (entries_of ((spell_header header ∷ spell_entry (Decides decision) ∷ []) ∷ [] ∷ (part_header 0 ∷ payload 0 ∷ []) ∷ [] ∷ [] ∷ (part_header 1 ∷ payload 1 ∷ []) ∷ []) dev)

abbrev rows_of : Result (Found Known) ℕ → List Entry
rows_of (Ok found) = found.kept.tables.list
rows_of (Err dev) = []

same_rows : rows_of (stands_in reading logs_after no_pages shape) ≡ (found_after coordinator view changes decision []).kept.tables.list
unfolding joined with_changes
same_rows = refl
