-- Devices that are ready, and what comes next there: so the conditions are met. One partition; a unit that is decided has put a row.
use Rattle.salt_checkpoint.specs.Checkpoints.{IsNext, IsReady}
use Rattle.salt_checkpoint.specs.Sides.{LeaveNoGap}
use Rattle.salt_checkpoint.specs.declared.writes.Write.{Write}
use Rattle.salt_bytes.specs.Coordinator.{CoordinatorHeader, Decides, Decision, spell_entry, spell_header}
use Rattle.salt_bytes.specs.Generations.{LogA}
use Rattle.salt_bytes.specs.Log.{entries_in, entries_up_to, framed, spelled, split_payload}
use Rattle.salt_bytes.specs.Page.{TableRow, spell_page}
use Rattle.salt_bytes.specs.Partition.{PartitionHeader, Prepared, spell_partition_header, spell_prepared}
use Rattle.salt_disk.specs.Disks.{View}
use Rattle.salt_model.specs.Kept.{Definition}
use Rattle.salt_model.specs.Tables.{with_changes}
use Rattle.salt_stands.specs.Commits.{Stood}
use Rattle.salt_stands.specs.Coordinator.{Coordinator}
use Rattle.salt_stands.specs.Partition.{pages_device}
use Rattle.salt_stands.specs.Pieces.{PartStands, PartView, next_part_header}
use Rattle.salt_stands.specs.Reading.{Reading}
use Rattle.salt_stands.specs.Stands.{logs_of}
use Rattle.salt_stands.specs.Tables.{change_of_row}
use Rattle.salt_place.specs.declared.placement.PlaceKind.TheVariants.{Remainder}
use Rattle.salt_values.specs.declared.value.Value.TheVariants.{Int}
use Rattle.salt_values.specs.declared.value.Value.{Value}
use Rattle.std.proofs.Common.{List, None, Some, [], arith, false, length, refl, subst, suc, true, zero, ℕ, ◌++◌, ◌≡◌, ◌∷◌}
use Rattle.std.specs.Prelude.{pos}

-- no definition is read, and each row fits
abbrev pub r : Reading Definition
r = record { read = λ text. None; is_refused = λ ds d. false; count_tables = λ ds. 1; fits_row = λ ds table row. true; fits_key = λ ds table key. true; fits_cont = λ ds c. true }

abbrev pub row : List Value
row = Int (pos 2) ∷ Int (pos 5) ∷ []

abbrev pub header : CoordinatorHeader
header = record { format = 3; generation = 1; shape = record { parts = 1; kind = Remainder }; boot = 1; decisions = 0; definitions = []; conts = [] }

abbrev pub decision : Decision
decision = record { number = 1; unit = record { boot = 1; seq = 1 }; mask = 1; move = 0 ∷ [] }

abbrev pub part_header : PartitionHeader
part_header = record { format = 2; generation = 1; part = 0; sides = [] }

abbrev pub unit : Prepared
unit = record { unit = record { boot = 1; seq = 1 }; changes = record { table = 0; key = Int (pos 2); row = Some row } ∷ [] }

abbrev pub device : ℕ → List ℕ
device zero = spelled (spell_header header ∷ spell_entry (Decides decision) ∷ []) ++ 0 ∷ []
device (suc zero) = []
device (suc (suc zero)) = spelled (spell_partition_header part_header ∷ spell_prepared unit ∷ []) ++ 0 ∷ []
device (suc (suc (suc n))) = []

abbrev pub d : View
d = record { count = 5; limit = λ dev. 1000000; can_stop = false; told = true; bytes = device; image = λ dev c. c ≡ device dev; faults = 0; armed = [] }

abbrev pub c : Coordinator Definition
c = record { log = record { header = header; told = record { boot = 1; decisions = 1; definitions = []; decided = decision ∷ [] } }; definitions = []; conts = [] }

abbrev pub v : ℕ → PartView
v p = record { which = LogA; log = record { header = part_header; prepared = unit ∷ [] }; rows = [] }

first_part : PartStands r c (logs_of d.bytes) d.bytes 0 (v 0)
unfolding entries_in entries_up_to split_payload framed
first_part = record { counts = refl; sound = refl; rows = refl }

stood : Stood r (logs_of d.bytes) d.bytes LogA c v
unfolding entries_in entries_up_to split_payload framed
stood = record {
  coordinator = record { counts = refl; is = record { defined = refl; moves = refl; rise = refl; named = refl; decided = refl } };
  part = λ p low. subst (λ k. PartStands r c (logs_of d.bytes) d.bytes k (v k)) (omega (arith, low)) first_part;
}

pub ready : IsReady r d LogA c v
ready = record {
  stood = stood;
  two = omega arith;
  known = λ p low. omega (arith, low);
  first = λ b left. left;
  second = λ b left. left;
  log_a = λ p low b left. left;
  log_b = λ p low b left. left;
  pages = λ p low b left. record { each = λ page side named. cc };
}

abbrev pub page : List TableRow
page = record { table = 0; row = row } ∷ []

abbrev pub writes : List Write
writes = record { at = 0; bytes = spell_page page } ∷ []

pub in_place : LeaveNoGap (length (d.bytes (pages_device 0))) writes
in_place = (omega arith, tt)

-- its page is written on side 0, and the next header names it
pub next : IsNext r c 0 (v 0) (d.bytes (pages_device 0)) writes (spell_partition_header (next_part_header (v 0) 2 (0 ∷ []))) 2 (0 ∷ []) (change_of_row (record { table = 0; row = row }) ∷ [])
unfolding with_changes
next = record {
  spare = (record { each = λ page side named. cc }, tt);
  spells = refl;
  own = refl;
  first = refl;
  fits = refl;
  reads = refl;
  tables = refl;
}
