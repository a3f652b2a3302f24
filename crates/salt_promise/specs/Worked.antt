-- Worked runs: devices of one partition, blank ones and ones that stand for a boot and no more; and a run of one line.
use Rattle.salt_bytes.specs.Coordinator.{Boots, CoordinatorHeader, spell_entry, spell_header}
use Rattle.salt_bytes.specs.Log.{spelled}
use Rattle.salt_bytes.specs.Partition.{spell_partition_header}
use Rattle.salt_disk.specs.Disks.{View}
use Rattle.salt_model.specs.declared.events.Event.TheVariants.{Opened, Ready, Refused}
use Rattle.salt_model.specs.declared.events.Refusal.TheVariants.{Byte}
use Rattle.salt_promise.specs.Given.{Run, World}
use Rattle.salt_promise.specs.declared.command.Command.TheVariants.{Script}
use Rattle.salt_promise.specs.declared.status.Status.TheVariants.{Done}
use Rattle.salt_stands.specs.FirstOpening.{first_part_header}
use Rattle.salt_place.specs.declared.placement.PlaceKind.TheVariants.{Remainder}
use Rattle.salt_place.specs.declared.placement.Shape.{Shape}
use Rattle.std.specs.Prelude.{List, None, Some, [], codes, false, suc, true, zero, ℕ, ◌++◌, ◌∷◌, ◌≡◌}

abbrev pub one_part : Shape
one_part = record { parts = 1; kind = Remainder }

-- the disks hold these bytes and nothing is pending
abbrev pub holding : (limit : ℕ → ℕ) → (bytes : ℕ → List ℕ) → (stops : List (ℕ × ℕ)) → View
holding limit bytes stops = record {
  count = 26;
  limit = limit;
  can_stop = true;
  told = true;
  bytes = bytes;
  image = λ dev c. c ≡ bytes dev;
  faults = 0;
  armed = stops;
}

abbrev pub ample : ℕ → ℕ
ample dev = 67108864

abbrev pub blank : ℕ → List ℕ
blank dev = []

-- the header of a coordinator that keeps this boot and nothing else
abbrev pub header_at : ℕ → CoordinatorHeader
header_at boot = record { format = 3; generation = 1; shape = one_part; boot = boot; decisions = 0; definitions = []; conts = [] }

-- devices whose coordinator has this header and these entries, and whose partition is new
abbrev pub on : List (List ℕ) → ℕ → List ℕ
on [] dev = []
on (b ∷ bs) zero = b
on (b ∷ bs) (suc dev) = on bs dev

abbrev pub begun : CoordinatorHeader → List (List ℕ) → ℕ → List ℕ
begun h entries = on (
    (spelled (spell_header h ∷ entries) ++ 0 ∷ []) ∷
    (0 ∷ []) ∷
    (spelled (spell_partition_header (first_part_header 2 0) ∷ []) ++ 0 ∷ []) ∷
    (0 ∷ []) ∷ [])

-- after a first opening
abbrev pub opened : ℕ → List ℕ
opened = begun (header_at 0) (spell_entry (Boots 1) ∷ [])

-- over blank devices a line with the byte 200 is refused

abbrev pub script : List ℕ
script = 200 ∷ 10 ∷ []

abbrev pub printed : List ℕ
printed = codes "opened 1 0" ++ 10 ∷ (codes "ready" ++ 10 ∷ (codes "refused 2 byte" ++ 10 ∷ []))

abbrev pub before : World
before = record {
  source = record { bytes = Some script; faults = 0 };
  sink = record { bytes = Some []; faults = 0 };
  devices = holding ample blank [];
}

abbrev pub after : World
after = record {
  source = record { bytes = Some []; faults = 0 };
  sink = record { bytes = Some printed; faults = 0 };
  devices = holding ample opened [];
}

abbrev pub one_line : Run
one_line = record {
  command = Some (Script one_part false false);
  before = before;
  after = after;
  status = Done;
  flight = None;
  story = Opened 1 0 ∷ Ready ∷ Refused Byte ∷ [];
  net = None;
}
