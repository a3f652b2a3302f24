-- What the coordinator's devices stand for.
use Rattle.salt_values.specs.declared.cont.Cont.{Cont}
use Rattle.salt_bytes.specs.Conts.{move_in}
use Rattle.salt_bytes.specs.Coordinator.{Decision, NumberedText}
use Rattle.salt_bytes.specs.Generations.{BothBlank, Counts, Faulty, LogA, LogB, Pair, WhichLog, pair_of, content_of}
use Rattle.salt_stands.specs.CoordinatorLog.{CoordinatorLog, Told, coordinator_generation, coordinator_in}
use Rattle.salt_stands.specs.OpenConts.{conts_of_move, do_rise, moved}
use Rattle.salt_stands.specs.Reading.{Reading}
use Rattle.salt_stands.specs.Words.{has_bit}
use Rattle.salt_values.specs.declared.id.Id.{Id}
use Rattle.std.specs.List.{filter, list_all}
use Rattle.std.specs.Option.{ok_or}
use Rattle.std.specs.Prelude.{Bool, Err, List, None, Ok, Option, Result, Some, [], map, nat_le, not, option_map, ℕ, ◌&&◌, ◌+◌, ◌++◌, ◌∷◌, option_and_then}
use Rattle.std.specs.Bool.{then_some}

-- the entries of each device, None where it is neither blank nor a log
abbrev pub Logs : Type 0
Logs = ℕ → Option (List (List ℕ))

-- the devices of a pair, of which A is this one
abbrev pub device_of : ℕ → WhichLog → ℕ
device_of a LogA = a
device_of a LogB = a + 1

-- the definitions with one more, which is read and not refused
abbrev pub define : {D : Type 0} → Reading D → NumberedText → Option (List D) → Option (List D)
define r t defined = option_and_then (λ ds. option_and_then (λ d. then_some (not (r.is_refused ds d)) (ds ++ d ∷ [])) (r.read t.text)) defined

abbrev pub definitions_read : {D : Type 0} → Reading D → Option (List D) → List NumberedText → Option (List D)
definitions_read r defined [] = defined
definitions_read r defined (t ∷ ts) = definitions_read r (define r t defined) ts

-- a continuation that a program of these definitions may have, of no later boot or decision than the coordinator's
abbrev pub is_sound_cont : {D : Type 0} → Reading D → List D → Told → Cont → Bool
is_sound_cont r ds t c = r.fits_cont ds c && (nat_le c.base.boot t.boot && nat_le c.accepted t.decisions)

abbrev pub is_sound_decision : {D : Type 0} → Reading D → List D → Told → ℕ → Decision → Bool
is_sound_decision r ds t format d = nat_le d.unit.boot t.boot && list_all (is_sound_cont r ds t) (conts_of_move (move_in format d.move))

pub record Coordinator (D : Type 0) : Type 0 where
  pub log : CoordinatorLog
  pub definitions : List D
  pub conts : List Cont

abbrev pub are_sound : {D : Type 0} → Reading D → CoordinatorLog → List D → Bool
are_sound r log ds =
    do_rise log.header.conts && (list_all (is_sound_cont r ds log.told) log.header.conts && list_all (is_sound_decision r ds log.told log.header.format) log.told.decided)

abbrev pub coordinator_of : {D : Type 0} → Reading D → CoordinatorLog → Option (Coordinator D)
coordinator_of r log =
    option_and_then (λ ds. option_and_then (λ cs. then_some (are_sound r log ds) (record { log = log; definitions = ds; conts = cs }))
    (moved log.header.format (Some log.header.conts) log.told.decided))
    (definitions_read r (Some []) log.told.definitions)

abbrev pub coordinator_pair : Logs → Pair CoordinatorLog
coordinator_pair logs = pair_of coordinator_generation (content_of coordinator_in (logs 0)) (content_of coordinator_in (logs 1))

-- Ok None where both devices are blank
abbrev pub judge_coordinator : {D : Type 0} → Reading D → Pair CoordinatorLog → Result (Option (Coordinator D)) ℕ
judge_coordinator r BothBlank = Ok None
judge_coordinator r (Faulty which) = Err (device_of 0 which)
judge_coordinator r (Counts which log) = ok_or (option_map Some (coordinator_of r log)) (device_of 0 which)

abbrev pub coordinator_at : {D : Type 0} → Reading D → Logs → Result (Option (Coordinator D)) ℕ
coordinator_at r logs = judge_coordinator r (coordinator_pair logs)

abbrev pub unit_of : Decision → Id
unit_of d = d.unit

-- the units that are decided with partition p's bit
abbrev pub decided_for : ℕ → List Decision → List Id
decided_for p ds = map unit_of (filter (λ d. has_bit d.mask p) ds)
