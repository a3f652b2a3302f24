-- The conditions can be met: a new store of one partition stands on disks that tell their bytes, and a unit without changes may be
-- committed to it.
use Rattle.salt_bytes.proofs.Logs.{reads_partition_header}
use Rattle.salt_bytes.specs.Generations.{Counts, IsRead, LogA, content_of, pair_of, read_or_outside}
use Rattle.salt_bytes.specs.Log.{entries_in, framed, spelled}
use Rattle.salt_bytes.specs.Partition.{spell_partition_header}
use Rattle.salt_bytes.specs.declared.moves.Move.TheVariants.{Plain}
use Rattle.salt_commit.proofs.Firsts.{first_store}
use Rattle.salt_commit.specs.Commits.{MayCommitUnit}
use Rattle.salt_commit.specs.Openings.{IsSchemaWhere}
use Rattle.salt_commit.specs.Stores.{StandsOnDevices, reading}
use Rattle.salt_commit.specs.declared.store.Store.{Store}
use Rattle.salt_decisions.proofs.Moving.{some_same}
use Rattle.salt_decisions.proofs.Begun.{first_log}
use Rattle.salt_decisions.proofs.Contents.{log_bytes}
use Rattle.salt_decisions.specs.Decisions.{IsDecisions}
use Rattle.salt_decisions.specs.Opened.{begun, first_payload}
use Rattle.salt_decisions.specs.declared.decisions.Decisions.{Decisions}
use Rattle.salt_disk.specs.Disks.{View}
use Rattle.salt_gatelog.specs.Log as gates
use Rattle.salt_gatelog.specs.Log.{IsLog}
use Rattle.salt_gatelog.specs.declared.log.GateLog.{GateLog}
use Rattle.salt_paged.specs.Partitions.{ArePartitions, IsPartition}
use Rattle.salt_partition.proofs.Lasts.{no_last}
use Rattle.salt_paged.specs.declared.partition.Partition.{Partition}
use Rattle.salt_parts.specs.Openings.{HasRoom}
use Rattle.salt_stands.specs.Coordinator.{coordinator_pair}
use Rattle.salt_stands.specs.CoordinatorLog.{coordinator_generation, coordinator_in}
use Rattle.salt_stands.specs.FirstOpening.{first_coordinator, first_part_header, first_view}
use Rattle.salt_stands.specs.PartitionLog.{own_log, partition_generation, partition_in}
use Rattle.salt_stands.specs.Stands.{logs_of}
use Rattle.salt_place.specs.declared.placement.PlaceKind.TheVariants.{Remainder}
use Rattle.salt_place.specs.declared.placement.Shape.{Shape}
use Rattle.std.proofs.Common.{List, None, Some, [], ap, arith, false, refl, suc, true, zero, ℕ, ◌++◌, ◌≡◌, ◌∙◌, ◌∷◌}
use Rattle.salt_checkpoint.specs.Checkpoints.{NamedSettled}
use Rattle.salt_codec.specs.Entries.{header_of}
use Rattle.salt_model.specs.Tables.{no_rows, with_changes}
use Rattle.salt_partition.specs.Choices.{which_of}
use Rattle.salt_rows.specs.Stores.{IsRowStore}
use Rattle.std.proofs.Common.{subst, sym}
use Rattle.std.specs.Prelude.{IfSome, length, slice_get, option_and_then}

abbrev shape : Shape
shape = record { parts = 1; kind = Remainder }

abbrev header : List ℕ
header = spell_partition_header (first_part_header 2 0)

abbrev bytes : ℕ → List ℕ
bytes zero = spelled (first_payload shape ∷ []) ++ 0 ∷ []
bytes (suc zero) = []
bytes (suc (suc zero)) = spelled (header ∷ []) ++ 0 ∷ []
bytes (suc (suc (suc dev))) = []

abbrev view : View
view = record { count = 5; limit = λ dev. 1000; can_stop = false; told = true; bytes = bytes; image = λ dev c. c ≡ bytes dev; faults = 0; armed = [] }

abbrev gate : GateLog
gate = record { dev = 0; end = 57; count = 1; next = 0; place = 0; block = None }

abbrev counting : Decisions
counting = record { which = LogA; gate = gate; format = 3; generation = 1; shape = shape; boot = 0; decisions = 0; definitions = []; conts = [] }

end_is : 57 ≡ length (spelled (first_payload shape ∷ []))
unfolding framed
end_is = refl

is_log : IsLog view gate (first_payload shape ∷ [])
is_log = record {
  known = omega arith;
  end = end_is;
  room = omega arith;
  count = refl;
  file = λ told. record { gate = 0; rest = []; is_closed = λ e. omega (arith, e); bytes_are = refl };
  settled = λ c left. left;
  next = omega arith;
  within = omega arith;
  place = λ told. refl;
  block = tt;
}

blank_behind : pair_of coordinator_generation (IsRead (begun shape)) (content_of coordinator_in (entries_in [])) ≡ Counts LogA (begun shape)
unfolding entries_in
blank_behind = refl

decisions_stand : IsDecisions view counting LogA (begun shape)
decisions_stand = record {
  own = refl;
  holds = record { format = refl; generation = refl; shape = refl; boot = refl; decisions = refl; definitions = refl; conts = λ rises cs is. some_same [] cs is; parts = refl };
  counting = record {
    entries = first_payload shape ∷ [];
    is_log = is_log;
    device = refl;
    known = omega arith;
    other = λ c left. left;
    counts = λ told.
        ap (λ o. pair_of coordinator_generation (content_of coordinator_in o) (content_of coordinator_in (entries_in []))) (log_bytes view gate (first_payload shape ∷ []) refl is_log)
        ∙ ap (λ x. pair_of coordinator_generation (read_or_outside x) (content_of coordinator_in (entries_in []))) (first_log shape (first_payload shape) (omega arith, omega arith) refl)
        ∙ blank_behind;
  };
}

abbrev part_gate : GateLog
part_gate = record { dev = 2; end = 28; count = 1; next = 0; place = 0; block = None }

part_end : 28 ≡ length (spelled (header ∷ []))
unfolding framed
part_end = refl

part_log : IsLog view part_gate (header ∷ [])
part_log = record {
  known = omega arith;
  end = part_end;
  room = omega arith;
  count = refl;
  file = λ told. record { gate = 0; rest = []; is_closed = λ e. omega (arith, e); bytes_are = refl };
  settled = λ c left. left;
  next = omega arith;
  within = omega arith;
  place = λ told. refl;
  block = tt;
}

part_reads : partition_in 0 (header ∷ []) ≡ Some (first_view 2 0).log
part_reads = ap (option_and_then (λ h. own_log 0 h [])) (reads_partition_header (first_part_header 2 0) (record { format = refl; generation = omega arith; first = refl; count = omega arith; sides = refl }))

part_behind : pair_of partition_generation (IsRead (first_view 2 0).log) (content_of (partition_in 0) (entries_in [])) ≡ Counts LogA (first_view 2 0).log
unfolding entries_in
part_behind = refl

no_page_named : NamedSettled [] view 4
no_page_named c left = record { each = λ page side named. cc }

part_stands : (x : Partition) → x.part ≡ 0 → header_of x.header ≡ first_part_header 2 0 → which_of x.side ≡ LogA → x.log ≡ part_gate → IsRowStore view x.rows 4 [] no_rows → IsPartition view x 0 (first_view 2 0) []
unfolding with_changes
part_stands x part head at log rows = record {
  part = part;
  header = head;
  which = at;
  entries = header ∷ [];
  is_log = subst (λ l. IsLog view l (header ∷ [])) (sym log) part_log;
  some = omega arith;
  device = ap gates.device_of log;
  known = omega arith;
  other = λ c left. left;
  put = tt;
  last = no_last [] x.last;
  rows = rows;
  keyed = tt;
  told = λ told. record {
    reads = part_reads;
    counts =
        ap (λ o. pair_of partition_generation (content_of (partition_in 0) o) (content_of (partition_in 0) (entries_in []))) (log_bytes view part_gate (header ∷ []) refl part_log)
        ∙ ap (λ o. pair_of partition_generation (read_or_outside o) (content_of (partition_in 0) (entries_in []))) part_reads ∙ part_behind;
    pages = [];
    named = refl;
    rows = refl;
    apart = refl;
    settled = no_page_named;
  };
}

pub store_stands : (x : Store) (q : Partition) → x.decisions ≡ counting → x.parts ≡ q ∷ [] → q.part ≡ 0 → header_of q.header ≡ first_part_header 2 0 → which_of q.side ≡ LogA → q.log ≡ part_gate → IsRowStore view q.rows 4 [] no_rows → StandsOnDevices view x
store_stands x q decisions parts part head at log rows = record {
  which = LogA;
  c = first_coordinator shape 3;
  v = first_view 2;
  is = first_store reading view x shape (subst (λ z. IsDecisions view z LogA (begun shape)) (sym decisions) decisions_stand) (ap (λ (l : List Partition). length l) parts)
      (subst (λ (l : List Partition). ArePartitions view l (first_view 2) (λ p. [])) (sym parts) (record { each = each }));
}
  where
    each : (p : ℕ) → IfSome (slice_get (q ∷ []) p) (λ z. IsPartition view z p (first_view 2 p) [])
    each zero = part_stands q part head at log rows
    each (suc p) = tt

-- a unit without changes
pub may_commit_nothing : MayCommitUnit true reading (first_coordinator shape 3) (first_view 2) (record { boot = 0; seq = 1 }) [] (0 ∷ []) Plain []
may_commit_nothing = record {
  boot = λ told. omega arith;
  fresh = λ p low. refl;
  new = λ p low. refl;
  ordered = refl;
  fits = λ told. refl;
  put = λ p low. tt;
  spells = λ told. refl;
  moves = λ told. refl;
  named = λ told. refl;
}

-- it may be opened again, under the schema of its log, which defines nothing
pub has_room : HasRoom view 1
has_room = record { known = λ p low. omega (arith, low); settled = λ dev low c left. left }

pub is_known : IsSchemaWhere [] (coordinator_pair (logs_of bytes))
is_known = subst (IsSchemaWhere []) (sym (decisions_stand.counting.counts refl)) (record { c = first_coordinator shape 3; reads = refl; tables = refl })
