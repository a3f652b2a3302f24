-- A store is opened where a log counts.
use Rattle.salt_ast.specs.declared.trees.TableDef.{TableDef}
use Rattle.salt_bytes.specs.Generations.{BothBlank, Counts, LogA, LogB, Pair, WhichLog}
use Rattle.salt_commit.proofs.Making.{settled_on}
use Rattle.salt_commit.proofs.Spare.{spare_stand}
use Rattle.salt_commit.specs.Openings.{IsNoRefusal, IsRefusal, IsSchemaOf, IsSchemaWhere, LeavesStanding, OpeningFails, OpeningPassesLimit, OpensAll, OpensStore, PartsFail, StandOn, StorePassesLimit, UnitsPassLimit, UnitsPassUnder, WroteAtMost}
use Rattle.salt_model.specs.Words.{and_then}
use Rattle.salt_decisions.proofs.Framed.{decisions_kept}
use Rattle.salt_parts.proofs.Reading.{all_settled, same_bytes}
use Rattle.salt_parts.specs.Judging.{HasTables}
use Rattle.salt_parts.specs.Openings.{HasRoom, IsFirstFault, IsPagesOf}
use Rattle.salt_stands.specs.LogDevices.{IsCoordinatorLog}
use Rattle.salt_commit.specs.Stores.{IsStoreDevice, reading}
use Rattle.salt_commit.specs.declared.store.Store.{Store}
use Rattle.salt_decisions.specs.Decisions.{IsDecisions}
use Rattle.salt_decisions.specs.Kept.{IsKept}
use Rattle.salt_decisions.specs.declared.decisions.Decisions.{Decisions}
use Rattle.salt_decisions.specs.Opened.{IsOpened, IsStood, OpenFails}
use Rattle.salt_gatelog.specs.Answers.{open_disk_err, open_disk_err_of}
use Rattle.salt_gatelog.specs.declared.unopened.OpenErr.TheVariants.{Failed, Full, Memory, NotSalt, NumbersSpent, OtherShape, Stopped}
use Rattle.salt_gatelog.specs.declared.unopened.OpenErr.{OpenErr}
use Rattle.salt_decisions.specs.declared.kept.Kept.{Kept}
use Rattle.salt_checkpoint.proofs.Torn.{keeps_all, keeps_more}
use Rattle.salt_checkpoint.specs.Checkpoints.{IsReady}
use Rattle.law_definitions.specs.Texts.{definition_in}
use Rattle.salt_disk.proofs.CallAfterCall.{keeps_on, keeps_wider}
use Rattle.salt_disk.specs.Disks.{FullWhere, IsSettled, KeepsAll, KeepsBut, View}
use Rattle.salt_disk.specs.declared.disks.DiskErr.TheVariants as disk
use Rattle.salt_disk.specs.declared.disks.DiskErr.{DiskErr}
use Rattle.salt_model.specs.Kept.{Definition}
use Rattle.salt_model.specs.Tables.{Tables}
use Rattle.salt_stands.proofs.Assembled.{part_is_at}
use Rattle.salt_stands.proofs.Booleans.{left, right}
use Rattle.salt_stands.proofs.PlacedParts.{rows_sound}
use Rattle.salt_stands.specs.Commits.{Stood, found_of, partition_count}
use Rattle.salt_stands.specs.Coordinator.{Coordinator, are_sound, coordinator_at, coordinator_of, coordinator_pair, definitions_read, device_of, is_sound_cont, is_sound_decision, judge_coordinator}
use Rattle.salt_stands.specs.CoordinatorLog.{CoordinatorLog}
use Rattle.salt_stands.specs.OpenConts.{do_rise, moved}
use Rattle.salt_stands.specs.Partition.{pages_device, part_at, part_device}
use Rattle.salt_stands.specs.Pieces.{IsCoordinator, PartStands, PartView, listed, other_log, tables_at_part}
use Rattle.salt_stands.specs.Stands as opening
use Rattle.salt_stands.specs.Stands.{Opening, Stands, are_spent, is_same_kind, is_same_shape, logs_of, of_coordinator, of_parts, opening_of, parts_at}
use Rattle.salt_stands.specs.Words.{each_from}
use Rattle.salt_values.specs.declared.cont.Cont.{Cont}
use Rattle.salt_place.specs.declared.placement.PlaceKind.TheVariants.{Bands, Remainder}
use Rattle.salt_place.specs.declared.placement.PlaceKind.{PlaceKind}
use Rattle.salt_place.specs.declared.placement.Shape.{Shape}
use Rattle.std.proofs.Common.{Bool, Err, IsTrue, List, None, Ok, Option, Result, Some, [], ap, arith, false, inl, inr, refl, subst, sym, true, ℕ, ◌+◌, ◌<◌, ◌≡◌, ◌∙◌, ◌∷◌}
use Rattle.std.proofs.lemmas.Bool.Decides.{Decides-eqb}
use Rattle.std.specs.List.{list_all}
use Rattle.std.specs.Option.{ok_or}
use Rattle.std.specs.Prelude.{IfErr, IfOk, if◌then◌else◌, not, option_and_then, option_map, suc, zero, ◌&&◌, ◌==◌}
use Rattle.std.specs.Bool.{then_some}

-- SHAPES

pub same_shape_is : (s t : Shape) → is_same_shape s t ≡ true → s ≡ t
same_shape_is s t e = by s.kind t.kind (right (s.parts == t.parts) (is_same_kind s.kind t.kind) e) ((Decides-eqb s.parts t.parts).0 (left (s.parts == t.parts) (is_same_kind s.kind t.kind) e))
  where
    kinds : (a b : PlaceKind) → is_same_kind a b ≡ true → a ≡ b
    kinds Remainder Remainder h = refl
    kinds Bands Bands h = refl
    kinds Remainder Bands h = absurd (cc h)
    kinds Bands Remainder h = absurd (cc h)

    by : (a b : PlaceKind) → is_same_kind a b ≡ true → s.parts ≡ t.parts → s ≡ t
    by a b h p = ap (λ (n : ℕ). record { parts = n; kind = s.kind }) p ∙ ap (λ (k : PlaceKind). record { parts = t.parts; kind = k }) (kinds s.kind t.kind (right (s.parts == t.parts) (is_same_kind s.kind t.kind) e))

-- THE COORDINATOR of a log

-- it is what its log gives, and its facts hold
pub record IsOfLog (c : Coordinator Definition) (log : CoordinatorLog) : Type 0 where
  pub log_is : c.log ≡ log
  pub is : IsCoordinator reading c

pub of_log : (log : CoordinatorLog) (c : Coordinator Definition) → coordinator_of reading log ≡ Some c → IsOfLog c log
of_log log c e = by (definitions_read reading (Some []) log.told.definitions) (moved log.header.format (Some log.header.conts) log.told.decided) refl refl e
  where
    made : List Definition → List Cont → Coordinator Definition
    made ds cs = record { log = log; definitions = ds; conts = cs }

    facts : (ds : List Definition) (cs : List Cont) → definitions_read reading (Some []) log.told.definitions ≡ Some ds → moved log.header.format (Some log.header.conts) log.told.decided ≡ Some cs → are_sound reading log ds ≡ true → IsCoordinator reading (record { log = log; definitions = ds; conts = cs })
    facts ds cs is moves sound =
        let named = list_all (is_sound_cont reading ds log.told) log.header.conts in
        let decided = list_all (is_sound_decision reading ds log.told log.header.format) log.told.decided in
        let rest = right (do_rise log.header.conts) (named && decided) sound in
        record { defined = is; moves = moves; rise = left (do_rise log.header.conts) (named && decided) sound; named = left named decided rest; decided = right named decided rest }

    with_sound : (ds : List Definition) (cs : List Cont) (b : Bool) → definitions_read reading (Some []) log.told.definitions ≡ Some ds → moved log.header.format (Some log.header.conts) log.told.decided ≡ Some cs → are_sound reading log ds ≡ b
        → then_some b (record { log = log; definitions = ds; conts = cs }) ≡ Some c → IsOfLog c log
    with_sound ds cs false is moves sound e' = absurd (cc e')
    with_sound ds cs true is moves sound e' =
        let same : record { log = log; definitions = ds; conts = cs } ≡ c = cc e' in
        subst (λ (k : Coordinator Definition). IsOfLog k log) same (record { log_is = refl; is = facts ds cs is moves sound })

    by : (o : Option (List Definition)) (m : Option (List Cont)) → definitions_read reading (Some []) log.told.definitions ≡ o → moved log.header.format (Some log.header.conts) log.told.decided ≡ m
        → option_and_then (λ ds. option_and_then (λ cs. then_some (are_sound reading log ds) (record { log = log; definitions = ds; conts = cs })) m) o ≡ Some c → IsOfLog c log
    by None m is moves e' = absurd (cc e')
    by (Some ds) None is moves e' = absurd (cc e')
    by (Some ds) (Some cs) is moves e' = with_sound ds cs (are_sound reading log ds) is moves refl e'

pub judged_as : (which : WhichLog) (log : CoordinatorLog) (c : Coordinator Definition) → coordinator_of reading log ≡ Some c → judge_coordinator reading (Counts which log) ≡ Ok (Some c)
judged_as which log c e = ap (λ o. ok_or (option_map Some o) (device_of 0 which)) e

-- WHAT AN OPENING ANSWERS

asked_as : (c : Coordinator Definition) (asked : Shape) (same spent : Bool) → Result (List Tables) ℕ → Opening Definition
asked_as c asked same spent parts =
    if not same then opening.OtherShape c.log.header.shape asked else
    if spent then opening.NumbersSpent c.log.told.boot c.log.told.decisions else
    of_parts c parts

module _ (bytes : ℕ → List ℕ) (asked : Shape) (c : Coordinator Definition) (at : coordinator_at reading (logs_of bytes) ≡ Ok (Some c)) where
  answered : opening_of reading bytes asked ≡ asked_as c asked (is_same_shape c.log.header.shape asked) (are_spent c.log.told.boot c.log.told.decisions) (parts_at reading c (logs_of bytes) bytes)
  unfolding asked_as
  answered = ap (of_coordinator reading bytes asked) at

  pub other_shape : is_same_shape c.log.header.shape asked ≡ false → opening_of reading bytes asked ≡ opening.OtherShape c.log.header.shape asked
  unfolding asked_as
  other_shape differs = answered ∙ ap (λ b. asked_as c asked b (are_spent c.log.told.boot c.log.told.decisions) (parts_at reading c (logs_of bytes) bytes)) differs

  module _ (same : is_same_shape c.log.header.shape asked ≡ true) where
    pub numbers_spent : are_spent c.log.told.boot c.log.told.decisions ≡ true → opening_of reading bytes asked ≡ opening.NumbersSpent c.log.told.boot c.log.told.decisions
    unfolding asked_as
    numbers_spent spent = answered ∙ ap (λ b. asked_as c asked b (are_spent c.log.told.boot c.log.told.decisions) (parts_at reading c (logs_of bytes) bytes)) same
        ∙ ap (λ b. asked_as c asked true b (parts_at reading c (logs_of bytes) bytes)) spent

    pub parts_answer : are_spent c.log.told.boot c.log.told.decisions ≡ false → (parts : Result (List Tables) ℕ) → parts_at reading c (logs_of bytes) bytes ≡ parts → opening_of reading bytes asked ≡ of_parts c parts
    unfolding asked_as
    parts_answer unspent parts is = answered ∙ ap (λ b. asked_as c asked b (are_spent c.log.told.boot c.log.told.decisions) (parts_at reading c (logs_of bytes) bytes)) same
        ∙ ap (λ b. asked_as c asked true b (parts_at reading c (logs_of bytes) bytes)) unspent ∙ ap (of_parts c) is

-- n results from number p on
each_listed : {A : Type 0} (f : ℕ → Result A ℕ) (g : ℕ → A) (p n : ℕ) → ((k : ℕ) → k < n → f (p + k) ≡ Ok (g (p + k))) → each_from f p n ≡ Ok (listed g p n)
each_listed f g p zero h = refl
each_listed f g p (suc n) h =
    let here : p + 0 ≡ p = omega arith in
    let on : (k : ℕ) → p + suc k ≡ suc p + k = λ k. omega arith in
    ap (λ r. and_then r (λ x. and_then (each_from f (suc p) n) (λ xs. Ok (x ∷ xs)))) (subst (λ q. f q ≡ Ok (g q)) here (h 0 (omega arith)))
    ∙ ap (λ r. and_then r (λ xs. Ok (g p ∷ xs))) (each_listed f g (suc p) n (λ k low. subst (λ q. f q ≡ Ok (g q)) (on k) (h (suc k) (omega (arith, low)))))

first_err : {A : Type 0} (f : ℕ → Result A ℕ) (p n k dev : ℕ) → k < n → ((q : ℕ) → q < k → (x : A) × (f (p + q) ≡ Ok x)) → f (p + k) ≡ Err dev → each_from f p n ≡ Err dev
first_err f p zero k dev low before is = absurd (omega (arith, low))
first_err f p (suc n) zero dev low before is =
    let here : p + 0 ≡ p = omega arith in
    ap (λ r. and_then r (λ x. and_then (each_from f (suc p) n) (λ xs. Ok (x ∷ xs)))) (subst (λ q. f q ≡ Err dev) here is)
first_err {A = A} f p (suc n) (suc k) dev low before is =
    let here : p + 0 ≡ p = omega arith in
    let on : (q : ℕ) → p + suc q ≡ suc p + q = λ q. omega arith in
    let first = before 0 (omega arith) in
    ap (λ r. and_then r (λ x. and_then (each_from f (suc p) n) (λ xs. Ok (x ∷ xs)))) (subst (λ q. f q ≡ Ok first.0) here first.1)
    ∙ ap (λ r. and_then r (λ xs. Ok (first.0 ∷ xs))) (first_err f (suc p) n k dev (omega (arith, low))
    (λ q lower. let b = before (suc q) (omega (arith, lower)) in (b.0, subst (λ j. f j ≡ Ok b.0) (on q) b.1)) (subst (λ j. f j ≡ Err dev) (on k) is))

-- DEVICES

pub only_coordinator : (n : ℕ) (d e : View) (answer : Option DiskErr) → KeepsBut IsCoordinatorLog d e answer → KeepsBut (IsStoreDevice n) d e answer
only_coordinator n d e answer = keeps_wider IsCoordinatorLog (IsStoreDevice n) d e answer (λ dev is. inl (inl is))

pub nothing : (touched : ℕ → Type 0) (d e : View) (answer : Option DiskErr) → KeepsAll d e answer → KeepsBut touched d e answer
nothing touched d e answer = keeps_wider (λ _. ⊥) touched d e answer (λ dev none. absurd none)

pub then_pages : (n : ℕ) (d b e : View) (answer : Option DiskErr) → KeepsBut IsCoordinatorLog d b None → KeepsBut (IsPagesOf n) b e answer → KeepsBut (IsStoreDevice n) d e answer
then_pages n d b e answer first second = keeps_on (IsStoreDevice n) d b e answer (only_coordinator n d b None first) (keeps_wider (IsPagesOf n) (IsStoreDevice n) b e answer (λ dev is. inr is) second)

-- THE STORE

-- a coordinator of the log; where the disks tell, it is the one of the definitions
pub record Whose (told : Bool) (schema : List TableDef) (log : CoordinatorLog) : Type 0 where
  pub c : Coordinator Definition
  pub log_is : c.log ≡ log
  pub reads : IsTrue told → coordinator_of reading log ≡ Some c
  pub tables : IsTrue told → Rattle.salt_stands.specs.Fitting.tables_defined c.definitions ≡ schema

pub whose : (told : Bool) (schema : List TableDef) (log : CoordinatorLog) → (IsTrue told → IsSchemaOf schema log) → Whose told schema log
whose false schema log h = record { c = record { log = log; definitions = []; conts = [] }; log_is = refl; reads = λ t. absurd (cc t); tables = λ t. absurd (cc t) }
whose true schema log h = let is = h refl in record { c = is.c; log_is = (of_log log is.c is.reads).log_is; reads = λ t. is.reads; tables = λ t. is.tables }

-- the log that was opened is the one that counts
pub counts_of : (pair : Pair CoordinatorLog) (asked : Shape) (which : WhichLog) (log : CoordinatorLog) → IsStood pair asked which log → ¬ (pair ≡ BothBlank) → pair ≡ Counts which log
counts_of pair asked which log (inl counts) some = counts
counts_of pair asked which log (inr made) some = absurd (some made.0)

pub schema_of : (schema : List TableDef) (pair : Pair CoordinatorLog) (which : WhichLog) (log : CoordinatorLog) → IsSchemaWhere schema pair → pair ≡ Counts which log → IsSchemaOf schema log
schema_of schema pair which log h e = subst (λ (p : Pair CoordinatorLog). IsSchemaWhere schema p) e h

module _ (schema : List TableDef) (asked : Shape) (d b : View) (some : IsTrue d.told → ¬ (coordinator_pair (logs_of d.bytes) ≡ BothBlank)) (judged : IsTrue d.told → IsSchemaWhere schema (coordinator_pair (logs_of d.bytes)))
    (kept : Kept) (x : Decisions) (opened : IsOpened d b asked x kept) where
  counts : IsTrue d.told → coordinator_pair (logs_of d.bytes) ≡ Counts opened.which opened.log
  counts told = counts_of (coordinator_pair (logs_of d.bytes)) asked opened.which opened.log (opened.stood told) (some told)

  pub own : Whose d.told schema opened.log
  own = whose d.told schema opened.log (λ told. schema_of schema (coordinator_pair (logs_of d.bytes)) opened.which opened.log (judged told) (counts told))

  pub own_kept : IsKept kept own.c.log
  own_kept = subst (λ log. IsKept kept log) (sym own.log_is) opened.keeps

  own_shape : is_same_shape own.c.log.header.shape asked ≡ true
  own_shape = subst (λ (log : CoordinatorLog). is_same_shape log.header.shape asked ≡ true) (sym own.log_is) opened.has_shape

  own_unspent : are_spent own.c.log.told.boot own.c.log.told.decisions ≡ false
  own_unspent = subst (λ (log : CoordinatorLog). are_spent log.told.boot log.told.decisions ≡ false) (sym own.log_is) opened.unspent

  pub own_has : IsTrue d.told → HasTables schema asked own.c
  own_has told = record { tables = own.tables told; is_shape = same_shape_is own.c.log.header.shape asked own_shape }

  own_at : IsTrue d.told → coordinator_at reading (logs_of d.bytes) ≡ Ok (Some own.c)
  own_at told = ap (judge_coordinator reading) (counts told) ∙ judged_as opened.which opened.log own.c (own.reads told)

  within : (p : ℕ) → p < partition_count own.c → p < asked.parts
  within p low = let same = ap (λ (t : Shape). t.parts) (same_shape_is own.c.log.header.shape asked own_shape) in omega (arith, low, same)

  module _ (bytes_stay : IsTrue d.told → b.bytes ≡ d.bytes) (same_told : b.told ≡ d.told) where
    -- all of them stand
    finds_all : IsTrue d.told → (v : ℕ → PartView) → StandOn b.bytes own.c asked.parts v → opening_of reading d.bytes asked ≡ Stands (found_of own.c v)
    finds_all told v stood = parts_answer d.bytes asked own.c (own_at told) own_shape own_unspent (Ok (listed (λ p. tables_at_part own.c p (v p)) 0 (partition_count own.c)))
        (each_listed (part_at reading own.c (logs_of d.bytes) d.bytes) (λ p. tables_at_part own.c p (v p)) 0 (partition_count own.c) (λ p low. part_is_at reading own.c (logs_of d.bytes) d.bytes (0 + p) (v (0 + p))
        (subst (λ (bytes : ℕ → List ℕ). PartStands reading own.c (logs_of bytes) bytes (0 + p) (v (0 + p))) (bytes_stay told) (stood.each (0 + p) (within (0 + p) (omega (arith, low)))))))

    -- the pair has the log that counts
    stood_on : IsTrue d.told → (v : ℕ → PartView) → StandOn b.bytes own.c asked.parts v → Stood reading (logs_of d.bytes) d.bytes opened.which own.c v
    stood_on told v stood = record {
      coordinator = record { counts = counts told ∙ ap (Counts opened.which) (sym own.log_is); is = (of_log opened.log own.c (own.reads told)).is };
      part = λ p low. subst (λ (bytes : ℕ → List ℕ). PartStands reading own.c (logs_of bytes) bytes p (v p)) (bytes_stay told) (stood.each p (within p low));
    }

    -- partitions are refused, or a call of the disks fails behind them
    pub refused : IsTrue d.told → (e : OpenErr) → PartsFail own.c b.bytes asked.parts e → OpeningFails asked d.bytes e
    refused told (NotSalt dev) h = by (subst (λ (bytes : ℕ → List ℕ). IsFirstFault definition_in own.c bytes asked.parts dev) (bytes_stay told) h)
      where
        by : IsFirstFault definition_in own.c d.bytes asked.parts dev → OpeningFails asked d.bytes (NotSalt dev)
        by f = parts_answer d.bytes asked own.c (own_at told) own_shape own_unspent (Err dev)
            (ap (λ (s : Shape). each_from (part_at reading own.c (logs_of d.bytes) d.bytes) 0 s.parts) (own_has told).is_shape
            ∙ first_err (part_at reading own.c (logs_of d.bytes) d.bytes) 0 asked.parts f.p dev f.low (λ q low. let at' : 0 + q ≡ q = omega arith in let t = f.before q low in (t.0, ap (part_at reading own.c (logs_of d.bytes) d.bytes) at' ∙ t.1))
            (let at' : 0 + f.p ≡ f.p = omega arith in ap (part_at reading own.c (logs_of d.bytes) d.bytes) at' ∙ f.fault))
    refused told (OtherShape kept' wanted) h = absurd h
    refused told (NumbersSpent boot decisions) h = absurd h
    refused told Failed h = h
    refused told Stopped h = inr (found_of own.c h.0, finds_all told h.0 h.1)
    refused told (Full dev) h = inr (found_of own.c h.0, finds_all told h.0 h.1)
    refused told Memory h = h

    -- pages may have been written to sides that no header names
    module _ (room : HasRoom d asked.parts) (two : IsTrue d.told → KeepsAll d b None) where
      ready : IsTrue d.told → (v : ℕ → PartView) → StandOn b.bytes own.c asked.parts v → IsReady reading d opened.which own.c v
      ready told v stood = record {
        stood = stood_on told v stood;
        two = omega (arith, opened.is.counting.known, (two told).shape.count);
        known = λ p low. room.known p (within p low);
        first = room.settled 0 (omega (arith, opened.is.counting.known, (two told).shape.count));
        second = room.settled 1 (omega (arith, opened.is.counting.known, (two told).shape.count));
        log_a = λ p low. let known = room.known p (within p low) in room.settled (part_device p) (omega (arith, known));
        log_b = λ p low. let known = room.known p (within p low) in room.settled (part_device p + 1) (omega (arith, known));
        pages = λ p low. all_settled (v p).log.header.sides d (pages_device p) (room.settled (pages_device p) (room.known p (within p low)));
      }

      pub leaves : IsTrue d.told → (e : View) (answer : Option DiskErr) → KeepsBut (IsPagesOf asked.parts) b e answer → WroteAtMost b e own.c asked.parts answer → LeavesStanding d e asked answer
      leaves told e answer others (inl keeps) = inl (keeps_on (λ _. ⊥) d b e answer (two told) keeps)
      leaves told e answer others (inr wrote) = inr (record {
        found = found_of own.c wrote.v;
        opens = finds_all told wrote.v wrote.stood;
        images = spare_stand reading d e opened.which own.c wrote.v (ready told wrote.v wrote.stood) asked.parts answer
            (keeps_on (IsPagesOf asked.parts) d b e answer (nothing (IsPagesOf asked.parts) d b None (two told)) others)
            (λ p low. keeps_more (wrote.v p).log.header.sides d b e (pages_device p) (keeps_all (wrote.v p).log.header.sides d b (pages_device p) ((two told).images (pages_device p) (λ none. none))) (wrote.named p (within p low)));
      })

      -- the pages of one are too many
      pub units_full : IsTrue d.told → (answer : Option DiskErr) → FullWhere (UnitsPassUnder b own.c asked.parts) answer → FullWhere (UnitsPassLimit d asked) answer
      units_full told None full = tt
      units_full told (Some disk.Failed) full = tt
      units_full told (Some disk.Stopped) full = tt
      units_full told (Some disk.Memory) full = tt
      units_full told (Some (disk.Full dev)) full = record {
        which = opened.which;
        c = own.c;
        v = full.v;
        stood = stood_on told full.v full.stood;
        passes = record { p = full.passes.p; low = full.passes.low; device = full.passes.device; over = omega (arith, full.passes.over, (two told).shape.limit dev) };
      }

    -- all are opened
    pub opens_store : (e : View) (s : Store) → s.decisions ≡ x → KeepsBut (IsPagesOf asked.parts) b e None → OpensAll schema asked asked.parts b e own.c s.parts → OpensStore d e asked s kept
    opens_store e s is keeps all = record {
      which = opened.which;
      c = own.c;
      v = all.view;
      is = record {
        decisions = subst (λ z. IsDecisions e z opened.which own.c.log) (sym is)
            (subst (λ log. IsDecisions e x opened.which log) (sym own.log_is)
            (decisions_kept b e x opened.which opened.log keeps.shape (keeps.kept 0 (λ t. no_pages_of 0 t.p (omega arith) t.is)) (keeps.kept 1 (λ t. no_pages_of 1 t.p (omega arith) t.is)) opened.is));
        size = all.size ∙ sym (ap (λ (t : Shape). t.parts) (same_shape_is own.c.log.header.shape asked own_shape));
        parts = all.are;
        sound = λ now.
            let told = before now in
            record {
              coordinator = (of_log opened.log own.c (own.reads told)).is;
              part = λ p low. ((all.stand (same_told ∙ told) (own_has told)).each p (within p low)).sound;
              rows = λ p low. rows_sound reading own.c p (all.view p).log (b.bytes (pages_device p)) (all.view p).rows ((all.stand (same_told ∙ told) (own_has told)).each p (within p low)).rows;
            };
      };
      keeps = own_kept;
      has_shape = same_shape_is own.c.log.header.shape asked own_shape;
      unspent = own_unspent;
      under = λ p low. all.under p (within p low);
      finds = λ told. finds_all told all.view (all.stand (same_told ∙ told) (own_has told));
    }
      where
        before : IsTrue e.told → IsTrue d.told
        before now = sym same_told ∙ (sym keeps.shape.told ∙ now)

        no_pages_of : (dev p : ℕ) → dev < 2 → dev ≡ pages_device p → ⊥
        no_pages_of dev p few same = omega (arith, few, same)

-- THE COORDINATOR is refused

pub coordinator_refused : (schema : List TableDef) (asked : Shape) (bytes : ℕ → List ℕ) → IsSchemaWhere schema (coordinator_pair (logs_of bytes)) → (e : OpenErr) → OpenFails asked (coordinator_pair (logs_of bytes)) e → OpeningFails asked bytes e
coordinator_refused schema asked bytes judged (NotSalt dev) f = ap (λ pr. of_coordinator reading bytes asked (judge_coordinator reading pr)) f.is ∙ ap opening.NotSalt (sym f.device)
coordinator_refused schema asked bytes judged (OtherShape kept wanted) f =
    let o = f.1 in
    let is = schema_of schema (coordinator_pair (logs_of bytes)) o.which o.log judged o.counts in
    let own = of_log o.log is.c is.reads in
    let shape : is.c.log.header.shape ≡ kept = ap (λ (l : CoordinatorLog). l.header.shape) own.log_is ∙ sym o.has_shape in
    other_shape bytes asked is.c (ap (judge_coordinator reading) o.counts ∙ judged_as o.which o.log is.c is.reads) (ap (λ (s : Shape). is_same_shape s asked) shape ∙ o.differs)
    ∙ ap (λ (s : Shape). opening.OtherShape s asked) shape ∙ ap (opening.OtherShape kept) (sym f.0)
coordinator_refused schema asked bytes judged (NumbersSpent boot decisions) o =
    let is = schema_of schema (coordinator_pair (logs_of bytes)) o.which o.log judged o.counts in
    let own = of_log o.log is.c is.reads in
    let boots : is.c.log.told.boot ≡ boot = ap (λ (l : CoordinatorLog). l.told.boot) own.log_is ∙ sym o.has_boot in
    let numbers : is.c.log.told.decisions ≡ decisions = ap (λ (l : CoordinatorLog). l.told.decisions) own.log_is ∙ sym o.has_decisions in
    numbers_spent bytes asked is.c (ap (judge_coordinator reading) o.counts ∙ judged_as o.which o.log is.c is.reads) (ap (λ (l : CoordinatorLog). is_same_shape l.header.shape asked) own.log_is ∙ o.has_shape)
    (ap (λ n. are_spent n is.c.log.told.decisions) boots ∙ ap (are_spent boot) numbers ∙ o.spent)
    ∙ ap (λ n. opening.NumbersSpent n is.c.log.told.decisions) boots ∙ ap (opening.NumbersSpent boot) numbers
coordinator_refused schema asked bytes judged Failed f = f
coordinator_refused schema asked bytes judged Stopped f = inl f
coordinator_refused schema asked bytes judged (Full dev) f = inl f
coordinator_refused schema asked bytes judged Memory f = f

-- where a log counts, no write of its opening is too long
pub counting_full : (asked : Shape) (pair : Pair CoordinatorLog) (P : ℕ → Type 0) (e : OpenErr) → ¬ (pair ≡ BothBlank) → OpenFails asked pair e → FullWhere P (open_disk_err_of e)
counting_full asked pair P (NotSalt dev) some f = tt
counting_full asked pair P (OtherShape kept wanted) some f = tt
counting_full asked pair P (NumbersSpent boot decisions) some f = tt
counting_full asked pair P Failed some f = tt
counting_full asked pair P Stopped some f = tt
counting_full asked pair P (Full dev) some f = absurd (some f)
counting_full asked pair P Memory some f = tt

both_settled : (b : View) (which : WhichLog) → IsSettled b (device_of 0 which) → IsSettled b (device_of 0 (other_log which)) → IsSettled b 0 × IsSettled b 1
both_settled b LogA this other = (this, other)
both_settled b LogB this other = (other, this)

-- there is room still where the coordinator stands
pub room_on : (n : ℕ) (d b : View) (x : Decisions) (which : WhichLog) (log : CoordinatorLog) → HasRoom d n → KeepsBut IsCoordinatorLog d b None → IsDecisions b x which log → HasRoom b n
room_on n d b x which log room keeps is = record { known = λ p low. omega (arith, room.known p low, keeps.shape.count); settled = λ dev low. at dev (omega (arith, low, keeps.shape.count)) }
  where
    both : IsSettled b 0 × IsSettled b 1
    both = both_settled b which (subst (λ (k : ℕ). IsSettled b k) is.counting.device is.counting.is_log.settled) is.counting.other

    none : (dev : ℕ) → IsCoordinatorLog (suc (suc dev)) → ⊥
    none dev (inl e) = omega (arith, e)
    none dev (inr e) = omega (arith, e)

    at : (dev : ℕ) → dev < d.count → IsSettled b dev
    at zero low = both.0
    at (suc zero) low = both.1
    at (suc (suc dev)) low = settled_on d b (suc (suc dev)) (keeps.kept (suc (suc dev)) (none dev)) (room.settled (suc (suc dev)) low)

-- after a call that writes nothing
pub opens_at : (asked : Shape) (d a e : View) (x : Store) (kept : Kept) → KeepsAll d a None → OpensStore a e asked x kept → OpensStore d e asked x kept
opens_at asked d a e x kept keeps o = record {
  which = o.which;
  c = o.c;
  v = o.v;
  is = o.is;
  keeps = o.keeps;
  has_shape = o.has_shape;
  unspent = o.unspent;
  under = o.under;
  finds = λ told. subst (λ (bytes : ℕ → List ℕ). opening_of reading bytes asked ≡ Stands (found_of o.c o.v)) (same_bytes d a keeps) (o.finds (keeps.shape.told ∙ told));
}

-- what it leaves, and which device is full
pub leaves_at : (asked : Shape) (d a e : View) (answer : Option DiskErr) → KeepsAll d a None → LeavesStanding a e asked answer → LeavesStanding d e asked answer
leaves_at asked d a e answer keeps (inl on) = inl (keeps_on (λ _. ⊥) d a e answer keeps on)
leaves_at asked d a e answer keeps (inr still) = inr (record { found = still.found; opens = subst (λ (bytes : ℕ → List ℕ). opening_of reading bytes asked ≡ Stands still.found) (same_bytes d a keeps) still.opens; images = still.images })

pub units_full_at : (asked : Shape) (d a e : View) (answer : Option DiskErr) → KeepsAll d a None → FullWhere (UnitsPassLimit a asked) answer → FullWhere (OpeningPassesLimit d e asked) answer
units_full_at asked d a e None keeps full = tt
units_full_at asked d a e (Some disk.Failed) keeps full = tt
units_full_at asked d a e (Some disk.Stopped) keeps full = tt
units_full_at asked d a e (Some disk.Memory) keeps full = tt
units_full_at asked d a e (Some (disk.Full dev)) keeps full = inr (record {
  which = full.which;
  c = full.c;
  v = full.v;
  stood = subst (λ (bytes : ℕ → List ℕ). Stood reading (logs_of bytes) bytes full.which full.c full.v) (same_bytes d a keeps) full.stood;
  passes = record { p = full.passes.p; low = full.passes.low; device = full.passes.device; over = omega (arith, full.passes.over, keeps.shape.limit dev) };
})

-- where a store is begun
pub begun_full : (asked : Shape) (d e : View) (answer : Option DiskErr) → FullWhere (StorePassesLimit e asked) answer → FullWhere (OpeningPassesLimit d e asked) answer
begun_full asked d e None full = tt
begun_full asked d e (Some disk.Failed) full = tt
begun_full asked d e (Some disk.Stopped) full = tt
begun_full asked d e (Some disk.Memory) full = tt
begun_full asked d e (Some (disk.Full dev)) full = inl full

-- nothing is written where it is refused
pub refused_at : {T : Type 0} (d a e : View) (result : Result T OpenErr) → KeepsAll d a None → IfErr result (λ x. IsRefusal x → KeepsAll a e (open_disk_err result)) → IfErr result (λ x. IsRefusal x → KeepsAll d e (open_disk_err result))
refused_at d a e (Ok x) keeps h = tt
refused_at d a e (Err x) keeps h = λ is. keeps_on (λ _. ⊥) d a e (open_disk_err_of x) keeps (h is)

-- where a store is begun nothing is refused
pub begun_fails : {T : Type 0} (asked : Shape) (bytes : ℕ → List ℕ) (result : Result T OpenErr) → coordinator_pair (logs_of bytes) ≡ BothBlank → IfErr result IsNoRefusal → IfErr result (OpeningFails asked bytes)
begun_fails asked bytes (Ok x) blank h = tt
begun_fails asked bytes (Err (NotSalt dev)) blank h = absurd h
begun_fails asked bytes (Err (OtherShape kept wanted)) blank h = absurd h
begun_fails asked bytes (Err (NumbersSpent boot decisions)) blank h = absurd h
begun_fails asked bytes (Err Failed) blank h = tt
begun_fails asked bytes (Err Stopped) blank h = inl blank
begun_fails asked bytes (Err (Full dev)) blank h = inl blank
begun_fails asked bytes (Err Memory) blank h = tt

pub map_ok : {A E : Type 0} (r : Result A E) (P Q : A → Type 0) → ((x : A) → P x → Q x) → IfOk r P → IfOk r Q
map_ok (Ok x) P Q f h = f x h
map_ok (Err e) P Q f h = tt
