-- Room is made in a store, and another call goes on behind it: what it says of the generation then, it says of the one before.
use Rattle.salt_bytes.specs.Formats.{has_nulls}
use Rattle.salt_bytes.specs.Coordinator.{CoordinatorEntry}
use Rattle.salt_bytes.specs.Generations.{LogA, LogB, WhichLog}
use Rattle.salt_bytes.specs.Spellable.{Every}
use Rattle.salt_bytes.specs.Conts.{move_in}
use Rattle.salt_bytes.specs.declared.moves.Move.{Move}
use Rattle.salt_codec.specs.Entries.{CanBePut, IsPutTo, MayStand}
use Rattle.salt_commit.proofs.Ready.{store_ready}
use Rattle.salt_commit.proofs.Shared.{share_is}
use Rattle.salt_commit.specs.Commits.{MayCommitUnit, StandsToCommit, fits_its_part, shares_in}
use Rattle.salt_commit.specs.Full.{CommitFills, EntryOrRoomFills}
use Rattle.salt_commit.specs.Rooms.{HasMadeRoom, ShareRoomFills}
use Rattle.salt_commit.specs.Shares.{next_decision}
use Rattle.salt_commit.specs.Stores.{Generation, IsStore, IsStoreDevice, MayDefine, StandForEither, StandsOnDevices, coordinator_device, next_text, reading, shape_of_store}
use Rattle.salt_commit.specs.declared.store.Store.{Store}
use Rattle.salt_bytes.specs.Page.{page_place}
use Rattle.salt_decisions.specs.Decisions.{conts_in}
use Rattle.salt_disk.proofs.CallAfterCall.{keeps_on, keeps_wider}
use Rattle.salt_disk.specs.Disks.{FullWhere, KeepsBut, KeepsOthers, View}
use Rattle.salt_disk.specs.declared.disks.DiskErr.TheVariants.{Failed, Full, Memory, Stopped}
use Rattle.salt_disk.specs.declared.disks.DiskErr.{DiskErr}
use Rattle.salt_model.specs.Kept.{Definition}
use Rattle.salt_model.specs.Tables.{with_changes}
use Rattle.salt_model.specs.Words.{is_empty}
use Rattle.salt_paged.specs.Checkpoints.{header_end}
use Rattle.salt_paged.specs.Partitions.{page_count}
use Rattle.salt_paged.specs.declared.partition.Partition.{Partition}
use Rattle.salt_parts.specs.Openings.{IsPagesOf}
use Rattle.salt_promise.specs.Filling.{CheckpointFills, NewLogsFill, RenewalFills}
use Rattle.salt_room.specs.Making as room
use Rattle.salt_room.specs.Making.{CheckpointPassesLimit, FullAtRoom, RenewalPassesLimit, RoomPassesLimit, SnapshotPassesLimit}
use Rattle.salt_room.specs.Renewals.{IsOfStore, IsStoreOf, StandAsStore}
use Rattle.salt_shares.proofs.Sharing.{full_maps}
use Rattle.salt_shares.specs.Shares.{share_at}
use Rattle.salt_stands.proofs.PlacedParts.{rows_sound}
use Rattle.salt_stands.specs.Commits.{found_after, found_of, partition_count}
use Rattle.salt_stands.specs.Coordinator.{Coordinator, device_of, is_sound_cont}
use Rattle.salt_stands.specs.CoordinatorLog.{CoordinatorLog}
use Rattle.salt_stands.specs.LogDevices.{IsPartitionLog, IsStoreLog}
use Rattle.salt_stands.specs.OpenConts.{conts_of_move, make_move}
use Rattle.salt_stands.specs.Partition.{HoldsPages, pages_device}
use Rattle.salt_stands.specs.Pieces.{PartView, with_boot, with_decision, with_definition}
use Rattle.salt_stands.specs.Placed.{changes_at}
use Rattle.salt_stands.specs.Stands.{Found}
use Rattle.salt_values.specs.declared.change.Change.{Change}
use Rattle.salt_values.specs.declared.cont.Cont.{Cont}
use Rattle.salt_values.specs.declared.id.Id.{Id}
use Rattle.salt_values.specs.declared.value.Value.TheVariants.{Int, Null, Text}
use Rattle.salt_values.specs.declared.value.Value.{Value}
use Rattle.salt_place.specs.declared.placement.Shape.{Shape}
use Rattle.std.proofs.Common.{Bool, Err, IsTrue, List, None, Ok, OnOk, Option, Result, Some, [], ap, arith, inl, inr, length, false, refl, subst, suc, sym, true, zero, ℕ, ◌+◌, ◌++◌, ◌<◌, ◌≡◌, ◌≤◌, ◌⊎◌, ◌∙◌, ◌∷◌}
use Rattle.std.proofs.lemmas.Option.{slice_get_within}
use Rattle.std.specs.List.{list_all}
use Rattle.std.specs.Prelude.{slice_get}

pub ok_maps : {T E P Q : Type 0} (r : Result T E) → (P → Q) → OnOk r P → OnOk r Q
ok_maps (Ok x) f h = f h
ok_maps (Err e) f h = tt

-- A STORE as salt_room has it
pub store_of : (d : View) (x : Store) (which : WhichLog) (c : Coordinator Definition) (v : ℕ → PartView) → IsStore reading d x which c v → IsStoreOf reading d x.decisions x.parts which c v
store_of d x which c v is = record { decisions = is.decisions; are = record { size = is.size; each = is.parts.each; ready = λ told. store_ready reading d x which c v is told } }

pub as_store : (d : View) (x : Store) → StandsOnDevices d x → StandAsStore d x.decisions x.parts
as_store d x s = record { r = reading; which = s.which; c = s.c; v = s.v; is = store_of d x s.which s.c s.v s.is }

pub from_store : (e : View) (y : Store) (which : WhichLog) (c : Coordinator Definition) (v : ℕ → PartView) → IsStoreOf reading e y.decisions y.parts which c v → IsStore reading e y which c v
from_store e y which c v is = record {
  decisions = is.decisions;
  size = is.are.size;
  parts = record { each = is.are.each };
  sound = λ told.
      let s = (is.are.ready told).stood in
      record { coordinator = s.coordinator.is; part = λ p low. (s.part p low).sound; rows = λ p low. rows_sound reading c p (v p).log (e.bytes (pages_device p)) (v p).rows (s.part p low).rows };
}

pub store_device : (n k dev : ℕ) → n ≡ k → IsOfStore n dev → IsStoreDevice k dev
store_device n k dev same (inl co) = inl (inl co)
store_device n k dev same (inr h) = by h.is
  where
    by : IsPartitionLog h.p dev ⊎ (dev ≡ pages_device h.p) → IsStoreLog k dev ⊎ IsPagesOf k dev
    by (inl log) = inl (inr (record { p = h.p; low = omega (arith, h.low, same); is = log }))
    by (inr pages) = inr (record { p = h.p; low = omega (arith, h.low, same); is = pages })

-- WHERE IT IS FULL, by what the devices tell

-- a partition's checkpoint
checkpoint_fills : (e : View) (parts : List Partition) (dev : ℕ) → IsTrue e.told → (long : CheckpointPassesLimit e parts dev) → CheckpointFills e long.p dev
checkpoint_fills e parts dev told long = by long.passes
  where
    by : ((dev ≡ pages_device long.p) × (e.limit dev < page_place (page_count long.part) 0))
        ⊎ (IsPartitionLog long.p dev × (e.limit dev < header_end (page_count long.part)) × (IsTrue e.told → HoldsPages (page_count long.part) (e.bytes (pages_device long.p)))) → CheckpointFills e long.p dev
    by (inl h) = inl h.0
    by (inr h) = inr (h.0, (page_count long.part, h.2 told, h.1))

-- all logs
pub new_logs_fill : (e : View) (x : Store) (dev : ℕ) → length x.parts ≡ (shape_of_store x).parts → IsTrue e.told → (which : WhichLog) (log : CoordinatorLog)
    → SnapshotPassesLimit e x.decisions which log dev ⊎ CheckpointPassesLimit e x.parts dev → NewLogsFill e (shape_of_store x) which log dev
new_logs_fill e x dev size told which log (inl s) = inl (record { conts = conts_in x.decisions; open_conts = s.open_conts; device = s.device; over = s.over })
new_logs_fill e x dev size told which log (inr long) = inr (long.p, omega (arith, slice_get_within x.parts long.p long.part long.at, size), checkpoint_fills e x.parts dev told long)

renewal_fills : (e : View) (x : Store) (dev : ℕ) → length x.parts ≡ (shape_of_store x).parts → IsTrue e.told → RenewalPassesLimit e x.decisions x.parts dev → RenewalFills e (shape_of_store x) dev
renewal_fills e x dev size told full =
    let r = full.1 in
    record {
      which = r.which;
      log = r.log;
      counts = r.counting.counts;
      entries = r.counting.entries;
      reads = r.counting.reads;
      many = omega (arith, full.0, r.counting.count);
      fills = new_logs_fill e x dev size told r.which r.log r.passes;
    }

full_where : (e : View) (x : Store) (shares : List (List Change)) (answer : Option DiskErr) → length x.parts ≡ (shape_of_store x).parts → IsTrue e.told → FullAtRoom e x.decisions x.parts shares answer
    → FullWhere (λ dev. RenewalFills e (shape_of_store x) dev ⊎ ShareRoomFills e (shape_of_store x).parts shares dev) answer
full_where e x shares None size told full = tt
full_where e x shares (Some Failed) size told full = tt
full_where e x shares (Some Stopped) size told full = tt
full_where e x shares (Some (Full dev)) size told full = by full
  where
    by : RoomPassesLimit e x.decisions x.parts shares dev → RenewalFills e (shape_of_store x) dev ⊎ ShareRoomFills e (shape_of_store x).parts shares dev
    by (inl all) = inl (renewal_fills e x dev size told all)
    by (inr room) =
        let long = room.checkpoint in
        inr (record { p = long.p; low = omega (arith, slice_get_within x.parts long.p long.part long.at, size); share = room.share; at = room.at; some = room.some; fills = checkpoint_fills e x.parts dev told long })
full_where e x shares (Some Memory) size told full = tt

pub room_made : (d e : View) (x y : Store) (shares : List (List Change)) (answer : Option DiskErr) → length x.parts ≡ (shape_of_store x).parts → room.MakesRoom d e x.decisions y.decisions x.parts y.parts shares answer → y.messages ≡ x.messages
    → HasMadeRoom d e x y shares answer
room_made d e x y shares answer many made messages = record {
  on = λ done which c v is.
      let z = made.on done reading which c v (store_of d x which c v is) in
      (record { which = z.which; coordinator = z.coordinator; views = z.views; as_if = z.as_if; tables = z.same.tables; nulls = z.same.nulls }, from_store e y z.which z.coordinator z.views z.is);
  images = λ which c v is told. made.images reading which c v told (store_of d x which c v is);
  room = made.room;
  numbers = made.numbers;
  shape = made.shape;
  messages = messages;
  others = keeps_wider (IsOfStore (length x.parts)) (IsStoreDevice (shape_of_store x).parts) d e answer (λ dev h. store_device (length x.parts) (shape_of_store x).parts dev many h) made.others;
  cause = made.cause;
  full = λ told. full_where e x shares answer many (made.others.shape.told ∙ told) (made.full told);
}

-- where no room could be made
no_share : (p : ℕ) (share : List Change) → slice_get [] p ≡ Some share → ⊥
no_share p share at = cc at

pub room_full : (e : View) (x : Store) (entry : CoordinatorLog → CoordinatorEntry) (answer : Option DiskErr) → FullWhere (λ dev. RenewalFills e (shape_of_store x) dev ⊎ ShareRoomFills e (shape_of_store x).parts [] dev) answer
    → FullWhere (EntryOrRoomFills e (shape_of_store x) entry) answer
room_full e x entry answer full = full_maps (λ dev. RenewalFills e (shape_of_store x) dev ⊎ ShareRoomFills e (shape_of_store x).parts [] dev) (EntryOrRoomFills e (shape_of_store x) entry) answer by full
  where
    by : (dev : ℕ) → RenewalFills e (shape_of_store x) dev ⊎ ShareRoomFills e (shape_of_store x).parts [] dev → EntryOrRoomFills e (shape_of_store x) entry dev
    by dev (inl all) = inr all
    by dev (inr room) = absurd (no_share room.p room.share room.at)

-- a share that is there is the partition's
share_there : (shares : List (List Change)) (p : ℕ) (share : List Change) → slice_get shares p ≡ Some share → share_at shares p ≡ share
share_there [] p share at = absurd (no_share p share at)
share_there (s ∷ ss) zero share at = cc at
share_there (s ∷ ss) (suc p) share at = share_there ss p share at

some_change : (cs : List Change) → 0 < length cs → is_empty cs ≡ false
some_change [] some = absurd (omega (arith, some))
some_change (c ∷ cs) some = refl

pub room_commit : (e : View) (x : Store) (u : Id) (cs : List Change) (mv : List ℕ) (shares : List (List Change)) → shares ≡ shares_in x cs → (answer : Option DiskErr)
    → FullWhere (λ dev. RenewalFills e (shape_of_store x) dev ⊎ ShareRoomFills e (shape_of_store x).parts shares dev) answer → FullWhere (CommitFills e (shape_of_store x) u cs mv) answer
room_commit e x u cs mv shares same answer full = full_maps (λ dev. RenewalFills e (shape_of_store x) dev ⊎ ShareRoomFills e (shape_of_store x).parts shares dev) (CommitFills e (shape_of_store x) u cs mv) answer by full
  where
    by : (dev : ℕ) → RenewalFills e (shape_of_store x) dev ⊎ ShareRoomFills e (shape_of_store x).parts shares dev → CommitFills e (shape_of_store x) u cs mv dev
    by dev (inl all) = inl (inr all)
    by dev (inr room) =
        let mine = sym (share_there shares room.p room.share room.at) ∙ ap (λ (ss : List (List Change)). share_at ss room.p) same ∙ share_is (shape_of_store x) cs room.p room.low in
        inr (inr (inr (room.p, room.low, ap is_empty (sym mine) ∙ some_change room.share room.some, room.fills)))

-- the coordinator's log is a device of the store
pub entry_device : (m : View) (y : Store) (which : WhichLog) (c : Coordinator Definition) (v : ℕ → PartView) → IsStore reading m y which c v → (e : View) (answer : Option DiskErr) → KeepsOthers (coordinator_device y) m e answer → KeepsBut (IsStoreDevice (shape_of_store y).parts) m e answer
entry_device m y which c v is e answer keeps = keeps_wider (λ dev. dev ≡ coordinator_device y) (IsStoreDevice (shape_of_store y).parts) m e answer (λ dev same. by which dev (same ∙ is.decisions.counting.device)) keeps
  where
    by : (w : WhichLog) (dev : ℕ) → dev ≡ device_of 0 w → IsStoreDevice (shape_of_store y).parts dev
    by LogA dev same = inl (inl (inl same))
    by LogB dev same = inl (inl (inr same))

-- BEHIND IT
module _ (d m : View) (x y : Store) (shares : List (List Change)) (made : HasMadeRoom d m x y shares None) where
  pub stands_on : StandsOnDevices d x → StandsOnDevices m y
  stands_on s = let g = made.on refl s.which s.c s.v s.is in record { which = g.0.which; c = g.0.coordinator; v = g.0.views; is = g.1 }

  pub others_on : (e : View) (answer : Option DiskErr) → KeepsBut (IsStoreDevice (shape_of_store y).parts) m e answer → KeepsBut (IsStoreDevice (shape_of_store x).parts) d e answer
  others_on e answer second = keeps_on (IsStoreDevice (shape_of_store x).parts) d m e answer made.others (subst (λ (s : Shape). KeepsBut (IsStoreDevice s.parts) m e answer) made.shape second)

-- ANOTHER GENERATION is found as the one before
module _ (c : Coordinator Definition) (v : ℕ → PartView) (g : Generation c v) where
  abbrev co : Coordinator Definition
  co = g.coordinator

  same_boot : co.log.told.boot ≡ c.log.told.boot
  same_boot = ap (λ (f : Found Definition). f.kept.boot) g.as_if.found

  same_decisions : co.log.told.decisions ≡ c.log.told.decisions
  same_decisions = ap (λ (f : Found Definition). f.kept.decisions) g.as_if.found

  same_definitions : co.definitions ≡ c.definitions
  same_definitions = ap (λ (f : Found Definition). f.kept.definitions) g.as_if.found

  same_conts : co.conts ≡ c.conts
  same_conts = ap (λ (f : Found Definition). f.kept.conts) g.as_if.found

  same_format : co.log.header.format ≡ c.log.header.format
  same_format = ap (λ (f : Found Definition). f.format) g.as_if.found

  same_shape : co.log.header.shape ≡ c.log.header.shape
  same_shape = ap (λ (f : Found Definition). f.shape) g.as_if.found

  pub boot_on : (e : View) → StandForEither reading e (found_of co g.views) (found_of (with_boot co) g.views) → StandForEither reading e (found_of c v) (found_of (with_boot c) v)
  boot_on e = subst (λ (f : Found Definition). StandForEither reading e f (record f { kept = record f.kept { boot = f.kept.boot + 1 } })) g.as_if.found

  -- A DEFINITION
  module _ (text : List ℕ) (def : Definition) where
    pub may_define_on : MayDefine reading c text def → MayDefine reading co text def
    may_define_on may = record { reads = may.reads; accepted = ap (λ (ds : List Definition). reading.is_refused ds def) same_definitions ∙ may.accepted }

    pub definition_on : (e : View) → StandForEither reading e (found_of co g.views) (found_of (with_definition co (next_text co text) def) g.views) → StandForEither reading e (found_of c v) (found_of (with_definition c (next_text c text) def) v)
    definition_on e = subst (λ (f : Found Definition). StandForEither reading e f (record f { kept = record f.kept { decisions = f.kept.decisions + 1; definitions = f.kept.definitions ++ def ∷ [] } })) g.as_if.found

-- what can be put where NULL is not spelled can be put where it is
stands_more : (a b : Bool) → (a ≡ true → b ≡ true) → (vs : List Value) → Every (MayStand a) vs → Every (MayStand b) vs
stands_more a b more [] each = tt
stands_more a b more (Int z ∷ vs) each = (tt, stands_more a b more vs each.1)
stands_more a b more (Text t ∷ vs) each = (tt, stands_more a b more vs each.1)
stands_more a b more (Null ∷ vs) each = (more each.0, stands_more a b more vs each.1)

put_more : (a b : Bool) → (a ≡ true → b ≡ true) → (key : Value) (row : Option (List Value)) → IsPutTo a key row → IsPutTo b key row
put_more a b more key None h = h
put_more a b more key (Some row) h = (h.0, h.1, stands_more a b more row h.2)

all_put : (a b : Bool) → (a ≡ true → b ≡ true) → (cs : List Change) → Every (CanBePut a) cs → Every (CanBePut b) cs
all_put a b more [] each = tt
all_put a b more (ch ∷ cs) each = (put_more a b more ch.key ch.row each.0, all_put a b more cs each.1)

-- A UNIT
module _ (told : Bool) (c : Coordinator Definition) (v : ℕ → PartView) (g : Generation c v) (u : Id) (cs : List Change) (mv : List ℕ) (m : Move) (conts : List Cont) where
  abbrev at : Coordinator Definition
  at = g.coordinator

  fits_same : list_all (fits_its_part reading at) cs ≡ list_all (fits_its_part reading c) cs
  fits_same =
      ap (λ (ds : List Definition). list_all (fits_its_part reading (record at { definitions = ds })) cs) (same_definitions c v g)
      ∙ ap (λ (s : Shape). list_all (fits_its_part reading (record at { definitions = c.definitions; log = record at.log { header = record at.log.header { shape = s } } })) cs) (same_shape c v g)

  named_same : list_all (is_sound_cont reading at.definitions (with_decision at (next_decision at u cs mv) conts).log.told) (conts_of_move (Some m))
      ≡ list_all (is_sound_cont reading c.definitions (with_decision c (next_decision c u cs mv) conts).log.told) (conts_of_move (Some m))
  named_same =
      ap (λ (ds : List Definition). list_all (is_sound_cont reading ds (with_decision at (next_decision at u cs mv) conts).log.told) (conts_of_move (Some m))) (same_definitions c v g)
      ∙ ap (λ (n : ℕ). list_all (is_sound_cont reading c.definitions (record (with_decision at (next_decision at u cs mv) conts).log.told { boot = n })) (conts_of_move (Some m))) (same_boot c v g)
      ∙ ap (λ (n : ℕ). list_all (is_sound_cont reading c.definitions (record (with_decision at (next_decision at u cs mv) conts).log.told { boot = c.log.told.boot; decisions = n + 1 })) (conts_of_move (Some m))) (same_decisions c v g)

  pub may_commit_on : MayCommitUnit told reading c v u cs mv m conts → MayCommitUnit told reading at g.views u cs mv m conts
  may_commit_on may =
      let names = g.as_if.names u (record { fresh = may.fresh; new = may.new }) in
      record {
        boot = λ now. subst (λ (n : ℕ). u.boot ≤ n) (sym (same_boot c v g)) (may.boot now);
        fresh = names.fresh;
        new = names.new;
        ordered = may.ordered;
        fits = λ now. fits_same ∙ may.fits now;
        put = λ p low.
            let was : p < partition_count c = omega (arith, low, g.as_if.parts) in
            all_put (has_nulls (v p).log.header.format) (has_nulls (g.views p).log.header.format) (g.nulls p was) (changes_at at.log.header.shape p cs)
            (subst (λ (s : Shape). Every (CanBePut (has_nulls (v p).log.header.format)) (changes_at s p cs)) (sym (same_shape c v g)) (may.put p was));
        spells = λ now. ap (λ (n : ℕ). move_in n mv) (same_format c v g) ∙ may.spells now;
        moves = λ now. ap (λ (l : List Cont). make_move l m) (same_conts c v g) ∙ may.moves now;
        named = λ now. named_same ∙ may.named now;
      }

  pub commit_on : (e : View) → StandForEither reading e (found_of at g.views) (found_after at g.views cs (next_decision at u cs mv) conts) → StandForEither reading e (found_of c v) (found_after c v cs (next_decision c u cs mv) conts)
  commit_on e =
      subst (λ (f : Found Definition). StandForEither reading e f (record f { kept = record f.kept { decisions = f.kept.decisions + 1; tables = with_changes cs f.kept.tables; conts = conts } })) g.as_if.found

-- behind room a unit may be committed as before
pub stands_to_commit : (d m : View) (x y : Store) (shares : List (List Change)) (made : HasMadeRoom d m x y shares None) (u : Id) (cs : List Change) (mv : List ℕ) → StandsToCommit d x u cs mv → StandsToCommit m y u cs mv
stands_to_commit d m x y shares made u cs mv s =
    let g = made.on refl s.which s.c s.v s.is in
    record {
      which = g.0.which;
      c = g.0.coordinator;
      v = g.0.views;
      m = s.m;
      conts = s.conts;
      is = g.1;
      may = may_commit_on m.told s.c s.v g.0 u cs mv s.m s.conts (subst (λ (b : Bool). MayCommitUnit b reading s.c s.v u cs mv s.m s.conts) (sym made.others.shape.told) s.may);
    }
