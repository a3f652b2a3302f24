-- Room is made: nothing is done, or partitions are checkpointed, and all logs may begin new generations behind that.
use Rattle.law_generations.proofs.AsIf.{as_if_on, as_if_same}
use Rattle.salt_bytes.specs.Generations.{WhichLog}
use Rattle.salt_bytes.specs.Page.{page_place}
use Rattle.salt_checkpoint.specs.Checkpoints.{StandsAlways}
use Rattle.salt_decisions.specs.Decisions.{conts_in, count_in, numbers_in, shape_of}
use Rattle.salt_decisions.specs.declared.decisions.Decisions.{Decisions}
use Rattle.salt_disk.proofs.CallAfterCall.{cause_none, cause_on, keeps_on, keeps_wider, same_shape}
use Rattle.salt_disk.specs.Disks.{HasCause, KeepsBut, View}
use Rattle.salt_disk.specs.declared.disks.DiskErr.TheVariants.{Failed, Full, Memory, Stopped}
use Rattle.salt_disk.specs.declared.disks.DiskErr.{DiskErr}
use Rattle.salt_model.specs.Kept.{Definition}
use Rattle.salt_paged.specs.Checkpoints.{header_end}
use Rattle.salt_paged.specs.declared.partition.Partition.{Partition}
use Rattle.salt_room.proofs.Begun.{as_if_stands, ready_stands, same_on, same_tables}
use Rattle.salt_room.proofs.Lists.{some_at}
use Rattle.salt_room.proofs.Long.{long_share, number_is, too_long}
use Rattle.salt_room.proofs.Renewed.{decisions_on}
use Rattle.salt_room.specs.Making.{CheckpointPassesLimit, FullAtRoom, GoesOn, HasRoom, IsFullAtRenewal, MakesRoom, RoomPassesLimit, SnapshotPassesLimit, most_entries}
use Rattle.salt_room.specs.Renewals.{IsOfStore, IsRenewed, IsStoreOf, StandAsStore, renewed}
use Rattle.salt_room.specs.Rooms.{ArePartsOf, FullAtShare, GoOn, HaveSamePages, IsOfPart}
use Rattle.salt_stands.specs.Coordinator.{Coordinator}
use Rattle.salt_stands.specs.LogDevices.{IsPartitionLog}
use Rattle.salt_stands.specs.Partition.{HoldsPages, pages_device}
use Rattle.salt_stands.specs.Pieces.{PartView, other_log}
use Rattle.salt_stands.specs.Reading.{Reading}
use Rattle.salt_values.specs.declared.change.Change.{Change}
use Rattle.std.proofs.Common.{Err, IsTrue, List, None, Ok, OnOk, Option, Result, Some, [], arith, inl, inr, length, refl, subst, sym, ℕ, ◌<◌, ◌≡◌, ◌≤◌, ◌⊎◌, ◌∙◌}
use Rattle.std.proofs.lemmas.Option.{slice_get_within}
use Rattle.std.specs.Prelude.{slice_get}
use Rattle.std.specs.Result.{result_err}

pub when_ok : {T E P : Type 0} (r : Result T E) → OnOk r P → result_err r ≡ None → P
when_ok (Ok x) h done = h
when_ok (Err e) h done = cc

pub ok_maps : {T E P Q : Type 0} (r : Result T E) → (P → Q) → OnOk r P → OnOk r Q
ok_maps (Ok x) f h = f h
ok_maps (Err e) f h = tt

no_error : {A : Type 0} (e : A) → Some e ≡ None → ⊥
no_error e h = cc

-- WHERE IT IS FULL

full_of_share : (d e : View) (x : Decisions) (parts : List Partition) (shares : List (List Change)) (answer : Option DiskErr) → StandAsStore d x parts → FullAtShare e parts shares answer → FullAtRoom e x parts shares answer
full_of_share d e x parts shares None stand full = tt
full_of_share d e x parts shares (Some Failed) stand full = tt
full_of_share d e x parts shares (Some Stopped) stand full = tt
full_of_share d e x parts shares (Some Memory) stand full = tt
full_of_share d e x parts shares (Some (Full dev)) stand full =
    inr (record { checkpoint = too_long e parts (number_is d x parts stand) dev full.long; share = full.share; at = long_share e parts (number_is d x parts stand) dev full.long shares full.share full.at; some = full.some })

full_at_renewal : {T : Type 0} (e : View) (x : Decisions) (parts : List Partition) (answer : Result T DiskErr) → most_entries < count_in x → ((dev : ℕ) → answer ≡ Err (Full dev) → IsFullAtRenewal e x parts dev) → FullAtRoom e x parts [] (result_err answer)
full_at_renewal e x parts (Ok y) many passes = tt
full_at_renewal e x parts (Err Failed) many passes = tt
full_at_renewal e x parts (Err Stopped) many passes = tt
full_at_renewal e x parts (Err Memory) many passes = tt
full_at_renewal e x parts (Err (Full dev)) many passes = inl (many, passes dev refl)

-- partitions that have as many pages are too long where those are
as_long : (e : View) (parts mid : List Partition) (dev : ℕ) → length mid ≡ length parts → HaveSamePages parts mid → CheckpointPassesLimit e mid dev → CheckpointPassesLimit e parts dev
as_long e parts mid dev size pages long =
    let old = some_at parts long.p (omega (arith, slice_get_within mid long.p long.part long.at, size)) in
    record {
      p = long.p;
      part = old.0;
      at = old.1;
      passes = subst (λ (n : ℕ). ((dev ≡ pages_device long.p) × (e.limit dev < page_place n 0)) ⊎ (IsPartitionLog long.p dev × (e.limit dev < header_end n) × (IsTrue e.told → HoldsPages n (e.bytes (pages_device long.p)))))
          (pages.each long.p old.0 long.part old.1 long.at) long.passes;
    }

no_share : (p : ℕ) (share : List Change) → slice_get [] p ≡ Some share → ⊥
no_share p share at = cc at

full_on : (e : View) (x : Decisions) (parts mid : List Partition) (shares : List (List Change)) (answer : Option DiskErr) → length mid ≡ length parts → HaveSamePages parts mid → FullAtRoom e x mid [] answer → FullAtRoom e x parts shares answer
full_on e x parts mid shares None size pages full = tt
full_on e x parts mid shares (Some Failed) size pages full = tt
full_on e x parts mid shares (Some Stopped) size pages full = tt
full_on e x parts mid shares (Some Memory) size pages full = tt
full_on e x parts mid shares (Some (Full dev)) size pages full = by full
  where
    by : RoomPassesLimit e x mid [] dev → RoomPassesLimit e x parts shares dev
    by (inl (many, long)) = inl (many, record { which = long.which; log = long.log; counting = long.counting; passes = or long.passes })
      where
        or : SnapshotPassesLimit e x long.which long.log dev ⊎ CheckpointPassesLimit e mid dev → SnapshotPassesLimit e x long.which long.log dev ⊎ CheckpointPassesLimit e parts dev
        or (inl snapshot) = inl snapshot
        or (inr checkpoint) = inr (as_long e parts mid dev size pages checkpoint)
    by (inr room) = absurd (no_share room.checkpoint.p room.share room.at)

-- NOTHING is done
pub nothing_made : (d : View) (x : Decisions) (parts : List Partition) → HasRoom x → MakesRoom d d x x parts parts [] None
nothing_made d x parts room = record {
  on = λ done r which c v is. record { which = which; coordinator = c; views = v; as_if = as_if_same c v; same = same_tables c v; is = is };
  images = λ r which c v told is. ready_stands r d which c v (is.are.ready told);
  room = λ done. room;
  numbers = refl;
  shape = refl;
  size = refl;
  others = record { shape = same_shape d; kept = λ dev other. record { bytes = refl; images = λ image left. left }; images = λ dev other image left. left };
  cause = cause_none d;
  full = λ told. tt;
}

-- ALL LOGS begin new generations
module _ {T : Type 0} (d e : View) (x y : Decisions) (parts now : List Partition) (answer : Result T DiskErr) (stand : StandAsStore d x parts)
    (ok : (r : Reading Definition) (which : WhichLog) (c : Coordinator Definition) (v : ℕ → PartView) → IsStoreOf r d x parts which c v → OnOk answer (IsRenewed r e y now (conts_in x) which c v))
    (entries : OnOk answer (count_in y ≡ 1))
    (images : (r : Reading Definition) (which : WhichLog) (c : Coordinator Definition) (v : ℕ → PartView) → IsTrue d.told → IsStoreOf r d x parts which c v → StandsAlways r e c v)
    (numbers : numbers_in y ≡ numbers_in x) (shape : shape_of y ≡ shape_of x) (size : length now ≡ length parts) (others : KeepsBut (IsOfStore (length parts)) d e (result_err answer)) (cause : HasCause d e (result_err answer))
    (many : most_entries < count_in x) (passes : (dev : ℕ) → answer ≡ Err (Full dev) → IsTrue d.told → IsFullAtRenewal e x parts dev) where
  goes : (r : Reading Definition) (which : WhichLog) (c : Coordinator Definition) (v : ℕ → PartView) → IsRenewed r e y now (conts_in x) which c v → GoesOn r e y now c v
  goes r which c v z = record { which = other_log which; coordinator = renewed c (conts_in x); views = z.view; as_if = z.as_if; same = z.same; is = z.is }

  pub renewal_made : MakesRoom d e x y parts now [] (result_err answer)
  renewal_made = record {
    on = λ done r which c v is. goes r which c v (when_ok answer (ok r which c v is) done);
    images = images;
    room = λ done newest. subst (λ (k : ℕ). k ≤ most_entries) (sym (when_ok answer entries done)) (omega arith);
    numbers = numbers;
    shape = shape;
    size = size;
    others = others;
    cause = cause;
    full = λ told. full_at_renewal e x parts answer many (λ dev is. passes dev is told);
  }

-- PARTITIONS are checkpointed, with an error
pub checkpoints_fail : (d e : View) (x : Decisions) (parts now : List Partition) (shares : List (List Change)) (k : DiskErr) → StandAsStore d x parts
    → ((r : Reading Definition) (which : WhichLog) (c : Coordinator Definition) (v : ℕ → PartView) → IsTrue d.told → ArePartsOf r d parts which c v → StandsAlways r e c v)
    → length now ≡ length parts → KeepsBut (IsOfPart (length parts)) d e (Some k) → HasCause d e (Some k) → FullAtShare e parts shares (Some k) → MakesRoom d e x x parts now shares (Some k)
checkpoints_fail d e x parts now shares k stand images size others cause full = record {
  on = λ done. absurd (no_error k done);
  images = λ r which c v told is. images r which c v told is.are;
  room = λ done. absurd (no_error k done);
  numbers = refl;
  shape = refl;
  size = size;
  others = keeps_wider (IsOfPart (length parts)) (IsOfStore (length parts)) d e (Some k) (λ dev h. inr h) others;
  cause = cause;
  full = λ told. full_of_share d e x parts shares (Some k) stand full;
}

-- or they are, and more room is made behind that
module _ (d m e : View) (x y : Decisions) (parts mid now : List Partition) (answer : Option DiskErr)
    (on : (r : Reading Definition) (which : WhichLog) (c : Coordinator Definition) (v : ℕ → PartView) → ArePartsOf r d parts which c v → GoOn r m mid which c v)
    (pages : HaveSamePages parts mid) (size : length mid ≡ length parts) (keeps : KeepsBut (IsOfPart (length parts)) d m None) (cause : HasCause d m None) where
  module _ (r : Reading Definition) (which : WhichLog) (c : Coordinator Definition) (v : ℕ → PartView) (is : IsStoreOf r d x parts which c v) where
    pub store_between : IsStoreOf r m x mid which c (on r which c v is.are).view
    store_between = record { decisions = decisions_on (length parts) d m x which c keeps is.decisions; are = (on r which c v is.are).are }

  module _ (second : MakesRoom m e x y mid now [] answer) where
    goes_on : answer ≡ None → (r : Reading Definition) (which : WhichLog) (c : Coordinator Definition) (v : ℕ → PartView) → IsStoreOf r d x parts which c v → GoesOn r e y now c v
    goes_on done r which c v is =
        let g = on r which c v is.are in
        let z = second.on done r which c g.view (store_between r which c v is) in
        record {
          which = z.which;
          coordinator = z.coordinator;
          views = z.views;
          as_if = as_if_on c c z.coordinator v g.view z.views g.as_if z.as_if;
          same = same_on c c z.coordinator v g.view z.views refl g.same z.same;
          is = z.is;
        }

    pub room_made : (shares : List (List Change)) → MakesRoom d e x y parts now shares answer
    room_made shares = record {
      on = goes_on;
      images = λ r which c v told is.
          let g = on r which c v is.are in
          as_if_stands r e c v g.view g.as_if (second.images r which c g.view (keeps.shape.told ∙ told) (store_between r which c v is));
      room = second.room;
      numbers = second.numbers;
      shape = second.shape;
      size = second.size ∙ size;
      others = keeps_on (IsOfStore (length parts)) d m e answer (keeps_wider (IsOfPart (length parts)) (IsOfStore (length parts)) d m None (λ dev h. inr h) keeps) (subst (λ (n : ℕ). KeepsBut (IsOfStore n) m e answer) size second.others);
      cause = cause_on d m e answer cause second.cause;
      full = λ told. full_on e x parts mid shares answer size pages (second.full (keeps.shape.told ∙ told));
    }
