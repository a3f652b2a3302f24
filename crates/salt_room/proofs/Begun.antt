-- Partitions are checkpointed, one after another.
use Rattle.law_generations.proofs.AsIf.{as_if_on, as_if_same, checkpoint_as_if}
use Rattle.law_generations.specs.AsIf.{IsAsIf}
use Rattle.salt_bytes.specs.Formats.{has_nulls}
use Rattle.salt_bytes.specs.Generations.{LogA, LogB, WhichLog}
use Rattle.salt_checkpoint.proofs.Snapshots.{unsnapped_stands}
use Rattle.salt_checkpoint.specs.Checkpoints.{IsReady, StandsAlways}
use Rattle.salt_disk.proofs.CallAfterCall.{cause_none, cause_on, keeps_on, keeps_wider, same_shape}
use Rattle.salt_disk.specs.Disks.{HasCause, KeepsBut, View}
use Rattle.salt_disk.specs.declared.disks.DiskErr.TheVariants.{Failed, Full, Memory, Stopped}
use Rattle.salt_disk.specs.declared.disks.DiskErr.{DiskErr}
use Rattle.salt_model.specs.Kept.{Definition}
use Rattle.salt_paged.specs.Checkpoints.{FullAtCheckpoint, IsCheckpointed, IsTouched, StandsBehind, StandsUnder}
use Rattle.salt_paged.specs.Partitions.{IsCheckpointOf, IsPartition, page_count}
use Rattle.salt_paged.specs.declared.partition.Partition.{Partition}
use Rattle.salt_room.proofs.Apart.{of_part, other_kept}
use Rattle.salt_room.proofs.Lists.{if_each, if_some, set_other, set_same}
use Rattle.salt_room.specs.Rooms.{ArePartsOf, EachStands, FullAtOne, FullAtShare, GoOn, GoOnEmpty, HaveSamePages, HaveSameTables, IsOfPart, StandsAs}
use Rattle.salt_stands.proofs.Generations.{checkpoint_tables}
use Rattle.salt_stands.specs.Commits.{each_tables, partition_count, with_view}
use Rattle.salt_stands.specs.Coordinator.{Coordinator, decided_for, device_of}
use Rattle.salt_stands.specs.Pieces.{PartView, next_part_header, other_log, tables_at_part}
use Rattle.salt_stands.specs.Reading.{Reading}
use Rattle.salt_stands.specs.Stands.{Found}
use Rattle.salt_values.specs.declared.id.Id.{Id}
use Rattle.std.proofs.Common.{Bool, IsTrue, List, None, Ok, Option, Some, [], ap, arith, false, get_or, inl, inr, length, refl, slice_set, subst, sym, true, ℕ, ◌+◌, ◌<◌, ◌≡◌, ◌≢◌, ◌≤◌, ◌⊎◌, ◌∙◌}
use Rattle.std.proofs.lemmas.Bool.{cases_eq, eq-eqb, ne_eqb}
use Rattle.std.proofs.lemmas.List.{length-set}
use Rattle.std.proofs.lemmas.Option.{slice_get_read}
use Rattle.salt_values.specs.declared.change.Change.{Change}
use Rattle.std.specs.Prelude.{IfSome, if◌then◌else◌, slice_get}

-- what stands for the one stands for the other
pub as_if_stands : (r : Reading Definition) (d : View) (c : Coordinator Definition) (v w : ℕ → PartView) → IsAsIf c v c w → StandsAlways r d c w → StandsAlways r d c v
as_if_stands r d c v w same stands asked image is = stands asked image is ∙ ap (λ (f : Found Definition). Ok f) same.found

-- EACH PARTITION'S TABLES, in one generation and then in another
pub same_tables : (c : Coordinator Definition) (v : ℕ → PartView) → HaveSameTables c v c v
same_tables c v = record { tables = λ p low. refl; nulls = λ p low spells. spells }

pub same_on : (c c1 c2 : Coordinator Definition) (v v1 v2 : ℕ → PartView) → partition_count c1 ≡ partition_count c → HaveSameTables c v c1 v1 → HaveSameTables c1 v1 c2 v2 → HaveSameTables c v c2 v2
same_on c c1 c2 v v1 v2 parts first second = record {
  tables = λ p low. second.tables p (omega (arith, low, parts)) ∙ first.tables p low;
  nulls = λ p low spells. second.nulls p (omega (arith, low, parts)) (first.nulls p low spells);
}

-- ONE PARTITION
module _ (r : Reading Definition) (d e : View) (parts : List Partition) (n : ℕ) (x y : Partition) (which : WhichLog) (c : Coordinator Definition) (v : ℕ → PartView) (at : slice_get parts n ≡ Some x) (within : n < length parts)
    (are : ArePartsOf r d parts which c v) where
  abbrev us : List Id
  us = decided_for n c.log.told.decided

  pub own : IsPartition d x n (v n) us
  own = if_some (slice_get parts n) x (λ z. IsPartition d z n (v n) us) at (are.each n)

  pub under : IsTrue d.told → StandsUnder r d x which c v
  under told = record {
    below = omega (arith, own.part, within, are.size);
    ready = are.ready told;
    is = subst (λ (k : ℕ). IsPartition d x k (v k) (decided_for k c.log.told.decided)) (sym own.part) own;
  }

  module _ (others : KeepsBut (IsTouched x) d e None) (w : PartView) (made : IsCheckpointOf us (v n) w) (is : (applied : List Id) → IsPartition e y n w applied) (ready : IsTrue d.told → IsReady r e which c (with_view n w v)) where
    abbrev after : List Partition
    after = slice_set parts n y

    abbrev views : ℕ → PartView
    views = with_view n w v

    view_here : views n ≡ w
    view_here = ap (λ b. if b then w else v n) (eq-eqb n n refl)

    views_there : (q : ℕ) → q ≢ n → views q ≡ v q
    views_there q other = ap (λ b. if b then w else v q) (ne_eqb q n other)

    each : (q : ℕ) → (q ≡ n) ⊎ (q ≢ n) → IfSome (slice_get after q) (λ z. IsPartition e z q (views q) (decided_for q c.log.told.decided))
    each q (inl same) =
        subst (λ (k : ℕ). IfSome (slice_get after k) (λ z. IsPartition e z k (views k) (decided_for k c.log.told.decided))) (sym same)
        (subst (λ o. IfSome o (λ z. IsPartition e z n (views n) us)) (sym (set_same parts n y within)) (subst (λ (u : PartView). IsPartition e y n u us) (sym view_here) (is us)))
    each q (inr other) =
        subst (λ o. IfSome o (λ z. IsPartition e z q (views q) (decided_for q c.log.told.decided))) (sym (set_other parts n q y other))
        (if_each (slice_get parts q) (λ z. IsPartition d z q (v q) (decided_for q c.log.told.decided)) (λ z. IsPartition e z q (views q) (decided_for q c.log.told.decided))
        (λ z found stood. subst (λ (u : PartView). IsPartition e z q u (decided_for q c.log.told.decided)) (sym (views_there q other)) (other_kept x q (λ same. other (same ∙ own.part)) d e z (v q) (decided_for q c.log.told.decided) others stood))
        (are.each q))

    pub parts_now : ArePartsOf r e after which c views
    parts_now = record {
      size = length-set parts n y ∙ are.size;
      each = λ q. each q (cases_eq q n);
      ready = λ told. ready (sym others.shape.told ∙ told);
    }

    pub as_if_now : IsAsIf c v c views
    as_if_now = subst (λ (u : PartView). IsAsIf c v c (with_view n u v)) (sym made.is) (checkpoint_as_if r c v n (next_part_header (v n) 2 made.sides) made.rows made.same)

    pub none_here : (views n).log.prepared ≡ []
    none_here = ap (λ (u : PartView). u.log.prepared) (view_here ∙ made.is)

    pub format_here : (views n).log.header.format ≡ 2
    format_here = ap (λ (u : PartView). u.log.header.format) (view_here ∙ made.is)

    pub same_there : (q : ℕ) → q ≢ n → views q ≡ v q
    same_there = views_there

    tables : (q : ℕ) → (q ≡ n) ⊎ (q ≢ n) → each_tables c views q ≡ each_tables c v q
    tables q (inl same) =
        subst (λ (k : ℕ). each_tables c views k ≡ each_tables c v k) (sym same)
        (ap (tables_at_part c n) (view_here ∙ made.is) ∙ checkpoint_tables r c n (v n) (next_part_header (v n) 2 made.sides) made.rows made.same)
    tables q (inr other) = ap (tables_at_part c q) (views_there q other)

    nulls : (q : ℕ) → (q ≡ n) ⊎ (q ≢ n) → has_nulls (v q).log.header.format ≡ true → has_nulls (views q).log.header.format ≡ true
    nulls q (inl same) spells = subst (λ (k : ℕ). has_nulls (views k).log.header.format ≡ true) (sym same) (ap has_nulls format_here)
    nulls q (inr other) spells = ap (λ (u : PartView). has_nulls u.log.header.format) (views_there q other) ∙ spells

    pub same_now : HaveSameTables c v c views
    same_now = record { tables = λ q low. tables q (cases_eq q n); nulls = λ q low. nulls q (cases_eq q n) }

-- THE VIEW BEHIND A CHECKPOINT, whether the disks tell or not
pub record Next (r : Reading Definition) (d e : View) (y : Partition) (n : ℕ) (which : WhichLog) (c : Coordinator Definition) (v : ℕ → PartView) : Type 0 where
  pub view : PartView
  pub made : IsCheckpointOf (decided_for n c.log.told.decided) (v n) view
  pub is : (applied : List Id) → IsPartition e y n view applied
  pub ready : IsTrue d.told → IsReady r e which c (with_view n view v)

pub next : (r : Reading Definition) (d e : View) (x y : Partition) (n : ℕ) (which : WhichLog) (c : Coordinator Definition) (v : ℕ → PartView) → IsCheckpointed d e y n (v n) (decided_for n c.log.told.decided) → (IsTrue d.told → StandsUnder r d x which c v)
    → (IsTrue d.told → StandsUnder r d x which c v → StandsBehind r e y which c v) → Next r d e y n which c v
next r d e x y n which c v ok under behind = by d.told refl
  where
    at : y.part ≡ n
    at = (ok.is []).part

    by : (told : Bool) → d.told ≡ told → Next r d e y n which c v
    by true told =
        let b = behind told (under told) in
        record {
          view = b.view;
          made = subst (λ (k : ℕ). IsCheckpointOf (decided_for k c.log.told.decided) (v k) b.view) at b.made;
          is = λ applied. subst (λ (k : ℕ). IsPartition e y k b.view applied) at (b.is applied);
          ready = λ now. subst (λ (k : ℕ). IsReady r e which c (with_view k b.view v)) at b.ready;
        }
    by false untold = record { view = ok.view; made = ok.made; is = ok.is; ready = λ now. absurd (differ (sym now ∙ untold)) }
      where
        differ : true ≡ false → ⊥
        differ e = cc

-- ONE AFTER ANOTHER

-- of the first n those from number `low` on have no prepared unit, and spell NULL
pub record AreBegun (low n : ℕ) (r : Reading Definition) (d : View) (parts : List Partition) (which : WhichLog) (c : Coordinator Definition) (v : ℕ → PartView) : Type 0 where
  pub on : GoOn r d parts which c v
  pub none : (p : ℕ) → low ≤ p → p < n → (on.view p).log.prepared ≡ []
  pub nulls : (p : ℕ) → low ≤ p → p < n → has_nulls (on.view p).log.header.format ≡ true
  pub format : IsTrue d.told → (p : ℕ) → low ≤ p → p < n → (on.view p).log.header.format ≡ 2

-- the others are as they were
pub record BegunSoFar (low : ℕ) (d0 d : View) (parts0 parts : List Partition) (n : ℕ) : Type 0 where
  pub size : length parts ≡ length parts0
  pub on : (r : Reading Definition) (which : WhichLog) (c : Coordinator Definition) (v : ℕ → PartView) → ArePartsOf r d0 parts0 which c v → AreBegun low n r d parts which c v
  pub rest : (p : ℕ) → n ≤ p → slice_get parts p ≡ slice_get parts0 p
  pub stand : EachStands d parts
  pub pages : HaveSamePages parts0 parts
  pub keeps : KeepsBut (IsOfPart (length parts0)) d0 d None
  pub cause : HasCause d0 d None

pub one_part : (x y : Partition) → Some x ≡ Some y → x ≡ y
one_part x y e = cc

pub none_begun : (low : ℕ) (d : View) (parts : List Partition) → EachStands d parts → BegunSoFar low d d parts parts 0
none_begun low d parts stand = record {
  size = refl;
  on = λ r which c v are. record {
    on = record { view = v; as_if = as_if_same c v; same = same_tables c v; are = are };
    none = λ p from below. absurd (omega (arith, below));
    nulls = λ p from below. absurd (omega (arith, below));
    format = λ told p from below. absurd (omega (arith, below));
  };
  rest = λ p high. refl;
  stand = stand;
  pages = record { each = λ p x y first second. ap page_count (one_part y x (sym second ∙ first)) };
  keeps = record { shape = same_shape d; kept = λ dev other. record { bytes = refl; images = λ image left. left }; images = λ dev other image left. left };
  cause = cause_none d;
}

module _ (low : ℕ) (d0 d : View) (parts0 parts : List Partition) (n : ℕ) (so_far : BegunSoFar low d0 d parts0 parts n) (x : Partition) (within : n < length parts) (read : x ≡ get_or parts n x) where
  pub here : slice_get parts n ≡ Some x
  here = slice_get_read parts (length parts) n x refl within read

  pub stands_here : StandsAs d n x
  stands_here = if_some (slice_get parts n) x (StandsAs d n) here (so_far.stand.each n)

  -- an error ends it: what stands is still what stood
  pub images_behind : (r : Reading Definition) (e : View) (which : WhichLog) (c : Coordinator Definition) (v : ℕ → PartView) → ArePartsOf r d0 parts0 which c v → IsTrue d0.told
      → ((v : ℕ → PartView) → IsTrue d.told → StandsUnder r d x which c v → StandsAlways r e c v) → StandsAlways r e c v
  images_behind r e which c v are told images =
      let on = (so_far.on r which c v are).on in
      let now : IsTrue d.told = so_far.keeps.shape.told ∙ told in
      as_if_stands r e c v on.view on.as_if (images on.view now (under r d d parts n x x which c on.view here within on.are now))

  own_devices : (dev : ℕ) → IsTouched x dev → IsOfPart (length parts0) dev
  own_devices = of_part x (length parts0) n stands_here.is.part (omega (arith, within, so_far.size))

  pub others_behind : (e : View) (answer : Option DiskErr) → KeepsBut (IsTouched x) d e answer → KeepsBut (IsOfPart (length parts0)) d0 e answer
  others_behind e answer others = keeps_on (IsOfPart (length parts0)) d0 d e answer so_far.keeps (keeps_wider (IsTouched x) (IsOfPart (length parts0)) d e answer own_devices others)

  module _ (e : View) (y : Partition) (others : KeepsBut (IsTouched x) d e None) (cause : HasCause d e None)
      (ok : (p : ℕ) (v : PartView) (applied : List Id) → IsPartition d x p v applied → IsCheckpointed d e y p v applied)
      (ready : (r : Reading Definition) (which : WhichLog) (c : Coordinator Definition) (v : ℕ → PartView) → IsTrue d.told → StandsUnder r d x which c v → StandsBehind r e y which c v) (as_many : page_count y ≡ page_count x) where
    module _ (r : Reading Definition) (which : WhichLog) (c : Coordinator Definition) (v : ℕ → PartView) (was : AreBegun low n r d parts which c v) where
      abbrev w : ℕ → PartView
      w = was.on.view

      one : Next r d e y n which c w
      one = next r d e x y n which c w (ok n (w n) (decided_for n c.log.told.decided) (own r d e parts n x y which c w here within was.on.are)) (under r d e parts n x y which c w here within was.on.are) (ready r which c w)

      abbrev now : ℕ → PartView
      now = with_view n one.view w

      there : (q : ℕ) → q ≢ n → now q ≡ w q
      there = same_there r d e parts n x y which c w here within was.on.are others one.view one.made one.is one.ready

      none : (p : ℕ) → low ≤ p → p < n + 1 → (p ≡ n) ⊎ (p ≢ n) → (now p).log.prepared ≡ []
      none p from below (inl same) = subst (λ (k : ℕ). (now k).log.prepared ≡ []) (sym same) (none_here r d e parts n x y which c w here within was.on.are others one.view one.made one.is one.ready)
      none p from below (inr other) = ap (λ (u : PartView). u.log.prepared) (there p other) ∙ was.none p from (omega (arith, below, other))

      format-now : (now n).log.header.format ≡ 2
      format-now = format_here r d e parts n x y which c w here within was.on.are others one.view one.made one.is one.ready

      spelled : (p : ℕ) → low ≤ p → p < n + 1 → (p ≡ n) ⊎ (p ≢ n) → has_nulls (now p).log.header.format ≡ true
      spelled p from below (inl same) = subst (λ (k : ℕ). has_nulls (now k).log.header.format ≡ true) (sym same) (ap has_nulls format-now)
      spelled p from below (inr other) = ap (λ (u : PartView). has_nulls u.log.header.format) (there p other) ∙ was.nulls p from (omega (arith, below, other))

      format : IsTrue d.told → (p : ℕ) → low ≤ p → p < n + 1 → (p ≡ n) ⊎ (p ≢ n) → (now p).log.header.format ≡ 2
      format told p from below (inl same) = subst (λ (k : ℕ). (now k).log.header.format ≡ 2) (sym same) format-now
      format told p from below (inr other) = ap (λ (u : PartView). u.log.header.format) (there p other) ∙ was.format told p from (omega (arith, below, other))

      on_next : AreBegun low (n + 1) r e (slice_set parts n y) which c v
      on_next = record {
        on = record {
          view = now;
          as_if = as_if_on c c c v w now was.on.as_if (as_if_now r d e parts n x y which c w here within was.on.are others one.view one.made one.is one.ready);
          same = same_on c c c v w now refl was.on.same (same_now r d e parts n x y which c w here within was.on.are others one.view one.made one.is one.ready);
          are = parts_now r d e parts n x y which c w here within was.on.are others one.view one.made one.is one.ready;
        };
        none = λ p from below. none p from below (cases_eq p n);
        nulls = λ p from below. spelled p from below (cases_eq p n);
        format = λ told p from below. format (sym others.shape.told ∙ told) p from below (cases_eq p n);
      }

    stands : StandsAs e n y
    stands = let s = stands_here in let b = ok n s.v s.applied s.is in record { v = b.view; applied = []; is = b.is [] }

    still_stands : (q : ℕ) → (q ≡ n) ⊎ (q ≢ n) → IfSome (slice_get (slice_set parts n y) q) (StandsAs e q)
    still_stands q (inl same) = subst (λ (k : ℕ). IfSome (slice_get (slice_set parts n y) k) (StandsAs e k)) (sym same) (subst (λ o. IfSome o (StandsAs e n)) (sym (set_same parts n y within)) stands)
    still_stands q (inr other) =
        subst (λ o. IfSome o (StandsAs e q)) (sym (set_other parts n q y other))
        (if_each (slice_get parts q) (StandsAs d q) (StandsAs e q) (λ z found s. record { v = s.v; applied = s.applied; is = other_kept x q (λ same. other (same ∙ stands_here.is.part)) d e z s.v s.applied others s.is }) (so_far.stand.each q))

    pages : (p : ℕ) (x0 z : Partition) → slice_get parts0 p ≡ Some x0 → slice_get (slice_set parts n y) p ≡ Some z → (p ≡ n) ⊎ (p ≢ n) → page_count z ≡ page_count x0
    pages p x0 z first second (inl same) =
        let is : y ≡ z = one_part y z (sym (set_same parts n y within) ∙ ap (λ (k : ℕ). slice_get (slice_set parts n y) k) (sym same) ∙ second) in
        ap page_count (sym is) ∙ as_many ∙ so_far.pages.each n x0 x (ap (λ (k : ℕ). slice_get parts0 k) (sym same) ∙ first) here
    pages p x0 z first second (inr other) = so_far.pages.each p x0 z first (sym (set_other parts n p y other) ∙ second)

    pub one_begun : BegunSoFar low d0 e parts0 (slice_set parts n y) (n + 1)
    one_begun = record {
      size = length-set parts n y ∙ so_far.size;
      on = λ r which c v are. on_next r which c v (so_far.on r which c v are);
      rest = λ p high. set_other parts n p y (λ same. omega (arith, high, same)) ∙ so_far.rest p (omega (arith, high));
      stand = record { each = λ q. still_stands q (cases_eq q n) };
      pages = record { each = λ p x0 z first second. pages p x0 z first second (cases_eq p n) };
      keeps = others_behind e None others;
      cause = cause_on d0 d e None so_far.cause cause;
    }

-- WHERE ONE IS TOO LONG, by devices e behind its checkpoint
module _ (low : ℕ) (d0 d e : View) (parts0 parts : List Partition) (n : ℕ) (so_far : BegunSoFar low d0 d parts0 parts n) (x : Partition) (within : n < length parts) (read : x ≡ get_or parts n x) where
  first_there : slice_get parts0 n ≡ Some x
  first_there = sym (so_far.rest n (omega arith)) ∙ here low d0 d parts0 parts n so_far x within read

  pub full_behind : (answer : Option DiskErr) → FullAtCheckpoint e x answer → FullAtOne e parts0 answer
  full_behind None full = tt
  full_behind (Some Failed) full = tt
  full_behind (Some Stopped) full = tt
  full_behind (Some Memory) full = tt
  full_behind (Some (Full dev)) full = record { p = n; part = x; at = first_there; full = full }

  -- of one that has a share
  pub full_of_share : (shares : List (List Change)) (share : List Change) → slice_get shares n ≡ Some share → 0 < length share → (answer : Option DiskErr) → FullAtCheckpoint e x answer → FullAtShare e parts0 shares answer
  full_of_share shares share at some None full = tt
  full_of_share shares share at some (Some Failed) full = tt
  full_of_share shares share at some (Some Stopped) full = tt
  full_of_share shares share at some (Some Memory) full = tt
  full_of_share shares share at some (Some (Full dev)) full = record { long = record { p = n; part = x; at = first_there; full = full }; share = share; at = at; some = some }

-- ALL OF THEM
pub all_begun : (d0 d : View) (parts0 parts : List Partition) (n : ℕ) → BegunSoFar 0 d0 d parts0 parts n → length parts ≤ n → (r : Reading Definition) (which : WhichLog) (c : Coordinator Definition) (v : ℕ → PartView)
    → ArePartsOf r d0 parts0 which c v → GoOnEmpty (length parts0) r d parts which c v
all_begun d0 d parts0 parts n so_far all r which c v are =
    let was = so_far.on r which c v are in
    record {
      on = was.on;
      none = λ p low. was.none p (omega arith) (omega (arith, low, all, so_far.size));
      nulls = λ p low. was.nulls p (omega arith) (omega (arith, low, all, so_far.size));
      format = λ told p low. was.format told p (omega arith) (omega (arith, low, all, so_far.size));
    }

-- a store that is ready stands in each image
pub ready_stands : (r : Reading Definition) (d : View) (which : WhichLog) (c : Coordinator Definition) (v : ℕ → PartView) → IsReady r d which c v → StandsAlways r d c v
ready_stands r d which c v ready asked image left = unsnapped_stands r d which c v ready image (λ dev low apart. inl (left dev low)) (inr (same which)) asked
  where
    same : (w : WhichLog) → image (device_of 0 (other_log w)) ≡ d.bytes (device_of 0 (other_log w))
    same LogA = ready.second (image 1) (left 1 ready.two)
    same LogB = ready.first (image 0) (left 0 (omega (arith, ready.two)))

pub images_now : (low : ℕ) (d0 d : View) (parts0 parts : List Partition) (n : ℕ) → BegunSoFar low d0 d parts0 parts n → (r : Reading Definition) (which : WhichLog) (c : Coordinator Definition) (v : ℕ → PartView) → ArePartsOf r d0 parts0 which c v → IsTrue d0.told → StandsAlways r d c v
images_now low d0 d parts0 parts n so_far r which c v are told =
    let on = (so_far.on r which c v are).on in
    as_if_stands r d c v on.view on.as_if (ready_stands r d which c on.view (on.are.ready (so_far.keeps.shape.told ∙ told)))

-- one that is left as it is
pub one_left : (low : ℕ) (d0 d : View) (parts0 parts : List Partition) (n : ℕ) → BegunSoFar low d0 d parts0 parts n → n < low → BegunSoFar low d0 d parts0 parts (n + 1)
one_left low d0 d parts0 parts n so_far under = record {
  size = so_far.size;
  on = λ r which c v are.
      let was = so_far.on r which c v are in
      record {
        on = was.on;
        none = λ p from below. absurd (omega (arith, from, below, under));
        nulls = λ p from below. absurd (omega (arith, from, below, under));
        format = λ told p from below. absurd (omega (arith, from, below, under));
      };
  rest = λ p high. so_far.rest p (omega (arith, high));
  stand = so_far.stand;
  pages = so_far.pages;
  keeps = so_far.keeps;
  cause = so_far.cause;
}
