-- The first n partitions have their shares prepared, the others do not have them yet.
use Rattle.salt_bytes.specs.Generations.{LogA, LogB, WhichLog}
use Rattle.salt_bytes.specs.Log.{entries_in}
use Rattle.salt_bytes.specs.Partition.{spell_prepared}
use Rattle.salt_decisions.proofs.Contents.{log_bytes}
use Rattle.salt_decisions.specs.Decisions.{IsBeforeOrWith}
use Rattle.salt_disk.proofs.CallAfterCall.{cause_none, cause_on, each_shrinks, keeps_on, keeps_wider, kept_on, same_shape}
use Rattle.salt_disk.specs.Disks.{EachImage, FullWhere, HasCause, IsUnchanged, KeepsBut, View}
use Rattle.salt_disk.specs.declared.disks.DiskErr.TheVariants.{Failed, Full, Memory, Stopped}
use Rattle.salt_disk.specs.declared.disks.DiskErr.{DiskErr}
use Rattle.salt_gatelog.specs.Log as gates
use Rattle.salt_paged.proofs.Framed.{partition_kept}
use Rattle.salt_paged.specs.Partitions.{ArePartitions, IsPartition, log_device}
use Rattle.salt_paged.specs.declared.partition.Partition.{Partition}
use Rattle.salt_partition.specs.Partitions.{prepared}
use Rattle.salt_room.proofs.Lists.{if_each, if_some, set_other, set_same, some_at}
use Rattle.salt_shares.specs.Prepares.{IsLogOfShares, IsShareLog, MayPrepareEach, OnePassesLimit, PassesLimit, with_shares}
use Rattle.salt_shares.specs.Shares.{MayPrepareShare, share_at, with_share}
use Rattle.salt_stands.specs.Coordinator.{device_of}
use Rattle.salt_stands.specs.Partition.{pages_device, part_device}
use Rattle.salt_stands.specs.Pieces.{PartView}
use Rattle.salt_values.specs.declared.change.Change.{Change}
use Rattle.salt_values.specs.declared.id.Id.{Id}
use Rattle.std.proofs.Common.{IsTrue, List, None, Option, Some, [], ap, arith, get_or, inl, inr, length, refl, slice_set, subst, sym, ℕ, ◌+◌, ◌<◌, ◌≡◌, ◌≢◌, ◌≤◌, ◌⊎◌, ◌∙◌, ◌∷◌}
use Rattle.std.proofs.lemmas.Bool.{cases_eq}
use Rattle.std.proofs.lemmas.List.{length-set}
use Rattle.std.proofs.lemmas.Option.{slice_get_past, slice_get_read}
use Rattle.std.specs.Prelude.{IfSome, slice_get, suc, zero}

share_some : (ss : List (List Change)) (k : ℕ) (s : List Change) → slice_get ss k ≡ Some s → share_at ss k ≡ s
share_some [] k s e = cc
share_some (x ∷ xs) zero s e = cc
share_some (x ∷ xs) (suc k) s e = share_some xs k s e

-- the share that was read at a place
pub share_read : (ss : List (List Change)) (k : ℕ) (s : List Change) → k < length ss → s ≡ get_or ss k s → share_at ss k ≡ s
share_read ss k s low read = share_some ss k s (slice_get_read ss (length ss) k s refl low read)

-- DEVICES of partitions

pub one_device : (p q : ℕ) (w x : WhichLog) → device_of (part_device p) w ≡ device_of (part_device q) x → p ≡ q
one_device p q LogA LogA e = omega (arith, e)
one_device p q LogA LogB e = omega (arith, e)
one_device p q LogB LogA e = omega (arith, e)
one_device p q LogB LogB e = omega (arith, e)

first_apart : (p q : ℕ) (w : WhichLog) → p ≢ q → part_device p ≢ device_of (part_device q) w
first_apart p q w other e = other (one_device p q LogA w e)

second_apart : (p q : ℕ) (w : WhichLog) → p ≢ q → part_device p + 1 ≢ device_of (part_device q) w
second_apart p q w other e = other (one_device p q LogB w e)

pub pages_apart : (p q : ℕ) (w : WhichLog) → pages_device p ≢ device_of (part_device q) w
pages_apart p q LogA e = omega (arith, e)
pages_apart p q LogB e = omega (arith, e)

-- EACH IMAGE of one log, in bytes
pub images_one : (d e : View) (x : Partition) (p : ℕ) (v : PartView) (applied : List Id) (payload : List ℕ) → IsPartition d x p v applied → (IsTrue e.told → IsTrue d.told)
    → ((entries : List (List ℕ)) → IsTrue d.told → entries_in (d.bytes (log_device x)) ≡ Some entries → EachImage e (log_device x) (gates.IsBeforeOrWith entries payload))
    → EachImage e (log_device x) (IsBeforeOrWith (d.bytes (log_device x)) payload)
images_one d e x p v applied payload is was images told c left =
    let stand = log_bytes d x.log is.entries (was told) is.is_log in
    by stand (images is.entries (was told) stand told c left)
  where
    by : entries_in (d.bytes (log_device x)) ≡ Some is.entries → gates.IsBeforeOrWith is.entries payload c → IsBeforeOrWith (d.bytes (log_device x)) payload c
    by stand (inl same) = inl (same ∙ sym stand)
    by stand (inr more) = inr (record { entries = is.entries; was = stand; now = more })

pub full_maps : (P Q : ℕ → Type 0) (answer : Option DiskErr) → ((dev : ℕ) → P dev → Q dev) → FullWhere P answer → FullWhere Q answer
full_maps P Q None f h = tt
full_maps P Q (Some Failed) f h = tt
full_maps P Q (Some Stopped) f h = tt
full_maps P Q (Some (Full dev)) f h = f dev h
full_maps P Q (Some Memory) f h = tt

pub record SoFar (d0 d : View) (parts0 parts : List Partition) (u : Id) (shares : List (List Change)) (n : ℕ) : Type 0 where
  pub size : length parts ≡ length parts0
  pub same : (p : ℕ) → n ≤ p → slice_get parts p ≡ slice_get parts0 p
  pub done : (v : ℕ → PartView) (applied : ℕ → List Id) → ArePartitions d0 parts0 v applied → MayPrepareEach v applied u shares → (p : ℕ) → p < n → IfSome (slice_get parts p) (λ x. IsPartition d x p (with_shares u shares v p) (applied p))
  pub rest : (v : ℕ → PartView) (applied : ℕ → List Id) → ArePartitions d0 parts0 v applied → (p : ℕ) → n ≤ p → IfSome (slice_get parts p) (λ x. IsPartition d x p (v p) (applied p))
  pub images : (v : ℕ → PartView) (applied : ℕ → List Id) → ArePartitions d0 parts0 v applied → (p : ℕ) → p < length parts0
      → EachImage d (device_of (part_device p) (v p).which) (IsBeforeOrWith (d0.bytes (device_of (part_device p) (v p).which)) (spell_prepared (prepared u (share_at shares p))))
  pub others : KeepsBut (IsLogOfShares parts0 shares n) d0 d None
  pub cause : HasCause d0 d None

pub at_first : (d : View) (parts : List Partition) (u : Id) (shares : List (List Change)) → SoFar d d parts parts u shares 0
at_first d parts u shares = record {
  size = refl;
  same = λ p h. refl;
  done = λ v applied are may p h. absurd (omega (arith, h));
  rest = λ v applied are p h. are.each p;
  images = λ v applied are p low told c left.
      let found = some_at parts p low in
      let is = if_some (slice_get parts p) found.0 (λ x. IsPartition d x p (v p) (applied p)) found.1 (are.each p) in
      inl (ap entries_in (is.is_log.settled c (subst (λ dev. d.image dev c) (sym is.device) left) ∙ ap d.bytes is.device));
  others = record { shape = same_shape d; kept = λ dev other. record { bytes = refl; images = λ c left. left }; images = λ dev other c left. left };
  cause = cause_none d;
}

module _ (d0 d : View) (parts0 parts : List Partition) (u : Id) (shares : List (List Change)) (n : ℕ) (so_far : SoFar d0 d parts0 parts u shares n) (x : Partition) (within : n < length parts) (read : x ≡ get_or parts n x) where
  here : slice_get parts n ≡ Some x
  here = slice_get_read parts (length parts) n x refl within read

  here0 : slice_get parts0 n ≡ Some x
  here0 = sym (so_far.same n (omega arith)) ∙ here

  pub this : (v : ℕ → PartView) (applied : ℕ → List Id) → ArePartitions d0 parts0 v applied → IsPartition d x n (v n) (applied n)
  this v applied are = if_some (slice_get parts n) x (λ y. IsPartition d y n (v n) (applied n)) here (so_far.rest v applied are n (omega arith))

  -- its log is none of those before
  untouched : (v : ℕ → PartView) (applied : ℕ → List Id) → ArePartitions d0 parts0 v applied → IsLogOfShares parts0 shares n (device_of (part_device n) (v n).which) → ⊥
  untouched v applied are t =
      let y = if_some (slice_get parts0 t.p) t.x (λ y. IsPartition d0 y t.p (v t.p) (applied t.p)) t.at (are.each t.p) in
      let same : n ≡ t.p = one_device n t.p (v n).which (v t.p).which (t.log.device ∙ y.device) in
      omega (arith, same, t.low)

  -- a full device is as it was before all of them
  pub full_untouched : (e : View) (v : ℕ → PartView) (applied : ℕ → List Id) → ArePartitions d0 parts0 v applied → (k : ℕ) → k ≡ log_device x → IsUnchanged d e (log_device x) → IsUnchanged d0 e k
  full_untouched e v applied are k at same =
      let own = this v applied are in
      let first = so_far.others.kept (device_of (part_device n) (v n).which) (untouched v applied are) in
      subst (IsUnchanged d0 e) (sym at) (kept_on d0 d e (log_device x) (subst (IsUnchanged d0 d) (sym own.device) first) same)

  -- AFTER THE NEXT ONE, whatever it answers
  module _ (e : View) (answer : Option DiskErr) (others : KeepsBut (IsShareLog x (share_at shares n)) d e answer)
      (images : (p : ℕ) (v : PartView) (applied : List Id) → IsPartition d x p v applied → EachImage e (log_device x) (IsBeforeOrWith (d.bytes (log_device x)) (spell_prepared (prepared u (share_at shares n))))) where
    pub images_next : (v : ℕ → PartView) (applied : ℕ → List Id) → ArePartitions d0 parts0 v applied → (p : ℕ) → p < length parts0
        → EachImage e (device_of (part_device p) (v p).which) (IsBeforeOrWith (d0.bytes (device_of (part_device p) (v p).which)) (spell_prepared (prepared u (share_at shares p))))
    images_next v applied are p low = by (cases_eq p n)
      where
        own : IsPartition d x n (v n) (applied n)
        own = this v applied are

        mine : EachImage e (device_of (part_device n) (v n).which) (IsBeforeOrWith (d0.bytes (device_of (part_device n) (v n).which)) (spell_prepared (prepared u (share_at shares n))))
        mine =
            let dev = device_of (part_device n) (v n).which in
            let was : d.bytes dev ≡ d0.bytes dev = (so_far.others.kept dev (untouched v applied are)).bytes in
            subst (λ bytes. EachImage e dev (IsBeforeOrWith bytes (spell_prepared (prepared u (share_at shares n))))) was
            (subst (λ k. EachImage e k (IsBeforeOrWith (d.bytes k) (spell_prepared (prepared u (share_at shares n))))) own.device (images n (v n) (applied n) own))

        by : (p ≡ n) ⊎ (p ≢ n) → EachImage e (device_of (part_device p) (v p).which) (IsBeforeOrWith (d0.bytes (device_of (part_device p) (v p).which)) (spell_prepared (prepared u (share_at shares p))))
        by (inl is) = subst (λ k. EachImage e (device_of (part_device k) (v k).which) (IsBeforeOrWith (d0.bytes (device_of (part_device k) (v k).which)) (spell_prepared (prepared u (share_at shares k))))) (sym is) mine
        by (inr other) =
            let dev = device_of (part_device p) (v p).which in
            each_shrinks d e dev (IsBeforeOrWith (d0.bytes dev) (spell_prepared (prepared u (share_at shares p)))) others.shape
            (others.images dev (λ t. other (one_device p n (v p).which (v n).which (t.device ∙ own.device)))) (so_far.images v applied are p low)

    pub others_next : KeepsBut (IsLogOfShares parts0 shares (n + 1)) d0 e answer
    others_next =
        let wide = IsLogOfShares parts0 shares (n + 1) in
        keeps_on wide d0 d e answer
        (keeps_wider (IsLogOfShares parts0 shares n) wide d0 d None (λ dev t. record { p = t.p; low = omega (arith, t.low); x = t.x; at = t.at; log = t.log }) so_far.others)
        (keeps_wider (IsShareLog x (share_at shares n)) wide d e answer (λ dev t. record { p = n; low = omega arith; x = x; at = here0; log = t }) others)

    pub others_all : KeepsBut (IsLogOfShares parts0 shares (length parts0)) d0 e answer
    others_all = keeps_wider (IsLogOfShares parts0 shares (n + 1)) (IsLogOfShares parts0 shares (length parts0)) d0 e answer
        (λ dev t. record { p = t.p; low = omega (arith, t.low, within, so_far.size); x = t.x; at = t.at; log = t.log }) others_next

    pub full_next : FullWhere (PassesLimit d.limit x u (share_at shares n)) answer → FullWhere (OnePassesLimit d0.limit parts0 u shares) answer
    full_next full = full_maps (PassesLimit d.limit x u (share_at shares n)) (OnePassesLimit d0.limit parts0 u shares) answer
        (λ dev t. record { p = n; x = x; at = here0; passes = record { log = t.log; over = omega (arith, t.over, so_far.others.shape.limit dev) } }) full

  -- AFTER IT HAS GONE WELL
  pub one_more : (e : View) (x' : Partition) (others : KeepsBut (IsShareLog x (share_at shares n)) d e None) → HasCause d e None
      → (images : (p : ℕ) (v : PartView) (applied : List Id) → IsPartition d x p v applied → EachImage e (log_device x) (IsBeforeOrWith (d.bytes (log_device x)) (spell_prepared (prepared u (share_at shares n)))))
      → ((p : ℕ) (v : PartView) (applied : List Id) → IsPartition d x p v applied → MayPrepareShare v applied u (share_at shares n) → IsPartition e x' p (with_share u (share_at shares n) v) applied)
      → SoFar d0 e parts0 (slice_set parts n x') u shares (n + 1)
  one_more e x' others cause images goes = record {
    size = length-set parts n x' ∙ so_far.size;
    same = λ p h. let other : p ≢ n = λ is. omega (arith, h, is) in set_other parts n p x' other ∙ so_far.same p (omega (arith, h));
    done = λ v applied are may p h. done_next v applied are may p h (cases_eq p n);
    rest = λ v applied are p h.
        let other : p ≢ n = λ is. omega (arith, h, is) in
        subst (λ o. IfSome o (λ y. IsPartition e y p (v p) (applied p))) (sym (set_other parts n p x' other))
        (kept v applied are p (v p) (applied p) other (so_far.rest v applied are p (omega (arith, h))));
    images = images_next e None others images;
    others = others_next e None others images;
    cause = cause_on d0 d e None so_far.cause cause;
  }
    where
      kept : (v : ℕ → PartView) (applied : ℕ → List Id) → ArePartitions d0 parts0 v applied → (p : ℕ) (w : PartView) (us : List Id) → p ≢ n
          → IfSome (slice_get parts p) (λ y. IsPartition d y p w us) → IfSome (slice_get parts p) (λ y. IsPartition e y p w us)
      kept v applied are p w us other h =
          let own = this v applied are in
          if_each (slice_get parts p) (λ y. IsPartition d y p w us) (λ y. IsPartition e y p w us)
          (λ y at stood. partition_kept d e y p w us others.shape
          (others.kept (part_device p) (λ t. first_apart p n (v n).which other (t.device ∙ own.device)))
          (others.kept (part_device p + 1) (λ t. second_apart p n (v n).which other (t.device ∙ own.device)))
          (others.kept (pages_device p) (λ t. pages_apart p n (v n).which (t.device ∙ own.device)))
          stood)
          h

      done_next : (v : ℕ → PartView) (applied : ℕ → List Id) → ArePartitions d0 parts0 v applied → MayPrepareEach v applied u shares → (p : ℕ) → p < n + 1 → (p ≡ n) ⊎ (p ≢ n)
          → IfSome (slice_get (slice_set parts n x') p) (λ y. IsPartition e y p (with_shares u shares v p) (applied p))
      done_next v applied are may p h (inl is) =
          subst (λ k. IfSome (slice_get (slice_set parts n x') k) (λ y. IsPartition e y k (with_shares u shares v k) (applied k))) (sym is)
          (subst (λ o. IfSome o (λ y. IsPartition e y n (with_shares u shares v n) (applied n))) (sym (set_same parts n x' within))
          (goes n (v n) (applied n) (this v applied are) (may.each n)))
      done_next v applied are may p h (inr other) =
          subst (λ o. IfSome o (λ y. IsPartition e y p (with_shares u shares v p) (applied p))) (sym (set_other parts n p x' other))
          (kept v applied are p (with_shares u shares v p) (applied p) other (so_far.done v applied are may p (omega (arith, h, other))))

-- a log that gets a share counts
pub log_of_shares : (d : View) (parts : List Partition) (v : ℕ → PartView) (applied : ℕ → List Id) → ArePartitions d parts v applied → (shares : List (List Change)) (n dev : ℕ) → IsLogOfShares parts shares n dev
    → ((q : ℕ) → dev ≢ device_of (part_device q) (v q).which) → ⊥
log_of_shares d parts v applied are shares n dev t apart =
    let x = if_some (slice_get parts t.p) t.x (λ y. IsPartition d y t.p (v t.p) (applied t.p)) t.at (are.each t.p) in
    apart t.p (t.log.device ∙ x.device)

pub less_or : (a b : ℕ) → (a < b) ⊎ (b ≤ a)
less_or a b = grind arith

-- AT THE END
pub all_done : (d0 d : View) (parts0 parts : List Partition) (u : Id) (shares : List (List Change)) (n : ℕ) → SoFar d0 d parts0 parts u shares n → length parts ≤ n
    → (v : ℕ → PartView) (applied : ℕ → List Id) → ArePartitions d0 parts0 v applied → MayPrepareEach v applied u shares → ArePartitions d parts (with_shares u shares v) applied
all_done d0 d parts0 parts u shares n so_far all v applied are may = record {
  each = λ p. elim (less_or p n) [
    | inl h ↦ so_far.done v applied are may p h
    | inr h ↦ subst (λ o. IfSome o (λ y. IsPartition d y p (with_shares u shares v p) (applied p))) (sym (slice_get_past parts p (omega (arith, all, h)))) tt
  ];
}

-- what one call says, whatever it answers
pub record Prepares (d e : View) (x : Partition) (u : Id) (cs : List Change) (answer : Option DiskErr) : Type 0 where
  pub images : (p : ℕ) (v : PartView) (applied : List Id) → IsPartition d x p v applied → EachImage e (log_device x) (IsBeforeOrWith (d.bytes (log_device x)) (spell_prepared (prepared u cs)))
  pub others : KeepsBut (IsShareLog x cs) d e answer
  pub full : FullWhere (PassesLimit d.limit x u cs) answer

-- and where it has gone well
pub record HasPrepared (d e : View) (x x' : Partition) (u : Id) (cs : List Change) : Type 0 where
  pub cause : HasCause d e None
  pub goes : (p : ℕ) (v : PartView) (applied : List Id) → IsPartition d x p v applied → MayPrepareShare v applied u cs → IsPartition e x' p (with_share u cs v) applied
