-- Partitions are asked for their votes: each stands as its node holds the unit.
use Rattle.salt_bytes.specs.Generations.{LogA, LogB, WhichLog}
use Rattle.salt_bytes.specs.Log.{entries_in}
use Rattle.salt_bytes.specs.Partition.{spell_prepared}
use Rattle.salt_checkpoint.proofs.Torn.{keeps_all, keeps_more}
use Rattle.salt_checkpoint.specs.Sides.{KeepsNamed}
use Rattle.salt_commit.proofs.Standing.{apart_from_part}
use Rattle.salt_paged.proofs.Framed.{partition_kept}
use Rattle.salt_paged.specs.Partitions.{ArePartitions, IsPartition, log_device, log_gate, pages_of}
use Rattle.salt_parts.proofs.Lists.{if_some, make_some, set_other, set_same, some_at}
use Rattle.salt_parts.specs.Openings.{decided_in}
use Rattle.salt_shares.proofs.Sharing.{full_maps, one_device, pages_apart}
use Rattle.salt_shares.specs.Prepares.{IsLogOfShares, IsShareLog, PassesLimit, StandsForShare, with_shares}
use Rattle.salt_shares.specs.Shares.{has_changes, share_at, with_share}
use Rattle.salt_turns.specs.Amid.{behind_next}
use Rattle.salt_commit.specs.Again.{ReadsAs, StandsUnder}
use Rattle.salt_commit.specs.Voting.{DidNext, HasDoneNothing, HasPreparedAt, HasReopenedAt, HaveVoted, IsVoteDevice, MayVote, MayVoteAs, VotesPassLimit}
use Rattle.salt_turns.specs.declared.coming.Next.TheVariants as next
use Rattle.salt_turns.specs.declared.coming.Next.{Next}
use Rattle.salt_decisions.specs.Decisions.{IsBeforeOrWith}
use Rattle.salt_disk.proofs.CallAfterCall.{cause_memory, cause_none, cause_on, each_shrinks, keeps_on, keeps_wider, kept_on, same_shape}
use Rattle.salt_disk.specs.Disks.{EachImage, FullWhere, HasCause, IsUnchanged, KeepsBut, KeepsOthers, View}
use Rattle.salt_disk.specs.declared.disks.DiskErr.TheVariants.{Failed, Full, Memory, Stopped}
use Rattle.salt_disk.specs.declared.disks.DiskErr.{DiskErr}
use Rattle.salt_net.specs.declared.kinds.NodeStatus.TheVariants.{Abort, Commit, Idle, Prepared, Started as Asking, Unknown}
use Rattle.salt_net.specs.declared.kinds.NodeStatus.{NodeStatus}
use Rattle.salt_paged.proofs.Standing.{settled_kept}
use Rattle.salt_partition.specs.Partitions.{prepared}
use Rattle.salt_paged.specs.declared.partition.Partition.{Partition}
use Rattle.salt_stands.proofs.Pairs.{pair_same}
use Rattle.salt_stands.specs.Coordinator.{device_of}
use Rattle.salt_stands.specs.CoordinatorLog.{CoordinatorLog, coordinator_generation, coordinator_in}
use Rattle.salt_stands.specs.OpenedPart.{is_known_log}
use Rattle.salt_stands.specs.Partition.{pages_device, part_device}
use Rattle.salt_stands.specs.Pieces.{PartView, with_prepared_unit}
use Rattle.salt_stands.specs.Stands.{logs_of}
use Rattle.salt_values.specs.declared.change.Change.{Change}
use Rattle.salt_values.specs.declared.id.Id.{Id}
use Rattle.std.proofs.Common.{Err, IsTrue, List, None, Ok, Option, Result, Some, [], ap, arith, get_or, inl, inr, length, refl, slice_set, subst, sym, true, ℕ, ◌+◌, ◌<◌, ◌≡◌, ◌≢◌, ◌⊎◌, ◌∙◌, ◌∷◌}
use Rattle.std.proofs.lemmas.Bool.Decides.{nat_tests}
use Rattle.std.proofs.lemmas.Bool.{cases_eq, eqb-true}
use Rattle.std.proofs.lemmas.List.{length-set}
use Rattle.std.proofs.lemmas.Option.{slice_get_read, slice_get_within}
use Rattle.std.specs.Prelude.{Bool, IfSome, OnOk, false, if◌then◌else◌, slice_get, suc, ◌==◌}
use Rattle.std.specs.Result.{result_err}

-- what a partition's log says: where its node is prepared, it has the share's entry
abbrev pub view_by : NodeStatus → Id → List Change → PartView → PartView
view_by Prepared u cs v = with_share u cs v
view_by Unknown u cs v = v
view_by Asking u cs v = v
view_by Idle u cs v = v
view_by Commit u cs v = v
view_by Abort u cs v = v

-- each partition stands by what its node holds, and an idle one has its log as it was
pub record GoesAt (d0 d : View) (parts0 parts : List Partition) (u : Id) (shares : List (List Change)) (s : ℕ → NodeStatus) : Type 0 where
  pub size : length parts ≡ length parts0
  pub each : (which : WhichLog) (log : CoordinatorLog) (v : ℕ → PartView) → MayVoteAs d0 parts0 u shares which log v → (p : ℕ)
      → IfSome (slice_get parts p) (λ x. IsPartition d x p (view_by (s p) u (share_at shares p) (v p)) (decided_in log p))
  pub images : (which : WhichLog) (log : CoordinatorLog) (v : ℕ → PartView) → MayVoteAs d0 parts0 u shares which log v → (p : ℕ) → p < length parts0
      → EachImage d (device_of (part_device p) (v p).which) (IsBeforeOrWith (d0.bytes (device_of (part_device p) (v p).which)) (spell_prepared (prepared u (share_at shares p))))
  pub idle : (which : WhichLog) (log : CoordinatorLog) (v : ℕ → PartView) → MayVoteAs d0 parts0 u shares which log v → (p : ℕ) → s p ≡ Idle → IsUnchanged d0 d (device_of (part_device p) (v p).which)
  pub gates : (p : ℕ) (x x0 : Partition) → s p ≡ Idle → slice_get parts p ≡ Some x → slice_get parts0 p ≡ Some x0 → log_gate x ≡ log_gate x0
  pub named : (which : WhichLog) (log : CoordinatorLog) (v : ℕ → PartView) → MayVoteAs d0 parts0 u shares which log v → IsTrue d0.told → (p : ℕ) → p < length parts0 → KeepsNamed (v p).log.header.sides d0 d (pages_device p)
  pub others : KeepsBut (IsVoteDevice parts0 shares) d0 d None
  pub cause : HasCause d0 d None

one_of : (o : Option Partition) (x y : Partition) → o ≡ Some x → o ≡ Some y → x ≡ y
one_of o x y a b = let same : Some x ≡ Some y = sym a ∙ b in cc

-- a partition that is read at its place
pub read_at : (parts : List Partition) (n : ℕ) (x y : Partition) → slice_get parts n ≡ Some x → y ≡ get_or parts n y → y ≡ x
read_at parts n x y at read = one_of (slice_get parts n) y x (slice_get_read parts (length parts) n y refl (slice_get_within parts n x at) read) at

-- what a call has answered
pub ok_then : {T : Type 0} (r : Result T DiskErr) (P : Type 0) → result_err r ≡ None → OnOk r P → P
ok_then (Ok x) P fine h = h
ok_then (Err e) P fine h = absurd cc

pub on_map : {T : Type 0} (r : Result T DiskErr) (P Q : Type 0) → (P → Q) → OnOk r P → OnOk r Q
on_map (Ok x) P Q f h = f h
on_map (Err e) P Q f h = tt

pub on_given : {T : Type 0} (r : Result T DiskErr) (P : Type 0) → P → OnOk r P
on_given (Ok x) P h = h
on_given (Err e) P h = tt

pub err_is : {T : Type 0} (r : Result T DiskErr) (e : DiskErr) → result_err r ≡ Some e → r ≡ Err e
err_is (Ok x) e h = absurd cc
err_is (Err k) e h = cc

-- where no call is made
pub none_done : (d : View) (parts : List Partition) → HasDoneNothing d d parts parts None
none_done d parts = record {
  fine = refl;
  same = refl;
  kept = record { shape = same_shape d; kept = λ dev other. record { bytes = refl; images = λ c left. left }; images = λ dev other c left. left };
  cause = cause_none d;
}

pub all_idle : (d : View) (parts : List Partition) (u : Id) (shares : List (List Change)) → GoesAt d d parts parts u shares (λ p. Idle)
all_idle d parts u shares = record {
  size = refl;
  each = λ which log v base p. base.are.each p;
  images = λ which log v base p low told c left.
      let found = some_at parts p low in
      let is = if_some (slice_get parts p) found.0 (λ x. IsPartition d x p (v p) (decided_in log p)) found.1 (base.are.each p) in
      inl (ap entries_in (is.is_log.settled c (subst (λ dev. d.image dev c) (sym is.device) left) ∙ ap d.bytes is.device));
  idle = λ which log v base p idle. record { bytes = refl; images = λ c left. left };
  gates = λ p x x0 idle a b. ap log_gate (one_of (slice_get parts p) x x0 a b);
  named = λ which log v base told p low. keeps_all (v p).log.header.sides d d (pages_device p) (λ c left. left);
  others = record { shape = same_shape d; kept = λ dev other. record { bytes = refl; images = λ c left. left }; images = λ dev other c left. left };
  cause = cause_none d;
}

-- it is of what nodes hold alone
pub goes_as : (d0 d : View) (parts0 parts : List Partition) (u : Id) (shares : List (List Change)) (s z : ℕ → NodeStatus) → ((p : ℕ) → z p ≡ s p) → GoesAt d0 d parts0 parts u shares s → GoesAt d0 d parts0 parts u shares z
goes_as d0 d parts0 parts u shares s z same g = record {
  size = g.size;
  each = λ which log v base p.
      subst (λ (k : NodeStatus). IfSome (slice_get parts p) (λ x. IsPartition d x p (view_by k u (share_at shares p) (v p)) (decided_in log p))) (sym (same p)) (g.each which log v base p);
  images = g.images;
  idle = λ which log v base p idle. g.idle which log v base p (sym (same p) ∙ idle);
  gates = λ p x x0 idle. g.gates p x x0 (sym (same p) ∙ idle);
  named = g.named;
  others = g.others;
  cause = g.cause;
}

-- an entry leaves the sides of its header
same_sides : (k : NodeStatus) (u : Id) (cs : List Change) (v : PartView) → (view_by k u cs v).log.header.sides ≡ v.log.header.sides
same_sides Prepared u [] v = refl
same_sides Prepared u (c ∷ cs) v = refl
same_sides Unknown u cs v = refl
same_sides Asking u cs v = refl
same_sides Idle u cs v = refl
same_sides Commit u cs v = refl
same_sides Abort u cs v = refl

apart_pages : (p q : ℕ) → p ≢ q → pages_device p ≢ pages_device q
apart_pages p q other e = other (omega (arith, e))

first_page : (p q : ℕ) → part_device p ≢ pages_device q
first_page p q e = omega (arith, e)

second_page : (p q : ℕ) → part_device p + 1 ≢ pages_device q
second_page p q e = omega (arith, e)

log_page : (p q : ℕ) (w : WhichLog) → device_of (part_device p) w ≢ pages_device q
log_page p q w e = pages_apart q p w (sym e)

coordinator_page : (w : WhichLog) (q : ℕ) → device_of 0 w ≢ pages_device q
coordinator_page LogA q e = omega (arith, e)
coordinator_page LogB q e = omega (arith, e)

first_apart : (p q : ℕ) (w : WhichLog) → p ≢ q → part_device p ≢ device_of (part_device q) w
first_apart p q w other e = other (one_device p q LogA w e)

second_apart : (p q : ℕ) (w : WhichLog) → p ≢ q → part_device p + 1 ≢ device_of (part_device q) w
second_apart p q w other e = other (one_device p q LogB w e)

coordinator_apart : (w : WhichLog) (q : ℕ) (z : WhichLog) → device_of 0 w ≢ device_of (part_device q) z
coordinator_apart w q LogA e = apart_from_part w q 0 (omega (arith, e))
coordinator_apart w q LogB e = apart_from_part w q 1 (omega (arith, e))

-- the coordinator's log is read as it was
pub reads_kept : (d e : View) (which : WhichLog) (log : CoordinatorLog) → IsUnchanged d e 0 → IsUnchanged d e 1 → e.count ≡ d.count → (IsTrue e.told → IsTrue d.told) → ReadsAs d which log → ReadsAs e which log
reads_kept d e which log first second count told r = record {
  known = omega (arith, r.known, count);
  settled_a = settled_kept d e 0 first r.settled_a;
  settled_b = settled_kept d e 1 second r.settled_b;
  counts = λ now. pair_same coordinator_generation coordinator_in 0 (logs_of d.bytes) (logs_of e.bytes) (ap entries_in first.bytes) (ap entries_in second.bytes) ∙ r.counts (told now);
}

module _ (d0 d e : View) (parts0 parts : List Partition) (u : Id) (shares : List (List Change)) (s : ℕ → NodeStatus) (g : GoesAt d0 d parts0 parts u shares s)
    (which0 : WhichLog) (log0 : CoordinatorLog) (v0 : ℕ → PartView) (base0 : MayVoteAs d0 parts0 u shares which0 log0 v0) where
  module _ (which : WhichLog) (log : CoordinatorLog) (v : ℕ → PartView) (base : MayVoteAs d0 parts0 u shares which log v) where
    -- what is read of the coordinator's log meanwhile
    pub still_reads : ReadsAs d which log
    still_reads = reads_kept d0 d which log (unchanged LogA) (unchanged LogB) g.others.shape.count (λ now. sym g.others.shape.told ∙ now) base.reads
      where
        unchanged : (w : WhichLog) → IsUnchanged d0 d (device_of 0 w)
        unchanged w = g.others.kept (device_of 0 w) untouched
          where
            untouched : ¬ IsVoteDevice parts0 shares (device_of 0 w)
            untouched (inl t) = coordinator_apart w t.p (v t.p).which (t.log.device ∙ (if_some (slice_get parts0 t.p) t.x (λ z. IsPartition d0 z t.p (v t.p) (decided_in log t.p)) t.at (base.are.each t.p)).device)
            untouched (inr t) = coordinator_page w t.p t.is

    pub own : (n : ℕ) (x : Partition) → slice_get parts n ≡ Some x → IsPartition d x n (view_by (s n) u (share_at shares n) (v n)) (decided_in log n)
    own n x at = if_some (slice_get parts n) x (λ y. IsPartition d y n (view_by (s n) u (share_at shares n) (v n)) (decided_in log n)) at (g.each which log v base n)

    first : (n : ℕ) (x : Partition) → slice_get parts n ≡ Some x → s n ≡ Idle → IsPartition d x n (v n) (decided_in log n)
    first n x at idle = subst (λ (k : NodeStatus). IsPartition d x n (view_by k u (share_at shares n) (v n)) (decided_in log n)) idle (own n x at)

  -- WHAT COMES NEXT may be done
  pub may_reopen : MayVote d0 parts0 u shares → (n : ℕ) (x : Partition) → slice_get parts n ≡ Some x → n < 8 → (s n ≡ Idle) ⊎ (s n ≡ Prepared) → StandsUnder d x
  may_reopen may n x at low held = record {
    which = may.which;
    log = may.log;
    reads = still_reads may.which may.log may.v may.stand;
    p = n;
    low = low;
    v = view_by (s n) u (share_at shares n) (may.v n);
    applied = decided_in may.log n;
    is = own may.which may.log may.v may.stand n x at;
    goes_on = λ w not. not;
    known = λ now. by held (sym g.others.shape.told ∙ now) (omega (arith, slice_get_within parts n x at, g.size));
  }
    where
      by : (s n ≡ Idle) ⊎ (s n ≡ Prepared) → IsTrue d0.told → n < length parts0 → is_known_log may.log.told.boot (decided_in may.log n) (view_by (s n) u (share_at shares n) (may.v n)).log ≡ true
      by (inl is) told there = ap (λ (k : NodeStatus). is_known_log may.log.told.boot (decided_in may.log n) (view_by k u (share_at shares n) (may.v n)).log) is ∙ may.known told n there
      by (inr is) told there = ap (λ (k : NodeStatus). is_known_log may.log.told.boot (decided_in may.log n) (view_by k u (share_at shares n) (may.v n)).log) is ∙ may.known_with told n there

  pub may_prepare_one : (n : ℕ) (x : Partition) → slice_get parts n ≡ Some x → s n ≡ Idle → StandsForShare d x u (share_at shares n)
  may_prepare_one n x at idle = record { p = n; v = v0 n; applied = decided_in log0 n; is = first which0 log0 v0 base0 n x at idle; may = base0.may.each n }

  -- A NODE PREPARES, whatever is answered
  module _ (is : List Partition) (n : ℕ) (answer : Option DiskErr) (h : HasPreparedAt d e parts is u shares n answer) (idle : s n ≡ Idle) where
    low : n < length parts0
    low = omega (arith, slice_get_within parts n h.x h.at, g.size)

    was : (x0 : Partition) × (slice_get parts0 n ≡ Some x0)
    was = some_at parts0 n low

    same_device : log_device h.x ≡ log_device was.0
    same_device = (first which0 log0 v0 base0 n h.x h.at idle).device ∙ sym (if_some (slice_get parts0 n) was.0 (λ y. IsPartition d0 y n (v0 n) (decided_in log0 n)) was.1 (base0.are.each n)).device

    touched : (dev : ℕ) → IsShareLog h.x (share_at shares n) dev → IsVoteDevice parts0 shares dev
    touched dev t = inl (record { p = n; low = low; x = was.0; at = was.1; log = record { changed = t.changed; device = t.device ∙ same_device } })

    -- no page is written
    page_apart : (p : ℕ) → ¬ IsShareLog h.x (share_at shares n) (pages_device p)
    page_apart p t = pages_apart p n (v0 n).which (t.device ∙ (first which0 log0 v0 base0 n h.x h.at idle).device)

    named_next : (which : WhichLog) (log : CoordinatorLog) (v : ℕ → PartView) → MayVoteAs d0 parts0 u shares which log v → IsTrue d0.told → (p : ℕ) → p < length parts0 → KeepsNamed (v p).log.header.sides d0 e (pages_device p)
    named_next which log v base told p within =
        let sides = (v p).log.header.sides in
        keeps_more sides d0 d e (pages_device p) (g.named which log v base told p within) (keeps_all sides d e (pages_device p) (h.others.images (pages_device p) (page_apart p)))

    image_next : (which : WhichLog) (log : CoordinatorLog) (v : ℕ → PartView) → MayVoteAs d0 parts0 u shares which log v → (p : ℕ) → p < length parts0 → (p ≡ n) ⊎ (p ≢ n)
        → EachImage e (device_of (part_device p) (v p).which) (IsBeforeOrWith (d0.bytes (device_of (part_device p) (v p).which)) (spell_prepared (prepared u (share_at shares p))))
    image_next which log v base p within (inl same) =
        let dev = device_of (part_device n) (v n).which in
        let mine = first which log v base n h.x h.at idle in
        let bytes : d.bytes dev ≡ d0.bytes dev = (g.idle which log v base n idle).bytes in
        subst (λ k. EachImage e (device_of (part_device k) (v k).which) (IsBeforeOrWith (d0.bytes (device_of (part_device k) (v k).which)) (spell_prepared (prepared u (share_at shares k))))) (sym same)
        (subst (λ bs. EachImage e dev (IsBeforeOrWith bs (spell_prepared (prepared u (share_at shares n))))) bytes
        (subst (λ k. EachImage e k (IsBeforeOrWith (d.bytes k) (spell_prepared (prepared u (share_at shares n))))) mine.device (h.images n (v n) (decided_in log n) mine)))
    image_next which log v base p within (inr other) =
        let dev = device_of (part_device p) (v p).which in
        each_shrinks d e dev (IsBeforeOrWith (d0.bytes dev) (spell_prepared (prepared u (share_at shares p)))) h.others.shape
        (h.others.images dev (λ t. other (one_device p n (v p).which (v n).which (t.device ∙ (first which log v base n h.x h.at idle).device)))) (g.images which log v base p within)

    full_next : (a : Option DiskErr) → FullWhere (PassesLimit d.limit h.x u (share_at shares n)) a → FullWhere (VotesPassLimit d0.limit parts0 u shares) a
    full_next None f = tt
    full_next (Some Failed) f = tt
    full_next (Some Stopped) f = tt
    full_next (Some Memory) f = tt
    full_next (Some (Full dev)) f = inl (record {
      p = n;
      x = was.0;
      at = was.1;
      passes = record { log = record { changed = f.log.changed; device = f.log.device ∙ same_device }; over = omega (arith, f.over, g.others.shape.limit dev, g.gates n h.x was.0 idle h.at was.1) };
    })

    untouched_next : (k : ℕ) → answer ≡ Some (Full k) → IsUnchanged d0 e k
    untouched_next k is_full =
        let f : PassesLimit d.limit h.x u (share_at shares n) k = subst (FullWhere (PassesLimit d.limit h.x u (share_at shares n))) is_full h.full in
        let dev = device_of (part_device n) (v0 n).which in
        let at : k ≡ dev = f.log.device ∙ (first which0 log0 v0 base0 n h.x h.at idle).device in
        subst (IsUnchanged d0 e) (sym at)
        (kept_on d0 d e dev (g.idle which0 log0 v0 base0 n idle) (subst (IsUnchanged d e) ((first which0 log0 v0 base0 n h.x h.at idle).device) (h.untouched k is_full)))

    pub prepared_voted : HaveVoted d0 e parts0 is u shares answer
    prepared_voted = record {
      images = λ which log v base p within. image_next which log v base p within (cases_eq p n);
      named = named_next;
      others = keeps_on (IsVoteDevice parts0 shares) d0 d e answer g.others (keeps_wider (IsShareLog h.x (share_at shares n)) (IsVoteDevice parts0 shares) d e answer touched h.others);
      cause = cause_on d0 d e answer g.cause h.cause;
      full = λ told. full_next answer h.full;
      untouched = λ k is_full log. untouched_next k is_full;
      size = ap (λ (l : List Partition). length l) h.set ∙ (length-set parts n h.y ∙ g.size);
    }

    -- and it is prepared
    module _ (fine : answer ≡ None) (s' : ℕ → NodeStatus) (mine : s' n ≡ Prepared) (rest : (p : ℕ) → p ≢ n → s' p ≡ s p) where
      kept_none : KeepsBut (IsShareLog h.x (share_at shares n)) d e None
      kept_none = subst (KeepsBut (IsShareLog h.x (share_at shares n)) d e) fine h.others

      apart : (which : WhichLog) (log : CoordinatorLog) (v : ℕ → PartView) → MayVoteAs d0 parts0 u shares which log v → (p : ℕ) → p ≢ n → IsUnchanged d e (device_of (part_device p) (v p).which)
      apart which log v base p other = kept_none.kept (device_of (part_device p) (v p).which) (λ t. other (one_device p n (v p).which (v n).which (t.device ∙ (first which log v base n h.x h.at idle).device)))

      place_next : (which : WhichLog) (log : CoordinatorLog) (v : ℕ → PartView) → MayVoteAs d0 parts0 u shares which log v → (p : ℕ) → (p ≡ n) ⊎ (p ≢ n)
          → IfSome (slice_get (slice_set parts n h.y) p) (λ y. IsPartition e y p (view_by (s' p) u (share_at shares p) (v p)) (decided_in log p))
      place_next which log v base p (inl same) =
          subst (λ k. IfSome (slice_get (slice_set parts n h.y) k) (λ y. IsPartition e y k (view_by (s' k) u (share_at shares k) (v k)) (decided_in log k))) (sym same)
          (subst (λ o. IfSome o (λ y. IsPartition e y n (view_by (s' n) u (share_at shares n) (v n)) (decided_in log n))) (sym (set_same parts n h.y (slice_get_within parts n h.x h.at)))
          (subst (λ (k : NodeStatus). IsPartition e h.y n (view_by k u (share_at shares n) (v n)) (decided_in log n)) (sym mine)
          (h.goes fine n (v n) (decided_in log n) (first which log v base n h.x h.at idle) (base.may.each n))))
      place_next which log v base p (inr other) =
          subst (λ o. IfSome o (λ y. IsPartition e y p (view_by (s' p) u (share_at shares p) (v p)) (decided_in log p))) (sym (set_other parts n p h.y other))
          (subst (λ (k : NodeStatus). IfSome (slice_get parts p) (λ y. IsPartition e y p (view_by k u (share_at shares p) (v p)) (decided_in log p))) (sym (rest p other))
          (make_some (slice_get parts p) (λ y. IsPartition e y p (view_by (s p) u (share_at shares p) (v p)) (decided_in log p)) (λ y at.
          partition_kept d e y p (view_by (s p) u (share_at shares p) (v p)) (decided_in log p) h.others.shape
          (kept_none.kept (part_device p) (λ t. first_apart p n (v n).which other (t.device ∙ (first which log v base n h.x h.at idle).device)))
          (kept_none.kept (part_device p + 1) (λ t. second_apart p n (v n).which other (t.device ∙ (first which log v base n h.x h.at idle).device)))
          (kept_none.kept (pages_device p) (page_apart p))
          (own which log v base p y at))))

      idle_next : (which : WhichLog) (log : CoordinatorLog) (v : ℕ → PartView) → MayVoteAs d0 parts0 u shares which log v → (p : ℕ) → s' p ≡ Idle → (p ≡ n) ⊎ (p ≢ n) → IsUnchanged d0 e (device_of (part_device p) (v p).which)
      idle_next which log v base p still (inl same) = absurd (neither (sym mine ∙ ap s' (sym same) ∙ still))
        where
          neither : Prepared ≡ Idle → ⊥
          neither e = cc
      idle_next which log v base p still (inr other) = let dev = device_of (part_device p) (v p).which in kept_on d0 d e dev (g.idle which log v base p (sym (rest p other) ∙ still)) (apart which log v base p other)

      gate_next : (p : ℕ) (x x0 : Partition) → s' p ≡ Idle → slice_get (slice_set parts n h.y) p ≡ Some x → slice_get parts0 p ≡ Some x0 → (p ≡ n) ⊎ (p ≢ n) → log_gate x ≡ log_gate x0
      gate_next p x x0 still a b (inl same) = absurd (neither (sym mine ∙ ap s' (sym same) ∙ still))
        where
          neither : Prepared ≡ Idle → ⊥
          neither e = cc
      gate_next p x x0 still a b (inr other) = g.gates p x x0 (sym (rest p other) ∙ still) (sym (set_other parts n p h.y other) ∙ a) b

      pub prepared_goes : GoesAt d0 e parts0 is u shares s'
      prepared_goes = subst (λ l. GoesAt d0 e parts0 l u shares s') (sym h.set) (record {
        size = length-set parts n h.y ∙ g.size;
        each = λ which log v base p. place_next which log v base p (cases_eq p n);
        images = λ which log v base p within. image_next which log v base p within (cases_eq p n);
        idle = λ which log v base p still. idle_next which log v base p still (cases_eq p n);
        gates = λ p x x0 still a b. gate_next p x x0 still a b (cases_eq p n);
        named = named_next;
        others = keeps_on (IsVoteDevice parts0 shares) d0 d e None g.others (keeps_wider (IsShareLog h.x (share_at shares n)) (IsVoteDevice parts0 shares) d e None touched kept_none);
        cause = cause_on d0 d e None g.cause (subst (HasCause d e) fine h.cause);
      })

  -- A NODE STARTS AGAIN: it stands as it did, and its pages alone are written
  module _ (is : List Partition) (n : ℕ) (answer : Option DiskErr) (h : HasReopenedAt d e parts is n answer) where
    within_parts : n < length parts0
    within_parts = omega (arith, slice_get_within parts n h.x h.at, g.size)

    its_pages : pages_of h.x ≡ pages_device n
    its_pages = ap pages_device (own which0 log0 v0 base0 n h.x h.at).part

    goes_for : answer ≡ None → (which : WhichLog) (log : CoordinatorLog) (v : ℕ → PartView) → MayVoteAs d0 parts0 u shares which log v → IsPartition e h.y n (view_by (s n) u (share_at shares n) (v n)) (decided_in log n)
    goes_for fine which log v base =
        let w = view_by (s n) u (share_at shares n) (v n) in
        h.goes fine which log n w (decided_in log n) (still_reads which log v base) (own which log v base n h.x h.at) (λ k not. not)

    wider : (a : Option DiskErr) → KeepsOthers (pages_of h.x) d e a → KeepsBut (IsVoteDevice parts0 shares) d e a
    wider a keeps = keeps_wider (λ dev. dev ≡ pages_of h.x) (IsVoteDevice parts0 shares) d e a (λ dev at. inr (record { p = n; low = within_parts; is = at ∙ its_pages })) keeps

    named_again : (which : WhichLog) (log : CoordinatorLog) (v : ℕ → PartView) → MayVoteAs d0 parts0 u shares which log v → IsTrue d0.told → (p : ℕ) → p < length parts0 → KeepsNamed (v p).log.header.sides d0 e (pages_device p)
    named_again which log v base told p within = keeps_more (v p).log.header.sides d0 d e (pages_device p) (g.named which log v base told p within) (by (cases_eq p n))
      where
        mine : KeepsNamed (v n).log.header.sides d e (pages_device n)
        mine =
            let w = view_by (s n) u (share_at shares n) (v n) in
            subst (λ k. KeepsNamed (v n).log.header.sides d e k) its_pages
            (subst (λ sides. KeepsNamed sides d e (pages_of h.x)) (same_sides (s n) u (share_at shares n) (v n))
            (h.images n w (decided_in log n) (own which log v base n h.x h.at) (g.others.shape.told ∙ told)))

        by : (p ≡ n) ⊎ (p ≢ n) → KeepsNamed (v p).log.header.sides d e (pages_device p)
        by (inl same) = subst (λ k. KeepsNamed (v k).log.header.sides d e (pages_device k)) (sym same) mine
        by (inr other) = keeps_all (v p).log.header.sides d e (pages_device p) (h.others.images (pages_device p) (λ at. apart_pages p n other (at ∙ its_pages)))

    images_again : (which : WhichLog) (log : CoordinatorLog) (v : ℕ → PartView) → MayVoteAs d0 parts0 u shares which log v → (p : ℕ) → p < length parts0
        → EachImage e (device_of (part_device p) (v p).which) (IsBeforeOrWith (d0.bytes (device_of (part_device p) (v p).which)) (spell_prepared (prepared u (share_at shares p))))
    images_again which log v base p within =
        let dev = device_of (part_device p) (v p).which in
        each_shrinks d e dev (IsBeforeOrWith (d0.bytes dev) (spell_prepared (prepared u (share_at shares p)))) h.others.shape (h.others.images dev (λ at. log_page p n (v p).which (at ∙ its_pages))) (g.images which log v base p within)

    full_again : (a : Option DiskErr) → FullWhere (λ dev. dev ≡ pages_of h.x) a → FullWhere (VotesPassLimit d0.limit parts0 u shares) a
    full_again a full = full_maps (λ dev. dev ≡ pages_of h.x) (VotesPassLimit d0.limit parts0 u shares) a (λ dev at. inr (record { p = n; low = within_parts; is = at ∙ its_pages })) full

    no_log_full : (k : ℕ) → answer ≡ Some (Full k) → IsLogOfShares parts0 shares (length parts0) k → ⊥
    no_log_full k is_full t =
        let at : k ≡ pages_of h.x = subst (FullWhere (λ dev. dev ≡ pages_of h.x)) is_full h.full in
        log_page t.p n (v0 t.p).which (sym (t.log.device ∙ (if_some (slice_get parts0 t.p) t.x (λ z. IsPartition d0 z t.p (v0 t.p) (decided_in log0 t.p)) t.at (base0.are.each t.p)).device) ∙ (at ∙ its_pages))

    pub reopened_voted : HaveVoted d0 e parts0 is u shares answer
    reopened_voted = record {
      images = images_again;
      named = named_again;
      others = keeps_on (IsVoteDevice parts0 shares) d0 d e answer g.others (wider answer h.others);
      cause = cause_on d0 d e answer g.cause h.cause;
      full = λ told. full_again answer h.full;
      untouched = λ k is_full log. absurd (no_log_full k is_full log);
      size = ap (λ (l : List Partition). length l) h.set ∙ (length-set parts n h.y ∙ g.size);
    }

    module _ (fine : answer ≡ None) where
      keeps : KeepsOthers (pages_of h.x) d e None
      keeps = subst (KeepsOthers (pages_of h.x) d e) fine h.others

      unchanged : (dev : ℕ) → dev ≢ pages_device n → IsUnchanged d e dev
      unchanged dev apart = keeps.kept dev (λ at. apart (at ∙ its_pages))

      place_again : (which : WhichLog) (log : CoordinatorLog) (v : ℕ → PartView) → MayVoteAs d0 parts0 u shares which log v → (p : ℕ) → (p ≡ n) ⊎ (p ≢ n)
          → IfSome (slice_get (slice_set parts n h.y) p) (λ y. IsPartition e y p (view_by (s p) u (share_at shares p) (v p)) (decided_in log p))
      place_again which log v base p (inl same) =
          subst (λ k. IfSome (slice_get (slice_set parts n h.y) k) (λ y. IsPartition e y k (view_by (s k) u (share_at shares k) (v k)) (decided_in log k))) (sym same)
          (subst (λ o. IfSome o (λ y. IsPartition e y n (view_by (s n) u (share_at shares n) (v n)) (decided_in log n))) (sym (set_same parts n h.y (slice_get_within parts n h.x h.at))) (goes_for fine which log v base))
      place_again which log v base p (inr other) =
          subst (λ o. IfSome o (λ y. IsPartition e y p (view_by (s p) u (share_at shares p) (v p)) (decided_in log p))) (sym (set_other parts n p h.y other))
          (make_some (slice_get parts p) (λ y. IsPartition e y p (view_by (s p) u (share_at shares p) (v p)) (decided_in log p)) (λ y at.
          partition_kept d e y p (view_by (s p) u (share_at shares p) (v p)) (decided_in log p) keeps.shape (unchanged (part_device p) (first_page p n)) (unchanged (part_device p + 1) (second_page p n)) (unchanged (pages_device p) (apart_pages p n other))
          (own which log v base p y at)))

      gate_again : (p : ℕ) (x x0 : Partition) → s p ≡ Idle → slice_get (slice_set parts n h.y) p ≡ Some x → slice_get parts0 p ≡ Some x0 → (p ≡ n) ⊎ (p ≢ n) → log_gate x ≡ log_gate x0
      gate_again p x x0 still a b (inl same) =
          let mine : h.y ≡ x = one_of (slice_get (slice_set parts n h.y) n) h.y x (set_same parts n h.y (slice_get_within parts n h.x h.at)) (subst (λ k. slice_get (slice_set parts n h.y) k ≡ Some x) same a) in
          ap log_gate (sym mine) ∙ (h.gate ∙ g.gates n h.x x0 (subst (λ k. s k ≡ Idle) same still) h.at (subst (λ k. slice_get parts0 k ≡ Some x0) same b))
      gate_again p x x0 still a b (inr other) = g.gates p x x0 still (sym (set_other parts n p h.y other) ∙ a) b

      pub reopened_goes : GoesAt d0 e parts0 is u shares s
      reopened_goes = subst (λ l. GoesAt d0 e parts0 l u shares s) (sym h.set) (record {
        size = length-set parts n h.y ∙ g.size;
        each = λ which log v base p. place_again which log v base p (cases_eq p n);
        images = images_again;
        idle = λ which log v base p idle. let dev = device_of (part_device p) (v p).which in kept_on d0 d e dev (g.idle which log v base p idle) (unchanged dev (log_page p n (v p).which));
        gates = λ p x x0 still a b. gate_again p x x0 still a b (cases_eq p n);
        named = named_again;
        others = keeps_on (IsVoteDevice parts0 shares) d0 d e None g.others (wider None keeps);
        cause = cause_on d0 d e None g.cause (subst (HasCause d e) fine h.cause);
      })

  -- NOTHING is done
  module _ (is : List Partition) (answer : Option DiskErr) (h : HasDoneNothing d e parts is answer) where
    bare : KeepsBut (IsVoteDevice parts0 shares) d e None
    bare = keeps_wider (λ _. ⊥) (IsVoteDevice parts0 shares) d e None (λ dev none. absurd none) h.kept

    still : (dev : ℕ) → IsUnchanged d e dev
    still dev = h.kept.kept dev (λ none. none)

    pub nothing_goes : GoesAt d0 e parts0 is u shares s
    nothing_goes = subst (λ l. GoesAt d0 e parts0 l u shares s) (sym h.same) (record {
      size = g.size;
      each = λ which log v base p.
          make_some (slice_get parts p) (λ y. IsPartition e y p (view_by (s p) u (share_at shares p) (v p)) (decided_in log p)) (λ y at.
          partition_kept d e y p (view_by (s p) u (share_at shares p) (v p)) (decided_in log p) h.kept.shape (still (part_device p)) (still (part_device p + 1)) (still (pages_device p)) (own which log v base p y at));
      images = λ which log v base p within.
          let dev = device_of (part_device p) (v p).which in
          each_shrinks d e dev (IsBeforeOrWith (d0.bytes dev) (spell_prepared (prepared u (share_at shares p)))) h.kept.shape (h.kept.images dev (λ none. none)) (g.images which log v base p within);
      idle = λ which log v base p idle. let dev = device_of (part_device p) (v p).which in kept_on d0 d e dev (g.idle which log v base p idle) (still dev);
      gates = g.gates;
      named = λ which log v base told p within.
          let sides = (v p).log.header.sides in
          keeps_more sides d0 d e (pages_device p) (g.named which log v base told p within) (keeps_all sides d e (pages_device p) (h.kept.images (pages_device p) (λ none. none)));
      others = keeps_on (IsVoteDevice parts0 shares) d0 d e None g.others bare;
      cause = cause_on d0 d e None g.cause h.cause;
    })

    none_full : (k : ℕ) → answer ≡ Some (Full k) → ⊥
    none_full k is_full = let wrong : None ≡ Some (Full k) = sym h.fine ∙ is_full in cc

    pub nothing_voted : HaveVoted d0 e parts0 is u shares answer
    nothing_voted = record {
      images = nothing_goes.images;
      named = nothing_goes.named;
      others = subst (KeepsBut (IsVoteDevice parts0 shares) d0 e) (sym h.fine) nothing_goes.others;
      cause = subst (HasCause d0 e) (sym h.fine) nothing_goes.cause;
      full = λ told. subst (FullWhere (VotesPassLimit d0.limit parts0 u shares)) (sym h.fine) tt;
      untouched = λ k is_full log. absurd (none_full k is_full);
      size = nothing_goes.size;
    }

  -- WHAT COMES NEXT, by what it is
  pub next_voted : (nx : Next) (is : List Partition) (answer : Option DiskErr) → DidNext nx d e parts is u shares answer → ((n : ℕ) → nx ≡ next.Prepares (suc n) → s n ≡ Idle) → HaveVoted d0 e parts0 is u shares answer
  next_voted next.Nothing is answer h idle = nothing_voted is answer h
  next_voted (next.Restarts p) is answer h idle = reopened_voted is h.0 answer h.2
  next_voted (next.Prepares p) is answer h idle = prepared_voted is h.0 answer h.2 (idle h.0 (ap next.Prepares h.1))
  next_voted next.Decides is answer h idle = nothing_voted is answer h
  next_voted (next.Ends p) is answer h idle = nothing_voted is answer h

  pub next_goes : (nx : Next) (is : List Partition) (answer : Option DiskErr) → answer ≡ None → DidNext nx d e parts is u shares answer → ((n : ℕ) → nx ≡ next.Prepares (suc n) → s n ≡ Idle)
      → GoesAt d0 e parts0 is u shares (λ p. behind_next nx (suc p) (s p))
  next_goes next.Nothing is answer fine h idle = nothing_goes is answer h
  next_goes (next.Restarts p) is answer fine h idle = reopened_goes is h.0 answer h.2 fine
  next_goes (next.Prepares p) is answer fine h idle =
      prepared_goes is h.0 answer h.2 (idle h.0 (ap next.Prepares h.1)) fine (λ q. behind_next (next.Prepares p) (suc q) (s q))
      (ap (λ b. if b then Prepared else s h.0) (mine h.0 h.1)) (λ q other. ap (λ b. if b then Prepared else s q) (not_mine h.0 h.1 q other))
    where
      mine : (n : ℕ) → p ≡ suc n → (suc n == p) ≡ true
      mine n at = grind (arith, nat_tests)

      not_mine : (n : ℕ) → p ≡ suc n → (q : ℕ) → q ≢ n → (suc q == p) ≡ false
      not_mine n at q other = by (suc q == p) refl
        where
          by : (b : Bool) → (suc q == p) ≡ b → b ≡ false
          by true e = absurd (other (let same : suc q ≡ suc n = eqb-true (suc q) p e ∙ at in omega (arith, same)))
          by false e = refl
  next_goes next.Decides is answer fine h idle = nothing_goes is answer h
  next_goes (next.Ends p) is answer fine h idle = nothing_goes is answer h

module _ (d0 d : View) (parts0 parts : List Partition) (u : Id) (shares : List (List Change)) (s : ℕ → NodeStatus) (g : GoesAt d0 d parts0 parts u shares s) where
  -- where no device call was made, and where memory lacks
  pub goes_voted : HaveVoted d0 d parts0 parts u shares None
  goes_voted = record { images = g.images; named = g.named; others = g.others; cause = g.cause; full = λ told. tt; untouched = λ k none log. absurd (let wrong : None ≡ Some (Full k) = none in cc); size = g.size }

  pub goes_lacking : HaveVoted d0 d parts0 parts u shares (Some Memory)
  goes_lacking = record {
    images = g.images;
    named = g.named;
    others = record { shape = g.others.shape; kept = g.others.kept; images = g.others.images };
    cause = cause_memory d0 d g.cause;
    full = λ told. tt;
    untouched = λ k none log. absurd (let wrong : Some Memory ≡ Some (Full k) = none in cc);
    size = g.size;
  }

  -- WHERE ALL ARE PREPARED
  unshared : (k : NodeStatus) (cs : List Change) (w : PartView) → has_changes cs ≡ false → view_by k u cs w ≡ with_share u cs w
  unshared Prepared cs w none = refl
  unshared Unknown cs w none = sym (ap (λ (b : Bool). if b then with_prepared_unit w (prepared u cs) else w) none)
  unshared Asking cs w none = sym (ap (λ (b : Bool). if b then with_prepared_unit w (prepared u cs) else w) none)
  unshared Idle cs w none = sym (ap (λ (b : Bool). if b then with_prepared_unit w (prepared u cs) else w) none)
  unshared Commit cs w none = sym (ap (λ (b : Bool). if b then with_prepared_unit w (prepared u cs) else w) none)
  unshared Abort cs w none = sym (ap (λ (b : Bool). if b then with_prepared_unit w (prepared u cs) else w) none)

  pub all_voted : ((p : ℕ) → has_changes (share_at shares p) ≡ true → s p ≡ Prepared) → (which : WhichLog) (log : CoordinatorLog) (v : ℕ → PartView) → MayVoteAs d0 parts0 u shares which log v
      → ArePartitions d parts (with_shares u shares v) (decided_in log)
  all_voted done which log v base = record {
    each = λ p. subst (λ w. IfSome (slice_get parts p) (λ x. IsPartition d x p w (decided_in log p))) (same p (has_changes (share_at shares p)) refl) (g.each which log v base p);
  }
    where
      same : (p : ℕ) (b : Bool) → has_changes (share_at shares p) ≡ b → view_by (s p) u (share_at shares p) (v p) ≡ with_share u (share_at shares p) (v p)
      same p true some = ap (λ (k : NodeStatus). view_by k u (share_at shares p) (v p)) (done p some)
      same p false none = unshared (s p) (share_at shares p) (v p) none
