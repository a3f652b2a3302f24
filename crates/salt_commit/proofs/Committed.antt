-- A commit, by what its calls say one after another.
use Rattle.salt_bytes.specs.Coordinator.{Decides, is_number_of_parts, spell_entry}
use Rattle.salt_bytes.specs.Generations.{LogA, LogB, WhichLog}
use Rattle.salt_bytes.specs.Partition.{spell_prepared}
use Rattle.salt_bytes.specs.declared.moves.Move.{Move}
use Rattle.salt_commit.proofs.Restarted.{reads_of}
use Rattle.salt_checkpoint.specs.Checkpoints.{StandsAlways}
use Rattle.salt_commit.proofs.Decided.{applied_now, decision_images, found_with_unit, shares_last, sound_decided, sound_share, store_after, store_prepared}
use Rattle.salt_commit.proofs.Ready.{sound_ready, store_ready}
use Rattle.salt_commit.proofs.Shared.{length-listed, mask_small}
use Rattle.salt_commit.proofs.Spare.{spare_stand}
use Rattle.salt_commit.proofs.Standing.{apart_from_part, partitions_stay}
use Rattle.salt_commit.proofs.Undecided.{IsInHand, before_decision, may_commit, may_prepare, spelled}
use Rattle.salt_commit.specs.Commits.{IsCommitDevice, IsCommitLog, MayCommitUnit, UnitPassesLimit, shares_in}
use Rattle.salt_commit.specs.Shares.{mask_of, next_decision, shares_of}
use Rattle.salt_commit.specs.Stores.{IsSound, IsStore, StandForEither, decided_by, last_decision, shape_of_store}
use Rattle.salt_commit.specs.Telling.{HaveTold, IsBehind, MayTell}
use Rattle.salt_commit.specs.Voting.{HaveVoted, IsVoteDevice, MayVote, MayVoteAs, VotesPassLimit}
use Rattle.salt_commit.specs.declared.store.Store.{Store}
use Rattle.salt_decisions.proofs.Appended.{spelled_so}
use Rattle.salt_decisions.proofs.Framed.{decisions_kept}
use Rattle.salt_decisions.specs.Decisions as decisions
use Rattle.salt_decisions.specs.Decisions.{IsBeforeOrWith, IsDecisions, decided, device_in}
use Rattle.salt_decisions.specs.declared.decisions.Decisions.{Decisions}
use Rattle.salt_disk.proofs.CallAfterCall.{keeps_on, keeps_wider, kept_on}
use Rattle.salt_disk.specs.Disks.{EachImage, FullExactly, FullWhere, IsUnchanged, KeepsBut, KeepsOthers, SameShape, View}
use Rattle.salt_disk.specs.declared.disks.DiskErr.TheVariants.{Failed, Full, Memory, Stopped}
use Rattle.salt_disk.specs.declared.disks.DiskErr.{DiskErr}
use Rattle.salt_paged.specs.Partitions.{ArePartitions, IsPartition}
use Rattle.salt_partition.specs.Partitions.{prepared}
use Rattle.salt_parts.proofs.Lists.{if_some}
use Rattle.salt_parts.specs.Openings.{IsPagesOf, decided_in}
use Rattle.salt_shares.proofs.Sharing.{full_maps}
use Rattle.salt_shares.specs.Applies.{AreSharesLast}
use Rattle.salt_shares.specs.Prepares.{IsLogOfShares, MayPrepareEach, OnePassesLimit, with_shares}
use Rattle.salt_shares.specs.Shares.{applied_with, share_at, with_share}
use Rattle.salt_stands.proofs.Booleans.{left}
use Rattle.salt_stands.proofs.OpenedPart.{sound_is}
use Rattle.salt_stands.specs.Commits.{Spelled, found_after, found_of, partition_count, view_after}
use Rattle.salt_stands.specs.Coordinator.{Coordinator, decided_for, device_of}
use Rattle.salt_stands.specs.OpenedPart.{is_fitting_log, is_known_log}
use Rattle.salt_stands.specs.Partition.{is_sound_log, pages_device, part_device}
use Rattle.salt_stands.specs.PartitionLog.{PartitionLog}
use Rattle.salt_stands.specs.Pieces.{PartView, with_decision}
use Rattle.salt_stands.specs.Placed.{changes_at}
use Rattle.salt_stands.specs.Reading.{Reading}
use Rattle.salt_place.specs.Placement.{IsParts}
use Rattle.salt_values.specs.declared.change.Change.{Change}
use Rattle.salt_values.specs.declared.cont.Cont.{Cont}
use Rattle.salt_values.specs.declared.id.Id.{Id}
use Rattle.salt_place.specs.declared.placement.Shape.{Shape}
use Rattle.salt_paged.specs.declared.partition.Partition.{Partition}
use Rattle.std.proofs.Common.{Err, IsTrue, List, None, Ok, Option, Result, Some, ap, arith, inl, inr, length, subst, sym, true, ℕ, ◌*◌, ◌+◌, ◌<◌, ◌^◌, ◌≡◌, ◌≤◌, ◌∙◌}
use Rattle.std.proofs.lemmas.Bool.Decides.{nat_tests}
use Rattle.std.proofs.lemmas.Option.{slice_get_within}
use Rattle.std.specs.Prelude.{nat_lt, slice_get}
use Rattle.std.specs.Result.{result_err}

parts_known : (n : ℕ) → is_number_of_parts n ≡ true → IsParts n
parts_known n h = (low, high)
  where
    low : 1 ≤ n
    low = grind (arith, nat_tests)

    high : n ≤ 8
    high = grind (arith, nat_tests)

-- a call's answer goes on
pub answer_is : {T : Type 0} (result : Result T DiskErr) (s e : DiskErr) → result ≡ Err s → s ≡ e → result_err result ≡ Some e
answer_is result s e is from = ap result_err is ∙ ap (λ (k : DiskErr). Some k) from

-- a sound log is one that the coordinator may have
known_log : {D : Type 0} (r : Reading D) (c : Coordinator D) (p : ℕ) (log : PartitionLog) → is_sound_log r c p log ≡ true → is_known_log c.log.told.boot (decided_for p c.log.told.decided) log ≡ true
known_log r c p log sound = left (is_known_log c.log.told.boot (decided_for p c.log.told.decided) log) (is_fitting_log r c p log) (sym (sound_is r c p log) ∙ sound)

module _ {D : Type 0} (r : Reading D) (d : View) (x : Store) (which : WhichLog) (c : Coordinator D) (v : ℕ → PartView) (is : IsStore r d x which c v)
    (u : Id) (cs : List Change) (mv : List ℕ) (m : Move) (conts : List Cont) (may : MayCommitUnit d.told r c v u cs mv m conts)
    (ss : List (List Change)) (shared : ss ≡ shares_in x cs) where
  parts : IsParts (partition_count c)
  parts = parts_known (partition_count c) (ap (λ (s : Shape). is_number_of_parts s.parts) (sym is.decisions.holds.shape) ∙ is.decisions.holds.parts)

  same : ss ≡ shares_of c.log.header.shape cs
  same = shared ∙ ap (λ s. shares_of s cs) is.decisions.holds.shape

  pub few_shares : length ss ≤ 8
  few_shares = omega (arith, ap (λ (l : List (List Change)). length l) same, length-listed (λ p. changes_at c.log.header.shape p cs) 0 c.log.header.shape.parts, parts.1)

  pub share_each : length ss ≡ length x.parts
  share_each = ap (λ (l : List (List Change)). length l) same ∙ length-listed (λ p. changes_at c.log.header.shape p cs) 0 c.log.header.shape.parts ∙ sym is.size

  pub mask_within : nat_lt (mask_of ss) (2 ^ (decisions.shape_of x.decisions).parts) ≡ true
  mask_within = ap (λ l. nat_lt (mask_of l) (2 ^ (decisions.shape_of x.decisions).parts)) shared ∙ mask_small (decisions.shape_of x.decisions) cs

  each_may : MayPrepareEach v (decided_by c) u ss
  each_may = subst (MayPrepareEach v (decided_by c) u) (sym same) (may_prepare r d x which c v is u cs mv m conts may parts)

  pub may_vote_as : MayVoteAs d x.parts u ss which c.log v
  may_vote_as = record { reads = reads_of d x.decisions which c.log is.decisions; are = is.parts; may = each_may }

  module _ (hand : IsInHand u cs mv) (below : last_decision x + 1 < 2 ^ 64) where
    room : c.log.told.decisions + 1 < 2 ^ 64
    room = omega (arith, below, is.decisions.holds.decisions)

    pub may_vote : MayVote d x.parts u ss
    may_vote = record {
      which = which;
      log = c.log;
      v = v;
      stand = may_vote_as;
      known = λ told p low. known_log r c p (v p).log ((is.sound told).part p (omega (arith, low, is.size)));
      known_with = λ told p low.
          ap (λ l. is_known_log c.log.told.boot (decided_in c.log p) (with_share u (share_at l p) (v p)).log) same
          ∙ known_log r c p (with_shares u (shares_of c.log.header.shape cs) v p).log (sound_share r d x which c v is u cs mv m conts may parts hand room told p (omega (arith, low, is.size)));
    }

    -- each image while the shares are prepared
    pub undecided_image : IsTrue d.told → (b : View) (answer : Option DiskErr) (ys : List Partition) → HaveVoted d b x.parts ys u ss answer → StandsAlways r b c v
    undecided_image told b answer ys voted =
        before_decision r d which c v (store_ready r d x which c v is told) cs (next_decision c u cs mv) m conts (spell_entry (Decides (next_decision c u cs mv))) (λ p. spell_prepared (prepared u (share_at ss p)))
        (may_commit r d x which c v is u cs mv m conts may parts hand told)
        (subst (λ l. Spelled c v cs (next_decision c u cs mv) (spell_entry (Decides (next_decision c u cs mv))) (λ p. spell_prepared (prepared u (share_at l p)))) (sym same) (spelled r d x which c v is u cs mv m conts may parts hand room))
        told b answer x.parts ss (decided_by c) is.parts is.size voted.others
        (λ p low. voted.named which c.log v may_vote_as told p (omega (arith, low, is.size)))
        (λ p low. voted.images which c.log v may_vote_as p (omega (arith, low, is.size)))

    -- AFTER THE SHARES ARE PREPARED
    module _ (b : View) (y : Store) (kept : y.decisions ≡ x.decisions) (voted : HaveVoted d b x.parts y.parts u ss None)
        (ok : ArePartitions b y.parts (with_shares u ss v) (decided_by c)) where
      pub between : IsStore r b y which c (with_shares u (shares_of c.log.header.shape cs) v)
      between = store_prepared r d x which c v is u cs mv m conts may parts hand room b y kept voted.size
          (subst (λ l. KeepsBut (IsVoteDevice x.parts l) d b None) same voted.others)
          (subst (λ l. ArePartitions b y.parts (with_shares u l v) (decided_by c)) same ok)

      next_is : decisions.next_decision x.decisions u (mask_of ss) mv ≡ next_decision c u cs mv
      next_is = ap (λ n. record { number = n + 1; unit = u; mask = mask_of ss; move = mv }) is.decisions.holds.decisions ∙ ap (λ l. record { number = c.log.told.decisions + 1; unit = u; mask = mask_of l; move = mv }) same

      -- each image once the decision is begun
      pub decided_image : IsTrue d.told → (e : View) (answer : Option DiskErr) → KeepsOthers (device_in y.decisions) b e answer
          → EachImage e (device_of 0 which) (IsBeforeOrWith (b.bytes (device_of 0 which)) (spell_entry (Decides (decisions.next_decision x.decisions u (mask_of ss) mv))))
          → StandForEither r e (found_of c v) (found_after c v cs (next_decision c u cs mv) conts)
      decided_image told e answer keeps images =
          decision_images r d x which c v is u cs mv m conts may parts hand room b y between e answer keeps told (voted.others.shape.told ∙ told)
          (spelled_so e (device_of 0 which) (b.bytes (device_of 0 which)) (spell_entry (Decides (decisions.next_decision x.decisions u (mask_of ss) mv))) (spell_entry (Decides (next_decision c u cs mv))) (ap (λ k. spell_entry (Decides k)) next_is) images)

      -- AFTER THE DECISION
      module _ (e : View) (keeps : KeepsOthers (device_in y.decisions) b e None) (w : Decisions) (log : IsDecisions e w which (decided c.log (decisions.next_decision x.decisions u (mask_of ss) mv))) where
        is_last : AreSharesLast (with_shares u (shares_of c.log.header.shape cs) v) (decided_by c) u ss
        is_last = subst (λ l. AreSharesLast (with_shares u (shares_of c.log.header.shape cs) v) (decided_by c) u l) (sym same)
            (shares_last r d x which c v is u cs mv m conts may parts hand room (may_prepare r d x which c v is u cs mv m conts may parts))

        now_decided : (p : ℕ) → decided_in (decided c.log (next_decision c u cs mv)) p ≡ applied_with u (share_at ss p) (decided_by c p)
        now_decided p = sym (applied_now r d x which c v is u cs mv m conts may parts hand room p) ∙ ap (λ l. applied_with u (share_at l p) (decided_by c p)) (sym same)

        own_log : IsDecisions e w which (decided c.log (next_decision c u cs mv))
        own_log = subst (λ k. IsDecisions e w which (decided c.log k)) next_is log

        stay : ArePartitions e y.parts (with_shares u (shares_of c.log.header.shape cs) v) (decided_by c)
        stay = partitions_stay r b y which c (with_shares u (shares_of c.log.header.shape cs) v) between e keeps

        -- the partitions behind the decision
        pub behind : IsBehind e y.parts u ss which (decided c.log (next_decision c u cs mv)) (with_shares u (shares_of c.log.header.shape cs) v) (decided_by c)
        behind = record { reads = reads_of e w which (decided c.log (next_decision c u cs mv)) own_log; are = stay; last = is_last; decided = now_decided }

        first : IsTrue e.told → IsTrue d.told
        first told = sym voted.others.shape.told ∙ (sym keeps.shape.told ∙ told)

        sound : IsTrue e.told → IsSound r (with_decision c (next_decision c u cs mv) conts) (with_shares u (shares_of c.log.header.shape cs) v)
        sound told = sound_decided r d x which c v is u cs mv m conts may parts hand room b y between (first told) (sym keeps.shape.told ∙ told)

        pub may_tell : MayTell e y.parts u ss
        may_tell = record {
          which = which;
          log = decided c.log (next_decision c u cs mv);
          v = with_shares u (shares_of c.log.header.shape cs) v;
          applied = decided_by c;
          behind = behind;
          known = λ told p low. known_log r (with_decision c (next_decision c u cs mv) conts) p (with_shares u (shares_of c.log.header.shape cs) v p).log ((sound told).part p (omega (arith, low, voted.size, is.size)));
        }

        -- behind the decision the store is ready, whichever shares are applied: so each image of what is written then stands for it
        pub told_image : IsTrue d.told → (f : View) (answer : Option DiskErr) (zs : List Partition) → HaveTold e f y.parts zs u ss answer → StandForEither r f (found_of c v) (found_after c v cs (next_decision c u cs mv) conts)
        told_image told f answer zs done asked image left =
            let now = with_decision c (next_decision c u cs mv) conts in
            let views = with_shares u (shares_of c.log.header.shape cs) v in
            let here : IsTrue e.told = keeps.shape.told ∙ (voted.others.shape.told ∙ told) in
            let count : length y.parts ≡ partition_count now = voted.size ∙ is.size in
            let ready = sound_ready r e w y.parts which now views (decided_by c) here own_log count stay (sound here) in
            inr (spare_stand r e f which now views ready (length y.parts) answer done.others (λ p low. done.named which (decided c.log (next_decision c u cs mv)) views (decided_by c) behind here p (omega (arith, low, count))) asked image left
            ∙ ap Ok (found_with_unit r d x which c v is u cs mv m conts may parts hand room told))

        pub committed : (f : View) (z : Store) → HaveTold e f y.parts z.parts u ss None → z.decisions ≡ w → ArePartitions f z.parts (with_shares u (shares_of c.log.header.shape cs) v) (decided_in (decided c.log (next_decision c u cs mv)))
            → IsStore r f z which (with_decision c (next_decision c u cs mv) conts) (view_after c v cs (next_decision c u cs mv))
        committed f z done own applied =
            store_after r d x which c v is u cs mv m conts may parts hand room b y between f z (λ told. first (sym done.others.shape.told ∙ told)) (λ told. sym keeps.shape.told ∙ (sym done.others.shape.told ∙ told))
            (decisions_kept e f z.decisions which (decided c.log (next_decision c u cs mv)) done.others.shape (done.others.kept 0 (no_page 0 (omega arith))) (done.others.kept 1 (no_page 1 (omega arith)))
            (subst (λ k. IsDecisions e k which (decided c.log (next_decision c u cs mv))) (sym own) own_log))
            done.size applied
          where
            no_page : (dev : ℕ) → dev < 2 → IsPagesOf (length y.parts) dev → ⊥
            no_page dev low t = omega (arith, low, t.is)

-- A FULL LOG is as it was before all calls

log_is_no_page : (w : WhichLog) (a p n : ℕ) → device_of (part_device a) w ≡ n → n ≡ pages_device p → ⊥
log_is_no_page LogA a p n at is = omega (arith, at, is)
log_is_no_page LogB a p n at is = omega (arith, at, is)

coordinator_apart : (w : WhichLog) (p : ℕ) (z : WhichLog) → device_of 0 w ≡ device_of (part_device p) z → ⊥
coordinator_apart w p LogA equal = apart_from_part w p 0 (let z : 2 + 3 * p + 0 ≡ part_device p = omega arith in z ∙ sym equal)
coordinator_apart w p LogB equal = apart_from_part w p 1 (sym equal)

coordinator_no_page : (w : WhichLog) (p n : ℕ) → n ≡ device_of 0 w → n ≡ pages_device p → ⊥
coordinator_no_page LogA p n at is = omega (arith, at, is)
coordinator_no_page LogB p n at is = omega (arith, at, is)

module _ {D : Type 0} (r : Reading D) (d : View) (x : Store) (which : WhichLog) (c : Coordinator D) (v : ℕ → PartView) (is : IsStore r d x which c v) where
  -- the coordinator's log is none of those that are voted in
  pub decision_untouched : (b e : View) (ss : List (List Change)) → KeepsBut (IsVoteDevice x.parts ss) d b None → (k : ℕ) → k ≡ device_in x.decisions → IsUnchanged b e (device_in x.decisions) → IsUnchanged d e k
  decision_untouched b e ss others k at same = subst (IsUnchanged d e) (sym at) (kept_on d b e (device_in x.decisions) (others.kept (device_in x.decisions) apart) same)
    where
      apart : IsVoteDevice x.parts ss (device_in x.decisions) → ⊥
      apart (inl t) =
          let y = if_some (slice_get x.parts t.p) t.x (λ z. IsPartition d z t.p (v t.p) (decided_by c t.p)) t.at (is.parts.each t.p) in
          coordinator_apart which t.p (v t.p).which (sym is.decisions.counting.device ∙ t.log.device ∙ y.device)
      apart (inr t) = coordinator_no_page which t.p (device_in x.decisions) is.decisions.counting.device t.is

  -- and no log has pages
  pub no_log_pages : (cs : List Change) (n k : ℕ) → IsCommitLog x cs k → IsPagesOf n k → ⊥
  no_log_pages cs n k (inl at) t = coordinator_no_page which t.p k (at ∙ is.decisions.counting.device) t.is
  no_log_pages cs n k (inr s) t =
      let y = if_some (slice_get x.parts s.p) s.x (λ z. IsPartition d z s.p (v s.p) (decided_by c s.p)) s.at (is.parts.each s.p) in
      log_is_no_page (v s.p).which s.p t.p k (sym (s.log.device ∙ y.device)) t.is

-- a log that is full while shares are prepared is that of a partition which has one
pub share_log : (x : Store) (ss : List (List Change)) (limit : ℕ → ℕ) (u : Id) (n : ℕ) → VotesPassLimit limit x.parts u ss n → (IsPagesOf (length x.parts) n → ⊥) → IsLogOfShares x.parts ss (length x.parts) n
share_log x ss limit u n (inl t) no_page = record { p = t.p; low = slice_get_within x.parts t.p t.x t.at; x = t.x; at = t.at; log = t.passes.log }
share_log x ss limit u n (inr t) no_page = absurd (no_page t)

-- WHAT A COMMIT TOUCHES
module _ (x : Store) (many : length x.parts ≡ (shape_of_store x).parts) (cs : List Change) (ss : List (List Change)) (shared : ss ≡ shares_in x cs) (d b : View) where
  vote_device : (dev : ℕ) → IsVoteDevice x.parts ss dev → IsCommitDevice x cs dev
  vote_device dev (inl t) = inl (inr (subst (λ l. IsLogOfShares x.parts l (length x.parts) dev) shared t))
  vote_device dev (inr t) = inr (record { p = t.p; low = omega (arith, t.low, many); is = t.is })

  pub wider_votes : (answer : Option DiskErr) → KeepsBut (IsVoteDevice x.parts ss) d b answer → KeepsBut (IsCommitDevice x cs) d b answer
  wider_votes answer keeps = keeps_wider (IsVoteDevice x.parts ss) (IsCommitDevice x cs) d b answer vote_device keeps

  pub wider_decision : (e : View) (answer : Option DiskErr) → KeepsBut (IsVoteDevice x.parts ss) d b None → KeepsOthers (device_in x.decisions) b e answer → KeepsBut (IsCommitDevice x cs) d e answer
  wider_decision e answer first keeps = keeps_on (IsCommitDevice x cs) d b e answer (wider_votes None first)
      (keeps_wider (λ dev. dev ≡ device_in x.decisions) (IsCommitDevice x cs) b e answer (λ dev is. inl (inl is)) keeps)

  pub wider_told : (e f : View) (n : ℕ) (answer : Option DiskErr) → n ≡ length x.parts → KeepsBut (IsVoteDevice x.parts ss) d b None → KeepsOthers (device_in x.decisions) b e None → KeepsBut (IsPagesOf n) e f answer → KeepsBut (IsCommitDevice x cs) d f answer
  wider_told e f n answer size first second keeps = keeps_on (IsCommitDevice x cs) d e f answer (wider_decision e None first second)
      (keeps_wider (IsPagesOf n) (IsCommitDevice x cs) e f answer (λ dev t. inr (record { p = t.p; low = omega (arith, t.low, size, many); is = t.is })) keeps)

  -- AND WHERE ONE IS FULL
  pub votes_full : (limit : ℕ → ℕ) (u : Id) (mv : List ℕ) (answer : Option DiskErr) → FullWhere (VotesPassLimit limit x.parts u ss) answer → FullWhere (UnitPassesLimit limit x u cs mv) answer
  votes_full limit u mv answer full = full_maps (VotesPassLimit limit x.parts u ss) (UnitPassesLimit limit x u cs mv) answer by full
    where
      by : (dev : ℕ) → VotesPassLimit limit x.parts u ss dev → UnitPassesLimit limit x u cs mv dev
      by dev (inl t) = inr (inl (subst (λ l. OnePassesLimit limit x.parts u l dev) shared t))
      by dev (inr t) = inr (inr (record { p = t.p; low = omega (arith, t.low, many); is = t.is }))

  pub told_full : (limit : ℕ → ℕ) (u : Id) (mv : List ℕ) (n : ℕ) (answer : Option DiskErr) → n ≡ length x.parts → FullWhere (IsPagesOf n) answer → FullWhere (UnitPassesLimit limit x u cs mv) answer
  told_full limit u mv n answer size full = full_maps (IsPagesOf n) (UnitPassesLimit limit x u cs mv) answer (λ dev t. inr (inr (record { p = t.p; low = omega (arith, t.low, size, many); is = t.is }))) full

-- the coordinator's log is full
pub decision_full : (x : Store) (cs : List Change) (d b : View) → SameShape d b → (u : Id) (mv : List ℕ) (mask : ℕ) → mask ≡ mask_of (shares_in x cs) → (e : DiskErr)
    → FullExactly (device_in x.decisions) (b.limit (device_in x.decisions)) (decisions.gate_in x.decisions + 10 + length (spell_entry (Decides (decisions.next_decision x.decisions u mask mv)))) (Some e) → FullWhere (UnitPassesLimit d.limit x u cs mv) (Some e)
decision_full x cs d b limits u mv mask masked Failed full = tt
decision_full x cs d b limits u mv mask masked Stopped full = tt
decision_full x cs d b limits u mv mask masked (Full n) full = inl (record {
  device = full.0;
  over = subst (λ k. k < decisions.gate_in x.decisions + 10 + length (spell_entry (Decides (decisions.next_decision x.decisions u (mask_of (shares_in x cs)) mv)))) (limits.limit n)
      (subst (λ k. b.limit n < decisions.gate_in x.decisions + 10 + length (spell_entry (Decides (decisions.next_decision x.decisions u k mv)))) masked
      (subst (λ k. b.limit k < decisions.gate_in x.decisions + 10 + length (spell_entry (Decides (decisions.next_decision x.decisions u mask mv)))) (sym full.0) full.1));
})
decision_full x cs d b limits u mv mask masked Memory full = tt
