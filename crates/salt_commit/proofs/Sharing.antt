-- Where commits go over no messages, shares are prepared and applied at once.
use Rattle.salt_bytes.specs.Generations.{WhichLog}
use Rattle.salt_bytes.specs.Partition.{spell_prepared}
use Rattle.salt_checkpoint.proofs.Torn.{keeps_all, keeps_more}
use Rattle.salt_checkpoint.specs.Sides.{KeepsNamed}
use Rattle.salt_commit.specs.Telling.{HaveTold, IsBehind}
use Rattle.salt_commit.specs.Voting.{HaveVoted, IsVoteDevice, VotesPassLimit}
use Rattle.salt_decisions.specs.Decisions.{IsBeforeOrWith}
use Rattle.salt_disk.proofs.CallAfterCall.{cause_none, cause_on, keeps_on, keeps_wider, same_shape}
use Rattle.salt_disk.specs.Disks.{EachImage, FullWhere, HasCause, IsUnchanged, KeepsBut, View}
use Rattle.salt_disk.specs.declared.disks.DiskErr.TheVariants.{Full}
use Rattle.salt_disk.specs.declared.disks.DiskErr.{DiskErr}
use Rattle.salt_paged.specs.Partitions.{ArePartitions, IsPartition, pages_of}
use Rattle.salt_paged.specs.declared.partition.Partition.{Partition}
use Rattle.salt_parts.proofs.Lists.{if_some}
use Rattle.salt_parts.specs.Openings.{IsPagesOf, decided_in}
use Rattle.salt_partition.specs.Partitions.{prepared}
use Rattle.salt_shares.proofs.Sharing.{full_maps, pages_apart}
use Rattle.salt_shares.specs.Applies.{AreSharesLast, IsPagesOfShares, OnePagesPassLimit, applied_with_shares}
use Rattle.salt_shares.specs.Prepares.{IsLogOfShares, OnePassesLimit}
use Rattle.salt_shares.specs.Shares.{share_at}
use Rattle.salt_stands.specs.Coordinator.{device_of}
use Rattle.salt_stands.specs.CoordinatorLog.{CoordinatorLog}
use Rattle.salt_stands.specs.Partition.{pages_device, part_device}
use Rattle.salt_stands.specs.Pieces.{PartView}
use Rattle.salt_values.specs.declared.change.Change.{Change}
use Rattle.salt_values.specs.declared.id.Id.{Id}
use Rattle.std.proofs.Common.{IsTrue, List, None, Option, Some, ap, arith, inl, length, refl, subst, sym, ℕ, ◌<◌, ◌≡◌, ◌∙◌}
use Rattle.std.proofs.lemmas.Option.{slice_get_within}
use Rattle.std.specs.Prelude.{IfSome, slice_get}

-- PREPARED: no page is written
module _ (d e : View) (was is : List Partition) (u : Id) (shares : List (List Change)) (answer : Option DiskErr) where
  pub all_voted_at_once : ((v : ℕ → PartView) (applied : ℕ → List Id) → ArePartitions d was v applied → (p : ℕ) → p < length was
      → EachImage e (device_of (part_device p) (v p).which) (IsBeforeOrWith (d.bytes (device_of (part_device p) (v p).which)) (spell_prepared (prepared u (share_at shares p)))))
      → KeepsBut (IsLogOfShares was shares (length was)) d e answer → HasCause d e answer → FullWhere (OnePassesLimit d.limit was u shares) answer → ((k : ℕ) → answer ≡ Some (Full k) → IsUnchanged d e k) → length is ≡ length was
      → HaveVoted d e was is u shares answer
  all_voted_at_once images others cause full untouched size = record {
    images = λ which log v base p low. images v (decided_in log) base.are p low;
    named = λ which log v base told p low. keeps_all (v p).log.header.sides d e (pages_device p) (others.images (pages_device p) (no_page v (decided_in log) base.are p));
    others = keeps_wider (IsLogOfShares was shares (length was)) (IsVoteDevice was shares) d e answer (λ dev t. inl t) others;
    cause = cause;
    full = λ told. full_maps (OnePassesLimit d.limit was u shares) (VotesPassLimit d.limit was u shares) answer (λ dev t. inl t) full;
    untouched = λ k is_full log. untouched k is_full;
    size = size;
  }
    where
      no_page : (v : ℕ → PartView) (applied : ℕ → List Id) → ArePartitions d was v applied → (p : ℕ) → ¬ IsLogOfShares was shares (length was) (pages_device p)
      no_page v applied are p t =
          pages_apart p t.p (v t.p).which (t.log.device ∙ (if_some (slice_get was t.p) t.x (λ y. IsPartition d y t.p (v t.p) (applied t.p)) t.at (are.each t.p)).device)

-- APPLIED
its_pages : (d : View) (parts : List Partition) (v : ℕ → PartView) (applied : ℕ → List Id) → ArePartitions d parts v applied → (dev : ℕ) (p : ℕ) (x : Partition) → slice_get parts p ≡ Some x → dev ≡ pages_of x → IsPagesOf (length parts) dev
its_pages d parts v applied are dev p x at is =
    let own = if_some (slice_get parts p) x (λ y. IsPartition d y p (v p) (applied p)) at (are.each p) in
    record { p = p; low = slice_get_within parts p x at; is = is ∙ ap pages_device own.part }

module _ (d e : View) (was is : List Partition) (u : Id) (shares : List (List Change)) (answer : Option DiskErr) (v : ℕ → PartView) (applied : ℕ → List Id) (are : ArePartitions d was v applied) (last : AreSharesLast v applied u shares)
    (images : (v : ℕ → PartView) (applied : ℕ → List Id) → ArePartitions d was v applied → (p : ℕ) → KeepsNamed (v p).log.header.sides d e (pages_device p))
    (others : KeepsBut (IsPagesOfShares was shares (length was)) d e answer) (cause : HasCause d e answer)
    (full : (v : ℕ → PartView) (applied : ℕ → List Id) → ArePartitions d was v applied → AreSharesLast v applied u shares → IsTrue d.told → FullWhere (OnePagesPassLimit d.limit was v applied u) answer) (size : length is ≡ length was) where
  some_pages : (dev : ℕ) → IsPagesOfShares was shares (length was) dev → IsPagesOf (length was) dev
  some_pages dev t = its_pages d was v applied are dev t.p t.x t.at t.pages.device

  pub all_told_at_once : HaveTold d e was is u shares answer
  all_told_at_once = record {
    named = λ which log w us b told p low. images w us b.are p;
    others = keeps_wider (IsPagesOfShares was shares (length was)) (IsPagesOf (length was)) d e answer some_pages others;
    cause = cause;
    full = λ told. full_maps (OnePagesPassLimit d.limit was v applied u) (IsPagesOf (length was)) answer (λ dev t. its_pages d was v applied are dev t.p t.x t.at t.passes.device) (full v applied are last told);
    size = size;
  }

-- where none is asked
pub none_told : (d : View) (parts : List Partition) (u : Id) (shares : List (List Change)) → HaveTold d d parts parts u shares None
none_told d parts u shares = record {
  named = λ which log v applied b told p low. keeps_all (v p).log.header.sides d d (pages_device p) (λ c left. left);
  others = record { shape = same_shape d; kept = λ dev other. record { bytes = refl; images = λ c left. left }; images = λ dev other c left. left };
  cause = cause_none d;
  full = λ told. tt;
  size = refl;
}

-- one after the other
pub told_on : (c d e : View) (was mid is : List Partition) (u : Id) (shares left : List (List Change)) (answer : Option DiskErr) → HaveTold c d was mid u shares None
    → ((which : WhichLog) (log : CoordinatorLog) (v : ℕ → PartView) (applied : ℕ → List Id) → IsBehind c was u shares which log v applied → (now : ℕ → List Id) × IsBehind d mid u left which log v now)
    → HaveTold d e mid is u left answer → HaveTold c e was is u shares answer
told_on c d e was mid is u shares left answer first goes second = record {
  named = λ which log v applied b told p low.
      let next = goes which log v applied b in
      keeps_more (v p).log.header.sides c d e (pages_device p) (first.named which log v applied b told p low) (second.named which log v next.0 next.1 (first.others.shape.told ∙ told) p (omega (arith, low, first.size)));
  others = keeps_on (IsPagesOf (length was)) c d e answer first.others (keeps_wider (IsPagesOf (length mid)) (IsPagesOf (length was)) d e answer same second.others);
  cause = cause_on c d e answer first.cause second.cause;
  full = λ told. full_maps (IsPagesOf (length mid)) (IsPagesOf (length was)) answer same (second.full (first.others.shape.told ∙ told));
  size = second.size ∙ first.size;
}
  where
    same : (dev : ℕ) → IsPagesOf (length mid) dev → IsPagesOf (length was) dev
    same dev t = record { p = t.p; low = omega (arith, t.low, first.size); is = t.is }

-- with the shares that are left applied, each has what the coordinator's log decides
pub all_ended : (d e : View) (was is : List Partition) (u : Id) (shares : List (List Change)) (which : WhichLog) (log : CoordinatorLog) (v : ℕ → PartView) (applied : ℕ → List Id) → IsBehind d was u shares which log v applied
    → ArePartitions e is v (applied_with_shares u shares applied) → ArePartitions e is v (decided_in log)
all_ended d e was is u shares which log v applied behind are = record {
  each = λ p. subst (λ us. IfSome (slice_get is p) (λ x. IsPartition e x p (v p) us)) (sym (behind.decided p)) (are.each p);
}
