-- The turns of a unit behind its decision: each partition stands as it did, or was opened again with the unit.
use Rattle.salt_bytes.specs.Generations.{WhichLog}
use Rattle.salt_checkpoint.proofs.Torn.{keeps_all, keeps_more}
use Rattle.salt_checkpoint.specs.Sides.{KeepsNamed}
use Rattle.salt_commit.proofs.Voters.{node_within}
use Rattle.salt_commit.proofs.Voting.{reads_kept}
use Rattle.salt_commit.specs.Again.{ReadsAs}
use Rattle.salt_commit.specs.Messages.{nodes_of}
use Rattle.salt_commit.specs.Telling.{DidOpen, HaveTold, IsBehind, MayOpen, MayTell}
use Rattle.salt_commit.specs.Voting.{HasDoneNothing, HasReopenedAt, MayReopenAt}
use Rattle.salt_disk.proofs.CallAfterCall.{cause_memory, cause_none, cause_on, keeps_on, keeps_wider, same_shape}
use Rattle.salt_disk.specs.Disks.{HasCause, IsUnchanged, KeepsBut, KeepsOthers, View}
use Rattle.salt_disk.specs.declared.disks.DiskErr.TheVariants.{Memory}
use Rattle.salt_disk.specs.declared.disks.DiskErr.{DiskErr}
use Rattle.salt_net.specs.Flags.{has_node}
use Rattle.salt_net.specs.Nets.{state_of}
use Rattle.salt_net.specs.Paces.{Pace}
use Rattle.salt_net.specs.Turns.{Turning}
use Rattle.salt_paged.proofs.Framed.{partition_kept}
use Rattle.salt_paged.specs.Partitions.{IsPartition, pages_of}
use Rattle.salt_paged.specs.Reopening.{AreDecided}
use Rattle.salt_paged.specs.declared.partition.Partition.{Partition}
use Rattle.salt_parts.proofs.Lists.{if_some, make_some, set_other, set_same, some_at}
use Rattle.salt_parts.specs.Openings.{IsPagesOf, decided_in}
use Rattle.salt_shares.proofs.Sharing.{full_maps}
use Rattle.salt_shares.specs.Applies.{IsShareLast}
use Rattle.salt_shares.specs.Shares.{applied_with, share_at}
use Rattle.salt_stands.specs.CoordinatorLog.{CoordinatorLog}
use Rattle.salt_stands.specs.Partition.{pages_device, part_device}
use Rattle.salt_stands.specs.Pieces.{PartView}
use Rattle.salt_turns.proofs.Amid.{ends_named, in_range, restarts_named}
use Rattle.salt_turns.specs.Amid.{IsOnTheWay, next_in}
use Rattle.salt_turns.specs.declared.coming.Next.TheVariants as next
use Rattle.salt_values.specs.Id.{has_id, is_same_id}
use Rattle.salt_values.specs.declared.change.Change.{Change}
use Rattle.salt_values.specs.declared.id.Id.{Id}
use Rattle.std.proofs.Common.{Bool, IsTrue, List, None, Option, Some, [], ap, arith, false, inl, inr, length, refl, slice_set, subst, suc, sym, true, zero, ℕ, ◌+◌, ◌++◌, ◌-◌, ◌<◌, ◌≡◌, ◌≢◌, ◌⊎◌, ◌∙◌, ◌∷◌}
use Rattle.std.proofs.lemmas.Bool.{cases_eq}
use Rattle.std.proofs.lemmas.List.{length-set}
use Rattle.std.proofs.lemmas.Option.{slice_get_within}
use Rattle.std.specs.Prelude.{IfSome, slice_get, ◌||◌}

-- WHAT IS DECIDED with a share more

not_before : (w : Id) (us : List Id) (u : Id) → has_id w (us ++ u ∷ []) ≡ false → has_id w us ≡ false
not_before w [] u e = refl
not_before w (x ∷ us) u e = by (is_same_id w x) e (not_before w us u)
  where
    by : (b : Bool) → (b || has_id w (us ++ u ∷ [])) ≡ false → (has_id w (us ++ u ∷ []) ≡ false → has_id w us ≡ false) → (b || has_id w us) ≡ false
    by true h more = h
    by false h more = more h

decided_with : (u : Id) (cs : List Change) (us : List Id) → AreDecided us (applied_with u cs us)
decided_with u [] us w not = not
decided_with u (c ∷ cs) us w not = not_before w us u not

-- a share that is done
set_share : (ss : List (List Change)) (n : ℕ) → n < length ss → share_at (slice_set ss n []) n ≡ []
set_share [] n low = refl
set_share (s ∷ ss) zero low = refl
set_share (s ∷ ss) (suc n) low = set_share ss n (omega (arith, low))

other_share : (ss : List (List Change)) (n p : ℕ) → p ≢ n → share_at (slice_set ss n []) p ≡ share_at ss p
other_share [] n p other = refl
other_share (s ∷ ss) zero zero other = absurd (other refl)
other_share (s ∷ ss) zero (suc p) other = refl
other_share (s ∷ ss) (suc n) zero other = refl
other_share (s ∷ ss) (suc n) (suc p) other = other_share ss n p (λ same. other (ap suc same))

none_last : (v : PartView) (applied : List Id) (u : Id) (cs : List Change) → cs ≡ [] → IsShareLast v applied u cs
none_last v applied u [] e = λ some. absurd (no some)
  where
    no : false ≡ true → ⊥
    no wrong = cc
none_last v applied u (c ∷ cs) e = absurd (no e)
  where
    no : c ∷ cs ≡ [] → ⊥
    no wrong = cc

-- of two lists the one at a place, and the other elsewhere
abbrev chosen : (p k : ℕ) → (p ≡ k) ⊎ (p ≢ k) → List Id → List Id → List Id
chosen p k (inl same) a b = a
chosen p k (inr other) a b = b

chosen_is : (p k : ℕ) (o : (p ≡ k) ⊎ (p ≢ k)) (a b : List Id) (P : List Id → Type 0) → (p ≡ k → P a) → (p ≢ k → P b) → P (chosen p k o a b)
chosen_is p k (inl same) a b P one all = one same
chosen_is p k (inr other) a b P one all = all other

apart_first : (p q : ℕ) → part_device p ≢ pages_device q
apart_first p q e = omega (arith, e)

apart_second : (p q : ℕ) → part_device p + 1 ≢ pages_device q
apart_second p q e = omega (arith, e)

apart_pages : (p q : ℕ) → p ≢ q → pages_device p ≢ pages_device q
apart_pages p q other e = other (omega (arith, e))

-- SO FAR

-- the partitions that stand, the shares that are left, and the turns
pub record Tells (d0 d : View) (parts0 parts : List Partition) (u : Id) (shares0 shares : List (List Change)) (m n : Pace) : Type 0 where
  pub size : length parts ≡ length parts0
  pub left : length shares ≡ length shares0
  pub behind : (which : WhichLog) (log : CoordinatorLog) (v : ℕ → PartView) (applied : ℕ → List Id) → IsBehind d0 parts0 u shares0 which log v applied → (now : ℕ → List Id) × IsBehind d parts u shares which log v now
  pub named : (which : WhichLog) (log : CoordinatorLog) (v : ℕ → PartView) (applied : ℕ → List Id) → IsBehind d0 parts0 u shares0 which log v applied → IsTrue d0.told → (p : ℕ) → p < length parts0
      → KeepsNamed (v p).log.header.sides d0 d (pages_device p)
  pub others : KeepsBut (IsPagesOf (length parts0)) d0 d None
  pub cause : HasCause d0 d None
  pub way : (first : Turning) → IsOnTheWay u (nodes_of shares0) first m → IsOnTheWay u (nodes_of shares0) first n

pub tells_first : (d : View) (parts : List Partition) (u : Id) (shares : List (List Change)) (m : Pace) → Tells d d parts parts u shares shares m m
tells_first d parts u shares m = record {
  size = refl;
  left = refl;
  behind = λ which log v applied b. (applied, b);
  named = λ which log v applied b told p low. keeps_all (v p).log.header.sides d d (pages_device p) (λ c there. there);
  others = record { shape = same_shape d; kept = λ dev other. record { bytes = refl; images = λ c there. there }; images = λ dev other c there. there };
  cause = cause_none d;
  way = λ first w. w;
}

-- the next turn is planned
pub tells_on : (d0 d : View) (parts0 parts : List Partition) (u : Id) (shares0 shares : List (List Change)) (m n : Pace) → Tells d0 d parts0 parts u shares0 shares m n → (q : Pace)
    → ((first : Turning) → IsOnTheWay u (nodes_of shares0) first n → IsOnTheWay u (nodes_of shares0) first q) → Tells d0 d parts0 parts u shares0 shares m q
tells_on d0 d parts0 parts u shares0 shares m n w q way = record {
  size = w.size;
  left = w.left;
  behind = w.behind;
  named = w.named;
  others = w.others;
  cause = w.cause;
  way = λ first begun. way first (w.way first begun);
}

-- where memory lacks, and where nothing more is done
module _ (d0 d : View) (parts0 parts : List Partition) (u : Id) (shares0 shares : List (List Change)) (m n : Pace) (w : Tells d0 d parts0 parts u shares0 shares m n) where
  pub tells_told : HaveTold d0 d parts0 parts u shares0 None
  tells_told = record { named = w.named; others = w.others; cause = w.cause; full = λ told. tt; size = w.size }

  pub tells_lacking : HaveTold d0 d parts0 parts u shares0 (Some Memory)
  tells_lacking = record {
    named = w.named;
    others = record { shape = w.others.shape; kept = w.others.kept; images = w.others.images };
    cause = cause_memory d0 d w.cause;
    full = λ told. tt;
    size = w.size;
  }

  -- A NODE of the unit may be opened again
  module _ (size : length shares0 ≡ length parts0) (may : MayTell d0 parts0 u shares0) (first : Turning) (begun : IsOnTheWay u (nodes_of shares0) first m) where
    pub on_way : IsOnTheWay u (nodes_of shares0) first n
    on_way = w.way first begun

    now : (applied : ℕ → List Id) × IsBehind d parts u shares may.which may.log may.v applied
    now = w.behind may.which may.log may.v may.applied may.behind

    opens : (k : ℕ) → has_node k (nodes_of shares0) ≡ true → (p : ℕ) × (k ≡ suc p) × MayReopenAt d parts p
    opens k named =
        let within = node_within 0 shares0 k named in
        let at : k ≡ suc (k - 1) = omega (arith, within.0) in
        let high = (in_range u (nodes_of shares0) (state_of n.done) n.ahead on_way.amid k named).1 in
        let found = some_at parts (k - 1) (omega (arith, within.0, within.1, size, w.size)) in
        let b = now.1 in (
          k - 1,
          at,
          record {
            x = found.0;
            at = found.1;
            may = record {
              which = may.which;
              log = may.log;
              reads = b.reads;
              p = k - 1;
              low = omega (arith, high, within.0);
              v = may.v (k - 1);
              applied = now.0 (k - 1);
              is = if_some (slice_get parts (k - 1)) found.0 (λ y. IsPartition d y (k - 1) (may.v (k - 1)) (now.0 (k - 1))) found.1 (b.are.each (k - 1));
              goes_on = subst (AreDecided (now.0 (k - 1))) (sym (b.decided (k - 1))) (decided_with u (share_at shares (k - 1)) (now.0 (k - 1)));
              known = λ told. may.known (sym w.others.shape.told ∙ told) (k - 1) (omega (arith, within.0, within.1, size));
            };
          },
        )

    pub may_open : (node : Option ℕ) → IfSome node (λ k. (next_in n ≡ next.Restarts k) ⊎ (next_in n ≡ next.Ends k)) → MayOpen node d parts
    may_open None h = tt
    may_open (Some k) (inl e) = opens k (restarts_named u (nodes_of shares0) (state_of n.done) n.ahead on_way.amid k e)
    may_open (Some k) (inr e) = opens k (ends_named u (nodes_of shares0) (state_of n.done) n.ahead on_way.amid k e)

  -- IT IS OPENED, whatever is answered
  module _ (some : MayTell d0 parts0 u shares0) (e : View) (is : List Partition) (k : ℕ) (answer : Option DiskErr) (h : HasReopenedAt d e parts is k answer) where
    within : k < length parts0
    within = omega (arith, slice_get_within parts k h.x h.at, w.size)

    own : (which : WhichLog) (log : CoordinatorLog) (v : ℕ → PartView) (now : ℕ → List Id) → IsBehind d parts u shares which log v now → IsPartition d h.x k (v k) (now k)
    own which log v now b = if_some (slice_get parts k) h.x (λ y. IsPartition d y k (v k) (now k)) h.at (b.are.each k)

    its_pages : pages_of h.x ≡ pages_device k
    its_pages = let b = w.behind some.which some.log some.v some.applied some.behind in ap pages_device (own some.which some.log some.v b.0 b.1).part

    wider : (a : Option DiskErr) → KeepsOthers (pages_of h.x) d e a → KeepsBut (IsPagesOf (length parts0)) d e a
    wider a keeps = keeps_wider (λ dev. dev ≡ pages_of h.x) (IsPagesOf (length parts0)) d e a (λ dev at. record { p = k; low = within; is = at ∙ its_pages }) keeps

    named_next : (which : WhichLog) (log : CoordinatorLog) (v : ℕ → PartView) (applied : ℕ → List Id) → IsBehind d0 parts0 u shares0 which log v applied → IsTrue d0.told → (p : ℕ) → p < length parts0
        → KeepsNamed (v p).log.header.sides d0 e (pages_device p)
    named_next which log v applied b told p low = keeps_more (v p).log.header.sides d0 d e (pages_device p) (w.named which log v applied b told p low) (by (cases_eq p k))
      where
        here : (now : ℕ → List Id) × IsBehind d parts u shares which log v now
        here = w.behind which log v applied b

        mine : KeepsNamed (v k).log.header.sides d e (pages_device k)
        mine = subst (λ dev. KeepsNamed (v k).log.header.sides d e dev) its_pages (h.images k (v k) (here.0 k) (own which log v here.0 here.1) (w.others.shape.told ∙ told))

        by : (p ≡ k) ⊎ (p ≢ k) → KeepsNamed (v p).log.header.sides d e (pages_device p)
        by (inl same) = subst (λ q. KeepsNamed (v q).log.header.sides d e (pages_device q)) (sym same) mine
        by (inr other) = keeps_all (v p).log.header.sides d e (pages_device p) (h.others.images (pages_device p) (λ at. apart_pages p k other (at ∙ its_pages)))

    others_next : KeepsBut (IsPagesOf (length parts0)) d0 e answer
    others_next = keeps_on (IsPagesOf (length parts0)) d0 d e answer w.others (wider answer h.others)

    cause_next : HasCause d0 e answer
    cause_next = cause_on d0 d e answer w.cause h.cause

    size_next : length is ≡ length parts0
    size_next = ap (λ (l : List Partition). length l) h.set ∙ (length-set parts k h.y ∙ w.size)

    pub reopened_told : HaveTold d0 e parts0 is u shares0 answer
    reopened_told = record {
      named = named_next;
      others = others_next;
      cause = cause_next;
      full = λ told. full_maps (λ dev. dev ≡ pages_of h.x) (IsPagesOf (length parts0)) answer (λ dev at. record { p = k; low = within; is = at ∙ its_pages }) h.full;
      size = size_next;
    }

    -- and then nothing is left of its share
    module _ (fine : answer ≡ None) (few : length shares ≡ length parts) where
      keeps : KeepsOthers (pages_of h.x) d e None
      keeps = subst (KeepsOthers (pages_of h.x) d e) fine h.others

      unchanged : (dev : ℕ) → dev ≢ pages_device k → IsUnchanged d e dev
      unchanged dev apart = keeps.kept dev (λ at. apart (at ∙ its_pages))

      module _ (which : WhichLog) (log : CoordinatorLog) (v : ℕ → PartView) (now : ℕ → List Id) (b : IsBehind d parts u shares which log v now) where
        abbrev units_now : ℕ → List Id
        units_now p = chosen p k (cases_eq p k) (decided_in log p) (now p)

        -- the units that are applied then
        units_are : (p : ℕ) (P : List Id → Type 0) → (p ≡ k → P (decided_in log p)) → (p ≢ k → P (now p)) → P (units_now p)
        units_are p P one all = chosen_is p k (cases_eq p k) (decided_in log p) (now p) P one all

        still_reads : ReadsAs e which log
        still_reads = reads_kept d e which log (unchanged 0 (λ at. omega (arith, at))) (unchanged 1 (λ at. omega (arith, at))) keeps.shape.count (λ told. sym keeps.shape.told ∙ told) b.reads

        mine : IsPartition e h.y k (v k) (decided_in log k)
        mine = h.goes fine which log k (v k) (now k) b.reads (own which log v now b) (subst (AreDecided (now k)) (sym (b.decided k)) (decided_with u (share_at shares k) (now k)))

        each : (p : ℕ) → IfSome (slice_get (slice_set parts k h.y) p) (λ y. IsPartition e y p (v p) (units_now p))
        each p = units_are p (λ us. IfSome (slice_get (slice_set parts k h.y) p) (λ y. IsPartition e y p (v p) us))
            (λ same. subst (λ q. IfSome (slice_get (slice_set parts k h.y) q) (λ y. IsPartition e y q (v q) (decided_in log q))) (sym same)
            (subst (λ o. IfSome o (λ y. IsPartition e y k (v k) (decided_in log k))) (sym (set_same parts k h.y (slice_get_within parts k h.x h.at))) mine))
            (λ other. subst (λ o. IfSome o (λ y. IsPartition e y p (v p) (now p))) (sym (set_other parts k p h.y other))
            (make_some (slice_get parts p) (λ y. IsPartition e y p (v p) (now p)) (λ y at. partition_kept d e y p (v p) (now p) keeps.shape
            (unchanged (part_device p) (apart_first p k)) (unchanged (part_device p + 1) (apart_second p k)) (unchanged (pages_device p) (apart_pages p k other))
            (if_some (slice_get parts p) y (λ z. IsPartition d z p (v p) (now p)) at (b.are.each p)))))

        low : k < length shares
        low = omega (arith, slice_get_within parts k h.x h.at, few)

        left_last : (p : ℕ) → IsShareLast (v p) (units_now p) u (share_at (slice_set shares k []) p)
        left_last p = units_are p (λ us. IsShareLast (v p) us u (share_at (slice_set shares k []) p))
            (λ same. none_last (v p) (decided_in log p) u (share_at (slice_set shares k []) p) (ap (share_at (slice_set shares k [])) same ∙ set_share shares k low))
            (λ other. subst (λ cs. IsShareLast (v p) (now p) u cs) (sym (other_share shares k p other)) (b.last.each p))

        left_decided : (p : ℕ) → decided_in log p ≡ applied_with u (share_at (slice_set shares k []) p) (units_now p)
        left_decided p = units_are p (λ us. decided_in log p ≡ applied_with u (share_at (slice_set shares k []) p) us)
            (λ same. sym (ap (λ cs. applied_with u cs (decided_in log p)) (ap (share_at (slice_set shares k [])) same ∙ set_share shares k low)))
            (λ other. b.decided p ∙ ap (λ cs. applied_with u cs (now p)) (sym (other_share shares k p other)))

        still_behind : IsBehind e (slice_set parts k h.y) u (slice_set shares k []) which log v units_now
        still_behind = record { reads = still_reads; are = record { each = each }; last = record { each = left_last }; decided = left_decided }

      pub tells_opened : (q : Pace) → ((first : Turning) → IsOnTheWay u (nodes_of shares0) first n → IsOnTheWay u (nodes_of shares0) first q) → Tells d0 e parts0 (slice_set parts k h.y) u shares0 (slice_set shares k []) m q
      tells_opened q way = record {
        size = length-set parts k h.y ∙ w.size;
        left = length-set shares k [] ∙ w.left;
        behind = λ which log v applied b. let here = w.behind which log v applied b in (units_now which log v here.0 here.1, still_behind which log v here.0 here.1);
        named = named_next;
        others = subst (KeepsBut (IsPagesOf (length parts0)) d0 e) fine others_next;
        cause = subst (HasCause d0 e) fine cause_next;
        way = λ first begun. way first (w.way first begun);
      }

  -- NONE IS OPENED
  module _ (e : View) (is : List Partition) (answer : Option DiskErr) (h : HasDoneNothing d e parts is answer) where
    nothing : KeepsBut (IsPagesOf (length parts0)) d e None
    nothing = keeps_wider (λ _. ⊥) (IsPagesOf (length parts0)) d e None (λ dev none. absurd none) h.kept

    as_it_was : (dev : ℕ) → IsUnchanged d e dev
    as_it_was dev = h.kept.kept dev (λ none. none)

    behind_still : (which : WhichLog) (log : CoordinatorLog) (v : ℕ → PartView) (now : ℕ → List Id) → IsBehind d parts u shares which log v now → IsBehind e parts u shares which log v now
    behind_still which log v now b = record {
      reads = reads_kept d e which log (as_it_was 0) (as_it_was 1) h.kept.shape.count (λ told. sym h.kept.shape.told ∙ told) b.reads;
      are = record {
        each = λ p. make_some (slice_get parts p) (λ y. IsPartition e y p (v p) (now p)) (λ y at. partition_kept d e y p (v p) (now p) h.kept.shape (as_it_was (part_device p)) (as_it_was (part_device p + 1)) (as_it_was (pages_device p))
            (if_some (slice_get parts p) y (λ z. IsPartition d z p (v p) (now p)) at (b.are.each p)));
      };
      last = b.last;
      decided = b.decided;
    }

    pub tells_still : (q : Pace) → ((first : Turning) → IsOnTheWay u (nodes_of shares0) first n → IsOnTheWay u (nodes_of shares0) first q) → Tells d0 e parts0 parts u shares0 shares m q
    tells_still q way = record {
      size = w.size;
      left = w.left;
      behind = λ which log v applied b. let here = w.behind which log v applied b in (here.0, behind_still which log v here.0 here.1);
      named = λ which log v applied b told p low.
          let sides = (v p).log.header.sides in
          keeps_more sides d0 d e (pages_device p) (w.named which log v applied b told p low) (keeps_all sides d e (pages_device p) (h.kept.images (pages_device p) (λ none. none)));
      others = keeps_on (IsPagesOf (length parts0)) d0 d e None w.others nothing;
      cause = cause_on d0 d e None w.cause h.cause;
      way = λ first begun. way first (w.way first begun);
    }

    pub nothing_told : HaveTold d0 e parts0 is u shares0 answer
    nothing_told = subst (HaveTold d0 e parts0 is u shares0) (sym h.fine) (subst (λ ps. HaveTold d0 e parts0 ps u shares0 None) (sym h.same) still)
      where
        still : HaveTold d0 e parts0 parts u shares0 None
        still = let t = tells_still n (λ first begun. begun) in record { named = t.named; others = t.others; cause = t.cause; full = λ told. tt; size = t.size }

  -- WHAT COMES NEXT, by whether a node is given
  module _ (some : MayTell d0 parts0 u shares0) (few : length shares ≡ length parts) (e : View) (is : List Partition) (left : List (List Change)) where
    pub next_told : (node : Option ℕ) (answer : Option DiskErr) → DidOpen node d e parts is shares left answer → HaveTold d0 e parts0 is u shares0 answer
    next_told None answer h = nothing_told e is answer h.0
    next_told (Some k) answer h = reopened_told some e is h.0 answer h.2.reopened

    pub tells_next : (node : Option ℕ) → DidOpen node d e parts is shares left None → (q : Pace) → ((first : Turning) → IsOnTheWay u (nodes_of shares0) first n → IsOnTheWay u (nodes_of shares0) first q)
        → Tells d0 e parts0 is u shares0 left m q
    tells_next None h q way =
        subst (λ ps. Tells d0 e parts0 ps u shares0 left m q) (sym h.0.same)
        (subst (λ ss. Tells d0 e parts0 parts u shares0 ss m q) (sym h.1) (tells_still e is None h.0 q way))
    tells_next (Some k) h q way =
        subst (λ ps. Tells d0 e parts0 ps u shares0 left m q) (sym h.2.reopened.set)
        (subst (λ ss. Tells d0 e parts0 (slice_set parts h.0 h.2.reopened.y) u shares0 ss m q) (sym (h.2.done refl))
        (tells_opened some e is h.0 None h.2.reopened refl few q way))
