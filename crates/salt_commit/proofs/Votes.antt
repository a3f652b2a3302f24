-- The turns of a unit up to its decision, on the net and in the partitions.
use Rattle.salt_paged.specs.Partitions.{ArePartitions}
use Rattle.salt_parts.proofs.Lists.{some_at}
use Rattle.salt_parts.specs.Openings.{decided_in}
use Rattle.salt_shares.specs.Prepares.{with_shares}
use Rattle.salt_turns.specs.Amid.{IsOnTheWay, IsUndecided, behind_next, next_in, status_now}
use Rattle.salt_turns.proofs.Amid.{decides_prepared, in_range, prepares_idle, restarts_named, undecided_held}
use Rattle.salt_commit.proofs.Voters.{named_of, node_within}
use Rattle.salt_commit.proofs.Voting.{GoesAt, all_idle, all_voted, goes_as, may_prepare_one, may_reopen, next_goes}
use Rattle.salt_commit.specs.Messages.{nodes_of}
use Rattle.salt_commit.specs.Voting.{DidNext, MayDoNext, MayPrepareAt, MayReopenAt, MayVote, MayVoteAs}
use Rattle.salt_turns.specs.declared.coming.Next.TheVariants as next
use Rattle.salt_turns.specs.declared.coming.Next.{Next}
use Rattle.salt_bytes.specs.Generations.{WhichLog}
use Rattle.salt_disk.specs.Disks.{View}
use Rattle.salt_net.specs.Flags.{has_node}
use Rattle.salt_net.specs.Nets.{state_of}
use Rattle.salt_net.specs.Paces.{Pace}
use Rattle.salt_net.specs.Turns.{Turning}
use Rattle.salt_net.specs.declared.kinds.NodeStatus.TheVariants.{Idle, Prepared, Started as Asking}
use Rattle.salt_net.specs.declared.kinds.NodeStatus.{NodeStatus}
use Rattle.salt_paged.specs.declared.partition.Partition.{Partition}
use Rattle.salt_stands.specs.CoordinatorLog.{CoordinatorLog}
use Rattle.salt_stands.specs.Pieces.{PartView}
use Rattle.salt_values.specs.declared.change.Change.{Change}
use Rattle.salt_values.specs.declared.id.Id.{Id}
use Rattle.std.proofs.Common.{List, None, [], ap, arith, false, inl, inr, length, refl, suc, subst, sym, true, ℕ, ◌-◌, ◌<◌, ◌≡◌, ◌≢◌, ◌≤◌, ◌⊎◌, ◌∙◌}
use Rattle.std.proofs.lemmas.Bool.Decides.{nat_tests}
use Rattle.std.specs.Prelude.{if◌then◌else◌, ◌==◌}

abbrev pub held_by : Pace → Id → ℕ → NodeStatus
held_by n u p = status_now n u (suc p)

-- the turns so far, the net that they lead to, and the partitions
pub record Votes (d0 d : View) (parts0 parts : List Partition) (u : Id) (shares : List (List Change)) (first : Turning) (n : Pace) : Type 0 where
  pub goes : GoesAt d0 d parts0 parts u shares (held_by n u)
  pub way : IsOnTheWay u (nodes_of shares) first n
  pub yet : IsUndecided u (nodes_of shares) n

-- AT ITS START

pub votes_first : (d : View) (parts : List Partition) (u : Id) (shares : List (List Change)) (first : Turning) (n : Pace) → IsOnTheWay u (nodes_of shares) first n → ((p : ℕ) → 1 ≤ p → status_now n u p ≡ Idle) → IsUndecided u (nodes_of shares) n
    → Votes d d parts parts u shares first n
votes_first d parts u shares first n way idle yet = record {
  goes = goes_as d d parts parts u shares (λ p. Idle) (held_by n u) (λ p. idle (suc p) (omega arith)) (all_idle d parts u shares);
  way = way;
  yet = yet;
}

-- AMID

node_of_part : (k : ℕ) → 1 ≤ k → k ≡ suc (k - 1)
node_of_part k low = omega (arith, low)

module _ (d0 d : View) (parts0 parts : List Partition) (u : Id) (shares : List (List Change)) (first : Turning) (n : Pace) (w : Votes d0 d parts0 parts u shares first n)
    (size : length shares ≡ length parts0) (may : MayVote d0 parts0 u shares) (asking : status_now n u 0 ≡ Asking) (not : next_in n ≢ next.Decides) where
  place : (k : ℕ) → has_node k (nodes_of shares) ≡ true → (p : ℕ) × (k ≡ suc p) × (p < length parts)
  place k named =
      let h = node_within 0 shares k named in
      (k - 1, node_of_part k (omega (arith, h.0)), omega (arith, h.0, h.1, size, w.goes.size))

  pub idle_next : (p : ℕ) → next_in n ≡ next.Prepares (suc p) → held_by n u p ≡ Idle
  idle_next p e = (prepares_idle u (nodes_of shares) (state_of n.done) n.ahead w.way.amid (suc p) e).1

  pub may_next : MayDoNext (next_in n) d parts u shares
  may_next = by (next_in n) refl
    where
      reopens : (k : ℕ) → next_in n ≡ next.Restarts k → (p : ℕ) × (k ≡ suc p) × MayReopenAt d parts p
      reopens k e =
          let named = restarts_named u (nodes_of shares) (state_of n.done) n.ahead w.way.amid k e in
          let h = place k named in
          let high = (in_range u (nodes_of shares) (state_of n.done) n.ahead w.way.amid k named).1 in
          let found = some_at parts h.0 h.2 in (
            h.0,
            h.1,
            record {
              x = found.0;
              at = found.1;
              may = may_reopen d0 d d parts0 parts u shares (held_by n u) w.goes may.which may.log may.v may.stand may h.0 found.0 found.1 (omega (arith, high, h.1))
                  (undecided_held u (nodes_of shares) (state_of n.done) n.ahead w.way.amid asking (suc h.0) (subst (λ z. has_node z (nodes_of shares) ≡ true) h.1 named));
            },
          )

      prepares : (k : ℕ) → next_in n ≡ next.Prepares k → (p : ℕ) × (k ≡ suc p) × MayPrepareAt d parts u shares p
      prepares k e =
          let named = (prepares_idle u (nodes_of shares) (state_of n.done) n.ahead w.way.amid k e).0 in
          let h = place k named in
          let found = some_at parts h.0 h.2 in (
            h.0,
            h.1,
            record {
              x = found.0;
              at = found.1;
              may = may_prepare_one d0 d d parts0 parts u shares (held_by n u) w.goes may.which may.log may.v may.stand h.0 found.0 found.1 (idle_next h.0 (e ∙ ap next.Prepares h.1));
            },
          )

      by : (nx : Next) → next_in n ≡ nx → MayDoNext nx d parts u shares
      by next.Nothing e = tt
      by (next.Restarts k) e = reopens k e
      by (next.Prepares k) e = prepares k e
      by next.Decides e = tt
      by (next.Ends k) e = tt

  -- a node that starts again is one of the unit's
  pub restarts_low : (k : ℕ) → next_in n ≡ next.Restarts k → k ≤ 8
  restarts_low k e = (in_range u (nodes_of shares) (state_of n.done) n.ahead w.way.amid k (restarts_named u (nodes_of shares) (state_of n.done) n.ahead w.way.amid k e)).1

  -- the coordinator's status is none that changes
  lead : (x : NodeStatus) → behind_next (next_in n) 0 x ≡ x
  lead x = by (next_in n) refl
    where
      by : (nx : Next) → next_in n ≡ nx → behind_next nx 0 x ≡ x
      by next.Nothing e = refl
      by (next.Restarts k) e = refl
      by (next.Prepares k) e =
          let named = (prepares_idle u (nodes_of shares) (state_of n.done) n.ahead w.way.amid k e).0 in
          let low = (in_range u (nodes_of shares) (state_of n.done) n.ahead w.way.amid k named).0 in
          let other : (0 == k) ≡ false = grind (arith, nat_tests, low) in
          ap (λ b. if b then Prepared else x) other
      by next.Decides e = refl
      by (next.Ends k) e = refl

  pub votes_next : (e : View) (is : List Partition) (q : Pace) → DidNext (next_in n) d e parts is u shares None → IsOnTheWay u (nodes_of shares) first q
      → ((p : ℕ) → status_now q u p ≡ behind_next (next_in n) p (status_now n u p)) → Votes d0 e parts0 is u shares first q
  votes_next e is q did way held = record {
    goes = goes_as d0 e parts0 is u shares (λ p. behind_next (next_in n) (suc p) (held_by n u p)) (held_by q u) (λ p. held (suc p))
        (next_goes d0 d e parts0 parts u shares (held_by n u) w.goes may.which may.log may.v may.stand (next_in n) is None refl did idle_next);
    way = way;
    yet = inl (held 0 ∙ (lead (status_now n u 0) ∙ asking));
  }

-- AT ITS END

pub votes_end : (d0 d : View) (parts0 parts : List Partition) (u : Id) (shares : List (List Change)) (first : Turning) (n : Pace) (w : Votes d0 d parts0 parts u shares first n)
    → (next_in n ≡ next.Decides) ⊎ (status_now n u 0 ≢ Asking) → (which : WhichLog) (log : CoordinatorLog) (v : ℕ → PartView) → MayVoteAs d0 parts0 u shares which log v
    → ArePartitions d parts (with_shares u shares v) (decided_in log)
votes_end d0 d parts0 parts u shares first n w ended = all_voted d0 d parts0 parts u shares (held_by n u) w.goes (λ p some. by ended w.yet p (named_of shares p some))
  where
    none_named : (p : ℕ) → nodes_of shares ≡ [] → has_node (suc p) (nodes_of shares) ≡ true → ⊥
    none_named p none named = let wrong : false ≡ true = sym (ap (has_node (suc p)) none) ∙ named in cc

    by : (next_in n ≡ next.Decides) ⊎ (status_now n u 0 ≢ Asking) → IsUndecided u (nodes_of shares) n → (p : ℕ) → has_node (suc p) (nodes_of shares) ≡ true → held_by n u p ≡ Prepared
    by e (inr none) p named = absurd (none_named p none named)
    by (inl decides) (inl asking) p named = decides_prepared u (nodes_of shares) (state_of n.done) n.ahead w.way.amid decides (suc p) named
    by (inr not) (inl asking) p named = absurd (not asking)
