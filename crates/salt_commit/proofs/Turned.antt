-- Where commits go over messages, the turns of a unit have ended as its commit does.
use Rattle.salt_commit.proofs.Voters.{may_be_nodes}
use Rattle.salt_commit.specs.Messages.{nodes_of}
use Rattle.salt_commit.specs.Telling.{HaveCommitted, HaveStarted}
use Rattle.salt_disk.specs.declared.disks.DiskErr.{DiskErr}
use Rattle.salt_net.specs.Flags.{are_nodes}
use Rattle.salt_net.specs.Nets.Coordinator.{Decided, Started}
use Rattle.salt_net.specs.Nets.{Coordinator, Poll, coordinator_status, status_by}
use Rattle.salt_net.specs.Paces.{Pace}
use Rattle.salt_net.specs.Turns.{Turning}
use Rattle.salt_net.specs.declared.kinds.NodeStatus.TheVariants.{Unknown}
use Rattle.salt_turns.proofs.Turned.{rests_again, turned, unknown_still}
use Rattle.salt_turns.specs.Amid.{HasEndedTurns, IsOnTheWay, IsUnknown, Rests, first_of}
use Rattle.salt_values.specs.declared.change.Change.{Change}
use Rattle.salt_values.specs.declared.id.Id.{Id}
use Rattle.std.proofs.Common.{Err, List, None, Ok, Option, Result, Some, ap, arith, false, length, refl, true, ℕ, ◌≡◌, ◌≤◌}
use Rattle.std.specs.Prelude.{IfSome, OnOk}

committed_turns : (u : Id) (shares : List (List Change)) (was : Option Pace) (m n : Pace) → length shares ≤ 8 → IfSome was Rests → IfSome was (IsUnknown u) → HaveStarted u (nodes_of shares) was (Some m)
    → ((first : Turning) → IsOnTheWay u (nodes_of shares) first m → IsOnTheWay u (nodes_of shares) first n) → HasEndedTurns u n → HaveCommitted u (nodes_of shares) was (Some n)
committed_turns u shares None m n few rests new started way ended = absurd started
committed_turns u shares (Some p) m n few rests new started way ended =
    let may : are_nodes (nodes_of shares) ≡ true = may_be_nodes 0 shares (omega (arith, few)) in
    let there = way (first_of u (nodes_of shares) p) started in
    record { commits = ap Some (turned u (nodes_of shares) p n rests new may there ended); rests = rests_again u (nodes_of shares) p n rests new may there ended; others = unknown_still u (nodes_of shares) p n rests new may there ended }

-- where the calls have gone well
pub committed_where : {T : Type 0} (r : Result T DiskErr) (u : Id) (shares : List (List Change)) (was : Option Pace) (m n : Pace) → length shares ≤ 8 → IfSome was Rests → IfSome was (IsUnknown u) → HaveStarted u (nodes_of shares) was (Some m)
    → ((first : Turning) → IsOnTheWay u (nodes_of shares) first m → OnOk r (IsOnTheWay u (nodes_of shares) first n)) → OnOk r (HasEndedTurns u n) → OnOk r (HaveCommitted u (nodes_of shares) was (Some n))
committed_where (Ok x) u shares was m n few rests new started way ended = committed_turns u shares was m n few rests new started way ended
committed_where (Err e) u shares was m n few rests new started way ended = tt

-- and where they do not
pub committed_at_once : (u : Id) (nodes : List ℕ) (was : Option Pace) → HaveStarted u nodes was None → HaveCommitted u nodes was None
committed_at_once u nodes None started = record { commits = refl; rests = tt; others = λ w other unknown. tt }
committed_at_once u nodes (Some p) started = absurd started

-- where they began
pub way_of : (u : Id) (nodes : List ℕ) (was : Option Pace) (m : Pace) → HaveStarted u nodes was (Some m) → (first : Turning) × IsOnTheWay u nodes first m
way_of u nodes None m started = absurd started
way_of u nodes (Some p) m started = (first_of u nodes p, started)

-- a unit of which the coordinator knows nothing was not started
pub not_started : (o : Option Poll) → status_by 0 o ≡ Unknown → o ≡ None
not_started None is = refl
not_started (Some poll) is = absurd (by poll.coordinator is)
  where
    by : (x : Coordinator) → coordinator_status x ≡ Unknown → ⊥
    by (Started voted) e = cc
    by (Decided true done) e = cc
    by (Decided false done) e = cc
