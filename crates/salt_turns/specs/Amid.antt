-- A unit's commit over messages, amid a turn: what is held of the unit, and what the turn has left to do.
use Rattle.salt_turns.specs.declared.coming.Next.TheVariants as next
use Rattle.salt_turns.specs.declared.coming.Next.{Next}
use Rattle.salt_net.proofs.Committing.{Somewhere}
use Rattle.salt_net.proofs.Flowing.{Flows}
use Rattle.salt_net.proofs.Lists.{Every}
use Rattle.salt_net.proofs.Sound.{IsBacked}
use Rattle.salt_net.specs.Deeds.{deed}
use Rattle.salt_net.specs.Ended.{IsQuiet}
use Rattle.salt_net.specs.Flags.{has_node}
use Rattle.salt_net.specs.Nets.{NetState, Poll, state_of, status_of, unit_of}
use Rattle.salt_net.specs.Paces.{Pace, turning_of}
use Rattle.salt_net.specs.Turns.{Turning, turn, turns, with_events}
use Rattle.salt_net.specs.declared.kinds.Deed.TheVariants as deeds
use Rattle.salt_net.specs.declared.kinds.Deed.{Deed}
use Rattle.salt_net.specs.declared.kinds.Message.{Message}
use Rattle.salt_net.specs.declared.kinds.NetEvent.TheVariants.{Ask, Deliver, Refuse, Resend, Restart, Start}
use Rattle.salt_net.specs.declared.kinds.NetEvent.{NetEvent}
use Rattle.salt_net.specs.declared.kinds.NodeStatus.TheVariants.{Prepared, Started as Voting}
use Rattle.salt_net.specs.declared.kinds.NodeStatus.{NodeStatus}
use Rattle.salt_values.specs.Id.{is_same_id}
use Rattle.salt_values.specs.declared.id.Id.{Id}
use Rattle.std.specs.Prelude.{List, None, Some, [], false, if◌then◌else◌, slice_get, true, ℕ, ◌==◌, ◌∷◌, ◌≡◌, ◌⊎◌}

-- a message that was sent about the unit, which tells what is so
pub record IsSent (u : Id) (s : NetState) (poll : Poll) (i : ℕ) : Type 0 where
  pub message : Message
  pub there : slice_get s.sent i ≡ Some message
  pub about : unit_of message ≡ u
  pub backed : IsBacked message poll

-- an event of the unit's turns
abbrev pub IsDue : Id → NetState → Poll → NetEvent → Type 0
IsDue u s poll (Start w nodes) = ⊥
IsDue u s poll (Deliver i) = IsSent u s poll i
IsDue u s poll (Refuse w p) = ⊥
IsDue u s poll (Resend w) = w ≡ u
IsDue u s poll (Ask w p) = ⊥
IsDue u s poll (Restart p) = has_node p poll.nodes ≡ true

-- it is held of the unit that nothing is given up, and what is left to do is about it
pub record IsAmid (u : Id) (nodes : List ℕ) (s : NetState) (ahead : List NetEvent) : Type 0 where
  pub poll : Poll
  pub here : s.polls u ≡ Some poll
  pub named : poll.nodes ≡ nodes
  pub flows : Flows poll
  pub due : Every (IsDue u s poll) ahead

-- turns of a unit with these nodes that began so have come to this
pub record IsOnTheWay (u : Id) (nodes : List ℕ) (first : Turning) (n : Pace) : Type 0 where
  pub from : Somewhere u first
  pub count : ℕ
  pub at : turning_of n ≡ turns count u first
  pub amid : IsAmid u nodes (state_of n.done) n.ahead
  -- of other units the same is held
  pub others : (w : Id) → is_same_id w u ≡ false → (state_of n.done).polls w ≡ (state_of first.events).polls w

-- WHAT COMES NEXT

abbrev pub next_by : Deed → Next
next_by deeds.Nothing = next.Nothing
next_by (deeds.Prepares p) = next.Prepares p
next_by (deeds.Decides commit) = next.Decides
next_by (deeds.Ends p commit) = next.Ends p

abbrev pub next_of : NetState → List NetEvent → Next
next_of s [] = next.Nothing
next_of s (Start w nodes ∷ es) = next.Nothing
next_of s (Deliver i ∷ es) = next_by (deed s i)
next_of s (Refuse w p ∷ es) = next.Nothing
next_of s (Resend w ∷ es) = next.Nothing
next_of s (Ask w p ∷ es) = next.Nothing
next_of s (Restart p ∷ es) = next.Restarts p

-- what a node of the unit holds behind it, before the decision
abbrev pub behind_next : Next → ℕ → NodeStatus → NodeStatus
behind_next (next.Prepares p) q s = if q == p then Prepared else s
behind_next _ q s = s

abbrev pub next_in : Pace → Next
next_in n = next_of (state_of n.done) n.ahead

abbrev pub status_now : Pace → Id → ℕ → NodeStatus
status_now n u p = status_of (state_of n.done) u p

-- the coordinator has not decided, unless no node is asked
abbrev pub IsUndecided : Id → List ℕ → Pace → Type 0
IsUndecided u nodes n = (status_now n u 0 ≡ Voting) ⊎ (nodes ≡ [])

-- a turn has nothing left to do, and turns have taken every message
pub record Rests (n : Pace) : Type 0 where
  pub ahead : n.ahead ≡ []
  pub quiet : IsQuiet (turning_of n)

-- a net in which the unit was not started
abbrev pub IsUnknown : Id → Pace → Type 0
IsUnknown u n = (state_of n.done).polls u ≡ None

-- where turns begin
abbrev pub first_of : Id → List ℕ → Pace → Turning
first_of u nodes n = with_events (Start u nodes ∷ []) (turning_of n)

-- no turn is left
pub record HasEndedTurns (u : Id) (n : Pace) : Type 0 where
  pub ahead : n.ahead ≡ []
  pub still : turn u (turning_of n) ≡ turning_of n
