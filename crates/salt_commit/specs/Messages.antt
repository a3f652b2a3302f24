-- Commits over messages: the nodes of a unit, and the net of a store.
use Rattle.salt_shares.specs.Shares.{has_changes}
use Rattle.salt_commit.specs.declared.store.Store.{Store}
use Rattle.salt_net.specs.Paces.{Pace, turning_of}
use Rattle.salt_net.specs.Turns.{Turning}
use Rattle.salt_turns.specs.Amid.{IsUnknown, Rests}
use Rattle.salt_values.specs.declared.change.Change.{Change}
use Rattle.salt_values.specs.declared.id.Id.{Id}
use Rattle.std.specs.Prelude.{IfSome, List, Option, [], if◌then◌else◌, option_map, suc, ℕ, ◌++◌, ◌∷◌}

-- of these shares, which begin with partition p's, the nodes of those with changes, in order: partition p is node p + 1
abbrev pub nodes_from : ℕ → List (List Change) → List ℕ
nodes_from p [] = []
nodes_from p (s ∷ ss) = if has_changes s then suc p ∷ nodes_from (suc p) ss else nodes_from (suc p) ss

abbrev pub nodes_of : List (List Change) → List ℕ
nodes_of ss = nodes_from 0 ss

-- the turns of the net that commits go over, where they do
abbrev pub messages_of : Store → Option Pace
messages_of x = x.messages

-- where they have come to, and the pairs that wait
abbrev pub net_of : Store → Option Turning
net_of x = option_map turning_of x.messages

-- nothing has happened, and no pairs wait
abbrev pub nothing_sent : Turning
nothing_sent = record { events = []; taken = 0; waiting = [] }

abbrev pub with_waiting : List (ℕ × ℕ) → Turning → Turning
with_waiting pairs t = record { events = t.events; taken = t.taken; waiting = t.waiting ++ pairs }

-- between the calls of a store turns rest
abbrev pub IsAtRest : Store → Type 0
IsAtRest x = IfSome x.messages Rests

-- the unit was not started in its net
abbrev pub IsNewIn : Store → Id → Type 0
IsNewIn x u = IfSome x.messages (IsUnknown u)
