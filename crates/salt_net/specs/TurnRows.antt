-- Commits by the rule of turns.
use Rattle.salt_net.specs.Nets.{state_of, status_of}
use Rattle.salt_net.specs.Turns.{Turning, commits}
use Rattle.salt_net.specs.Twists.{left_behind, twist}
use Rattle.salt_net.specs.declared.kinds.NetEvent.TheVariants.{Deliver, Resend, Restart, Start}
use Rattle.salt_net.specs.declared.kinds.NodeStatus.TheVariants.{Commit}
use Rattle.salt_net.specs.declared.waiting.Twist.TheVariants.{Lost, Plain, Restarted, Twice}
use Rattle.salt_net.specs.declared.waiting.Twist.{Twist}
use Rattle.salt_values.specs.declared.id.Id.{Id}
use Rattle.std.specs.Prelude.{List, [], length, map, refl, suc, zero, ℕ, ◌++◌, ◌∷◌, ◌≡◌}

abbrev pub unit : Id
unit = record { boot = 1; seq = 3 }

abbrev pub first : List (ℕ × ℕ) → Turning
first pairs = record { events = []; taken = 0; waiting = pairs }

-- nothing is disturbed
pub one_node : (commits unit (1 ∷ []) (first [])).events ≡ Start unit (1 ∷ []) ∷ Deliver 0 ∷ Deliver 1 ∷ Deliver 2 ∷ Deliver 3 ∷ []
one_node = refl

-- no partition is changed
pub no_node : (commits unit [] (first ((1, 0) ∷ []))).events ≡ Start unit [] ∷ []
no_node = refl

-- one message is lost, the second one behind it comes twice, and before the third one behind that its partition starts again
pub disturbed : (commits unit (1 ∷ 2 ∷ []) (first ((1, 0) ∷ (2, 1) ∷ (3, 2) ∷ []))).events
    ≡ Start unit (1 ∷ 2 ∷ []) ∷ Deliver 1 ∷ Deliver 2 ∷ Deliver 2 ∷ Resend unit ∷ Deliver 3 ∷ Deliver 4 ∷ Restart 1 ∷ Deliver 5
    ∷ Deliver 6 ∷ Deliver 7 ∷ Deliver 8 ∷ []
disturbed = refl

pub disturbed_sent : length (state_of (commits unit (1 ∷ 2 ∷ []) (first ((1, 0) ∷ (2, 1) ∷ (3, 2) ∷ []))).events).sent ≡ 9
disturbed_sent = refl

pub disturbed_statuses : map (status_of (state_of (commits unit (1 ∷ 2 ∷ []) (first ((1, 0) ∷ (2, 1) ∷ (3, 2) ∷ []))).events) unit) (0 ∷ 1 ∷ 2 ∷ [])
    ≡ Commit ∷ Commit ∷ Commit ∷ []
disturbed_statuses = refl

-- a pair that has not come to its turn waits for the next commit
pub waits_on : (commits unit (1 ∷ []) (first ((6, 0) ∷ []))).waiting ≡ (2, 0) ∷ []
waits_on = refl

-- what the next turns do with their messages
abbrev twists : ℕ → List (ℕ × ℕ) → List Twist
twists zero pairs = []
twists (suc n) pairs = twist pairs ∷ twists n (left_behind pairs)

-- each pair acts once, at its turn since it was the first
each_acts_once : twists 6 ((1, 0) ∷ (2, 1) ∷ (1, 2) ∷ []) ≡ Lost ∷ Plain ∷ Twice ∷ Restarted ∷ Plain ∷ Plain ∷ []
each_acts_once = refl

-- one that is armed later waits behind the others
armed_later : twists 3 (left_behind (left_behind ((1, 0) ∷ (2, 1) ∷ [])) ++ (1, 2) ∷ []) ≡ Twice ∷ Restarted ∷ Plain ∷ []
armed_later = refl
