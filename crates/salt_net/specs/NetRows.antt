-- Events, and what they come to.
use Rattle.salt_net.specs.Nets.{can_happen, state_of, status_of}
use Rattle.salt_net.specs.declared.kinds.Message.TheVariants.{Asked, Decide, Done, Prepare, Vote}
use Rattle.salt_net.specs.declared.kinds.NetEvent.TheVariants.{Ask, Deliver, Refuse, Resend, Restart, Start}
use Rattle.salt_net.specs.declared.kinds.NetEvent.{NetEvent}
use Rattle.salt_net.specs.declared.kinds.NodeStatus.TheVariants.{Abort, Commit, Prepared, Unknown}
use Rattle.salt_values.specs.declared.id.Id.{Id}
use Rattle.std.specs.Prelude.{List, [], false, map, refl, true, ◌∷◌, ◌≡◌}

abbrev pub unit : Id
unit = record { boot = 1; seq = 3 }

-- the coordinator starts again before it has heard of both nodes
abbrev pub starts_again : List NetEvent
starts_again = Start unit (1 ∷ 2 ∷ []) ∷ Deliver 0 ∷ Restart 0 ∷ Deliver 1 ∷ Deliver 3 ∷ Deliver 4 ∷ Ask unit 1 ∷ Deliver 6 ∷ Deliver 7 ∷ []

pub starts_again_sent : (state_of starts_again).sent
    ≡ Prepare unit 1 ∷ Prepare unit 2 ∷ Vote unit 1 true ∷ Vote unit 2 true ∷ Decide unit 2 false ∷ Done unit 2 ∷ Asked unit 1 ∷ Decide unit 1 false ∷ Done unit 1 ∷ []
starts_again_sent = refl

pub starts_again_coordinator : status_of (state_of starts_again) unit 0 ≡ Abort
starts_again_coordinator = refl

pub starts_again_first : status_of (state_of starts_again) unit 1 ≡ Abort
starts_again_first = refl

pub starts_again_second : status_of (state_of starts_again) unit 2 ≡ Abort
starts_again_second = refl

pub starts_again_ninth : can_happen (state_of starts_again) (Deliver 9) ≡ false
starts_again_ninth = refl

-- a lost message is sent again, and one that comes twice is answered twice
abbrev pub loses_and_repeats : List NetEvent
loses_and_repeats =
    Start unit (3 ∷ []) ∷ Resend unit ∷ Deliver 1 ∷ Deliver 1 ∷ Deliver 2 ∷ Deliver 3 ∷ Deliver 4 ∷ Deliver 5 ∷ Deliver 6 ∷ Deliver 7 ∷ Resend unit ∷ []

pub loses_and_repeats_sent : (state_of loses_and_repeats).sent
    ≡ Prepare unit 3 ∷ Prepare unit 3 ∷ Vote unit 3 true ∷ Vote unit 3 true ∷ Decide unit 3 true ∷ Decide unit 3 true ∷ Done unit 3 ∷ Done unit 3 ∷ []
loses_and_repeats_sent = refl

-- a node gives up, and the other one is told
abbrev pub gives_up : List NetEvent
gives_up = Start unit (1 ∷ 2 ∷ []) ∷ Refuse unit 2 ∷ Deliver 0 ∷ Deliver 2 ∷ []

pub gives_up_sent : (state_of gives_up).sent
    ≡ Prepare unit 1 ∷ Prepare unit 2 ∷ Vote unit 2 false ∷ Vote unit 1 true ∷ Decide unit 1 false ∷ Decide unit 2 false ∷ []
gives_up_sent = refl

pub gives_up_prepared : status_of (state_of gives_up) unit 1 ≡ Prepared
gives_up_prepared = refl

-- each message comes, one of them twice, and a node starts again behind each: all commit
abbrev pub every_message_comes : List NetEvent
every_message_comes =
    Start unit (8 ∷ 1 ∷ [])
    ∷ Deliver 0 ∷ Restart 8 ∷ Deliver 1 ∷ Restart 8 ∷ Deliver 2 ∷ Restart 8 ∷ Deliver 2 ∷ Deliver 3 ∷ Restart 8
    ∷ Deliver 4 ∷ Restart 8 ∷ Deliver 5 ∷ Restart 8 ∷ Deliver 6 ∷ Restart 8 ∷ Deliver 7 ∷ Restart 8 ∷ []

pub every_message_comes_sent : (state_of every_message_comes).sent
    ≡ Prepare unit 8 ∷ Prepare unit 1 ∷ Vote unit 8 true ∷ Vote unit 1 true ∷ Decide unit 8 true ∷ Decide unit 1 true ∷ Done unit 8 ∷ Done unit 1 ∷ []
every_message_comes_sent = refl

pub every_message_comes_statuses : map (status_of (state_of every_message_comes) unit) (0 ∷ 8 ∷ 1 ∷ []) ≡ Commit ∷ Commit ∷ Commit ∷ []
every_message_comes_statuses = refl

-- what cannot happen in a new net: a node named twice, the coordinator or a ninth node as a node of a unit; a ninth node that starts again;
-- and anything of a unit that was not started
pub not_there : map (can_happen (state_of []))
    (Start unit (1 ∷ 1 ∷ []) ∷ Start unit (0 ∷ 1 ∷ []) ∷ Start unit (1 ∷ 9 ∷ []) ∷ Restart 9 ∷ Resend unit ∷ Refuse unit 1 ∷ Ask unit 1 ∷ Deliver 0 ∷ [])
    ≡ false ∷ false ∷ false ∷ false ∷ false ∷ false ∷ false ∷ false ∷ []
not_there = refl

pub not_started : status_of (state_of []) unit 0 ≡ Unknown
not_started = refl

-- a unit with no nodes is decided at once; none of it can give it up or ask, and it is not started again
abbrev pub no_nodes : List NetEvent
no_nodes = Start unit [] ∷ []

pub no_nodes_coordinator : status_of (state_of no_nodes) unit 0 ≡ Commit
no_nodes_coordinator = refl

pub no_nodes_nothing_more : map (can_happen (state_of no_nodes)) (Refuse unit 1 ∷ Ask unit 1 ∷ Start unit [] ∷ []) ≡ false ∷ false ∷ false ∷ []
no_nodes_nothing_more = refl
