use Rattle.salt_net.specs.declared.kinds.NetEvent.TheVariants.{Start}
use Rattle.salt_turns.proofs.Begun.{begun_way, on_map}
use Rattle.salt_turns.proofs.coming.begin.Goals as goal
use Rattle.salt_turns.specs.Amid.{IsOnTheWay, first_of}
use Rattle.std.proofs.Common.{[], ◌++◌, ◌≡◌, ◌∷◌}

pub returns-clause-way : goal.returns-clause-way
returns-clause-way c =
    let u = c.args.unit in
    let nodes = c.args.nodes in
    let n = c.args.messages.now in
    let q = c.start.new.self in
    on_map c.start.result (q ≡ record n { done = n.done ++ Start u nodes ∷ [] }) (IsOnTheWay u nodes (first_of u nodes n) q) (begun_way u nodes n q c.requires.rests c.requires.new c.requires.nodes) c.start.ensures.ok
