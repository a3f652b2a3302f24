use Rattle.salt_net.specs.Paces.{gone_on}
use Rattle.salt_net.specs.declared.kinds.NodeStatus.TheVariants.{Started}
use Rattle.salt_turns.proofs.Amid.{amid_can, held_on, way_gone}
use Rattle.salt_turns.proofs.Begun.{on_map}
use Rattle.salt_turns.proofs.coming.go_on.Goals as goal
use Rattle.salt_turns.specs.Amid.{IsOnTheWay, behind_next, next_in, status_now}
use Rattle.salt_turns.specs.declared.coming.Next.TheVariants.{Decides}
use Rattle.std.proofs.Common.{ℕ, ◌≡◌, ◌≢◌}

pub go_on-requires : goal.go_on-requires
go_on-requires c = let r = c.requires in amid_can r.0 r.1 c.args.messages.now r.3.amid

pub returns-clause-way : goal.returns-clause-way
returns-clause-way c u nodes first way =
    let n = c.args.messages.now in
    let q = c.go_on.new.self in
    on_map c.go_on.result (q ≡ gone_on n n.ahead) (IsOnTheWay u nodes first q) (way_gone u nodes first n q way) c.go_on.ensures.ok

pub returns-clause-held : goal.returns-clause-held
returns-clause-held c u nodes first way =
    let n = c.args.messages.now in
    let q = c.go_on.new.self in
    on_map c.go_on.result (q ≡ gone_on n n.ahead) (status_now n u 0 ≡ Started → next_in n ≢ Decides → (p : ℕ) → status_now q u p ≡ behind_next (next_in n) p (status_now n u p)) (λ is. held_on u nodes n q is way.amid) c.go_on.ensures.ok
