use Rattle.salt_locks.proofs.Spotting.{listed-more}
use Rattle.salt_locks.proofs.spots.list_more.Goals as goal
use Rattle.salt_locks.specs.Spots.{spots_in}
use Rattle.salt_locks.specs.declared.spots.Spot.{Spot}
use Rattle.std.proofs.Common.{List, ap, ◌++◌, ◌∙◌}

pub returns : goal.returns
returns c = λ b. listed-more c.args.lists.now c.remove.new.self c.insert.new.self c.args.name c.in_ok-listed.listed c.args.spots.items c.remove.ensures.updates.0 c.in_ok-insert.ensures.updates.0
    (c.in_ok-listed.ensures ∙ ap (λ (l : List Spot). l ++ c.args.spots.items) (ap spots_in c.remove.ensures.value)) b
