use Rattle.salt_deps.proofs.links.Links.forget_all.Given as goal
use Rattle.salt_deps.specs.Maps.{is_source}
use Rattle.salt_values.specs.Id.{has_id}
use Rattle.salt_values.specs.declared.id.Id.{Id}
use Rattle.std.proofs.Common.{not, take, ◌&&◌, ◌||◌, ◌≡◌}

abbrev pub invariant-loop-name : goal.invariant-loop-name
invariant-loop-name l = (x y : Id) → is_source l.self.sources x y ≡ (is_source l.fn.self.sources x y && not (has_id x (take l.name-index l.names) || has_id y (take l.name-index l.names)))
