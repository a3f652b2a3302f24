use Rattle.salt_deps.proofs.places.drop_each.Given as goal
use Rattle.salt_deps.specs.Written.{HasDropped}
use Rattle.salt_model.specs.Tables.{place_cmp}
use Rattle.std.proofs.Common.{take}
use Rattle.std.specs.BTreeMap.{get}

abbrev pub invariant-loop-place : goal.invariant-loop-place
invariant-loop-place l = HasDropped l.name (take l.place-index l.places) (get place_cmp l.fn.last) (get place_cmp l.last)
