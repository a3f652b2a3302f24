use Rattle.law_states.specs.KeptSources.{unless_among}
use Rattle.salt_deps.proofs.places.Writers.drop_programs.Given as goal
use Rattle.salt_model.specs.Tables.{place_cmp}
use Rattle.salt_model.specs.declared.places.Place.{Place}
use Rattle.std.proofs.Common.{take, ◌≡◌}
use Rattle.std.specs.BTreeMap.{get}

abbrev pub invariant-loop-name : goal.invariant-loop-name
invariant-loop-name l = (q : Place) → get place_cmp l.self.last q ≡ unless_among (take l.name-index l.names) (get place_cmp l.fn.self.last q)
