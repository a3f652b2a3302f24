-- What an event takes of its unit.
use Rattle.salt_ast.specs.declared.trees.Statement.{Statement}
use Rattle.law_states.specs.OpenUnits.{OpenUnit, UnitState, unit_named}
use Rattle.law_states.specs.UnitFacts.{asker_in, facts_in, facts_of, reach_under}
use Rattle.salt_model.specs.declared.events.Answer.{Answer}
use Rattle.salt_model.specs.declared.events.End.{End}
use Rattle.salt_model.specs.declared.events.Event.TheVariants.{Did, Ended, Waits}
use Rattle.salt_model.specs.declared.events.Owner.{Owner}
use Rattle.salt_values.specs.declared.id.Id.{Id}
use Rattle.std.proofs.Common.{ap}
use Rattle.std.specs.Prelude.{List, None, Some, [], ◌∷◌, ◌≡◌}

pub facts-did : (s : UnitState) (u : Id) (st : Statement) (a : Answer) (o : OpenUnit) → unit_named u s.units ≡ Some o →
    facts_in s (Did u st a) ≡ record { kind = Some o.kind; reach = reach_under s.kept o st; changes = []; asks = []; cover = [] }
facts-did s u st a o at = ap (facts_of s (Did u st a)) at

pub facts-ended : (s : UnitState) (u : Id) (end : End) (o : OpenUnit) → unit_named u s.units ≡ Some o →
    facts_in s (Ended u end) ≡ record { kind = Some o.kind; reach = None; changes = o.changes; asks = []; cover = [] }
facts-ended s u end o at = ap (facts_of s (Ended u end)) at

pub facts-waits : (s : UnitState) (u : Id) (owners : List Owner) (o : OpenUnit) → unit_named u s.units ≡ Some o →
    facts_in s (Waits u owners) ≡ record { kind = Some o.kind; reach = None; changes = []; asks = asker_in s o ∷ []; cover = [] }
facts-waits s u owners o at = ap (facts_of s (Waits u owners)) at
