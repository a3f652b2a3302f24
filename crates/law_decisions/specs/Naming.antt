-- How open units are named, and which units may still be decided.
use Rattle.law_states.specs.Members.{In}
use Rattle.law_states.specs.OpenUnits.{OpenUnit, UnitState, names_in}
use Rattle.law_states.specs.Rising.{Rising}
use Rattle.salt_model.specs.Phases.{Fallen, Serving}
use Rattle.salt_model.specs.Words.{Every}
use Rattle.salt_values.specs.declared.id.Id.{Id}
use Rattle.std.specs.Prelude.{◌<◌, ◌≡◌, ◌≤◌, ◌⊎◌}

-- No open unit is of a later boot, and while the run serves each is of this one; those of this boot are numbered up to the last that
-- has begun; and their names rise.
pub record AreNamedSo (s : UnitState) : Type 0 where
  pub boots : Every (λ (o : OpenUnit). o.unit.boot ≤ s.kept.boot) s.units
  pub serving : s.phase ≡ Serving → Every (λ (o : OpenUnit). o.unit.boot ≡ s.kept.boot) s.units
  pub numbers : (s.phase ≡ Fallen → ⊥) → Every (λ (o : OpenUnit). o.unit.boot ≡ s.kept.boot → o.unit.seq ≤ s.unit_count) s.units
  pub rise : Rising (names_in s.units)

-- a unit of this boot that is open or may still begin: one that may be decided
abbrev pub IsToCome : UnitState → Id → Type 0
IsToCome s u = (u.boot ≡ s.kept.boot) × (In u (names_in s.units) ⊎ (s.unit_count < u.seq))
