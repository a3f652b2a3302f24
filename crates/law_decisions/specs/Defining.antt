-- A definition may be made.
use Rattle.law_definitions.specs.Texts.{definition_in}
use Rattle.law_states.specs.OpenUnits.{UnitState}
use Rattle.law_states.specs.Steps.{units_after}
use Rattle.law_states.specs.Told.{next_decision_number}
use Rattle.salt_model.specs.Kept.{Definition}
use Rattle.salt_model.specs.declared.events.Event.TheVariants.{Defined}
use Rattle.salt_storage.specs.Storing.{MayDefine, defined}
use Rattle.std.specs.Prelude.{List, Some, ℕ, ◌≡◌}

-- the text is read as the definition, which may be made, and what is kept behind it is what the event leaves
pub record MayBeDefined (s : UnitState) (text : List ℕ) (d : Definition) : Type 0 where
  pub reads : definition_in text ≡ Some d
  pub may : MayDefine s.kept d
  pub leaves : defined s.kept d ≡ (units_after (Defined (next_decision_number s) text) s).kept
