-- What is kept of the accepted programs that are not released.
use Rattle.law_states.specs.KeptSources.{KeepsDependencies, no_dependencies}
use Rattle.law_states.specs.KeptWaits.{waiting}
use Rattle.salt_model.specs.Locks.{held}
use Rattle.salt_model.specs.Programs.{unreleased}
use Rattle.salt_model.specs.Trace.{Trace}
use Rattle.salt_model.specs.Units.{open_units}
use Rattle.salt_model.specs.declared.events.Event.{Event}
use Rattle.salt_model.specs.declared.events.Event.TheVariants.{Accepted, Early, Ready, Released}
use Rattle.salt_values.specs.Id.{insert_id, without}
use Rattle.salt_values.specs.declared.id.Id.{Id}
use Rattle.std.specs.Prelude.{List, [], ◌≡◌}

-- the accepted programs that are not released, in order of names, after an event
abbrev pub unreleased_after : Event → List Id → List Id
unreleased_after (Accepted b) bs = insert_id b bs
unreleased_after (Released cs) bs = without cs bs
unreleased_after Ready bs = []
unreleased_after (Early cs) bs = cs
unreleased_after e bs = bs

-- no unit is open, nothing is held, waits or is unreleased, and no writer, pair or finished program is kept
pub record KeepsNothing (trace : Trace) : Type 0 where
  pub units : open_units trace ≡ []
  pub locks : held trace ≡ []
  pub waits : waiting trace ≡ []
  pub programs : unreleased trace ≡ []
  pub dependencies : KeepsDependencies no_dependencies trace
