-- What is kept is what the log says.
use Rattle.salt_decisions.specs.Said.{mask_of, move_of, text_of}
use Rattle.salt_decisions.specs.declared.kept.Kept.{Kept}
use Rattle.salt_stands.specs.Coordinator.{unit_of}
use Rattle.salt_stands.specs.CoordinatorLog.{CoordinatorLog}
use Rattle.std.specs.Prelude.{map, ◌≡◌}

pub record IsKept (k : Kept) (log : CoordinatorLog) : Type 0 where
  pub boot : k.boot ≡ log.told.boot
  pub decisions : k.decisions ≡ log.told.decisions
  pub definitions : k.definitions ≡ map text_of log.told.definitions
  pub decided : k.decided ≡ map unit_of log.told.decided
  pub masks : k.masks ≡ map mask_of log.told.decided
  pub moves : k.moves ≡ map move_of log.told.decided
  pub conts : k.conts ≡ log.header.conts
  pub format : k.format ≡ log.header.format
