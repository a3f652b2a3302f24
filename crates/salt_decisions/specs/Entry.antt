-- What an entry in hand stands for.
use Rattle.salt_bytes.specs.Coordinator as log
use Rattle.salt_bytes.specs.Coordinator.{CoordinatorEntry, Decision}
use Rattle.salt_decisions.specs.Header.{numbered_of}
use Rattle.salt_decisions.specs.declared.entry.Decided.{Decided}
use Rattle.salt_decisions.specs.declared.entry.Entry.TheVariants.{Boots, Decides, Defines}
use Rattle.salt_decisions.specs.declared.entry.Entry.{Entry}

abbrev pub decision_of : Decided → Decision
decision_of d = record { number = d.number; unit = d.unit; mask = d.parts; move = d.mv }

abbrev pub entry_of : Entry → CoordinatorEntry
entry_of (Boots boot) = log.Boots boot
entry_of (Defines d) = log.Defines (numbered_of d)
entry_of (Decides d) = log.Decides (decision_of d)
