-- Openings whose numbers are not spent.
use Rattle.salt_model.specs.Trace.{Trace}
use Rattle.salt_model.specs.declared.events.Event.TheVariants.{Opened}
use Rattle.salt_model.specs.declared.events.Event.{Event}
use Rattle.salt_stands.specs.Stands.{are_spent}
use Rattle.std.specs.Prelude.{false, ⊤, ◌-◌, ◌≡◌}

-- no opening goes on from spent numbers: those of the boot before its own, and of the last decision
abbrev pub OpensUnspent : Trace → Event → Type 0
OpensUnspent trace (Opened boot n) = are_spent (boot - 1) n ≡ false
OpensUnspent trace e = ⊤
