-- An end of a unit that no decision makes leaves what is kept.
use Rattle.salt_books.specs.Ends.{IsUndecided}
use Rattle.law_states.specs.OpenUnits.{OpenUnit}
use Rattle.law_states.specs.Steps.{kept_ended}
use Rattle.salt_model.specs.Kept.{Kept}
use Rattle.salt_model.specs.declared.events.End.TheVariants.{Branched, Committed, Cut, Failed, RolledBack, Victim}
use Rattle.salt_model.specs.declared.events.End.{End}
use Rattle.std.specs.Prelude.{Option, refl, ◌≡◌}

pub undecided : (end : End) (k : Kept) (o : Option OpenUnit) → IsUndecided end → kept_ended k end o ≡ k
undecided (Committed n) k o h = absurd h
undecided (Branched n c) k o h = absurd h
undecided (Failed c) k o h = refl
undecided RolledBack k o h = refl
undecided Victim k o h = refl
undecided Cut k o h = refl
