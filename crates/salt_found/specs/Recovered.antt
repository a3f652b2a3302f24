-- What is recovered is what the log stands for.
use Rattle.salt_stands.specs.Fitting.{programs_defined, tables_defined}
use Rattle.salt_found.specs.declared.error.RecoverErr.TheVariants.{Memory, NotSalt}
use Rattle.salt_found.specs.declared.error.RecoverErr.{RecoverErr}
use Rattle.salt_found.specs.declared.recovery.Recovered.{Recovered}
use Rattle.salt_model.specs.Kept.{Definition}
use Rattle.salt_stands.specs.Coordinator.{Coordinator}
use Rattle.std.specs.Prelude.{Err, None, Ok, Option, Result, Some, ⊤, ◌≡◌}

-- it has the tables, programs and open continuations of a coordinator
pub record IsRecovered (r : Recovered) (coordinator : Option (Coordinator Definition)) : Type 0 where
  pub c : Coordinator Definition
  pub stands : coordinator ≡ Some c
  pub schema : r.schema ≡ tables_defined c.definitions
  pub catalogue : r.catalogue ≡ programs_defined c.definitions
  pub conts : r.conts ≡ c.conts

abbrev pub Recovers : Result Recovered RecoverErr → Option (Coordinator Definition) → Type 0
Recovers (Ok r) coordinator = IsRecovered r coordinator
Recovers (Err NotSalt) coordinator = coordinator ≡ None
Recovers (Err Memory) coordinator = ⊤
