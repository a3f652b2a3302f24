-- Each continuation has the name that its program was called by.
use Rattle.salt_model.specs.After.{kept}
use Rattle.salt_model.specs.Shown.{name_of_base}
use Rattle.salt_model.specs.Trace.{Trace}
use Rattle.salt_model.specs.Words.{Every}
use Rattle.salt_values.specs.declared.cont.Cont.{Cont}
use Rattle.std.specs.Prelude.{◌≡◌}

abbrev pub AreNamed : Trace → Type 0
AreNamed trace = Every (λ (c : Cont). name_of_base c.base trace ≡ c.program) (kept trace).conts
