-- What printing a text leaves of a printer.
use Rattle.salt_ast.specs.declared.printer.Printer.{Printer}
use Rattle.salt_io.specs.Collects.{Collects}
use Rattle.salt_io.specs.declared.streams.IoFailed.{IoFailed}
use Rattle.std.specs.Prelude.{Err, List, Ok, Option, Result, ℕ, ◌≡◌}

-- A printer that has failed stays as it is; another one writes or keeps the bytes, and keeps the outcome.
abbrev pub Continues : {K : Type 0} → (K → Option (List ℕ)) → (K → ℕ) → Result (Unit {0}) IoFailed → K → (waiting : List ℕ) →
    K → (left : List ℕ) → Result (Unit {0}) IoFailed → List ℕ → Type 0
Continues held faults (Ok done) old waiting new left outcome text = Collects held faults old waiting new left outcome text
Continues held faults (Err e) old waiting new left outcome text = (outcome ≡ Err e) × (new ≡ old)

-- The text was printed, as far as the printer goes.
pub record Prints {K : Type 0} (held : K → Option (List ℕ)) (faults : K → ℕ) (old new : Printer K) (text : List ℕ) : Type 0 where
  pub same_sink : new.sink.ghost_name ≡ old.sink.ghost_name
  pub printed : Continues held faults old.outcome old.sink.now old.waiting new.sink.now new.waiting new.outcome text
