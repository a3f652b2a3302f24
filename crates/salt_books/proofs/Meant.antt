-- What is to come and is not nothing means an event.
use Rattle.salt_books.proofs.Named.{is-some}
use Rattle.salt_books.specs.Coming.{CanCome, event_meant}
use Rattle.salt_books.specs.declared.coming.Coming.TheVariants as coming
use Rattle.salt_books.specs.declared.coming.Coming.{Coming}
use Rattle.law_states.specs.OpenUnits.{OpenUnit, UnitState, unit_named}
use Rattle.law_states.specs.Told.{commits_in, does_in}
use Rattle.salt_model.specs.declared.events.Event.{Event}
use Rattle.std.specs.Option.{option_or}
use Rattle.std.specs.Prelude.{IsSome, None, Option, Some, option_map, refl, ◌≡◌}

mapped-first : {A B : Type 0} (f : A → B) (o : Option A) (rest : Option B) → IsSome o → option_or (option_map f o) rest ≡ option_map f o
mapped-first f None rest some = absurd cc
mapped-first f (Some x) rest some = refl

pub meant-first : (s : UnitState) (c : Coming) (rest : Option Event) → CanCome c s → (c ≡ coming.Nothing → ⊥) →
    option_or (event_meant s c) rest ≡ event_meant s c
meant-first s coming.Nothing rest can some = absurd (some refl)
meant-first s (coming.Told e) rest can some = refl
meant-first s (coming.Act a) rest can some =
    mapped-first (λ (o : OpenUnit). does_in s o a.statement) (unit_named a.unit s.units) rest (is-some (unit_named a.unit s.units) can.0 can.1.named)
meant-first s (coming.Commit u) rest can some = mapped-first (commits_in s) (unit_named u s.units) rest can
meant-first s (coming.Branch u b cause) rest can some = refl
