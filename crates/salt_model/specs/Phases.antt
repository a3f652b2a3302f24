-- Where a run stands: down, within an opening, or serving.
use Rattle.salt_model.specs.Trace.{Trace, over_events}
use Rattle.salt_model.specs.declared.events.Event.TheVariants.{Down, Early, Opened, Ready}
use Rattle.std.specs.Prelude.{Bool, false, true, ℕ, ◌+◌}

pub data Phase : Type 0 where
  Fallen : Phase
  Opening : Phase
  Serving : Phase

abbrev pub phase : Trace → Phase
phase = over_events (λ k. Fallen) (λ trace e p. elim e [ Down why ↦ Fallen | Opened boot n ↦ Opening | Ready ↦ Serving | Early bs ↦ Serving | _ ↦ p ])

-- the Downs since the last Opened
abbrev pub downs : Trace → ℕ
downs = over_events (λ k. 0) (λ trace e n. elim e [ Down why ↦ n + 1 | Opened boot number ↦ 0 | _ ↦ n ])

-- whether the start has been opened
abbrev pub has_opened : Trace → Bool
has_opened = over_events (λ k. false) (λ trace e is_opened. elim e [ Opened boot n ↦ true | _ ↦ is_opened ])
