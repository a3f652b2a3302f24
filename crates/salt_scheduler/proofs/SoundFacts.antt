-- What a sound state gives.
use Rattle.salt_books.specs.Sound.{IsSoundState}
use Rattle.law_states.specs.KeptWaits.{AreDistinct, Asker}
use Rattle.law_states.specs.Readings.{WatchReading}
use Rattle.law_states.specs.States.{State}
use Rattle.salt_conflicts.proofs.Readable.{distinct, readable}
use Rattle.std.specs.Prelude.{false, map, true, ◌≡◌}

pub reads : (s : State) → IsSoundState s → WatchReading s.watch
reads s h = readable s.watch h.trace h.keeps.watch h.sound

pub waits-apart : (s : State) → IsSoundState s → AreDistinct (map (λ (a : Asker). a.unit) s.watch.waits)
waits-apart s h = distinct s.watch h.trace h.keeps.watch

pub never-true : false ≡ true → ⊥
never-true h = cc
