-- Stories whose shown locks are of tables that a schema has.
use Rattle.salt_model.specs.Words.{Every}
use Rattle.salt_model.specs.declared.events.Event.TheVariants.{Shown}
use Rattle.salt_model.specs.declared.events.Event.{Event}
use Rattle.salt_model.specs.declared.shown.Item.TheVariants.{Base, Lock}
use Rattle.salt_model.specs.declared.shown.Item.{Item}
use Rattle.std.specs.Prelude.{List, ℕ, ⊤, ◌<◌}

-- an item names one of so many tables, or none
abbrev pub IsItemOf : ℕ → Item → Type 0
IsItemOf n (Lock l) = l.table < n
IsItemOf n (Base b name at) = ⊤

abbrev pub IsEventOf : ℕ → Event → Type 0
IsEventOf n (Shown items) = Every (IsItemOf n) items
IsEventOf n e = ⊤

abbrev pub IsStoryOf : ℕ → List Event → Type 0
IsStoryOf n events = Every (IsEventOf n) events
