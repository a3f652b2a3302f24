-- What an opening stands for: a state, over a storage that holds what that keeps; and what it finds to be opened.
use Rattle.salt_books.specs.Books.{AreBooks, boot_in, conts_in, programs_in, units_in}
use Rattle.salt_books.specs.declared.books.Books.{Books}
use Rattle.salt_engine.specs.Resuming.{GoesOnBehindEarly}
use Rattle.salt_engine.specs.Standing.{IsBrokenStage, IsGoingStage, books_in}
use Rattle.salt_engine.specs.Stored.{Stored}
use Rattle.salt_engine.specs.declared.stage.Stage.{Stage}
use Rattle.salt_engine.specs.declared.stage.Stage.TheVariants.{Going}
use Rattle.law_states.specs.States.{State}
use Rattle.law_states.specs.Watches.{empty_watch}
use Rattle.salt_model.specs.Kept.{Kept}
use Rattle.salt_model.specs.Phases as phases
use Rattle.salt_model.specs.declared.events.Event.{Event}
use Rattle.salt_model.specs.declared.events.Event.TheVariants.{Early, Ready}
use Rattle.law_openings.specs.Draining.{done_now, is_earlier, opening_stage}
use Rattle.salt_model.specs.Rests.{rests_of}
use Rattle.salt_drain.specs.Recovering as recovering
use Rattle.salt_drain.specs.declared.recovery.Recovery.{Recovery}
use Rattle.salt_storage.specs.declared.found.Numbers.{Numbers}
use Rattle.salt_values.specs.declared.id.Id.{Id}
use Rattle.std.specs.List.{filter}
use Rattle.std.specs.Prelude.{Bool, IsTrue, None, Option, Some, [], false, length, true, ℕ, ◌*◌, ◌+◌, ◌-◌, ◌≡◌}

-- the books of an opening that is done: behind its Ready nothing is open, `go all` has nothing left to turn to, and nothing is watched
pub record AreOpened (x : Books) (s : State) : Type 0 where
  pub books : AreBooks x s.units
  pub units : s.units.units ≡ []
  pub to_go : s.units.to_go ≡ []
  pub watch : s.watch ≡ empty_watch 0

-- this is so of the state that the end of an opening makes, over these books
abbrev pub ServesBehind : Event → Books → (State → Type 0) → Type 0
ServesBehind (Early bs) books goes = GoesOnBehindEarly books goes
ServesBehind e books goes = (s : State) → AreOpened books s → goes s

-- of a recovery, an opening goes on
abbrev pub OpensIn : (holds : Kept → Type 0) (is_new : Id → Type 0) → Stage Recovery → Option Event → State → Type 0
OpensIn holds is_new (Going x) (Some e) s = (t : State) × recovering.HasDoneEvent x e s t × Stored holds is_new t.units × (s.units.phase ≡ phases.Opening)
OpensIn holds is_new stage next s = ⊥

-- what the storage holds is found, and no boot has begun over it; where the disks tell, the books are there
abbrev pub IsFoundStage : (told : Bool) → Option Numbers → Stage Recovery → Type 0
IsFoundStage told (Some n) stage = IsTrue told → IsBrokenStage stage
IsFoundStage told None stage = ⊥

-- the books that it has
abbrev pub opening_books : Stage Recovery → Option Books
opening_books stage = books_in recovering.books_of stage

-- for it to be opened: what the storage holds is found, or it was broken off, and can be looked for
abbrev pub CanFind : (told : Bool) (settled : Type 0) → Option Numbers → Stage Recovery → Type 0
CanFind told settled (Some n) stage = IsTrue told → IsBrokenStage stage
CanFind told settled None stage = settled × (IsGoingStage stage → ⊥)

-- WHAT IS STILL TO COME.

-- the units that an opening has still to cut, and the statements that it may still do, by its books
abbrev pub left_by : Books → ℕ
left_by x =
    length (filter (is_earlier (boot_in x)) (units_in x)) + (rests_of (programs_in x) (conts_in x) - done_now (boot_in x) (units_in x))

abbrev pub left_in : Stage Recovery → Option Event → ℕ
left_in (Going x) (Some e) = 8 * left_by (recovering.books_of x) + opening_stage e
left_in stage next = 0

-- an opening ends by this event
abbrev pub ends_opening : Event → Bool
ends_opening Ready = true
ends_opening (Early bs) = true
ends_opening e = false
