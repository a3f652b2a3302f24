-- A half in memory goes on behind an early opening.
use Rattle.salt_books.specs.Books.{AreBooks}
use Rattle.salt_books.specs.Called.{name_told}
use Rattle.salt_books.specs.declared.books.Books.{Books}
use Rattle.salt_books.specs.declared.called.CalledNames.{CalledNames}
use Rattle.law_states.specs.Members.{In}
use Rattle.law_states.specs.States.{State}
use Rattle.law_states.specs.UnitFacts.{UnitFacts, covered_by}
use Rattle.law_states.specs.WatchSteps.{WatchBy}
use Rattle.law_states.specs.Watches.{Watch}
use Rattle.salt_model.specs.Words.{Every}
use Rattle.salt_model.specs.declared.events.Event.TheVariants.{Early}
use Rattle.salt_values.specs.Id.{in_order}
use Rattle.salt_values.specs.declared.cont.Cont.{Cont}
use Rattle.salt_values.specs.declared.id.Id.{Id}
use Rattle.std.specs.Prelude.{List, Some, [], map, ◌≡◌}

-- a program is called by the name that a continuation of it keeps
pub record IsCalledBy (called : CalledNames) (cs : List Cont) (b : Id) : Type 0 where
  pub cont : Cont
  pub kept : In cont cs
  pub base : cont.base ≡ b
  pub name : name_told called b ≡ Some cont.program

abbrev pub AreCalled : CalledNames → List Cont → Type 0
AreCalled called cs = (b : Id) → In b (map (λ (c : Cont). c.base) cs) → IsCalledBy called cs b

-- the state that an early opening of these programs makes, over these books, but for what is watched: no unit is open, `go all` has nothing left to
-- turn to, the programs are those that are unfinished, and each was called by the name that its continuation keeps
pub record IsEarlyOver (x : Books) (bs : List Id) (s : State) : Type 0 where
  pub books : AreBooks x s.units
  pub units : s.units.units ≡ []
  pub to_go : s.units.to_go ≡ []
  pub unfinished : bs ≡ in_order (map (λ (c : Cont). c.base) s.units.kept.conts)
  pub called : Every (λ (c : Cont). s.names c.base ≡ c.program) s.units.kept.conts

-- this is so of it, with what the opening makes of the watch
pub record GoesOnEarly (goes : State → Type 0) (f : UnitFacts) (bs : List Id) (s : State) : Type 0 where
  pub watch : Watch
  pub watched : WatchBy f (Early bs) s.watch watch
  pub stands : goes (record s { watch = watch })

abbrev pub GoesOnBehindEarly : Books → (State → Type 0) → Type 0
GoesOnBehindEarly books goes = (f : UnitFacts) (bs : List Id) (s : State) → IsEarlyOver books bs s → f.cover ≡ covered_by s.units.kept bs → GoesOnEarly goes f bs s
