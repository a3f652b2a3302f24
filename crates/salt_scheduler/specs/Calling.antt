-- Programs called by units that begin, and forgotten.
use Rattle.salt_books.specs.Books.{AreBooks}
use Rattle.salt_books.specs.Called.{name_told}
use Rattle.salt_books.specs.declared.books.Books.{Books}
use Rattle.salt_books.specs.declared.called.CalledNames.{CalledNames}
use Rattle.law_states.specs.Members.{In}
use Rattle.law_states.specs.OpenUnits.{UnitState}
use Rattle.law_states.specs.Readings.{first_parts}
use Rattle.law_states.specs.Watches.{Watch}
use Rattle.salt_values.specs.Id.{has_id}
use Rattle.salt_model.specs.declared.events.UnitKind.TheVariants.{First}
use Rattle.salt_model.specs.declared.events.UnitKind.{UnitKind}
use Rattle.salt_values.specs.Id.{is_same_id}
use Rattle.salt_values.specs.declared.id.Id.{Id}
use Rattle.salt_conflicts.specs.Watched.{IsWatch}
use Rattle.salt_conflicts.specs.declared.watching.Watching.{Watching}
use Rattle.std.specs.Prelude.{Bool, List, None, Option, Some, [], false, if◌then◌else◌, true, ◌||◌, ◌∷◌, ◌≡◌}

-- a unit of this kind calls a program, if it begins one
abbrev pub IsCalled : UnitKind → CalledNames → CalledNames → Type 0
IsCalled (First t c n args) old new = (b : Id) → name_told new b ≡ (if is_same_id b c then Some n else name_told old b)
IsCalled kind old new = new ≡ old

-- whether a program is accepted or in its first part
abbrev pub is_under_way : List Id → List Id → Id → Bool
is_under_way accepted beginning b = has_id b accepted || has_id b beginning

-- of these programs, the names are forgotten of those that are not under way, and no others
pub record Forgets (accepted beginning gone : List Id) (old new : CalledNames) : Type 0 where
  pub kept : (b : Id) → is_under_way accepted beginning b ≡ true → name_told new b ≡ name_told old b
  pub others : (b : Id) → (In b gone → ⊥) → name_told new b ≡ name_told old b
  pub forgotten : (b : Id) → In b gone → is_under_way accepted beginning b ≡ false → name_told new b ≡ None

-- the one, if any, as a list
abbrev pub listed : Option Id → List Id
listed None = []
listed (Some b) = b ∷ []

-- those that are under way are those of these books and this watch
abbrev pub ForgetsIdle : Books → Watching → List Id → CalledNames → CalledNames → Type 0
ForgetsIdle books watch gone old new = (s : UnitState) (w : Watch) → AreBooks books s → IsWatch watch w →
    Forgets w.programs (first_parts s.units) gone old new
