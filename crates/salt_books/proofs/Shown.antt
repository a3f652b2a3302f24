-- What a value shows, its fields do.
use Rattle.law_states.specs.OpenUnits.{OpenUnit, UnitState, unit_named}
use Rattle.salt_books.specs.Books.{AreBooks, HaveUnit}
use Rattle.salt_books.specs.Known.{IsKnown}
use Rattle.salt_books.specs.declared.books.Books.{Books}
use Rattle.salt_books.specs.declared.known.Known.{Known}
use Rattle.salt_model.specs.Kept.{Kept}
use Rattle.salt_values.specs.declared.id.Id.{Id}
use Rattle.std.proofs.Common.{ap, subst, sym, ◌∙◌}
use Rattle.std.specs.Prelude.{IsSome, Some, refl, ◌≡◌}

pub known-shown : (x y : Known) (k : Kept) → x ≡ y → IsKnown y k → IsKnown x k
known-shown x y k same h = subst (λ (z : Known). IsKnown z k) (sym same) h

pub books-shown : (x y : Books) (s : UnitState) → x ≡ y → AreBooks y s → AreBooks x s
books-shown x y s same h = subst (λ (z : Books). AreBooks z s) (sym same) h

-- a unit that is open in the state is open in the books
pub have-unit : (x : Books) (s : UnitState) (u : Id) (o : OpenUnit) → AreBooks x s → unit_named u s.units ≡ Some o → HaveUnit x u
have-unit x s u o books named = subst IsSome (sym (ap (unit_named u) books.units ∙ named)) refl
