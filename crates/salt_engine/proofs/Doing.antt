-- What is to come can be done: where the disks tell by the state that comes before it.
use Rattle.salt_ast.specs.declared.trees.TableDef.{TableDef}
use Rattle.salt_books.proofs.Shown.{have-unit}
use Rattle.salt_books.specs.declared.books.Books.{Books}
use Rattle.salt_books.specs.declared.coming.Coming.TheVariants as coming
use Rattle.salt_books.specs.declared.coming.Coming.{Coming}
use Rattle.law_states.specs.States.{State}
use Rattle.salt_engine.proofs.Judging.{keys-left}
use Rattle.salt_engine.proofs.Providing.{act-asked, act-before, act-unit, branch-unit, commit-named, commit-unit}
use Rattle.salt_engine.proofs.Untold.{either-way}
use Rattle.salt_engine.specs.Giving.{AsksFor, CanBeDone}
use Rattle.salt_model.specs.Kept.{Kept}
use Rattle.salt_units.specs.Acting.{leaves_keys}
use Rattle.salt_values.specs.declared.id.Id.{Id}
use Rattle.std.proofs.Common.{subst, sym}
use Rattle.std.specs.Prelude.{Bool, IsTrue, List, false, true, ◌≡◌}

asks-done : (holds : Kept → Type 0) (is_new : Id → Type 0) (x : Books) (c : Coming) (s : State) → AsksFor holds is_new x c s → CanBeDone x c
asks-done holds is_new x coming.Nothing s h = tt
asks-done holds is_new x (coming.Told e) s h = tt
asks-done holds is_new x (coming.Act a) s h =
    let o = act-unit holds is_new x a s h in
    let named = (act-asked holds is_new x a s h).named in (
      have-unit x s.units a.unit o h.can.0 named,
      subst (λ (ts : List TableDef). leaves_keys ts a.statement ≡ true) (sym h.can.0.known.schema)
          (keys-left s.units o a.statement a.unit (act-before holds is_new x a s h).comes named),
    )
asks-done holds is_new x (coming.Commit u) s h = have-unit x s.units u (commit-unit holds is_new x u s h) h.can.0 (commit-named holds is_new x u s h)
asks-done holds is_new x (coming.Branch u b cause) s h =
    let later = branch-unit holds is_new x u b cause s h in have-unit x s.units u later.unit h.can.0 later.named

pub comes-done : (holds : Kept → Type 0) (is_new : Id → Type 0) (told : Bool) (x : Books) (c : Coming) → (IsTrue told → (s : State) × AsksFor holds is_new x c s) → (told ≡ false → CanBeDone x c) →
    CanBeDone x c
comes-done holds is_new told x c ready fits = either-way (CanBeDone x c) told (λ tells. let r = ready tells in asks-done holds is_new x c r.0 r.1) fits
