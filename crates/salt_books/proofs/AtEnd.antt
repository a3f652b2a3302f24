-- What is to come where a unit's last statement is done, and where not.
use Rattle.law_states.specs.OpenUnits.{OpenUnit, UnitState, unit_named}
use Rattle.law_states.specs.Told.{commits_in, is_at_end_in}
use Rattle.salt_books.proofs.Named.{is-some}
use Rattle.salt_books.specs.Coming.{CommitsAtEnd}
use Rattle.salt_books.specs.Ends.{done_of}
use Rattle.salt_books.specs.declared.coming.Coming.TheVariants.{Commit, Nothing}
use Rattle.salt_model.specs.Kept.{block_of_kind}
use Rattle.salt_values.specs.declared.id.Id.{Id}
use Rattle.std.proofs.Common.{ap, sym, ◌∙◌}
use Rattle.std.specs.Bool.{then_some}
use Rattle.std.specs.Prelude.{None, Some, false, option_map, refl, true, ◌≡◌}

pub at-end : (s : UnitState) (u : Id) (o : OpenUnit) → unit_named u s.units ≡ Some o → is_at_end_in o (block_of_kind s.kept o.kind) ≡ true → CommitsAtEnd s u (Commit u)
at-end s u o named end =
    (refl, is-some (unit_named u s.units) o named, ap (done_of s None) named ∙ ap (λ b. then_some b (commits_in s o)) end ∙ sym (ap (option_map (commits_in s)) named))

pub not-at-end : (s : UnitState) (u : Id) (o : OpenUnit) → unit_named u s.units ≡ Some o → is_at_end_in o (block_of_kind s.kept o.kind) ≡ false → CommitsAtEnd s u Nothing
not-at-end s u o named end = ap (done_of s None) named ∙ ap (λ b. then_some b (commits_in s o)) end
