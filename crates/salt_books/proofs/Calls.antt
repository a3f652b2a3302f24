-- The names by which programs were called, where one is called anew or forgotten.
use Rattle.law_story.proofs.Ids.{is_same_id-sym}
use Rattle.salt_books.specs.Called.{id_cmp}
use Rattle.salt_values.specs.Id.{is_same_id}
use Rattle.salt_values.specs.declared.id.Id.{Id}
use Rattle.std.proofs.Common.{ap, arith, ◌∙◌}
use Rattle.std.proofs.lemmas.Bool.Decides.{nat_tests}
use Rattle.std.specs.Ordering.{is_eq, nat_cmp, ordering_then}
use Rattle.std.specs.Prelude.{Option, cond, refl, ℕ, ◌&&◌, ◌==◌, ◌≡◌}
use Rattle.std.specs.declared.cmp.Ordering.TheVariants.{Equal, Greater, Less}
use Rattle.std.specs.declared.cmp.Ordering.{Ordering}

tied : (m n : ℕ) → is_eq (nat_cmp m n) ≡ (m == n)
tied m n = grind (arith, nat_tests)

both : (o p : Ordering) → is_eq (ordering_then o p) ≡ (is_eq o && is_eq p)
both Less p = refl
both Equal p = refl
both Greater p = refl

same-at : (a b : Id) → is_eq (id_cmp a b) ≡ is_same_id a b
same-at a b = both (nat_cmp a.boot b.boot) (nat_cmp a.seq b.seq) ∙ (ap (λ t. t && is_eq (nat_cmp a.seq b.seq)) (tied a.boot b.boot) ∙ ap (λ t. (a.boot == b.boot) && t) (tied a.seq b.seq))

-- what is told of a program where one is told anew
pub told-anew : {A : Type 0} (base b : Id) (told old new : Option A) → new ≡ cond (is_eq (id_cmp base b)) told old → new ≡ cond (is_same_id b base) told old
told-anew base b told old new update = update ∙ ap (λ t. cond t told old) (same-at base b ∙ is_same_id-sym base b)
