-- The continuation of a program, found in a list.
use Rattle.salt_model.specs.Kept.{cont_in}
use Rattle.salt_values.specs.Id.{is_same_id}
use Rattle.salt_values.specs.declared.cont.Cont.{Cont}
use Rattle.salt_values.specs.declared.id.Id.{Id}
use Rattle.std.proofs.Common.{ap}
use Rattle.std.specs.List.{find}
use Rattle.std.specs.Prelude.{List, Option, Some, [], cond, refl, ◌∷◌, ◌≡◌}

pub cont_in-find : (b : Id) (cs : List Cont) → find (λ (c : Cont). is_same_id b c.base) cs ≡ cont_in b cs
cont_in-find b [] = refl
cont_in-find b (c ∷ cs) = ap (λ (o : Option Cont). cond (is_same_id b c.base) (Some c) o) (cont_in-find b cs)
