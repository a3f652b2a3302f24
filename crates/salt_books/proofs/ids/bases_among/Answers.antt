use Rattle.law_states.proofs.Ascending.{Older, order-of-ascending}
use Rattle.law_states.specs.Members.{Ascends}
use Rattle.law_states.specs.Rising.{Rising}
use Rattle.salt_books.proofs.ids.bases_among.Goals as goal
use Rattle.salt_books.specs.Bases.{bases_in}
use Rattle.salt_values.specs.declared.id.Id.{Id}
use Rattle.std.proofs.Common.{List, [], ◌∙◌, ◌∷◌}
use Rattle.std.proofs.lemmas.Result.{IfOk-weaker}

ascends : (us : List Id) → Rising us → Ascends Older us
ascends [] r = tt
ascends (u ∷ us) r = (r.0, ascends us r.1)

pub returns-then-rising : goal.returns-then-rising
returns-then-rising c =
    let bases = bases_in c.args.conts.now in
    IfOk-weaker c.bases_in.result _ _ (λ ids is. is ∙ order-of-ascending bases bases (ascends bases (c.requires c.if-rising.true)) (λ x i. i) (λ x i. i)) c.bases_in.ensures
