use Rattle.salt_books.proofs.moves.move_of_branch.Goals as goal
use Rattle.salt_books.specs.Moves.{IsAtPart}
use Rattle.salt_model.specs.Kept.{conts_branched}
use Rattle.salt_model.specs.declared.events.UnitKind.{UnitKind}
use Rattle.std.proofs.Common.{Some, ap, subst, sym, ◌∙◌}
use Rattle.std.proofs.lemmas.Result.{IfOk-weaker}

pub returns-in-Later : goal.returns-in-Later
returns-in-Later c = IfOk-weaker c.move_of_part.result _ _ (λ made f k cat same at can.
    f k 0 c.in-Later.part cat same (subst (IsAtPart k) c.in-Later.is at) can.rise
    ∙ sym (ap (λ (kind : UnitKind). Some (conts_branched k kind)) c.in-Later.is)) c.move_of_part.ensures
