use Rattle.salt_books.proofs.moves.move_of_commit.Goals as goal
use Rattle.salt_books.specs.Moves.{CanMove, IsAtPart}
use Rattle.salt_model.specs.Kept.{conts_committed}
use Rattle.salt_model.specs.declared.events.UnitKind.{UnitKind}
use Rattle.std.proofs.Common.{Some, ap, subst, sym, ◌∙◌}
use Rattle.std.proofs.lemmas.Result.{IfOk-weaker}

pub returns-in-First : goal.returns-in-First
returns-in-First c = IfOk-weaker c.move_of_first.result _ _ (λ made f k cat same number at can.
    f k c.in-First.session cat number (subst (CanMove k) c.in-First.is can)
    ∙ sym (ap (λ (kind : UnitKind). Some (conts_committed k c.args.number kind c.args.vars.now)) c.in-First.is)) c.move_of_first.ensures

pub returns-in-Later : goal.returns-in-Later
returns-in-Later c = IfOk-weaker c.move_of_part.result _ _ (λ made f k cat same number at can.
    f k c.args.number c.in-Later.part cat same (subst (IsAtPart k) c.in-Later.is at) can.rise
    ∙ sym (ap (λ (kind : UnitKind). Some (conts_committed k c.args.number kind c.args.vars.now)) c.in-Later.is)) c.move_of_part.ensures
