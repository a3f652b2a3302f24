use Rattle.salt_found.proofs.Following.{made_next}
use Rattle.salt_found.proofs.moves.follow.Goals as goal
use Rattle.salt_stands.specs.OpenConts.{make_move}
use Rattle.std.proofs.Common.{ap, is_some, sym, ◌∙◌}

pub returns : goal.returns
returns c rises =
    made_next c.args.catalogue.now c.args.kept.now c.args.mv.now c.args.conts.now c.in-Some.made (sym c.in_ok-made.ensures ∙ c.in-Some.is) c.apply_move.new.conts
    (sym c.fits_move.ensures ∙ c.if-not-fits_move.false) (ap (λ cs. is_some (make_move cs c.in-Some.made)) (sym c.as_slice.ensures) ∙ sym c.may_move.ensures ∙ c.if-not-may_move.false)
    rises (c.in_ok-apply_move.ensures rises)
