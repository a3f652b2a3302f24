use Rattle.salt_judge.proofs.Searching.{no_program, of_program}
use Rattle.salt_judge.proofs.salted.unsalted_of.Goals as goal
use Rattle.std.proofs.Common.{sym, ◌∙◌}

pub returns-then-is_some-clause-units : goal.returns-then-is_some-clause-units
returns-then-is_some-clause-units c = λ linked settled.
    c.new-ids.ensures ∙ of_program c.args.ledger.now c.args.reads.now c.args.unit c.program_in.result (sym c.program_in.ensures) (sym c.is_some.ensures ∙ c.if-is_some.true)

pub unsettled_from-requires : goal.unsettled_from-requires
unsettled_from-requires c = sym c.program_in.ensures ∙ no_program c.program_in.result (sym c.is_some.ensures ∙ c.if-is_some.false)
