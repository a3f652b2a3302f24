-- How deep the levels of operations call one another where no parenthesis is opened.
use Rattle.std.proofs.Common.{ℕ}
use Rattle.salt_parse.specs.declared.expr.Level.{Level}
use Rattle.salt_parse.specs.declared.expr.Level.TheVariants as level

-- an atom has rank 1, a comparison 6, a negation 7
abbrev pub operand_rank : Level → ℕ
operand_rank level.Product = 2
operand_rank level.Sum = 4
operand_rank level.Conjunction = 8
operand_rank level.Disjunction = 10

abbrev pub level_rank : Level → ℕ
level_rank level.Product = 3
level_rank level.Sum = 5
level_rank level.Conjunction = 9
level_rank level.Disjunction = 11
