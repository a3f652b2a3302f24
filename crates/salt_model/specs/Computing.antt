-- What a proof by computation opens: `unfolding computing`.
use Rattle.salt_ast.specs.Judgement.{statement_fault, table_fault}
use Rattle.salt_ast.specs.ProgramJudgement.{call_fault, line_fault, program_fault}
use Rattle.salt_model.specs.Statements.{outcome_of}
use Rattle.salt_model.specs.Reaches.{reach}
use Rattle.salt_model.specs.Tables.{with_changes}
use Rattle.std.specs.Fmt.{digits}
use Rattle.std.specs.Prelude.{ℕ}

unfoldable pub computing : ℕ
unfolding digits reach outcome_of with_changes statement_fault table_fault program_fault call_fault line_fault
computing = 0
