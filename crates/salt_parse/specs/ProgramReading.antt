-- Reading programs from left to right, with what they pass.
use Rattle.salt_ast.specs.ProgramLimits.{number_passed, outside}
use Rattle.salt_ast.specs.declared.limit.LimitName.{LimitName}
use Rattle.salt_ast.specs.declared.limit.LimitName.TheVariants as limit
use Rattle.salt_ast.specs.declared.programs.Body.{Body}
use Rattle.salt_ast.specs.declared.programs.Body.TheVariants as body
use Rattle.salt_ast.specs.declared.programs.Next.{Next}
use Rattle.salt_ast.specs.declared.programs.Next.TheVariants as next
use Rattle.salt_ast.specs.declared.programs.PartDef.{PartDef}
use Rattle.salt_ast.specs.declared.programs.ProgramDef.{ProgramDef}
use Rattle.salt_ast.specs.declared.trees.Field.{Field}
use Rattle.salt_ast.specs.declared.trees.Statement.{Statement}
use Rattle.salt_parse.specs.Combining.{before_at, behind_at, both_at, choice_at, made_at, nothing_at}
use Rattle.salt_parse.specs.Flags.{BuiltTree, note}
use Rattle.salt_parse.specs.Lists.{comma, counted_at, listed_at}
use Rattle.salt_parse.specs.Reading.{Reader, after, within_at}
use Rattle.salt_parse.specs.StatementReading.{name_at, statement_at}
use Rattle.salt_parse.specs.TableReading.{field_at}
use Rattle.salt_ast.specs.Symbols.{int, key, sign}
use Rattle.salt_ast.specs.declared.keyword.Keyword.TheVariants as word
use Rattle.salt_ast.specs.declared.sign.Sign.TheVariants as mark
use Rattle.salt_values.specs.declared.limits.TheConstants.{PARAMETERS_MOST, PARTS_MOST, RETRY_MOST, STATEMENTS_MOST, VARIABLES_MOST}
use Rattle.std.specs.Prelude.{List, None, Option, Some, [], false, if◌then◌else◌, nat_lt, ℕ, ◌∷◌, ◌||◌}

-- names and types with commas between them, where there may be `most` in all
abbrev pub fields_within : ℕ → LimitName → Reader (List Field)
fields_within most l = listed_at comma (counted_at most l field_at)

-- what stands behind the parenthesis of the parameters, which closes it
abbrev pub parameters_at : Reader (List Field)
parameters_at = choice_at (sign mark.Close) (nothing_at []) (before_at (fields_within PARAMETERS_MOST limit.Parameters) (sign mark.Close))

abbrev pub variables_at : Reader (List Field)
variables_at = choice_at (key word.Var) (fields_within VARIABLES_MOST limit.Variables) (nothing_at [])

-- statements with semicolons between them
abbrev pub statements_at : Reader BuiltTree → Reader BuiltTree → Reader (List Statement)
statements_at inner deeper = listed_at (after (sign mark.Semicolon)) (counted_at STATEMENTS_MOST limit.Statements (statement_at inner deeper))

abbrev pub block_at : Reader BuiltTree → Reader BuiltTree → Reader (List Statement)
block_at inner deeper = behind_at (sign mark.OpenBrace) (before_at (statements_at inner deeper) (sign mark.CloseBrace))

-- the number of a part
abbrev pub number_at : Reader ℕ
number_at f (int k ∷ ts) = Some (k, note f (number_passed k) false, ts)
number_at f _ = None

abbrev pub way_at : Reader Next
way_at = choice_at (key word.End) (nothing_at next.End) (behind_at (key word.Go) (made_at next.Part number_at))

-- how often a part is tried again, where this is within the limit
abbrev pub kept_retry : ℕ → ℕ
kept_retry k = if nat_lt k 1 || nat_lt RETRY_MOST k then 0 else k

abbrev pub retry_at : Reader ℕ
retry_at f (int k ∷ ts) = Some (kept_retry k, note f (outside 1 RETRY_MOST limit.Retry k) false, ts)
retry_at f _ = None

-- where the program goes on behind a commit, if this is said
abbrev pub on_commit_at : Reader (Option Next)
on_commit_at = choice_at (key word.Then) (made_at Some way_at) (nothing_at None)

abbrev pub tried : ℕ × Next → Option ℕ × Option Next
tried x = (Some x.0, Some x.1)

abbrev pub untried : Next → Option ℕ × Option Next
untried n = (None, Some n)

-- what stands behind `on failure`
abbrev pub branch_at : Reader (Option ℕ × Option Next)
branch_at = choice_at (key word.Retry) (made_at tried (both_at (before_at retry_at (key word.Then)) way_at)) (made_at untried way_at)

-- where the program goes on behind a failure, if this is said, and how often the part is tried again before
abbrev pub on_failure_at : Reader (Option ℕ × Option Next)
on_failure_at = choice_at (key word.On) (behind_at (key word.Failure) branch_at) (nothing_at (None, None))

abbrev pub part_def : List Statement × (Option Next × (Option ℕ × Option Next)) → PartDef
part_def x = record { block = x.0; then = x.1.0; retry = x.1.1.0; on_failure = x.1.1.1 }

-- what stands behind `part`
abbrev pub part_at : Reader BuiltTree → Reader BuiltTree → Reader PartDef
part_at inner deeper = made_at part_def (both_at (block_at inner deeper) (both_at on_commit_at on_failure_at))

-- parts, each behind `part` but the first, whose `part` was taken
abbrev pub parts_at : Reader BuiltTree → Reader BuiltTree → Reader (List PartDef)
parts_at inner deeper = listed_at (after (key word.Part)) (counted_at PARTS_MOST limit.Parts (part_at inner deeper))

-- what stands behind `base`
abbrev pub base_at : Reader BuiltTree → Reader BuiltTree → Reader (List PartDef)
base_at inner deeper = behind_at (key word.Part) (parts_at inner deeper)

abbrev pub body_at : Reader BuiltTree → Reader BuiltTree → Reader Body
body_at inner deeper =
    choice_at (key word.Acid) (made_at body.Acid (block_at inner deeper)) (behind_at (key word.Base) (made_at body.Base (base_at inner deeper)))

abbrev pub program_def : List ℕ × (List Field × (List Field × Body)) → ProgramDef
program_def x = record { name = x.0; params = x.1.0; vars = x.1.1.0; body = x.1.1.1 }

-- what stands behind a program's name
abbrev pub rest_at : Reader BuiltTree → Reader BuiltTree → Reader (List Field × (List Field × Body))
rest_at inner deeper =
    behind_at (sign mark.Open) (both_at parameters_at (both_at variables_at (before_at (body_at inner deeper) (key word.End))))

unfoldable pub program_at : Reader BuiltTree → Reader BuiltTree → Reader ProgramDef
program_at inner deeper f ts = behind_at (key word.Program) (made_at program_def (both_at name_at (rest_at inner deeper))) f ts

-- a whole program, with room for so many parentheses in its expressions, and for so many in those of INSERT
abbrev pub program_within : ℕ → ℕ → Reader ProgramDef
program_within room inside = program_at (within_at room) (within_at inside)
