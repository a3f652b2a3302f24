-- Limits of programs and lines, and the first that a tree's text passes.
use Rattle.salt_values.specs.declared.limits.TheConstants.{CRASH_MOST, PAIRS_MOST, PARAMETERS_MOST, PARTS_MOST}
use Rattle.salt_values.specs.declared.limits.TheConstants.{PICK_MOST, RETRY_MOST, SESSION_MOST, STATEMENTS_MOST, TURN_MOST, TWIST_MOST, VARIABLES_MOST}
use Rattle.salt_ast.specs.Limits.{above, height_passed, name_passed, passed_in_list, statement_passed, table_passed, value_passed}
use Rattle.salt_ast.specs.Paths.{body_statements}
use Rattle.salt_ast.specs.Trees.{statement_exprs}
use Rattle.salt_ast.specs.Words.{first_in}
use Rattle.std.specs.Bool.{then_some}
use Rattle.std.specs.Option.{option_or}
use Rattle.salt_ast.specs.declared.limit.LimitName.{LimitName}
use Rattle.salt_ast.specs.declared.limit.LimitName.TheVariants as limit
use Rattle.salt_ast.specs.declared.lines.Act.{Act}
use Rattle.salt_ast.specs.declared.lines.Act.TheVariants as act
use Rattle.salt_ast.specs.declared.lines.Line.{Line}
use Rattle.salt_ast.specs.declared.lines.Line.TheVariants as line
use Rattle.salt_ast.specs.declared.programs.Body.{Body}
use Rattle.salt_ast.specs.declared.programs.Body.TheVariants as body
use Rattle.salt_ast.specs.declared.programs.Next.{Next}
use Rattle.salt_ast.specs.declared.programs.Next.TheVariants as next
use Rattle.salt_ast.specs.declared.programs.PartDef.{PartDef}
use Rattle.salt_ast.specs.declared.programs.ProgramDef.{ProgramDef}
use Rattle.salt_ast.specs.declared.trees.Expr.{Expr}
use Rattle.std.specs.Prelude.{List, None, Option, [], flat_map, nat_lt, ℕ, ◌-◌, ◌^◌, ◌||◌, option_and_then}

-- the limit that a number below `least` or above `most` passes
abbrev pub outside : (least most : ℕ) → LimitName → ℕ → Option LimitName
outside least most l n = then_some (nat_lt n least || nat_lt most n) l

-- a number that has no limit of its own
abbrev pub number_passed : ℕ → Option LimitName
number_passed n = above (2 ^ 63 - 1) limit.Number n

-- The first limit that is passed in the order of the text, but for the depth.

abbrev pub next_passed : Next → Option LimitName
next_passed (next.Part k) = number_passed k
next_passed next.End = None

abbrev pub part_passed : PartDef → Option LimitName
part_passed p =
    option_or (passed_in_list STATEMENTS_MOST limit.Statements statement_passed p.block)
    (option_or (option_and_then next_passed p.then)
    (option_or (option_and_then (outside 1 RETRY_MOST limit.Retry) p.retry) (option_and_then next_passed p.on_failure)))

abbrev pub body_passed : Body → Option LimitName
body_passed (body.Acid block) = passed_in_list STATEMENTS_MOST limit.Statements statement_passed block
body_passed (body.Base parts) = passed_in_list PARTS_MOST limit.Parts part_passed parts

abbrev pub program_passed : ProgramDef → Option LimitName
program_passed p =
    option_or (name_passed p.name)
    (option_or (passed_in_list PARAMETERS_MOST limit.Parameters (λ f. name_passed f.name) p.params)
    (option_or (passed_in_list VARIABLES_MOST limit.Variables (λ f. name_passed f.name) p.vars) (body_passed p.body)))

abbrev pub act_passed : Act → Option LimitName
act_passed (act.Call program args) = option_or (name_passed program) (first_in value_passed args)
act_passed (act.Do st) = statement_passed st
act_passed _ = None

-- the call that stops, and what it leaves
abbrev pub stop_passed : ℕ × ℕ → Option LimitName
stop_passed stop = option_or (outside 1 CRASH_MOST limit.Crash stop.0) (above PICK_MOST limit.Pick stop.1)

-- the turn at which something befalls a message, and what
abbrev pub twist_passed : ℕ × ℕ → Option LimitName
twist_passed twist = option_or (outside 1 TURN_MOST limit.Net twist.0) (above TWIST_MOST limit.Act twist.1)

abbrev pub line_passed : Line → Option LimitName
line_passed (line.Table d) = table_passed d
line_passed (line.Program p) = program_passed p
line_passed (line.Session session a) = option_or (outside 1 SESSION_MOST limit.Session session) (act_passed a)
line_passed (line.Go base) = option_or (number_passed base.boot) (number_passed base.seq)
line_passed (line.Crash stops) = passed_in_list PAIRS_MOST limit.Pairs stop_passed stops
line_passed (line.Net twists) = passed_in_list PAIRS_MOST limit.Pairs twist_passed twists
line_passed _ = None

-- The depth, which comes after all other limits of a text.

-- the expressions of a program, in the order of its text
abbrev pub program_exprs : ProgramDef → List Expr
program_exprs p = flat_map statement_exprs (body_statements p.body)

abbrev pub act_exprs : Act → List Expr
act_exprs (act.Do st) = statement_exprs st
act_exprs _ = []

abbrev pub line_exprs : Line → List Expr
line_exprs (line.Table d) = d.checks
line_exprs (line.Program p) = program_exprs p
line_exprs (line.Session session a) = act_exprs a
line_exprs _ = []

-- the first limit that a program passes by its tree
unfoldable pub program_limit : ProgramDef → Option LimitName
program_limit p = option_or (program_passed p) (height_passed (program_exprs p))

-- the first limit that a line passes by its tree
unfoldable pub line_limit : Line → Option LimitName
line_limit l = option_or (line_passed l) (height_passed (line_exprs l))
