-- Canonical texts of programs and lines.
use Rattle.salt_ast.specs.Texts.{between_commas, field_text, preceded, statement_text, table_text, value_text}
use Rattle.salt_ast.specs.declared.lines.Act.{Act}
use Rattle.salt_ast.specs.declared.lines.Act.TheVariants as act
use Rattle.salt_ast.specs.declared.lines.Line.{Line}
use Rattle.salt_ast.specs.declared.lines.Line.TheVariants as line
use Rattle.salt_ast.specs.declared.programs.Body.{Body}
use Rattle.salt_ast.specs.declared.programs.Body.TheVariants as body
use Rattle.salt_ast.specs.declared.programs.Next.{Next}
use Rattle.salt_ast.specs.declared.programs.Next.TheVariants as next
use Rattle.salt_ast.specs.declared.programs.PartDef.{PartDef}
use Rattle.salt_ast.specs.declared.programs.ProgramDef.{ProgramDef}
use Rattle.salt_ast.specs.declared.trees.Field.{Field}
use Rattle.salt_ast.specs.declared.trees.Statement.{Statement}
use Rattle.salt_values.specs.declared.id.Id.{Id}
use Rattle.salt_values.specs.declared.value.Value.{Value}
use Rattle.std.specs.Fmt.{decimal}
use Rattle.std.specs.Prelude.{List, None, Option, Some, [], codes, ℕ, ◌++◌, ◌∷◌}
use Rattle.std.specs.Option.{option_map_or}

abbrev pub block_text : List Statement → List ℕ
block_text [] = codes "{ }"
block_text (st ∷ sts) = codes "{ " ++ (statement_text st ++ (preceded (codes "; ") statement_text sts ++ codes " }"))

abbrev pub next_text : Next → List ℕ
next_text (next.Part k) = codes "go " ++ decimal k
next_text next.End = codes "end"

-- where the program goes on behind a commit, if it is said
abbrev pub then_text : Option Next → List ℕ
then_text way = option_map_or (λ n. codes " then " ++ next_text n) way []

-- how often a part is tried again, if it is said
abbrev pub retry_text : Option ℕ → List ℕ
retry_text tries = option_map_or (λ n. codes "retry " ++ (decimal n ++ codes " then ")) tries []

-- where the program goes on behind a failure, if it is said
abbrev pub failure_text : Option ℕ → Option Next → List ℕ
failure_text retry None = []
failure_text retry (Some n) = codes " on failure " ++ (retry_text retry ++ next_text n)

abbrev pub program_part_text : PartDef → List ℕ
program_part_text p = codes "part " ++ (block_text p.block ++ (then_text p.then ++ failure_text p.retry p.on_failure))

abbrev pub body_text : Body → List ℕ
body_text (body.Acid block) = codes "acid " ++ block_text block
body_text (body.Base parts) = codes "base" ++ preceded (codes " ") program_part_text parts

-- the variables, if there are some
abbrev pub variables_text : List Field → List ℕ
variables_text [] = []
variables_text (f ∷ fs) = codes "var " ++ (field_text f ++ (preceded (codes ", ") field_text fs ++ codes " "))

abbrev pub program_text : ProgramDef → List ℕ
program_text p =
    codes "program " ++
    (p.name ++ (codes "(" ++ (between_commas field_text p.params ++ (codes ") " ++ (variables_text p.vars ++ (body_text p.body ++ codes " end"))))))

-- values in parentheses
abbrev pub row_text : List Value → List ℕ
row_text values = codes "(" ++ (between_commas value_text values ++ codes ")")

-- a program's name and arguments
abbrev pub call_text : List ℕ → List Value → List ℕ
call_text program args = program ++ row_text args

abbrev pub act_text : Act → List ℕ
act_text act.Begin = codes "begin"
act_text act.Commit = codes "commit"
act_text act.Rollback = codes "rollback"
act_text act.Step = codes "step"
act_text (act.Call program args) = codes "call " ++ call_text program args
act_text (act.Do st) = statement_text st

-- the two numbers in the name of a unit or a program
abbrev pub id_text : Id → List ℕ
id_text id = decimal id.boot ++ (codes "." ++ decimal id.seq)

-- a program's name, as refusals and events print it
abbrev pub base_text : Id → List ℕ
base_text base = codes "b" ++ id_text base

-- the call that stops, and what it leaves; or the turn of messages, and what happens there
abbrev pub stop_text : ℕ × ℕ → List ℕ
stop_text stop = decimal stop.0 ++ (codes " " ++ decimal stop.1)

abbrev pub line_text : Line → List ℕ
line_text line.Nothing = []
line_text (line.Table d) = table_text d
line_text (line.Program p) = program_text p
line_text (line.Session session a) = codes "@" ++ (decimal session ++ (codes " " ++ act_text a))
line_text (line.Go base) = codes "go " ++ id_text base
line_text line.GoAll = codes "go all"
line_text line.ShowLocks = codes "show locks"
line_text line.ShowBases = codes "show bases"
line_text (line.Crash pairs) = codes "crash" ++ preceded (codes " ") stop_text pairs
line_text (line.Net pairs) = codes "net" ++ preceded (codes " ") stop_text pairs
