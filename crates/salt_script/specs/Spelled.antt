-- Which rows spell which act and which line, and the first limit that an act passes.
use Rattle.salt_ast.specs.Grammar.{Within}
use Rattle.salt_ast.specs.Limits.{height_passed, name_passed, value_passed}
use Rattle.salt_ast.specs.Lines.{IsAct, IsLine}
use Rattle.salt_ast.specs.ProgramLimits.{act_exprs, act_passed}
use Rattle.salt_ast.specs.Words.{first_in}
use Rattle.salt_ast.specs.declared.limit.LimitName.{LimitName}
use Rattle.salt_ast.specs.declared.lines.Act.{Act}
use Rattle.salt_ast.specs.declared.lines.Line.{Line}
use Rattle.salt_ast.specs.declared.lines.Line.TheVariants.{Crash, Net}
use Rattle.salt_script.specs.Literals.{args_at}
use Rattle.salt_script.specs.declared.pairs.Armed.{Armed}
use Rattle.salt_script.specs.declared.pairs.Armed.TheVariants.{Stops, Twists}
use Rattle.salt_ast.specs.Symbols.{Symbols, name, sign}
use Rattle.salt_ast.specs.declared.sign.Sign.TheVariants as mark
use Rattle.salt_values.specs.declared.limits.TheConstants.{DEPTH_MOST, PARENTHESES_MOST}
use Rattle.salt_values.specs.declared.value.Value.{Value}
use Rattle.std.specs.Option.{option_or}
use Rattle.std.specs.Prelude.{List, None, Option, option_map, ℕ, ◌-◌, ◌∷◌}

abbrev pub ShallowAct : Symbols → Act → Type 0
ShallowAct = IsAct (Within DEPTH_MOST) (Within DEPTH_MOST)

abbrev pub DeepAct : Symbols → Act → Type 0
DeepAct = IsAct (Within PARENTHESES_MOST) (Within (PARENTHESES_MOST - 1))

abbrev pub ShallowLine : Symbols → Line → Type 0
ShallowLine = IsLine (Within DEPTH_MOST) (Within DEPTH_MOST)

abbrev pub DeepLine : Symbols → Line → Type 0
DeepLine = IsLine (Within PARENTHESES_MOST) (Within (PARENTHESES_MOST - 1))

-- the first limit that an act passes by its tree
abbrev pub act_limit : Act → Option LimitName
act_limit a = option_or (act_passed a) (height_passed (act_exprs a))

-- what stands behind `call`: a program's name and its arguments
abbrev pub call_at : Symbols → Option (List ℕ × List Value)
call_at (name p ∷ sign mark.Open ∷ ts) = option_map (λ vs. (p, vs)) (args_at ts)
call_at _ = None

abbrev pub call_passed : List ℕ × List Value → Option LimitName
call_passed call = option_or (name_passed call.0) (first_in value_passed call.1)

-- the line that arms these pairs
abbrev pub line_arming : Armed → List (ℕ × ℕ) → Line
line_arming Stops pairs = Crash pairs
line_arming Twists pairs = Net pairs
