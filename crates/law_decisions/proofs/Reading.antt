-- What lines of bytes ask to define, texts spell.
use Rattle.salt_ast.specs.Grammar.{Within}
use Rattle.salt_ast.specs.Limits.{height_passed, name_passed, passed_in_list, table_limit}
use Rattle.salt_ast.specs.Lines.{IsLine, of_crash, of_go, of_go_all, of_net, of_program, of_session, of_show_bases, of_show_locks, of_table}
use Rattle.salt_ast.specs.ProgramLimits.{body_passed, line_limit, part_passed, program_exprs, program_limit, program_passed}
use Rattle.salt_ast.specs.declared.limit.LimitName.TheVariants as limit
use Rattle.salt_ast.specs.declared.limit.LimitName.{LimitName}
use Rattle.salt_ast.specs.declared.lines.Line.{Line}
use Rattle.salt_ast.specs.declared.programs.Body.TheVariants.{Acid, Base}
use Rattle.salt_ast.specs.declared.programs.Body.{Body}
use Rattle.salt_ast.specs.declared.programs.ProgramDef.{ProgramDef}
use Rattle.salt_ast.specs.declared.trees.TableDef.{TableDef}
use Rattle.salt_model.specs.Lines.{AskInOrder, Asks, has_other_byte, is_idle, is_line, is_long, is_no_line, passes}
use Rattle.salt_model.specs.Printable.{IsSpelledProgram}
use Rattle.salt_model.specs.Trace.{Asked}
use Rattle.salt_model.specs.Words.{Every}
use Rattle.salt_parse.specs.Settling.{DeepProgram, DeepTable, ShallowProgram, ShallowTable}
use Rattle.salt_program.specs.Refusals.{parts_in}
use Rattle.law_decisions.specs.Spelled.{IsSpelledAsked, IsSpelledLine}
use Rattle.salt_ast.specs.Pieces.{Lexes, Piece}
use Rattle.salt_ast.specs.Symbols.{Symbols, symbols_of}
use Rattle.salt_values.specs.declared.limits.TheConstants.{DEPTH_MOST, PARAMETERS_MOST, PARTS_MOST, VARIABLES_MOST}
use Rattle.std.proofs.Common.{arith, subst, suc, sym, zero}
use Rattle.std.specs.Option.{option_or}
use Rattle.std.specs.Prelude.{List, None, Option, Some, [], length, refl, ℕ, ◌<◌, ◌^◌, ◌∷◌, ◌≡◌, ◌≤◌}

module _ (tables : (ts : Symbols) (d : TableDef) → ShallowTable ts d → DeepTable ts d) (programs : (ts : Symbols) (p : ProgramDef) → ShallowProgram ts p → DeepProgram ts p) where
  line-spelled : (text : List ℕ) (tokens : List Piece) → Lexes text tokens → (ts : Symbols) (line : Line) → symbols_of tokens ≡ ts →
      IsLine (Within DEPTH_MOST) (Within DEPTH_MOST) ts line → line_limit line ≡ None → IsSpelledLine line
  unfolding line_limit table_limit program_limit
  line-spelled text tokens lexes ts _ same (of_table {d = d} t) limit = record {
    text = text;
    spells = record { tokens = tokens; lexes = lexes; spelled = subst (λ xs. DeepTable xs d) (sym same) (tables ts d t) };
    within = limit;
  }
  line-spelled text tokens lexes ts _ same (of_program {p = p} t) limit = record {
    text = text;
    spells = record { tokens = tokens; lexes = lexes; spelled = subst (λ xs. DeepProgram xs p) (sym same) (programs ts p t) };
    within = limit;
  }
  line-spelled text tokens lexes _ _ same (of_session a) limit = tt
  line-spelled text tokens lexes _ _ same of_go limit = tt
  line-spelled text tokens lexes _ _ same of_go_all limit = tt
  line-spelled text tokens lexes _ _ same of_show_locks limit = tt
  line-spelled text tokens lexes _ _ same of_show_bases limit = tt
  line-spelled text tokens lexes _ _ same (of_crash s) limit = tt
  line-spelled text tokens lexes _ _ same (of_net s) limit = tt

  pub asked-spelled : (text : List ℕ) (asked : Asked) → Asks text asked → IsSpelledAsked asked
  asked-spelled text _ (is_long h) = tt
  asked-spelled text _ (is_idle h g) = tt
  asked-spelled text _ (has_other_byte h g b) = tt
  asked-spelled text _ (is_no_line r n) = tt
  asked-spelled text _ (passes r s l) = tt
  asked-spelled text _ (is_line {line = line} r within) =
      let spells = within.parentheses in
      line-spelled text spells.tokens spells.lexes (symbols_of spells.tokens) line refl spells.spelled within.tree

  pub all-spelled : (texts : List (List ℕ)) (lines : List Asked) → AskInOrder texts lines → Every IsSpelledAsked lines
  all-spelled [] [] h = tt
  all-spelled (text ∷ texts) (line ∷ lines) h = (asked-spelled text line h.0, all-spelled texts lines h.1)
  all-spelled [] (line ∷ lines) h = absurd h
  all-spelled (text ∷ texts) [] h = absurd h

-- FEW PARTS

first-free : (a b : Option LimitName) → option_or a b ≡ None → a ≡ None
first-free None b h = refl
first-free (Some l) b h = cc

second-free : (a b : Option LimitName) → option_or a b ≡ None → b ≡ None
second-free None b h = h
second-free (Some l) b h = cc

few : {A : Type 0} (room : ℕ) (l : LimitName) (passed : A → Option LimitName) (xs : List A) → passed_in_list room l passed xs ≡ None → length xs ≤ room
few room l passed [] h = omega arith
few zero l passed (x ∷ xs) h = cc
few (suc room) l passed (x ∷ xs) h = let more = few room l passed xs (second-free (passed x) (passed_in_list room l passed xs) h) in omega (arith, more)

body-few : (b : Body) → body_passed b ≡ None → length (parts_in b) < 2 ^ 32
body-few (Acid block) h = omega arith
body-few (Base parts) h = let most = few PARTS_MOST limit.Parts part_passed parts h in omega (arith, most)

program-few : (p : ProgramDef) → program_passed p ≡ None → length (parts_in p.body) < 2 ^ 32
program-few p h =
    let vars = passed_in_list VARIABLES_MOST limit.Variables (λ f. name_passed f.name) p.vars in
    let params = passed_in_list PARAMETERS_MOST limit.Parameters (λ f. name_passed f.name) p.params in
    let rest = option_or vars (body_passed p.body) in
    body-few p.body (second-free vars (body_passed p.body) (second-free params rest (second-free (name_passed p.name) (option_or params rest) h)))

pub few-parts : (p : ProgramDef) → IsSpelledProgram p → length (parts_in p.body) < 2 ^ 32
unfolding program_limit
few-parts p spelled = program-few p (first-free (program_passed p) (height_passed (program_exprs p)) spelled.within)
