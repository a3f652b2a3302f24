-- Which rows of symbols spell which line of a script.
use Rattle.salt_ast.specs.Programs.{AnyListed, IsProgram, Several}
use Rattle.salt_ast.specs.Statements.{IsStatement}
use Rattle.salt_ast.specs.Tables.{IsTable}
use Rattle.salt_ast.specs.declared.lines.Act.{Act}
use Rattle.salt_ast.specs.declared.lines.Act.TheVariants as act
use Rattle.salt_ast.specs.declared.lines.Line.{Line}
use Rattle.salt_ast.specs.declared.lines.Line.TheVariants as line
use Rattle.salt_ast.specs.declared.programs.ProgramDef.{ProgramDef}
use Rattle.salt_ast.specs.declared.trees.Expr.{Expr}
use Rattle.salt_ast.specs.declared.trees.Statement.{Statement}
use Rattle.salt_ast.specs.declared.trees.TableDef.{TableDef}
use Rattle.salt_ast.specs.Symbols.{Symbols, int, key, name, sign, text}
use Rattle.salt_ast.specs.declared.keyword.Keyword.TheVariants as word
use Rattle.salt_ast.specs.declared.sign.Sign.TheVariants as mark
use Rattle.salt_values.specs.declared.value.Value.{Value}
use Rattle.salt_values.specs.declared.value.Value.TheVariants as value
use Rattle.std.specs.Prelude.{List, [], codes, neg_ℤ, pos, ℕ, ◌++◌, ◌∷◌}

-- a number, perhaps behind a minus sign, or a text
pub data IsLiteral : Symbols → Value → Type 0 where
  plus_int : {n : ℕ} → IsLiteral (int n ∷ []) (value.Int (pos n))
  minus_int : {n : ℕ} → IsLiteral (sign mark.Minus ∷ int n ∷ []) (value.Int (neg_ℤ (pos n)))
  literal : {t : List ℕ} → IsLiteral (text t ∷ []) (value.Text t)

-- what a session is to do
pub data IsAct (Inner Deeper : Symbols → Expr → Type 0) : Symbols → Act → Type 0 where
  begins : IsAct Inner Deeper (key word.Begin ∷ []) act.Begin
  commits : IsAct Inner Deeper (key word.Commit ∷ []) act.Commit
  rolls_back : IsAct Inner Deeper (key word.Rollback ∷ []) act.Rollback
  steps : IsAct Inner Deeper (key word.Step ∷ []) act.Step
  calls : {p : List ℕ} {ts : Symbols} {vs : List Value} → AnyListed IsLiteral ts vs →
      IsAct Inner Deeper (key word.Call ∷ name p ∷ sign mark.Open ∷ (ts ++ sign mark.Close ∷ [])) (act.Call p vs)
  does : {ts : Symbols} {st : Statement} → IsStatement Inner Deeper ts st → IsAct Inner Deeper ts (act.Do st)

-- the call that stops, and what it leaves; or the turn of messages, and what happens there
pub data IsStop : Symbols → ℕ × ℕ → Type 0 where
  is_stop : {n pick : ℕ} → IsStop (int n ∷ int pick ∷ []) (n, pick)

-- a line, where `Inner` stands in the parentheses of its expressions, and `Deeper` in those of expressions that stand in a parenthesis
-- of their own
pub data IsLine (Inner Deeper : Symbols → Expr → Type 0) : Symbols → Line → Type 0 where
  of_table : {ts : Symbols} {d : TableDef} → IsTable Deeper ts d → IsLine Inner Deeper ts (line.Table d)
  of_program : {ts : Symbols} {p : ProgramDef} → IsProgram Inner Deeper ts p → IsLine Inner Deeper ts (line.Program p)
  of_session : {s : ℕ} {ts : Symbols} {a : Act} → IsAct Inner Deeper ts a → IsLine Inner Deeper (sign mark.At ∷ int s ∷ ts) (line.Session s a)
  of_go : {boot seq : ℕ} →
      IsLine Inner Deeper (key word.Go ∷ int boot ∷ sign mark.Dot ∷ int seq ∷ []) (line.Go (record { boot = boot; seq = seq }))
  of_go_all : IsLine Inner Deeper (key word.Go ∷ key word.All ∷ []) line.GoAll
  of_show_locks : IsLine Inner Deeper (key word.Show ∷ key word.Locks ∷ []) line.ShowLocks
  of_show_bases : IsLine Inner Deeper (key word.Show ∷ key word.Bases ∷ []) line.ShowBases
  of_crash : {ts : Symbols} {stops : List (ℕ × ℕ)} → Several IsStop ts stops → IsLine Inner Deeper (key word.Crash ∷ ts) (line.Crash stops)
  of_net : {ts : Symbols} {pairs : List (ℕ × ℕ)} → Several IsStop ts pairs → IsLine Inner Deeper (name (codes "net") ∷ ts) (line.Net pairs)
