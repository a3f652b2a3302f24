-- Which rows of symbols spell which program.
use Rattle.salt_ast.specs.Statements.{IsStatement, Listed, ListedBy}
use Rattle.salt_ast.specs.Tables.{IsField}
use Rattle.salt_ast.specs.declared.programs.Body.{Body}
use Rattle.salt_ast.specs.declared.programs.Body.TheVariants as body
use Rattle.salt_ast.specs.declared.programs.Next.{Next}
use Rattle.salt_ast.specs.declared.programs.Next.TheVariants as next
use Rattle.salt_ast.specs.declared.programs.PartDef.{PartDef}
use Rattle.salt_ast.specs.declared.programs.ProgramDef.{ProgramDef}
use Rattle.salt_ast.specs.declared.trees.Expr.{Expr}
use Rattle.salt_ast.specs.declared.trees.Field.{Field}
use Rattle.salt_ast.specs.declared.trees.Statement.{Statement}
use Rattle.salt_ast.specs.Symbols.{Symbols, int, key, name, sign}
use Rattle.salt_ast.specs.declared.keyword.Keyword.TheVariants as word
use Rattle.salt_ast.specs.declared.sign.Sign.TheVariants as mark
use Rattle.std.specs.Prelude.{List, None, Option, Some, [], ℕ, ◌++◌, ◌∷◌}

-- [Item {"," Item}]
pub data AnyListed {A : Type 0} (Item : Symbols → A → Type 0) : Symbols → List A → Type 0 where
  no_items : AnyListed Item [] []
  some_items : {ts : Symbols} {xs : List A} → Listed Item ts xs → AnyListed Item ts xs

-- Item {Item}
pub data Several {A : Type 0} (Item : Symbols → A → Type 0) : Symbols → List A → Type 0 where
  last_one : {ts : Symbols} {x : A} → Item ts x → Several Item ts (x ∷ [])
  and_more : {a b : Symbols} {x : A} {xs : List A} → Item a x → Several Item b xs → Several Item (a ++ b) (x ∷ xs)

-- "{" statement {";" statement} "}"
pub data IsBlock (Inner Deeper : Symbols → Expr → Type 0) : Symbols → List Statement → Type 0 where
  is_block : {ts : Symbols} {sts : List Statement} → ListedBy mark.Semicolon (IsStatement Inner Deeper) ts sts →
      IsBlock Inner Deeper (sign mark.OpenBrace ∷ (ts ++ sign mark.CloseBrace ∷ [])) sts

-- "go" INT | "end"
pub data IsWay : Symbols → Next → Type 0 where
  to_part : {k : ℕ} → IsWay (key word.Go ∷ int k ∷ []) (next.Part k)
  to_end : IsWay (key word.End ∷ []) next.End

-- ["then" way]
pub data IsThen : Symbols → Option Next → Type 0 where
  no_then : IsThen [] None
  then_way : {ts : Symbols} {n : Next} → IsWay ts n → IsThen (key word.Then ∷ ts) (Some n)

-- ["on" "failure" ["retry" INT "then"] way], with the number
pub data IsOnFailure : Symbols → Option ℕ × Option Next → Type 0 where
  no_branch : IsOnFailure [] (None, None)
  branch : {ts : Symbols} {n : Next} → IsWay ts n → IsOnFailure (key word.On ∷ key word.Failure ∷ ts) (None, Some n)
  retried : {k : ℕ} {ts : Symbols} {n : Next} → IsWay ts n →
      IsOnFailure (key word.On ∷ key word.Failure ∷ key word.Retry ∷ int k ∷ key word.Then ∷ ts) (Some k, Some n)

-- "part" block, and where the program goes on behind it
pub data IsPart (Inner Deeper : Symbols → Expr → Type 0) : Symbols → PartDef → Type 0 where
  is_part : {a b c : Symbols} {sts : List Statement} {commit failure : Option Next} {tries : Option ℕ} →
      IsBlock Inner Deeper a sts → IsThen b commit → IsOnFailure c (tries, failure) →
      IsPart Inner Deeper (key word.Part ∷ (a ++ (b ++ c)))
      (record { block = sts; then = commit; retry = tries; on_failure = failure })

-- "acid" block | "base" part {part}
pub data IsBody (Inner Deeper : Symbols → Expr → Type 0) : Symbols → Body → Type 0 where
  is_acid : {ts : Symbols} {sts : List Statement} → IsBlock Inner Deeper ts sts → IsBody Inner Deeper (key word.Acid ∷ ts) (body.Acid sts)
  is_base : {ts : Symbols} {parts : List PartDef} → Several (IsPart Inner Deeper) ts parts →
      IsBody Inner Deeper (key word.Base ∷ ts) (body.Base parts)

-- ["var" NAME type {"," NAME type}]
pub data AreVariables : Symbols → List Field → Type 0 where
  no_variables : AreVariables [] []
  variables : {ts : Symbols} {fs : List Field} → Listed IsField ts fs → AreVariables (key word.Var ∷ ts) fs

-- a program, where `Inner` stands in the parentheses of its expressions, and `Deeper` in those of expressions that stand in a
-- parenthesis of a statement
pub data IsProgram (Inner Deeper : Symbols → Expr → Type 0) : Symbols → ProgramDef → Type 0 where
  is_program : {p : List ℕ} {a b c : Symbols} {fs vs : List Field} {does : Body} →
      AnyListed IsField a fs → AreVariables b vs → IsBody Inner Deeper c does →
      IsProgram Inner Deeper
      (key word.Program ∷ name p ∷ sign mark.Open ∷ (a ++ sign mark.Close ∷ (b ++ (c ++ key word.End ∷ []))))
      (record { name = p; params = fs; vars = vs; body = does })
