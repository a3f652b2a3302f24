-- How keywords and signs are written.
use Rattle.std.specs.Prelude.{ℕ, Bool, true, false, ◌&&◌, ◌==◌, List, [], ◌∷◌, map, find, codes, Option}
use Rattle.salt_ast.specs.declared.keyword.Keyword.{Keyword}
use Rattle.salt_ast.specs.declared.keyword.Keyword.TheVariants as word
use Rattle.salt_ast.specs.declared.sign.Sign.{Sign}
use Rattle.salt_ast.specs.declared.sign.Sign.TheVariants as mark
use Rattle.salt_ast.specs.Bytes.{lower}

-- a keyword in small letters
abbrev pub keyword_spelling : Keyword → List ℕ
keyword_spelling word.Create = codes "create"
keyword_spelling word.Table = codes "table"
keyword_spelling word.Int = codes "int"
keyword_spelling word.Text = codes "text"
keyword_spelling word.Key = codes "key"
keyword_spelling word.Check = codes "check"
keyword_spelling word.Insert = codes "insert"
keyword_spelling word.Into = codes "into"
keyword_spelling word.Values = codes "values"
keyword_spelling word.Select = codes "select"
keyword_spelling word.From = codes "from"
keyword_spelling word.Where = codes "where"
keyword_spelling word.And = codes "and"
keyword_spelling word.Or = codes "or"
keyword_spelling word.Not = codes "not"
keyword_spelling word.Between = codes "between"
keyword_spelling word.Update = codes "update"
keyword_spelling word.Set = codes "set"
keyword_spelling word.Delete = codes "delete"
keyword_spelling word.Ensure = codes "ensure"
keyword_spelling word.Count = codes "count"
keyword_spelling word.Sum = codes "sum"
keyword_spelling word.Min = codes "min"
keyword_spelling word.Max = codes "max"
keyword_spelling word.Program = codes "program"
keyword_spelling word.Var = codes "var"
keyword_spelling word.Acid = codes "acid"
keyword_spelling word.Base = codes "base"
keyword_spelling word.Part = codes "part"
keyword_spelling word.Then = codes "then"
keyword_spelling word.On = codes "on"
keyword_spelling word.Failure = codes "failure"
keyword_spelling word.Go = codes "go"
keyword_spelling word.End = codes "end"
keyword_spelling word.Begin = codes "begin"
keyword_spelling word.Commit = codes "commit"
keyword_spelling word.Rollback = codes "rollback"
keyword_spelling word.Step = codes "step"
keyword_spelling word.Call = codes "call"
keyword_spelling word.Show = codes "show"
keyword_spelling word.Locks = codes "locks"
keyword_spelling word.Bases = codes "bases"
keyword_spelling word.Crash = codes "crash"
keyword_spelling word.All = codes "all"
keyword_spelling word.Null = codes "null"
keyword_spelling word.Is = codes "is"
keyword_spelling word.Retry = codes "retry"

abbrev pub sign_spelling : Sign → List ℕ
sign_spelling mark.Open = codes "("
sign_spelling mark.Close = codes ")"
sign_spelling mark.OpenBrace = codes "{"
sign_spelling mark.CloseBrace = codes "}"
sign_spelling mark.Comma = codes ","
sign_spelling mark.Semicolon = codes ";"
sign_spelling mark.Colon = codes ":"
sign_spelling mark.At = codes "@"
sign_spelling mark.Dot = codes "."
sign_spelling mark.Star = codes "*"
sign_spelling mark.Plus = codes "+"
sign_spelling mark.Minus = codes "-"
sign_spelling mark.Bars = codes "||"
sign_spelling mark.Equal = codes "="
sign_spelling mark.Unequal = codes "<>"
sign_spelling mark.Less = codes "<"
sign_spelling mark.AtMost = codes "<="
sign_spelling mark.Greater = codes ">"
sign_spelling mark.AtLeast = codes ">="

abbrev pub all_keywords : List Keyword
all_keywords =
    word.Create ∷ word.Table ∷ word.Int ∷ word.Text ∷ word.Key ∷ word.Check ∷ word.Insert ∷ word.Into ∷ word.Values ∷ word.Select ∷ word.From ∷ word.Where
    ∷ word.And ∷ word.Or ∷ word.Not ∷ word.Between ∷ word.Update ∷ word.Set ∷ word.Delete ∷ word.Ensure ∷ word.Count ∷ word.Sum ∷ word.Min ∷ word.Max
    ∷ word.Program ∷ word.Var ∷ word.Acid ∷ word.Base ∷ word.Part ∷ word.Then ∷ word.On ∷ word.Failure ∷ word.Go ∷ word.End ∷ word.Begin ∷ word.Commit
    ∷ word.Rollback ∷ word.Step ∷ word.Call ∷ word.Show ∷ word.Locks ∷ word.Bases ∷ word.Crash ∷ word.All ∷ word.Null ∷ word.Is ∷ word.Retry ∷ []

abbrev pub all_signs : List Sign
all_signs =
    mark.Open ∷ mark.Close ∷ mark.OpenBrace ∷ mark.CloseBrace ∷ mark.Comma ∷ mark.Semicolon ∷ mark.Colon ∷ mark.At ∷ mark.Dot ∷ mark.Star ∷ mark.Plus
    ∷ mark.Minus ∷ mark.Bars ∷ mark.Equal ∷ mark.Unequal ∷ mark.Less ∷ mark.AtMost ∷ mark.Greater ∷ mark.AtLeast ∷ []

-- whether two rows of bytes are one
abbrev pub same_bytes : List ℕ → List ℕ → Bool
same_bytes [] [] = true
same_bytes [] (y ∷ ys) = false
same_bytes (x ∷ xs) [] = false
same_bytes (x ∷ xs) (y ∷ ys) = (x == y) && same_bytes xs ys

-- the first of these keywords that is spelled with these small letters
abbrev pub among : List Keyword → List ℕ → Option Keyword
among keywords small = find (λ k. same_bytes small (keyword_spelling k)) keywords

-- the keyword that a word is, in capital or small letters
unfoldable pub keyword_of : List ℕ → Option Keyword
keyword_of bs = find (λ k. same_bytes (map lower bs) (keyword_spelling k)) all_keywords

-- the sign that these bytes are
unfoldable pub sign_of : List ℕ → Option Sign
sign_of bs = find (λ s. same_bytes bs (sign_spelling s)) all_signs
