-- Operations, and the symbols that stand for them.
use Rattle.salt_ast.specs.declared.trees.Op.{Op}
use Rattle.salt_ast.specs.declared.trees.Op.TheVariants as op
use Rattle.salt_ast.specs.Symbols.{Symbol, key, sign}
use Rattle.salt_ast.specs.declared.keyword.Keyword.TheVariants as word
use Rattle.salt_ast.specs.declared.sign.Sign.TheVariants as mark
use Rattle.std.specs.Prelude.{List, None, Option, Some, codes, ℕ}

-- the operation that a symbol stands for between two operands
abbrev pub operator : Symbol → Option Op
operator (key word.Or) = Some op.Or
operator (key word.And) = Some op.And
operator (sign mark.Equal) = Some op.Equal
operator (sign mark.Unequal) = Some op.Unequal
operator (sign mark.Less) = Some op.Less
operator (sign mark.AtMost) = Some op.AtMost
operator (sign mark.Greater) = Some op.Greater
operator (sign mark.AtLeast) = Some op.AtLeast
operator (sign mark.Plus) = Some op.Add
operator (sign mark.Minus) = Some op.Sub
operator (sign mark.Bars) = Some op.Join
operator (sign mark.Star) = Some op.Mul
operator _ = None

abbrev pub op_text : Op → List ℕ
op_text op.Or = codes "or"
op_text op.And = codes "and"
op_text op.Equal = codes "="
op_text op.Unequal = codes "<>"
op_text op.Less = codes "<"
op_text op.AtMost = codes "<="
op_text op.Greater = codes ">"
op_text op.AtLeast = codes ">="
op_text op.Add = codes "+"
op_text op.Sub = codes "-"
op_text op.Join = codes "||"
op_text op.Mul = codes "*"

-- how tightly an operation binds: a comparison by 3
abbrev pub precedence : Op → ℕ
precedence op.Or = 1
precedence op.And = 2
precedence op.Add = 4
precedence op.Sub = 4
precedence op.Join = 4
precedence op.Mul = 5
precedence _ = 3
