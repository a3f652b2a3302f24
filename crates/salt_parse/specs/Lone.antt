-- Literals and names that stand alone.
use Rattle.salt_ast.specs.Symbols.{Symbols, int, key, name, sign, text}
use Rattle.salt_ast.specs.declared.keyword.Keyword.TheVariants as word
use Rattle.salt_ast.specs.declared.sign.Sign.TheVariants as mark
use Rattle.std.specs.Prelude.{Bool, [], false, true, ◌∷◌}

-- no operation and no test for NULL comes next
abbrev pub ends_operand : Symbols → Bool
ends_operand [] = true
ends_operand (sign mark.Comma ∷ ts) = true
ends_operand (sign mark.Close ∷ ts) = true
ends_operand (key word.Where ∷ ts) = true
ends_operand _ = false

-- a literal or a name, and the operand's end
abbrev pub is_lone : Symbols → Bool
is_lone (int n ∷ ts) = ends_operand ts
is_lone (text t ∷ ts) = ends_operand ts
is_lone (name n ∷ ts) = ends_operand ts
is_lone _ = false
