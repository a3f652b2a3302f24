-- Reading expressions from left to right, with what they pass.
use denote.Enum.Bare.{sameb}
use Rattle.salt_ast.specs.Limits.{name_passed}
use Rattle.salt_ast.specs.Operators.{operator, precedence}
use Rattle.salt_ast.specs.Trees.{negation, null_test}
use Rattle.std.specs.Bool.{then_some}
use Rattle.salt_ast.specs.declared.limit.LimitName.TheVariants as limit
use Rattle.salt_ast.specs.declared.trees.Expr.{Column, Variable}
use Rattle.salt_ast.specs.declared.trees.Op.{Op}
use Rattle.salt_ast.specs.Limits.{above}
use Rattle.salt_parse.specs.Flags.{BuiltTree, Flags, around_flags, around_tree, int_tree, join_flags, join_tree, kept, kept_name, leaf, note, signed, text_tree}
use Rattle.salt_parse.specs.declared.expr.Level.{Level}
use Rattle.salt_parse.specs.declared.expr.Level.TheVariants as level
use Rattle.salt_ast.specs.Scanning.{◌>>=◌}
use Rattle.salt_ast.specs.Symbols.{Symbols, Symbol, int, key, name, sign, text}
use Rattle.salt_ast.specs.contracts.keyword.Keyword.{the_type as keywords}
use Rattle.salt_ast.specs.contracts.sign.Sign.{the_type as signs}
use Rattle.salt_ast.specs.declared.keyword.Keyword.TheVariants as word
use Rattle.salt_ast.specs.declared.sign.Sign.TheVariants as mark
use Rattle.salt_values.specs.declared.limits.TheConstants.{TEXT_MOST}
use Rattle.std.specs.Prelude.{Bool, List, None, Option, Some, [], false, if◌then◌else◌, is_none, length, suc, true, zero, ℕ, ℤ, ◌==◌, ◌∷◌}

-- what was read, the flags after it and the symbols that are left
abbrev pub Read : Type 0 → Type 0
Read X = X × Flags × Symbols

abbrev pub Reader : Type 0 → Type 0
Reader X = Flags → Symbols → Option (Read X)

-- two keywords or two signs that are one
abbrev pub is_same : Symbol → Symbol → Bool
is_same (key a) (key b) = sameb keywords a b
is_same (sign a) (sign b) = sameb signs a b
is_same _ _ = false

-- what stands behind this keyword or sign
unfoldable pub after : Symbol → Symbols → Option Symbols
after t [] = None
after t (u ∷ us) = if is_same u t then Some us else None

-- one way where something comes next, another where it does not
abbrev pub either : {A : Type 0} → Option Symbols → A → (Symbols → A) → A
either None without behind = without
either (Some ts) without behind = behind ts

-- the operation of this precedence
abbrev pub of_level : ℕ → Option Op → Option Op
of_level level None = None
of_level level (Some o) = if precedence o == level then Some o else None

-- what follows an operation, or its absence
abbrev pub at_operator : {A : Type 0} → Option Op → A → (Op → A) → A
at_operator None a f = a
at_operator (Some o) a f = f o

-- the operation of this precedence that comes next, and what follows it
abbrev pub next_operator : ℕ → Symbols → Option Op × Symbols
next_operator level [] = (None, [])
next_operator level (t ∷ ts) = at_operator (of_level level (operator t)) (None, t ∷ ts) (λ o. (Some o, ts))

-- operations and operands behind a first one, with room for so many symbols
unfoldable pub tail_at : ℕ → Reader BuiltTree → ℕ → BuiltTree → Reader BuiltTree
tail_at level operand zero l f ts = None
tail_at level operand (suc n) l f [] = Some (l, f, [])
tail_at level operand (suc n) l f (t ∷ ts) =
    at_operator (of_level level (operator t)) (Some (l, f, t ∷ ts)) (λ o. operand f ts >>= λ x.
    tail_at level operand n (join_tree o l x.0 x.1) (join_flags l x.0 x.1) x.2)

unfoldable pub left_at : ℕ → Reader BuiltTree → Reader BuiltTree
left_at level operand f ts = operand f ts >>= λ x. tail_at level operand (suc (length x.2)) x.0 x.1 x.2

-- the test of an operand for NULL, or for none
abbrev pub tested : Bool → BuiltTree → Reader BuiltTree
tested negated l f ts = after (key word.Null) ts >>= λ us. Some (around_tree (null_test negated) l f, around_flags l f, us)

-- what stands behind `is`
abbrev pub is_at : BuiltTree → Reader BuiltTree
is_at l f ts = either (after (key word.Not) ts) (tested false l f ts) (tested true l f)

-- a test for NULL behind an operand, or the operand alone
abbrev pub null_test_at : BuiltTree → Reader BuiltTree
null_test_at l f ts = either (after (key word.Is) ts) (Some (l, f, ts)) (is_at l f)

abbrev pub second_at : ℕ → Reader BuiltTree → BuiltTree → Reader BuiltTree
second_at level operand l f [] = Some (l, f, [])
second_at level operand l f (t ∷ ts) =
    at_operator (of_level level (operator t)) (null_test_at l f (t ∷ ts)) (λ o. operand f ts >>= λ x.
    Some (join_tree o l x.0 x.1, join_flags l x.0 x.1, x.2))

unfoldable pub once_at : ℕ → Reader BuiltTree → Reader BuiltTree
once_at level operand f ts = operand f ts >>= λ x. second_at level operand x.0 x.1 x.2

abbrev pub negate : Read BuiltTree → Read BuiltTree
negate x = (around_tree negation x.0 x.1, around_flags x.0 x.1, x.2)

-- as many `not`s around what was built
abbrev pub negations : ℕ → Read BuiltTree → Read BuiltTree
negations zero x = x
negations (suc n) x = negations n (negate x)

abbrev pub under_nots : ℕ → Option (Read BuiltTree) → Option (Read BuiltTree)
under_nots n read = read >>= λ x. Some (negations n x)

unfoldable pub nots_at : Reader BuiltTree → Reader BuiltTree
nots_at operand f [] = operand f []
nots_at operand f (key word.Not ∷ ts) = nots_at operand f ts >>= λ x. Some (negate x)
nots_at operand f (t ∷ ts) = operand f (t ∷ ts)

-- a number, where it has 64 bits
abbrev pub int_at : Option ℤ → Reader BuiltTree
int_at z f ts = Some (leaf (int_tree z), note f (then_some (is_none z) limit.Number) false, ts)

abbrev pub text_flags : List ℕ → Flags → Flags
text_flags t f = note f (above TEXT_MOST limit.Text (length t)) false

unfoldable pub text_at : List ℕ → Reader BuiltTree
text_at t f ts = Some (leaf (kept (text_flags t f) (text_tree t)), text_flags t f, ts)

abbrev pub name_flags : List ℕ → Flags → Flags
name_flags n f = note f (name_passed n) false

abbrev pub column_at : List ℕ → Reader BuiltTree
column_at n f ts = Some (leaf (Column (kept_name (name_flags n f) n)), name_flags n f, ts)

abbrev pub named_at : List ℕ → Reader BuiltTree
named_at n f ts = Some (leaf (Variable (kept_name (name_flags n f) n)), name_flags n f, ts)

-- what stands behind a minus sign
abbrev pub minus_at : Reader BuiltTree
minus_at f (int n ∷ ts) = int_at (signed true n) f ts
minus_at f _ = None

-- what stands behind a colon
abbrev pub colon_at : Reader BuiltTree
colon_at f (name n ∷ ts) = named_at n f ts
colon_at f _ = None

-- what stands behind an opening parenthesis
abbrev pub paren_at : Reader BuiltTree → Reader BuiltTree
paren_at inner f ts = inner f ts >>= λ x. after (sign mark.Close) x.2 >>= λ us. Some (x.0, x.1, us)

unfoldable pub atom_at : Reader BuiltTree → Reader BuiltTree
atom_at inner f (int n ∷ ts) = int_at (signed false n) f ts
atom_at inner f (text t ∷ ts) = text_at t f ts
atom_at inner f (name n ∷ ts) = column_at n f ts
atom_at inner f (sign mark.Minus ∷ ts) = minus_at f ts
atom_at inner f (sign mark.Colon ∷ ts) = colon_at f ts
atom_at inner f (sign mark.Open ∷ ts) = paren_at inner f ts
atom_at inner f _ = None

-- how tightly the operations of each level bind
abbrev pub level_precedence : Level → ℕ
level_precedence level.Disjunction = 1
level_precedence level.Conjunction = 2
level_precedence level.Sum = 4
level_precedence level.Product = 5

abbrev pub product_at : Reader BuiltTree → Reader BuiltTree
product_at inner = left_at (level_precedence level.Product) (atom_at inner)

abbrev pub sum_at : Reader BuiltTree → Reader BuiltTree
sum_at inner = left_at (level_precedence level.Sum) (product_at inner)

abbrev pub comparison_at : Reader BuiltTree → Reader BuiltTree
comparison_at inner = once_at 3 (sum_at inner)

abbrev pub negation_at : Reader BuiltTree → Reader BuiltTree
negation_at inner = nots_at (comparison_at inner)

abbrev pub conjunction_at : Reader BuiltTree → Reader BuiltTree
conjunction_at inner = left_at (level_precedence level.Conjunction) (negation_at inner)

abbrev pub expression_at : Reader BuiltTree → Reader BuiltTree
expression_at inner = left_at (level_precedence level.Disjunction) (conjunction_at inner)

-- what operations of each level stand between
abbrev pub operand_at : Level → Reader BuiltTree → Reader BuiltTree
operand_at level.Disjunction inner = conjunction_at inner
operand_at level.Conjunction inner = negation_at inner
operand_at level.Sum inner = product_at inner
operand_at level.Product inner = atom_at inner

abbrev pub level_at : Level → Reader BuiltTree → Reader BuiltTree
level_at l inner = left_at (level_precedence l) (operand_at l inner)

-- an expression whose symbols stand within fewer than `depth` parentheses
unfoldable pub within_at : ℕ → Reader BuiltTree
within_at zero f ts = None
within_at (suc depth) f ts = expression_at (within_at depth) f ts
