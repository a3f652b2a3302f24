-- What a text was seen to pass so far, and what is built meanwhile.
use Rattle.salt_ast.specs.Trees.{letters, negation, null_test, number, operation}
use Rattle.std.specs.Option.{option_or}
use Rattle.salt_ast.specs.declared.limit.LimitName.{LimitName}
use Rattle.salt_ast.specs.declared.trees.Expr.{Expr}
use Rattle.salt_ast.specs.declared.trees.Op.{Op}
use Rattle.salt_parse.specs.declared.built.Built.{Built}
use Rattle.salt_parse.specs.declared.built.Unary.{Unary}
use Rattle.salt_parse.specs.declared.built.Unary.TheVariants as unary
use Rattle.salt_values.specs.Text.{is_text}
use Rattle.salt_values.specs.declared.limits.TheConstants.{DEPTH_MOST}
use Rattle.std.specs.Prelude.{Bool, List, None, Option, Some, [], false, if◌then◌else◌, is_none, not, true, ◌&&◌, ◌||◌}
use Rattle.std.specs.Prelude.{max, min, nat_le, nat_lt, neg_ℤ, pos, suc, ℕ, ℤ, ◌^◌}

-- the first limit that was passed, and whether some expression was too high
pub record Flags : Type 0 where
  pub over : Option LimitName
  pub deep : Bool

abbrev pub flags : Option LimitName → Bool → Flags
flags over deep = record { over = over; deep = deep }

abbrev pub no_flags : Flags
no_flags = flags None false

-- nothing is passed yet
abbrev pub clear : Flags → Bool
clear f = is_none f.over && not f.deep

-- the flags after a part of the text that passes this limit and is, or is not, too high
abbrev pub note : Flags → Option LimitName → Bool → Flags
note f l high = record { over = option_or f.over l; deep = f.deep || high }

-- a height that passes the limit is noted
abbrev pub note_height : Flags → ℕ → Flags
note_height f h = note f None (nat_lt DEPTH_MOST h)

-- An expression while it is read: its tree while nothing is passed, and its height, where one above the limit is all above it.
pub record BuiltTree : Type 0 where
  pub tree : Expr
  pub height : ℕ

abbrev pub built_of : Built → BuiltTree
built_of b = record { tree = b.tree; height = b.height }

-- what is built where something is passed
abbrev pub stand_in : Expr
stand_in = number (pos 0)

abbrev pub kept : Flags → Expr → Expr
kept f e = if clear f then e else stand_in

abbrev pub kept_name : Flags → List ℕ → List ℕ
kept_name f n = if clear f then n else []

abbrev pub leaf : Expr → BuiltTree
leaf e = record { tree = e; height = 1 }

abbrev pub both_height : BuiltTree → BuiltTree → ℕ
both_height l r = suc (max l.height r.height)

-- an operation on what was built
abbrev pub join_flags : BuiltTree → BuiltTree → Flags → Flags
join_flags l r f = note_height f (both_height l r)

abbrev pub join_tree : Op → BuiltTree → BuiltTree → Flags → BuiltTree
join_tree o l r f = record { tree = kept (join_flags l r f) (operation o l.tree r.tree); height = min (both_height l r) (suc DEPTH_MOST) }

-- an operation on one operand that was built
abbrev pub around_flags : BuiltTree → Flags → Flags
around_flags b f = note_height f (suc b.height)

abbrev pub around_tree : (Expr → Expr) → BuiltTree → Flags → BuiltTree
around_tree node b f = record { tree = kept (around_flags b f) (node b.tree); height = min (suc b.height) (suc DEPTH_MOST) }

-- the operation that a program's form of it stands for
abbrev pub node_of : Unary → Expr → Expr
node_of unary.Not = negation
node_of unary.IsNull = null_test false
node_of unary.IsNotNull = null_test true

-- a number of 64 bits, by whether a minus sign stands before it
abbrev pub signed : Bool → ℕ → Option ℤ
signed false n = if nat_lt n (2 ^ 63) then Some (pos n) else None
signed true n = if nat_le n (2 ^ 63) then Some (neg_ℤ (pos n)) else None

-- a number, where it has 64 bits
abbrev pub int_tree : Option ℤ → Expr
int_tree None = stand_in
int_tree (Some z) = number z

-- a text, where the bytes are one
abbrev pub text_tree : List ℕ → Expr
text_tree t = if is_text t then letters t else stand_in
