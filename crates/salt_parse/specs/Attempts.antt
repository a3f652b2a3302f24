-- What is answered for a whole row, by what reading gives.
use Rattle.std.specs.Bool.{then_some}
use Rattle.std.specs.Option.{option_or}
use Rattle.salt_ast.specs.declared.limit.LimitName.{LimitName}
use Rattle.salt_ast.specs.declared.limit.LimitName.TheVariants as limit
use Rattle.salt_values.specs.declared.limits.TheConstants.{DEPTH_MOST, PARENTHESES_MOST}
use Rattle.salt_parse.specs.Flags.{Flags, no_flags}
use Rattle.salt_parse.specs.Reading.{Read, Reader}
use Rattle.salt_parse.specs.declared.error.ParseErr.{ParseErr}
use Rattle.salt_parse.specs.declared.error.ParseErr.TheVariants.{Limit, Memory, Syntax}
use Rattle.salt_ast.specs.Symbols.{Symbols}
use Rattle.std.specs.Prelude.{Err, None, Ok, Option, Result, Some, [], ℕ, ◌-◌, ◌∷◌, ◌≡◌}

-- the first limit that was passed, the depth last
abbrev pub limit_in : Flags → Option LimitName
limit_in f = option_or f.over (then_some f.deep limit.Depth)

abbrev pub tree_or_limit : {X : Type 0} → X → Option LimitName → Result (Result X LimitName) ParseErr
tree_or_limit x None = Ok (Ok x)
tree_or_limit x (Some l) = Ok (Err l)

-- nothing may be left
abbrev pub ended : {X : Type 0} → X → Flags → Symbols → Result (Result X LimitName) ParseErr
ended x f [] = tree_or_limit x (limit_in f)
ended x f (t ∷ ts) = Err Syntax

-- what one attempt finds in a whole row: a tree, or the first limit that it passes
abbrev pub attempt_of : {X : Type 0} → Option (Read X) → Result (Result X LimitName) ParseErr
attempt_of None = Err Syntax
attempt_of (Some x) = ended x.0 x.1 x.2

-- an answer is this one, unless memory ran out
abbrev pub IsAnswer : {X : Type 0} → Result X ParseErr → Result X ParseErr → Type 0
IsAnswer (Ok x) answer = answer ≡ Ok x
IsAnswer (Err Memory) answer = Unit {0}
IsAnswer (Err Syntax) answer = answer ≡ Err Syntax
IsAnswer (Err (Limit l)) answer = answer ≡ Err (Limit l)

-- the error where only more parentheses than 64 let a row be read
abbrev pub too_deep : {X : Type 0} → Result (Result X LimitName) ParseErr → ParseErr
too_deep (Ok (Ok x)) = Limit limit.Depth
too_deep (Ok (Err l)) = Limit l
too_deep (Err e) = e

-- the answer of two attempts, the second where the first finds nothing
abbrev pub settled : {X : Type 0} → Result (Result X LimitName) ParseErr → Result (Result X LimitName) ParseErr → Result X ParseErr
settled (Ok (Ok x)) deeper = Ok x
settled (Ok (Err l)) deeper = Err (Limit l)
settled (Err e) deeper = Err (too_deep deeper)

-- the answer for a row, by what reads it with room for so many parentheses in expressions, and for so many in those that stand in
-- parentheses of the text's own
abbrev pub answer_for : {X : Type 0} → (ℕ → ℕ → Reader X) → Symbols → Result X ParseErr
answer_for reading ts =
    settled (attempt_of (reading DEPTH_MOST DEPTH_MOST no_flags ts)) (attempt_of (reading PARENTHESES_MOST (PARENTHESES_MOST - 1) no_flags ts))
