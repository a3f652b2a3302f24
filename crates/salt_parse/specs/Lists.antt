-- Reading lists of items from left to right.
use Rattle.salt_ast.specs.declared.limit.LimitName.{LimitName}
use Rattle.salt_parse.specs.Flags.{Flags, note}
use Rattle.salt_parse.specs.Reading.{Read, Reader, after, either}
use Rattle.salt_ast.specs.Scanning.{◌>>=◌}
use Rattle.salt_ast.specs.Symbols.{Symbols, sign}
use Rattle.salt_ast.specs.declared.sign.Sign.TheVariants as mark
use Rattle.std.specs.Bool.{then_some}
use Rattle.std.specs.Prelude.{List, None, Option, Some, [], false, length, nat_le, suc, zero, ℕ, ◌++◌, ◌∷◌}

-- items before those that are read next
abbrev pub with_front : {A : Type 0} → List A → Option (Read (List A)) → Option (Read (List A))
with_front front read = read >>= λ x. Some (front ++ x.0, x.1, x.2)

-- what stands behind a comma
abbrev pub comma : Symbols → Option Symbols
comma ts = after (sign mark.Comma) ts

-- further items by their numbers, each behind a separator, with room for so many
unfoldable pub following_at : {A : Type 0} → (Symbols → Option Symbols) → (ℕ → Reader A) → ℕ → ℕ → Reader (List A)
following_at separator item count zero f ts = either (separator ts) (Some ([], f, ts)) (λ us. None)
following_at separator item count (suc room) f ts =
    either (separator ts) (Some ([], f, ts)) (λ us. item count f us >>= λ x.
    with_front (x.0 ∷ []) (following_at separator item (suc count) room x.1 x.2))

-- a first item and further ones by their numbers, each behind a separator
abbrev pub listed_at : {A : Type 0} → (Symbols → Option Symbols) → (ℕ → Reader A) → Reader (List A)
listed_at separator item f ts = item 0 f ts >>= λ x. with_front (x.0 ∷ []) (following_at separator item 1 (length x.2) x.1 x.2)

-- the flags before an item behind so many others, where there may be `most` in all
abbrev pub counted : ℕ → LimitName → ℕ → Flags → Flags
counted most l n f = note f (then_some (nat_le most n) l) false

-- an item that stands behind so many others, where there may be `most` in all
abbrev pub counted_at : {A : Type 0} → ℕ → LimitName → Reader A → ℕ → Reader A
counted_at most l item n f ts = item (counted most l n f) ts
