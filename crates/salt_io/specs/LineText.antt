-- What a reader keeps of a line while its bytes come in.
use Rattle.salt_values.specs.declared.limits.TheConstants.{LINE_MOST}
use Rattle.std.specs.Prelude.{◌≡◌, ℕ, ◌+◌, ◌<◌, ◌≤◌, ◌==◌, Bool, true, false, not, List, [], ◌∷◌, ◌++◌, length}
use Rattle.salt_io.specs.Lines.{ScriptReading, ends_in, ends_in_backslash}
use Rattle.salt_io.specs.declared.line_text.LineText.{LineText}
use Rattle.salt_io.specs.declared.line_text.Tail.{Tail}
use Rattle.salt_io.specs.declared.line_text.Tail.TheVariants.{Nothing, Cr, Backslash, BackslashCr}

abbrev pub tail_bytes : Tail → List ℕ
tail_bytes Nothing = []
tail_bytes Cr = 13 ∷ []
tail_bytes Backslash = 92 ∷ []
tail_bytes BackslashCr = 92 ∷ 13 ∷ []

-- The line is the first bytes of the text, no more than a line may have, and all of them unless it is long.
pub record KeepsFront (line : List ℕ) (is_long : Bool) (text : List ℕ) : Type 0 where
  pub dropped : List ℕ
  pub whole : text ≡ line ++ dropped
  pub within : length line ≤ LINE_MOST
  pub short : is_long ≡ false → dropped ≡ []
  pub long : is_long ≡ true → (length line ≡ LINE_MOST) × (0 < length dropped)

-- No byte at the end of the text belongs to the tail.
abbrev pub IsBeforeTail : List ℕ → Tail → Type 0
IsBeforeTail text Nothing = (ends_in 13 text ≡ false) × (ends_in_backslash text ≡ false)
IsBeforeTail text Cr = ends_in_backslash text ≡ false
IsBeforeTail text Backslash = Unit {0}
IsBeforeTail text BackslashCr = Unit {0}

-- These bytes have come: some that are kept or too many, and the tail.
pub record IsText (line : List ℕ) (state : LineText) (text : List ℕ) : Type 0 where
  pub before_tail : List ℕ
  pub whole : text ≡ before_tail ++ tail_bytes state.tail
  pub kept : KeepsFront line state.is_long before_tail
  pub cut : IsBeforeTail before_tail state.tail

-- The bytes end in this tail, whatever text they stand behind.
pub record EndsInTail (bytes : List ℕ) (tail : Tail) : Type 0 where
  pub front : List ℕ
  pub whole : bytes ≡ front ++ tail_bytes tail
  pub cut : (text : List ℕ) → IsBeforeTail (text ++ front) tail

-- a byte that is no LF
abbrev pub is_no_lf : ℕ → Bool
is_no_lf byte = not (byte == 10)

-- No byte is an LF.
abbrev pub HasNoLf : List ℕ → Type 0
HasNoLf [] = Unit {0}
HasNoLf (byte ∷ bytes) = ((byte == 10) ≡ false) × HasNoLf bytes

-- Some bytes that were in hand, none of which is an LF, have been taken, and stand behind the line's text so far.
pub record TakesText (before after : ScriptReading) (line new : List ℕ) (state state' : LineText) : Type 0 where
  pub bytes : List ℕ
  pub no_lf : HasNoLf bytes
  pub given : before.kept ≡ bytes ++ after.kept
  pub counted : after.taken ≡ before.taken + length bytes
  pub ended : after.ended ≡ before.ended
  pub puts : (text : List ℕ) → IsText line state text → IsText new state' (text ++ bytes)
