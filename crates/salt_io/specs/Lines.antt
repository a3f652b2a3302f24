-- The lines of a script, from its bytes.
use Rattle.std.specs.Prelude.{◌≡◌, ◌≢◌, ℕ, ◌+◌, ◌<◌, ◌≤◌, Bool, false, true, if◌then◌else◌, ◌==◌}
use Rattle.std.specs.Prelude.{List, [], ◌∷◌, ◌++◌, length, take, Option, Some, None, ◌⊎◌, refl}
use Rattle.salt_io.specs.Streams.{Takes, IsAtEnd}

-- A script, or the pieces that LFs cut bytes into: the lines, or pieces, that an LF ends, and what stands so far behind them.
pub record Script : Type 0 where
  pub ended : List (List ℕ)
  pub rest : List ℕ

-- the first line, ended or not, begins with this text
abbrev pub joined_on : List ℕ → List (List ℕ) → List ℕ → Script
joined_on text [] rest = record { ended = []; rest = text ++ rest }
joined_on text (line ∷ lines) rest = record { ended = (text ++ line) ∷ lines; rest = rest }

-- one byte, and then these pieces
abbrev pub with_byte : ℕ → Script → Script
with_byte byte behind = if byte == 10 then record { ended = [] ∷ behind.ended; rest = behind.rest } else joined_on (byte ∷ []) behind.ended behind.rest

abbrev pub pieces_of : List ℕ → Script
pieces_of [] = record { ended = []; rest = [] }
pieces_of (byte ∷ bytes) = with_byte byte (pieces_of bytes)

abbrev pub ends_in : ℕ → List ℕ → Bool
ends_in byte [] = false
ends_in byte (b ∷ []) = b == byte
ends_in byte (b ∷ c ∷ bytes) = ends_in byte (c ∷ bytes)

-- all but the last byte
abbrev pub front : List ℕ → List ℕ
front [] = []
front (b ∷ []) = []
front (b ∷ c ∷ bytes) = b ∷ front (c ∷ bytes)

-- a piece that an LF ends, without the CR directly before the LF
abbrev pub without_cr : List ℕ → List ℕ
without_cr piece = if ends_in 13 piece then front piece else piece

-- the next line is joined on
abbrev pub ends_in_backslash : List ℕ → Bool
ends_in_backslash = ends_in 92

-- a space in the place of the last byte
abbrev pub spaced : List ℕ → List ℕ
spaced text = front text ++ 32 ∷ []

-- a piece that an LF ends, before a script
abbrev pub before_script : List ℕ → Script → Script
before_script piece script =
    if ends_in_backslash piece then joined_on (spaced piece) script.ended script.rest else record { ended = piece ∷ script.ended; rest = script.rest }

-- the piece at the script's end: nothing is joined on
abbrev pub last_text : List ℕ → List ℕ
last_text piece = if ends_in_backslash piece then spaced piece else piece

abbrev pub script_from : List (List ℕ) → List ℕ → Script
script_from [] last = record { ended = []; rest = last_text last }
script_from (piece ∷ pieces) last = before_script (without_cr piece) (script_from pieces last)

abbrev pub script_of : List ℕ → Script
script_of bytes = script_from (pieces_of bytes).ended (pieces_of bytes).rest

-- what stands at the script's end is a line, unless it is empty
abbrev pub with_rest : List (List ℕ) → List ℕ → List (List ℕ)
with_rest ended [] = ended
with_rest ended (byte ∷ bytes) = ended ++ (byte ∷ bytes) ∷ []

-- the lines of a script
abbrev pub lines_of : List ℕ → List (List ℕ)
lines_of bytes = with_rest (script_of bytes).ended (script_of bytes).rest

-- no byte: no line
no_line : lines_of [] ≡ []
no_line = refl

-- "a", CR, LF, LF, "b": the last line needs no LF, and an empty line is one
three_lines : lines_of (97 ∷ 13 ∷ 10 ∷ 10 ∷ 98 ∷ []) ≡ (97 ∷ []) ∷ [] ∷ (98 ∷ []) ∷ []
three_lines = refl

-- "a", LF: nothing stands behind the last LF
no_empty_last_line : lines_of (97 ∷ 10 ∷ []) ≡ (97 ∷ []) ∷ []
no_empty_last_line = refl

-- CR, CR, LF: one CR is dropped
one_cr_dropped : lines_of (13 ∷ 13 ∷ 10 ∷ []) ≡ (13 ∷ []) ∷ []
one_cr_dropped = refl

-- "a", CR: no LF is behind it
cr_at_the_end : lines_of (97 ∷ 13 ∷ []) ≡ (97 ∷ 13 ∷ []) ∷ []
cr_at_the_end = refl

-- "a", backslash, LF, "b", backslash, CR, LF, "c", LF: two joins
joined_lines : lines_of (97 ∷ 92 ∷ 10 ∷ 98 ∷ 92 ∷ 13 ∷ 10 ∷ 99 ∷ 10 ∷ []) ≡ (97 ∷ 32 ∷ 98 ∷ 32 ∷ 99 ∷ []) ∷ []
joined_lines = refl

-- "a", backslash, backslash, LF, "b": the last backslash alone is dropped
two_backslashes : lines_of (97 ∷ 92 ∷ 92 ∷ 10 ∷ 98 ∷ []) ≡ (97 ∷ 92 ∷ 32 ∷ 98 ∷ []) ∷ []
two_backslashes = refl

-- a backslash at the end, with no LF, with one, and with CR alone
backslash_at_the_end : lines_of (97 ∷ 92 ∷ []) ≡ (97 ∷ 32 ∷ []) ∷ []
backslash_at_the_end = refl

backslash_before_the_last_lf : lines_of (92 ∷ 10 ∷ []) ≡ (32 ∷ []) ∷ []
backslash_before_the_last_lf = refl

backslash_before_a_last_cr : lines_of (92 ∷ 13 ∷ []) ≡ (92 ∷ 13 ∷ []) ∷ []
backslash_before_a_last_cr = refl

-- What a reader of lines is seen as.
pub record ScriptReading : Type 0 where
  -- the bytes that it took from a source and has not given yet
  pub kept : List ℕ
  -- how many of the script's bytes it has given as lines
  pub taken : ℕ
  -- whether its source told that no more come
  pub ended : Bool

-- The reader reads a source that has these bytes left: once that told its end, nothing is kept, and none are left.
abbrev pub IsReadingOf : ScriptReading → Option (List ℕ) → Type 0
IsReadingOf reading left = reading.ended ≡ true → (reading.kept ≡ []) × IsAtEnd left

-- The bytes are those of one line with this text: an LF ends it, or the script's end, where the source has told that.
abbrev pub IsLineOf : List ℕ → List ℕ → Bool → Type 0
IsLineOf text bytes ended =
    (script_of bytes ≡ record { ended = text ∷ []; rest = [] })
    ⊎ ((ended ≡ true) × (text ≢ []) × (script_of bytes ≡ record { ended = []; rest = text }))

-- One line with this text has been taken, of a script of at most so many bytes.
pub record TakesLine (most : ℕ) (before after : Option (List ℕ)) (taken_before : ℕ) (now : ScriptReading) (text : List ℕ) : Type 0 where
  pub used : List ℕ
  pub given : Takes before used after
  pub line : IsLineOf text used now.ended
  pub some : 0 < length used
  pub counted : now.taken ≡ taken_before + length used
  pub within : now.taken ≤ most

-- One line that is longer than this has been taken.
pub record TakesLong (longest most : ℕ) (before after : Option (List ℕ)) (taken_before : ℕ) (now : ScriptReading) : Type 0 where
  pub text : List ℕ
  pub long : longest < length text
  pub taken : TakesLine most before after taken_before now text

-- These bytes end no line.
abbrev pub EndsNoLine : List ℕ → Type 0
EndsNoLine bytes = (script_of bytes).ended ≡ []

-- The bytes taken before what is left are at most so many, and end no line.
pub record TakesNoLine (most : ℕ) (before left : Option (List ℕ)) : Type 0 where
  pub got : List ℕ
  pub given : Takes before got left
  pub no_line : EndsNoLine got
  pub within : length got ≤ most

-- More bytes than this are there, and as many of them end no line.
abbrev pub IsCutOff : ℕ → Option (List ℕ) → Type 0
IsCutOff most None = Unit {0}
IsCutOff most (Some all) = (most < length all) × EndsNoLine (take most all)
