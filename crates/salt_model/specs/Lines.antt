-- What a line of some bytes asks: its tree, or the refusal that its text meets first.
use Rattle.salt_ast.specs.Spelling.{IsLineWithinLimits, LinePasses, SpellsLine}
use Rattle.salt_ast.specs.declared.limit.LimitName.{LimitName}
use Rattle.salt_ast.specs.declared.lines.Line.{Line}
use Rattle.salt_ast.specs.declared.lines.Line.TheVariants.{Nothing}
use Rattle.salt_model.specs.Trace.{Asked, Rejected, Tree}
use Rattle.salt_model.specs.declared.events.Refusal.TheVariants.{Byte, Limit, Long, Syntax}
use Rattle.salt_ast.specs.Bytes.{is_blank, is_printable}
use Rattle.salt_values.specs.declared.limits.TheConstants.{LINE_MOST}
use Rattle.std.specs.List.{AllZip, list_all}
use Rattle.std.specs.Prelude.{Bool, List, false, length, true, ℕ, ◌&&◌, ◌<◌, ◌==◌, ◌||◌, ◌∷◌, ◌≡◌, ◌≤◌}

abbrev pub begins_comment : List ℕ → Bool
begins_comment (a ∷ b ∷ bs) = (a == 45) && (b == 45)
begins_comment bs = false

-- lines that are empty, that hold only spaces and tabs, or that begin with -- do nothing
abbrev pub does_nothing : List ℕ → Bool
does_nothing text = list_all is_blank text || begins_comment text

-- a tab, or a byte from 32 to 126
abbrev pub is_line_byte : ℕ → Bool
is_line_byte b = (b == 9) || is_printable b

-- what is asked of a text before its tokens are looked at
pub record IsReadable (text : List ℕ) : Type 0 where
  pub within : length text ≤ LINE_MOST
  pub does_something : does_nothing text ≡ false
  pub bytes : list_all is_line_byte text ≡ true

-- The refusals come in this order. A line that does nothing is tested for its length alone.
pub data Asks (text : List ℕ) : Asked → Type 0 where
  is_long : LINE_MOST < length text → Asks text (Rejected Long)
  is_idle : length text ≤ LINE_MOST → does_nothing text ≡ true → Asks text (Tree Nothing)
  has_other_byte : length text ≤ LINE_MOST → does_nothing text ≡ false → list_all is_line_byte text ≡ false → Asks text (Rejected Byte)
  is_no_line : IsReadable text → ((line : Line) → SpellsLine text line → ⊥) → Asks text (Rejected Syntax)
  passes : {line : Line} {l : LimitName} → IsReadable text → SpellsLine text line → LinePasses text line l → Asks text (Rejected (Limit l))
  is_line : {line : Line} → IsReadable text → IsLineWithinLimits text line → Asks text (Tree line)

-- what lines of these bytes ask, one after another
abbrev pub AskInOrder : List (List ℕ) → List Asked → Type 0
AskInOrder = AllZip Asks
