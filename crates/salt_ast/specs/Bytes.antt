-- Kinds of bytes.
use Rattle.std.specs.Prelude.{ℕ, ◌+◌, Bool, nat_le, ◌==◌, ◌&&◌, ◌||◌, if◌then◌else◌}

-- a space or a tab
abbrev pub is_blank : ℕ → Bool
is_blank b = b == 32 || b == 9

abbrev pub is_digit : ℕ → Bool
is_digit b = nat_le 48 b && nat_le b 57

-- a letter or an underline
abbrev pub is_letter : ℕ → Bool
is_letter b = nat_le 97 b && nat_le b 122 || nat_le 65 b && nat_le b 90 || b == 95

-- what a word goes on with
abbrev pub is_word : ℕ → Bool
is_word b = is_letter b || is_digit b

-- what a text may hold
abbrev pub is_printable : ℕ → Bool
is_printable b = nat_le 32 b && nat_le b 126

-- a letter's small form
abbrev pub lower : ℕ → ℕ
lower b = if nat_le 65 b && nat_le b 90 then b + 32 else b

-- what a sign of two bytes ends in
abbrev pub ends_pair : ℕ → Bool
ends_pair b = b == 124 || b == 62 || b == 61
