-- The lines of scripts, and what decides of lines before their tokens are looked at; others stand beside the definitions.
use Rattle.salt_io.specs.Lines.{lines_of}
use Rattle.salt_model.specs.Lines.{does_nothing, is_line_byte}
use Rattle.salt_values.specs.declared.limits.TheConstants.{LINE_MOST}
use Rattle.std.specs.List.{list_all}
use Rattle.std.specs.Prelude.{Bool, List, [], codes, false, length, map, nat_le, refl, replicate, true, ℕ, ◌++◌, ◌∷◌, ◌≡◌}

-- ---- the lines of scripts: 10 is an LF, 13 a CR, 92 a backslash

two_empty_lines : lines_of (10 ∷ 10 ∷ []) ≡ [] ∷ [] ∷ []
two_empty_lines = refl

-- what is joined on may be empty
joined_with_nothing : lines_of (97 ∷ 92 ∷ 10 ∷ 13 ∷ 10 ∷ 98 ∷ []) ≡ (97 ∷ 32 ∷ []) ∷ (98 ∷ []) ∷ []
joined_with_nothing = refl

-- a backslash and a CR within a line stay
within_a_line : lines_of (97 ∷ 92 ∷ 98 ∷ 13 ∷ 32 ∷ 99 ∷ 10 ∷ []) ≡ (97 ∷ 92 ∷ 98 ∷ 13 ∷ 32 ∷ 99 ∷ []) ∷ []
within_a_line = refl

-- ---- lines that can be no row of a table of lines, since a line's end is in them or at their end

abbrev is_within : List ℕ → Bool
is_within text = nat_le (length text) LINE_MOST

abbrev has_line_bytes : List ℕ → Bool
has_line_bytes text = list_all is_line_byte text

-- these do nothing
abbrev comments : List (List ℕ)
comments = (codes "--" ++ 0 ∷ 1 ∷ 10 ∷ 13 ∷ 31 ∷ 127 ∷ 128 ∷ 200 ∷ 255 ∷ []) ∷ (codes "--" ++ 13 ∷ []) ∷ []

they_do_nothing : map does_nothing comments ≡ replicate 2 true
they_do_nothing = refl

-- these do something, and are refused for a byte
abbrev with_ends : List (List ℕ)
with_ends =
    (10 ∷ [])
    ∷ (13 ∷ [])
    ∷ (32 ∷ 13 ∷ [])
    ∷ (32 ∷ 10 ∷ codes "--")
    ∷ (codes "@1 begin" ++ 10 ∷ [])
    ∷ (codes "@1 begin" ++ 13 ∷ [])
    ∷ (codes "@1 ensure 'a" ++ 10 ∷ codes "b'")
    ∷ (codes "no line" ++ 10 ∷ [])
    ∷ []

they_do_something : map does_nothing with_ends ≡ replicate 8 false
they_do_something = refl

they_have_another_byte : map has_line_bytes with_ends ≡ replicate 8 false
they_have_another_byte = refl

-- ---- lines of 65,536 bytes, which is as long as a line may be, and of one more

abbrev with_blanks : List ℕ → ℕ → List ℕ
with_blanks text n = text ++ replicate n 32

longest_lines : map is_within (with_blanks (codes "--" ++ 10 ∷ []) 65533 ∷ with_blanks (codes "no line") 65529 ∷ []) ≡ replicate 2 true
longest_lines = refl

longer_lines : map is_within (with_blanks [] 65537 ∷ with_blanks (codes "--") 65535 ∷ with_blanks (codes "no line") 65530 ∷ []) ≡ replicate 3 false
longer_lines = refl
