-- Which bytes are a text.
use Rattle.salt_values.specs.declared.limits.TheConstants.{TEXT_MOST}
use Rattle.std.specs.List.{list_all}
use Rattle.std.specs.Prelude.{Bool, List, length, nat_le, ℕ, ◌&&◌}

abbrev pub is_printable : ℕ → Bool
is_printable b = nat_le 32 b && nat_le b 126

-- at most 255 bytes, each from 32 to 126
abbrev pub is_text : List ℕ → Bool
is_text bytes = nat_le (length bytes) TEXT_MOST && list_all is_printable bytes
