-- Ranges of keys: which of them meet, which keys are in one, and which are empty.
use Rattle.salt_ranges.specs.Ranges.{has_key, is_range_empty, meets}
use Rattle.salt_ranges.specs.declared.range.KeyRange.{KeyRange}
use Rattle.salt_values.specs.declared.value.Value.{Value}
use Rattle.std.specs.Prelude.{Bool, List, [], codes, false, map, refl, true, ◌∷◌, ◌≡◌}
use Rattle.rows_texts.specs.Keys.{all, at, below_0, from, from_to, greatest, least, up_to, word}

-- ---- two ranges, and whether they meet: the one the other, and the other the one

record Meeting : Type 0 where
  pub one : KeyRange
  pub other : KeyRange
  pub wanted : Bool

abbrev that : KeyRange → KeyRange → Bool → Meeting
that one other wanted = record { one = one; other = other; wanted = wanted }

abbrev meetings : List Meeting
meetings =
    -- one behind the other, side by side, and with one key in common
    that (from_to (at 1) (at 3)) (from_to (at 5) (at 9)) false
    ∷ that (from_to (at 1) (at 4)) (from_to (at 5) (at 9)) false
    ∷ that (from_to (at 1) (at 5)) (from_to (at 5) (at 9)) true
    ∷ that (from_to (at 1) (at 6)) (from_to (at 5) (at 9)) true
    -- one inside the other, and one key alone
    ∷ that (from_to (at 1) (at 9)) (from_to (at 4) (at 5)) true
    ∷ that (from_to (at 7) (at 7)) (from_to (at 7) (at 7)) true
    ∷ that (from_to (at 7) (at 7)) (from_to (at 8) (at 8)) false
    ∷ that (from_to (below_0 9) (below_0 7)) (from_to (below_0 7) (at 0)) true
    ∷ that (from_to (below_0 9) (below_0 8)) (from_to (below_0 7) (at 0)) false
    -- open ends
    ∷ that all all true
    ∷ that all (from_to (at 5) (at 5)) true
    ∷ that (up_to (at 4)) (from (at 5)) false
    ∷ that (up_to (at 5)) (from (at 5)) true
    ∷ that (up_to (at 1)) (up_to (at 9)) true
    ∷ that (from (at 1)) (from (at 9)) true
    -- nothing meets an empty range
    ∷ that (from_to (at 5) (at 4)) all false
    ∷ that (from_to (at 5) (at 4)) (from_to (at 1) (at 9)) false
    ∷ that (from_to (at 5) (at 4)) (from_to (at 5) (at 4)) false
    -- texts by their bytes
    ∷ that (from_to (word (codes "a")) (word (codes "b"))) (from_to (word (codes "b")) (word (codes "c"))) true
    ∷ that (from_to (word (codes "a")) (word (codes "b"))) (from_to (word (codes "ba")) (word (codes "c"))) false
    ∷ that (from_to (word []) (word (codes "Z"))) (from (word (codes "a"))) false
    ∷ that (up_to (word (codes "10"))) (from (word (codes "9"))) false
    ∷ []

ranges_meet : map (λ m. meets m.one m.other) meetings ≡ map (λ m. m.wanted) meetings
ranges_meet = refl

the_others_meet : map (λ m. meets m.other m.one) meetings ≡ map (λ m. m.wanted) meetings
the_others_meet = refl

-- ---- a range and a key, and whether the key is in it

record Having : Type 0 where
  pub range : KeyRange
  pub key : Value
  pub wanted : Bool

abbrev has : KeyRange → Value → Bool → Having
has range key wanted = record { range = range; key = key; wanted = wanted }

abbrev havings : List Having
havings =
    has (from_to (at 2) (at 4)) (at 1) false
    ∷ has (from_to (at 2) (at 4)) (at 2) true
    ∷ has (from_to (at 2) (at 4)) (at 3) true
    ∷ has (from_to (at 2) (at 4)) (at 4) true
    ∷ has (from_to (at 2) (at 4)) (at 5) false
    ∷ has (from_to (below_0 1) (below_0 1)) (below_0 1) true
    ∷ has (from_to (below_0 1) (below_0 1)) (at 1) false
    ∷ has (up_to (at 4)) least true
    ∷ has (up_to (at 4)) (at 5) false
    ∷ has (from (at 4)) greatest true
    ∷ has (from (at 4)) (at 3) false
    ∷ has all (word []) true
    ∷ has (from_to (at 4) (at 2)) (at 3) false
    ∷ has (from_to (word (codes "ab")) (word (codes "b"))) (word (codes "a")) false
    ∷ has (from_to (word (codes "ab")) (word (codes "b"))) (word (codes "ab")) true
    ∷ has (from_to (word (codes "ab")) (word (codes "b"))) (word (codes "az")) true
    ∷ has (from_to (word (codes "ab")) (word (codes "b"))) (word (codes "b")) true
    ∷ has (from_to (word (codes "ab")) (word (codes "b"))) (word (codes "ba")) false
    ∷ []

ranges_have : map (λ h. has_key h.range h.key) havings ≡ map (λ h. h.wanted) havings
ranges_have = refl

-- ---- ranges without a key, and ranges that have some

abbrev empty_ranges : List KeyRange
empty_ranges = from_to (at 3) (at 2) ∷ from_to greatest least ∷ from_to (word (codes "aa")) (word (codes "a")) ∷ []

are_empty : map is_range_empty empty_ranges ≡ true ∷ true ∷ true ∷ []
are_empty = refl

abbrev other_ranges : List KeyRange
other_ranges =
    from_to (at 1) (at 2) ∷ from_to (at 2) (at 2) ∷ up_to least ∷ from greatest ∷ all ∷ from_to (word (codes "a")) (word (codes "a"))
    ∷ from_to (word (codes "a")) (word (codes "aa")) ∷ []

are_not_empty : map is_range_empty other_ranges ≡ false ∷ false ∷ false ∷ false ∷ false ∷ false ∷ false ∷ []
are_not_empty = refl
