-- The most free bytes on a page and below it: what a page found by them has, and how they are mended.
use Rattle.salt_directory.specs.Space.{AreMost, AreMostBut, HasRoom, most_from}
use Rattle.std.proofs.Common.{List, None, [], ap, arith, get_or, inl, inr, length, max, refl, set, suc, sym, zero, ℕ, ◌*◌, ◌+◌, ◌++◌, ◌-◌, ◌/◌, ◌<◌, ◌≡◌, ◌≤◌, ◌⊎◌, ◌∙◌, ◌∷◌}
use Rattle.std.proofs.lemmas.Bool.{cases_eq, cases_lt}
use Rattle.std.proofs.lemmas.List.{get_or-set_other, get_or-set_same, get_or_append_left, get_or_past, get_or_push, length-set, length_push, set-get_or}

pub none_most : AreMost [] []
none_most = record { count = refl; each = λ page low. absurd (omega (arith, low)) }

-- the page that it stands below
above : (page : ℕ) → 0 < page → (page ≡ 2 * ((page - 1) / 2) + 1) ⊎ (page ≡ 2 * ((page - 1) / 2) + 2)
above page more = by (cases_eq page (2 * ((page - 1) / 2) + 1))
  where
    by : (page ≡ 2 * ((page - 1) / 2) + 1) ⊎ (page ≡ 2 * ((page - 1) / 2) + 1 → ⊥) → (page ≡ 2 * ((page - 1) / 2) + 1) ⊎ (page ≡ 2 * ((page - 1) / 2) + 2)
    by (inl one) = inl one
    by (inr other) = inr (omega (arith, more, other))

module _ (free most : List ℕ) (are : AreMost free most) where
  own_most : (page : ℕ) → page < length free → get_or free page 0 ≤ get_or most page 0
  own_most page low = omega (arith, are.each page low)

  below_most : (page : ℕ) → 0 < page → page < length free → get_or most page 0 ≤ get_or most ((page - 1) / 2) 0
  below_most page more low = by (above page more)
    where
      up : get_or most ((page - 1) / 2) 0 ≡ most_from free most ((page - 1) / 2)
      up = are.each ((page - 1) / 2) (omega (arith, more, low))

      by : (page ≡ 2 * ((page - 1) / 2) + 1) ⊎ (page ≡ 2 * ((page - 1) / 2) + 2) → get_or most page 0 ≤ get_or most ((page - 1) / 2) 0
      by (inl one) = let same = ap (λ n. get_or most n 0) one in omega (arith, same, up)
      by (inr two) = let same = ap (λ n. get_or most n 0) two in omega (arith, same, up)

  first_most : (n page : ℕ) → page ≤ n → page < length free → get_or most page 0 ≤ get_or most 0 0
  first_most zero page few low = let same : page ≡ 0 = omega (arith, few) in rw same (omega arith)
  first_most (suc n) page few low = by (cases_lt 0 page) (λ up less within. first_most n up less within)
    where
      by : (0 < page) ⊎ (page ≤ 0) → ((up : ℕ) → up ≤ n → up < length free → get_or most up 0 ≤ get_or most 0 0) → get_or most page 0 ≤ get_or most 0 0
      by (inl more) on =
          let here = below_most page more low in
          let rest = on ((page - 1) / 2) (omega (arith, few, more)) (omega (arith, low, more)) in
          omega (arith, here, rest)
      by (inr none) on = let same : page ≡ 0 = omega (arith, none) in rw same (omega arith)

  -- the first has less: so has each
  pub no_room : (n : ℕ) → get_or most 0 0 < n → HasRoom free n None
  no_room n less page low =
      let own = own_most page low in
      let first = first_most page page (omega arith) low in
      omega (arith, own, first, less)

  there : (n page : ℕ) → 0 < n → n ≤ get_or most page 0 → page < length free
  there n page some enough = by (cases_lt page (length free))
    where
      by : (page < length free) ⊎ (length free ≤ page) → page < length free
      by (inl low) = low
      by (inr high) =
          let none = get_or_past most page 0 (omega (arith, high, are.count)) in
          absurd (omega (arith, some, enough, none))

  -- on this page are fewer, and on it and below it are so many
  module _ (n page : ℕ) (low : page < length free) (enough : n ≤ get_or most page 0) (less : get_or free page 0 < n) where
    pub left_has : n ≤ get_or most (2 * page + 1) 0 → 2 * page + 1 < length free
    left_has has = there n (2 * page + 1) (omega (arith, less)) has

    pub right_has : get_or most (2 * page + 1) 0 < n → (2 * page + 2 < length free) × (n ≤ get_or most (2 * page + 2) 0)
    right_has lacks =
        let has : n ≤ get_or most (2 * page + 2) 0 = omega (arith, are.each page low, enough, less, lacks) in
        (there n (2 * page + 2) (omega (arith, less)) has, has)

  -- one page has other free bytes
  pub changed_but : (at n : ℕ) → AreMostBut at (set free at n) most
  changed_but at n = record {
    count = are.count ∙ sym (length-set free at n);
    each = λ page low other. are.each page (omega (arith, low, length-set free at n)) ∙ ap (λ m. max m (max (get_or most (2 * page + 1) 0) (get_or most (2 * page + 2) 0))) (sym (get_or-set_other free at page n 0 other));
  }

  padded : (page : ℕ) → get_or (most ++ 0 ∷ []) page 0 ≡ get_or most page 0
  padded page = by (cases_lt page (length most))
    where
      by : (page < length most) ⊎ (length most ≤ page) → get_or (most ++ 0 ∷ []) page 0 ≡ get_or most page 0
      by (inl low) = get_or_append_left most (0 ∷ []) 0 page low
      by (inr high) = last (cases_eq page (length most)) ∙ sym (get_or_past most page 0 high)
        where
          last : (page ≡ length most) ⊎ (page ≡ length most → ⊥) → get_or (most ++ 0 ∷ []) page 0 ≡ 0
          last (inl same) = get_or_push most 0 0 page (sym same)
          last (inr other) = get_or_past (most ++ 0 ∷ []) page 0 (omega (arith, high, other, length_push most 0))

  -- one page more, for which nothing stands yet
  pub pushed_but : (n : ℕ) → AreMostBut (length free) (free ++ n ∷ []) (most ++ 0 ∷ [])
  pushed_but n = record {
    count = omega (arith, length_push most 0, length_push free n, are.count);
    each = λ page low other.
        let old : page < length free = omega (arith, low, other, length_push free n) in
        padded page ∙ are.each page old
        ∙ sym (λ i. max (get_or_append_left free (n ∷ []) 0 page old i) (max (padded (2 * page + 1) i) (padded (2 * page + 2) i)));
  }

-- what stands for a page is mended, and all others stand but maybe for the one above it
module _ (free most : List ℕ) (at : ℕ) (low : at < length free) (are : AreMostBut at free most) where
  kept : (page n : ℕ) → (2 * page + 1 ≡ at → ⊥) → (2 * page + 2 ≡ at → ⊥) → most_from free (set most at n) page ≡ most_from free most page
  kept page n left right = λ i. max (get_or free page 0) (max (get_or-set_other most at (2 * page + 1) n 0 left i) (get_or-set_other most at (2 * page + 2) n 0 right i))

  mended : (page : ℕ) → page < length free → (2 * page + 1 ≡ at → ⊥) → (2 * page + 2 ≡ at → ⊥) → get_or (set most at (most_from free most at)) page 0 ≡ most_from free (set most at (most_from free most at)) page
  mended page within left right = by (cases_eq page at) ∙ sym (kept page (most_from free most at) left right)
    where
      by : (page ≡ at) ⊎ (page ≡ at → ⊥) → get_or (set most at (most_from free most at)) page 0 ≡ most_from free most page
      by (inl same) = rw same (get_or-set_same most at (most_from free most at) 0 (omega (arith, low, are.count)))
      by (inr other) = get_or-set_other most at page (most_from free most at) 0 other ∙ are.each page within other

  pub mended_but : 0 < at → AreMostBut ((at - 1) / 2) free (set most at (most_from free most at))
  mended_but more = record {
    count = length-set most at (most_from free most at) ∙ are.count;
    each = λ page within other. mended page within (λ left. other (omega (arith, left))) (λ right. other (omega (arith, right)));
  }

  pub mended_first : at ≡ 0 → AreMost free (set most at (most_from free most at))
  mended_first first = record {
    count = length-set most at (most_from free most at) ∙ are.count;
    each = λ page within. mended page within (λ left. absurd (omega (arith, left, first))) (λ right. absurd (omega (arith, right, first)));
  }

  pub stands : get_or most at 0 ≡ most_from free most at → AreMost free (set most at (most_from free most at))
  stands own = rw (← own, set-get_or most at 0) record { count = are.count; each = λ page within. by page within (cases_eq page at) }
    where
      by : (page : ℕ) → page < length free → (page ≡ at) ⊎ (page ≡ at → ⊥) → get_or most page 0 ≡ most_from free most page
      by page within (inl same) = rw same own
      by page within (inr other) = are.each page within other
