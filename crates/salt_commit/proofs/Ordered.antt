-- The changes of one partition are in order, and fit, where all changes do.
use Rattle.salt_bytes.specs.Changes.{are_in_order, change_cmp}
use Rattle.salt_commit.specs.Commits.{fits_its_part}
use Rattle.salt_model.specs.Tables.{place_total}
use Rattle.salt_stands.proofs.Booleans.{join, left, right}
use Rattle.salt_stands.specs.Coordinator.{Coordinator}
use Rattle.salt_stands.specs.Partition.{is_sound_change, part_of_key}
use Rattle.salt_stands.specs.Placed.{changes_at, is_of_part}
use Rattle.salt_stands.specs.Reading.{Reading}
use Rattle.salt_values.specs.declared.change.Change.{Change}
use Rattle.salt_model.specs.Tables.{changed_at}
use Rattle.std.proofs.Common.{List, [], ap, false, refl, subst, true, ℕ, ◌≡◌, ◌∷◌}
use Rattle.std.proofs.lemmas.Bool.Decides.{Decides-eqb}
use Rattle.std.specs.List.{filter, list_all}
use Rattle.std.specs.Ordering.{is_lt}
use Rattle.std.specs.Prelude.{Bool, if◌then◌else◌}
use Rattle.std.specs.declared.cmp.Ordering.TheVariants.{Equal, Greater, Less}
use Rattle.std.specs.declared.cmp.Ordering.{Ordering}

less_is : (o : Ordering) → is_lt o ≡ true → o ≡ Less
less_is Less e = refl
less_is Equal e = cc
less_is Greater e = cc

skip_one : (c d : Change) (ds : List Change) → are_in_order (c ∷ d ∷ ds) ≡ true → are_in_order (c ∷ ds) ≡ true
skip_one c d [] h = refl
skip_one c d (e ∷ es) h =
    let rest = right (is_lt (change_cmp c d)) (are_in_order (d ∷ e ∷ es)) h in
    join (is_lt (change_cmp c e)) (are_in_order (e ∷ es))
    (ap is_lt (place_total.trans (changed_at c) (changed_at d) (changed_at e) (less_is (change_cmp c d) (left (is_lt (change_cmp c d)) (are_in_order (d ∷ e ∷ es)) h)) (less_is (change_cmp d e) (left (is_lt (change_cmp d e)) (are_in_order (e ∷ es)) rest))))
    (right (is_lt (change_cmp d e)) (are_in_order (e ∷ es)) rest)

behind_first : (c : Change) (cs : List Change) → are_in_order (c ∷ cs) ≡ true → are_in_order cs ≡ true
behind_first c [] h = refl
behind_first c (d ∷ ds) h = right (is_lt (change_cmp c d)) (are_in_order (d ∷ ds)) h

from_first : (f : Change → Bool) (c : Change) (ds : List Change) → are_in_order (c ∷ ds) ≡ true → are_in_order (c ∷ filter f ds) ≡ true
from_first f c [] h = h
from_first f c (d ∷ ds) h = by (f d) (from_first f d ds (behind_first c (d ∷ ds) h)) (from_first f c ds (skip_one c d ds h))
  where
    by : (b : Bool) → are_in_order (d ∷ filter f ds) ≡ true → are_in_order (c ∷ filter f ds) ≡ true → are_in_order (c ∷ (if b then d ∷ filter f ds else filter f ds)) ≡ true
    by true x y = join (is_lt (change_cmp c d)) (are_in_order (d ∷ filter f ds)) (left (is_lt (change_cmp c d)) (are_in_order (d ∷ ds)) h) x
    by false x y = y

pub in_order_filter : (f : Change → Bool) (cs : List Change) → are_in_order cs ≡ true → are_in_order (filter f cs) ≡ true
in_order_filter f [] h = refl
in_order_filter f (c ∷ cs) h = by (f c) (from_first f c cs h)
  where
    by : (b : Bool) → are_in_order (c ∷ filter f cs) ≡ true → are_in_order (if b then c ∷ filter f cs else filter f cs) ≡ true
    by true x = x
    by false x = behind_first c (filter f cs) x

-- what fits its partition is sound in it
pub share_fits : {D : Type 0} (r : Reading D) (c : Coordinator D) (p : ℕ) (cs : List Change) → list_all (fits_its_part r c) cs ≡ true → list_all (is_sound_change r c p) (changes_at c.log.header.shape p cs) ≡ true
share_fits r c p [] h = refl
share_fits r c p (ch ∷ chs) h = by (is_of_part c.log.header.shape p ch) refl (share_fits r c p chs (right (fits_its_part r c ch) (list_all (fits_its_part r c) chs) h))
  where
    by : (b : Bool) → is_of_part c.log.header.shape p ch ≡ b → list_all (is_sound_change r c p) (changes_at c.log.header.shape p chs) ≡ true
        → list_all (is_sound_change r c p) (if b then ch ∷ changes_at c.log.header.shape p chs else changes_at c.log.header.shape p chs) ≡ true
    by true e more =
        let same = (Decides-eqb (part_of_key c.log.header.shape ch.key) p).0 e in
        join (is_sound_change r c p ch) (list_all (is_sound_change r c p) (changes_at c.log.header.shape p chs)) (subst (λ k. is_sound_change r c k ch ≡ true) same (left (fits_its_part r c ch) (list_all (fits_its_part r c) chs) h)) more
    by false e more = more
