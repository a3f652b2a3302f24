-- Pages that a header names are listed, one after another, and a store is opened on them.
use Rattle.salt_bytes.specs.Page.{TableRow, page_length, page_place}
use Rattle.salt_bytes.specs.Spellable.{Every}
use Rattle.salt_directory.proofs.Listed.{empty_page, no_directory, none_there, twins_there, unsound_there}
use Rattle.salt_directory.proofs.PageAt.{page_end, rows_all}
use Rattle.salt_directory.proofs.Split.{rows_push}
use Rattle.salt_directory.proofs.Wider.{page_at_wider}
use Rattle.salt_directory.specs.Directories.{HasPagesBelow}
use Rattle.salt_directory.specs.Listing.{AreNoPages, AreSound, AreUnsound, HaveTwins, IsDirectory, tables_on}
use Rattle.salt_directory.specs.Pages.{all_rows, free_on}
use Rattle.salt_directory.specs.declared.error.ListErr.TheVariants.{Memory, Twins, Unsound}
use Rattle.salt_directory.specs.declared.error.ListErr.{ListErr}
use Rattle.salt_disk.proofs.CallAfterCall.{cause_memory, cause_none, cause_on, keeps_on}
use Rattle.salt_disk.specs.Disks.{HasCause, KeepsAll, View}
use Rattle.salt_gatelog.proofs.Entries.{keeps_without_memory}
use Rattle.salt_model.specs.Tables.{Tables, no_rows}
use Rattle.salt_model.specs.declared.places.Place.{Place}
use Rattle.salt_pool.specs.Pools.{IsPool}
use Rattle.salt_pool.specs.declared.places.Dirty.{Dirty}
use Rattle.salt_rows.proofs.Applied.{keeps_same}
use Rattle.salt_rows.proofs.Changing.{have_as, kept_as}
use Rattle.salt_rows.proofs.Standing.{side_low}
use Rattle.salt_rows.specs.Errors.{rows_disk_err, unlisted}
use Rattle.salt_rows.specs.Frames.{Frames}
use Rattle.salt_rows.specs.Sides.{sides_up_to}
use Rattle.salt_rows.specs.Stores.{AreKept, HaveRows, HavePages, IsRowStore, IsSide, IsSpare}
use Rattle.salt_rows.specs.declared.error.RowsErr.TheVariants.{NotPage, NotRow}
use Rattle.salt_rows.specs.declared.store.RowStore.{RowStore}
use Rattle.salt_stands.specs.Partition.{page_at, rows_from}
use Rattle.std.proofs.Common.{Bool, Err, IsTrue, List, None, Some, [], ap, arith, cond, false, get_or, inl, inr, length, map, nat_eq, refl, subst, sym, true, ℕ, ◌&&◌, ◌*◌, ◌+◌, ◌++◌, ◌-◌, ◌<◌, ◌^◌, ◌≡◌, ◌≤◌, ◌⊎◌, ◌∙◌, ◌∷◌}
use Rattle.std.proofs.lemmas.Bool.{cases_eq}
use Rattle.std.proofs.lemmas.Bool.Decides.{nat_tests}
use Rattle.std.proofs.lemmas.List.Folds.{list_all-append}
use Rattle.std.proofs.lemmas.List.{get_or_append_left, get_or_push, length_push, map_push}
use Rattle.std.specs.List.{list_all}
use Rattle.std.specs.Map.{lookup}
use Rattle.std.specs.Prelude.{nat_lt}

from_zero : (i : ℕ) → i ≡ 0 + i
from_zero i = omega arith

-- HOW FAR THE SIDES REACH

up_to : (sides : List ℕ) → 1 ≤ length sides → sides_up_to sides ≡ 2 * (length sides - 1) + get_or sides (length sides - 1) 0 + 1
up_to sides some = ap (λ b. cond b (2 * (length sides - 1) + get_or sides (length sides - 1) 0 + 1) 0) has
  where
    has : nat_lt 0 (length sides) ≡ true
    has = grind (arith, nat_tests, some)

up_to_none : (sides : List ℕ) → length sides ≡ 0 → sides_up_to sides ≡ 0
up_to_none sides none = ap (λ b. cond b (2 * (length sides - 1) + get_or sides (length sides - 1) 0 + 1) 0) has
  where
    has : nat_lt 0 (length sides) ≡ false
    has = grind (arith, nat_tests, none)

pub few_sides : (sides : List ℕ) → Every IsSide sides → length sides < 2 ^ 32 → sides_up_to sides ≤ 2 ^ 33
few_sides sides low few = by (cases_eq (length sides) 0)
  where
    by : (length sides ≡ 0) ⊎ (length sides ≡ 0 → ⊥) → sides_up_to sides ≤ 2 ^ 33
    by (inl none) = omega (arith, up_to_none sides none)
    by (inr some) = omega (arith, up_to sides (omega (arith, some)), side_low sides (length sides - 1) low, few)

page_ends : (sides : List ℕ) → Every IsSide sides → (page : ℕ) → page < length sides → page_place page (get_or sides page 0) + page_length ≤ sides_up_to sides * 8192
page_ends sides low page within = by (cases_eq page (length sides - 1))
  where
    reach : sides_up_to sides ≡ 2 * (length sides - 1) + get_or sides (length sides - 1) 0 + 1
    reach = up_to sides (omega (arith, within))

    by : (page ≡ length sides - 1) ⊎ (page ≡ length sides - 1 → ⊥) → page_place page (get_or sides page 0) + page_length ≤ sides_up_to sides * 8192
    by (inl last) =
        let side : get_or sides page 0 ≡ get_or sides (length sides - 1) 0 = ap (λ n. get_or sides n 0) last in
        omega (arith, reach, side, last)
    by (inr other) = omega (arith, reach, side_low sides page low, other, within)

-- PAGE BY PAGE

-- the first n pages, where the disks tell
pub record ListedPages (is_sound : TableRow → Bool) (nulls : Bool) (bytes sides : List ℕ) (n : ℕ) (directory : List (Place × ℕ)) (space : List ℕ) : Type 0 where
  pub pages : List (List TableRow)
  pub count : length pages ≡ n
  pub stand : (i : ℕ) → i < n → page_at nulls bytes i (get_or sides i 0) ≡ Some (get_or pages i [])
  pub are : IsDirectory directory pages
  pub free : space ≡ map free_on pages
  pub sound : list_all is_sound (all_rows pages) ≡ true

pub record IsListing (is_sound : TableRow → Bool) (d0 d : View) (dev : ℕ) (nulls : Bool) (sides : List ℕ) (n : ℕ) (directory : List (Place × ℕ)) (space : List ℕ) : Type 0 where
  pub told : IsTrue d0.told → ListedPages is_sound nulls (d0.bytes dev) sides n directory space
  pub counted : length space ≡ n
  pub below : HasPagesBelow directory n
  pub within : n ≤ length sides
  pub kept : KeepsAll d0 d None
  pub cause : HasCause d0 d None

pub listing_begins : (sound : TableRow → Bool) (d0 : View) (dev : ℕ) (nulls : Bool) (sides : List ℕ) → IsListing sound d0 d0 dev nulls sides 0 [] []
listing_begins sound d0 dev nulls sides = record {
  told = λ told. record { pages = []; count = refl; stand = λ i low. absurd (omega (arith, low)); are = no_directory; free = refl; sound = refl };
  counted = refl;
  below = λ q page found. absurd (nowhere page found);
  within = omega arith;
  kept = keeps_same (λ _. ⊥) d0;
  cause = cause_none d0;
}
  where
    nowhere : (page : ℕ) → None ≡ Some page → ⊥
    nowhere page e = cc

module _ (sound : TableRow → Bool) (d0 d : View) (dev : ℕ) (nulls : Bool) (sides : List ℕ) (n : ℕ) (directory : List (Place × ℕ)) (space : List ℕ) (so : IsListing sound d0 d dev nulls sides n directory space) (low : n < length sides) (side : ℕ) (at : side ≡ get_or sides n 0) where
  -- the bytes are those from before
  same_page : (o : _) → page_at nulls (d.bytes dev) n side ≡ o → page_at nulls (d0.bytes dev) n (get_or sides n 0) ≡ o
  same_page o is = subst (λ (bytes : List ℕ). page_at nulls bytes n (get_or sides n 0) ≡ o) (so.kept.kept dev (λ h. h)).bytes (subst (λ s. page_at nulls (d.bytes dev) n s ≡ o) at is)

  pub none_found : (IsTrue d.told → page_at nulls (d.bytes dev) n side ≡ None) → IsTrue d0.told → AreNoPages nulls (d0.bytes dev) sides
  none_found none told = none_there nulls (d0.bytes dev) sides n low (same_page None (none (so.kept.shape.told ∙ told)))

  module _ (rows : List TableRow) (page : IsTrue d.told → page_at nulls (d.bytes dev) n side ≡ Some rows) where
    module _ (told : IsTrue d0.told) where
      has : ListedPages sound nulls (d0.bytes dev) sides n directory space
      has = so.told told

      more : List (List TableRow)
      more = has.pages ++ rows ∷ []

      stand_more : (i : ℕ) → i < n + 1 → page_at nulls (d0.bytes dev) i (get_or sides i 0) ≡ Some (get_or more i [])
      unfolding more
      stand_more i within = by (cases_eq i n)
        where
          by : (i ≡ n) ⊎ (i ≡ n → ⊥) → page_at nulls (d0.bytes dev) i (get_or sides i 0) ≡ Some (get_or (has.pages ++ rows ∷ []) i [])
          by (inl last) =
              ap (λ k. page_at nulls (d0.bytes dev) k (get_or sides k 0)) last ∙ same_page (Some rows) (page (so.kept.shape.told ∙ told))
              ∙ ap (λ (l : List TableRow). Some l) (sym (get_or_push has.pages rows [] n has.count)) ∙ ap (λ k. Some (get_or (has.pages ++ rows ∷ []) k [])) (sym last)
          by (inr other) =
              let first : i < n = omega (arith, within, other) in
              has.stand i first ∙ ap (λ (l : List TableRow). Some l) (sym (get_or_append_left has.pages (rows ∷ []) [] i (omega (arith, first, has.count))))

      with_empty : IsDirectory directory (has.pages ++ [] ∷ [])
      with_empty = empty_page directory has.pages has.are (subst (λ m. HasPagesBelow directory m) (sym has.count) so.below)

    -- a row is not sound
    pub unsound_found : list_all sound rows ≡ false → IsTrue d0.told → AreUnsound sound nulls (d0.bytes dev) sides
    unfolding has more stand_more with_empty
    unsound_found unsound told =
        let own = has told in
        unsound_there sound nulls (d0.bytes dev) sides (more told) (omega (arith, length_push own.pages rows, own.count, low)) (λ i within. stand_more told i (omega (arith, within, length_push own.pages rows, own.count)))
        (ap (list_all sound) (rows_push own.pages rows) ∙ list_all-append sound (all_rows own.pages) rows ∙ (λ i. own.sound i && unsound i))

    -- two rows stand at one place
    pub twins_found : ((pages : List (List TableRow)) → n ≡ length pages → IsDirectory directory (pages ++ [] ∷ []) → HaveTwins (all_rows (pages ++ rows ∷ []))) → IsTrue d0.told → AreNoPages nulls (d0.bytes dev) sides
    unfolding has more stand_more with_empty
    twins_found twins told =
        let own = has told in
        twins_there nulls (d0.bytes dev) sides (more told) (omega (arith, length_push own.pages rows, own.count, low)) (λ i within. stand_more told i (omega (arith, within, length_push own.pages rows, own.count))) (twins own.pages (sym own.count) (with_empty told))

    -- one page more is listed
    pub one_more : (e : View) (directory' : List (Place × ℕ)) (space' : List ℕ) → KeepsAll d e None → HasCause d e None
        → ((pages : List (List TableRow)) → n ≡ length pages → IsDirectory directory (pages ++ [] ∷ []) → IsDirectory directory' (pages ++ rows ∷ [])) → (HasPagesBelow directory n → HasPagesBelow directory' (n + 1)) → space' ≡ space ++ free_on rows ∷ [] → list_all sound rows ≡ true
        → IsListing sound d0 e dev nulls sides (n + 1) directory' space'
    unfolding has more stand_more with_empty
    one_more e directory' space' kept cause listed below is fits = record {
      told = λ told.
          let own = has told in
          record {
            pages = own.pages ++ rows ∷ [];
            count = omega (arith, length_push own.pages rows, own.count);
            stand = stand_more told;
            are = listed own.pages (sym own.count) (with_empty told);
            free = is ∙ (λ i. own.free i ++ free_on rows ∷ []) ∙ sym (map_push free_on own.pages rows);
            sound = ap (list_all sound) (rows_push own.pages rows) ∙ list_all-append sound (all_rows own.pages) rows ∙ (λ i. own.sound i && fits i);
          };
      counted = omega (arith, so.counted, ap (λ (l : List ℕ). length l) is, length_push space (free_on rows));
      below = below so.below;
      within = omega (arith, low);
      kept = keeps_on (λ _. ⊥) d0 d e None so.kept kept;
      cause = cause_on d0 d e None so.cause cause;
    }

-- A PAGE IS NOT LISTED

pub are_twins : (e : ListErr) → unlisted e ≡ NotPage → e ≡ Twins
are_twins Twins is = refl
are_twins Unsound is = absurd cc
are_twins Memory is = absurd cc

pub is_unsound : (e : ListErr) → unlisted e ≡ NotRow → e ≡ Unsound
is_unsound Twins is = absurd cc
is_unsound Unsound is = refl
is_unsound Memory is = absurd cc

pub unlisted_kept : (d e : View) (err : ListErr) → KeepsAll d e None → KeepsAll d e (rows_disk_err {T = RowStore} (Err (unlisted err)))
unlisted_kept d e Twins kept = kept
unlisted_kept d e Unsound kept = kept
unlisted_kept d e Memory kept = keeps_without_memory d e kept

pub unlisted_cause : (d e : View) (err : ListErr) → HasCause d e None → HasCause d e (rows_disk_err {T = RowStore} (Err (unlisted err)))
unlisted_cause d e Twins cause = cause
unlisted_cause d e Unsound cause = cause
unlisted_cause d e Memory cause = cause_memory d e cause

-- ALL OF THEM

pub all_pages : (sound : TableRow → Bool) (d0 d : View) (dev : ℕ) (nulls : Bool) (sides : List ℕ) (n : ℕ) (directory : List (Place × ℕ)) (space : List ℕ) → length sides ≤ n → IsListing sound d0 d dev nulls sides n directory space → IsListing sound d0 d dev nulls sides (length sides) directory space
all_pages sound d0 d dev nulls sides n directory space end so = let last : n ≡ length sides = omega (arith, end, so.within) in subst (λ m. IsListing sound d0 d dev nulls sides m directory space) last so

module _ (sound : TableRow → Bool) (d0 d : View) (dev : ℕ) (nulls : Bool) (sides : List ℕ) (directory : List (Place × ℕ)) (space : List ℕ) (so : IsListing sound d0 d dev nulls sides (length sides) directory space) (low : Every IsSide sides) where
  -- the device reaches to the end of the last page's side
  pub reaches : IsTrue d.told → sides_up_to sides * 8192 ≤ length (d.bytes dev)
  reaches told = by (cases_eq (length sides) 0)
    where
      by : (length sides ≡ 0) ⊎ (length sides ≡ 0 → ⊥) → sides_up_to sides * 8192 ≤ length (d.bytes dev)
      by (inl none) = omega (arith, up_to_none sides none)
      by (inr some) =
          let has = so.told (sym so.kept.shape.told ∙ told) in
          let last = length sides - 1 in
          let end = page_end nulls (d0.bytes dev) last (get_or sides last 0) (get_or has.pages last []) (has.stand last (omega (arith, some))) in
          omega (arith, up_to sides (omega (arith, some)), end, ap (λ (l : List ℕ). length l) (so.kept.kept dev (λ h. h)).bytes)

  -- the rows that are read are those of the pages
  all_read : (told : IsTrue d0.told) → rows_from nulls (d0.bytes dev) 0 sides ≡ Some (all_rows (so.told told).pages)
  all_read told =
      let has = so.told told in
      rows_all nulls (d0.bytes dev) 0 sides has.pages has.count (λ i within. subst (λ n. page_at nulls (d0.bytes dev) n (get_or sides i 0) ≡ Some (get_or has.pages i [])) (from_zero i) (has.stand i within))

  -- each of them is sound
  pub all_judged : IsTrue d0.told → AreSound sound nulls (d0.bytes dev) sides
  unfolding all_read
  all_judged told rows is =
      let same : rows ≡ all_rows (so.told told).pages = some_same (sym is ∙ all_read told) in
      ap (list_all sound) same ∙ (so.told told).sound
    where
      some_same : {xs ys : List TableRow} → Some xs ≡ Some ys → xs ≡ ys
      some_same e = cc

  module _ (pool : Frames) (none : pool.frames.entries ≡ []) (clean : pool.dirty.items ≡ []) (codec : pool.codec ≡ record { nulls = true }) (is_pool : IsPool pool) (least : sides_up_to sides * 8192 ≤ pool.len) where
    kept_opened : AreKept pool sides sides space directory
    kept_opened = record {
      is_pool = is_pool;
      codec = codec;
      named_low = low;
      sides_low = low;
      listed = omega arith;
      counted = so.counted;
      spare = subst (Every (IsSpare sides sides)) (sym clean) tt;
      beyond = λ q high. ap (λ (es : List (ℕ × List TableRow)). lookup (nat_eq q) es) none;
      pointed = so.below;
      named_end = λ page within. omega (arith, page_ends sides low page within, least);
      side_end = λ page within undirtied. omega (arith, page_ends sides low page within, least);
    }

    have_opened : (told : IsTrue d0.told) → pool.len ≡ length (d0.bytes dev) → HavePages (d0.bytes dev) pool sides space directory (tables_on (so.told told).pages)
    have_opened told long =
        let has = so.told told in
        record {
          pages = has.pages;
          are = record {
            count = has.count;
            framed = λ page own within is. absurd (nowhere own (sym (ap (λ (es : List (ℕ × List TableRow)). lookup (nat_eq page) es) none) ∙ is));
            stand = λ page within undirtied. page_at_wider nulls (d0.bytes dev) page (get_or sides page 0) (get_or has.pages page []) (has.stand page within);
          };
          rows = has.are;
          free = has.free;
          long = long;
        }
      where
        nowhere : (own : List TableRow) → None ≡ Some own → ⊥
        nowhere own e = cc

    module _ (e : View) (x : RowStore) (kept : KeepsAll d e None) (known : dev < d0.count) (device : pool.dev ≡ dev) (long : IsTrue d.told → pool.len ≡ length (d.bytes dev)) (pools : pool ≡ x.pool) (names : sides ≡ x.named) (on : sides ≡ x.sides.items) (spaces : space ≡ x.space)
        (entries : directory ≡ x.directory) where
      kept_now : AreKept x.pool x.named x.sides.items x.space x.directory
      unfolding kept_opened
      kept_now = subst (λ (D : List (Place × ℕ)). AreKept x.pool x.named x.sides.items x.space D) entries (kept_as pool x.pool sides x.named sides x.sides.items space x.space directory pools names on spaces kept_opened)

      told_now : (told : IsTrue d0.told) → HavePages (e.bytes dev) x.pool x.sides.items x.space x.directory (tables_on (so.told told).pages)
      unfolding have_opened
      told_now told =
          let t = tables_on (so.told told).pages in
          let bytes : e.bytes dev ≡ d.bytes dev = (kept.kept dev (λ h. h)).bytes in
          let before : d.bytes dev ≡ d0.bytes dev = (so.kept.kept dev (λ h. h)).bytes in
          let has = have_opened told (long (so.kept.shape.told ∙ told) ∙ ap (λ (l : List ℕ). length l) before) in
          subst (λ (b : List ℕ). HavePages b x.pool x.sides.items x.space x.directory t) (sym (bytes ∙ before))
          (subst (λ (D : List (Place × ℕ)). HavePages (d0.bytes dev) x.pool x.sides.items x.space D t) entries
          (have_as (d0.bytes dev) pool x.pool sides x.sides.items space x.space directory t pools on spaces has))

      store : (t : Tables) → (IsTrue e.told → HavePages (e.bytes dev) x.pool x.sides.items x.space x.directory t) → IsRowStore e x dev sides t
      unfolding kept_now
      store t told = record {
        is = record {
          device = ap (λ (p : Frames). p.dev) (sym pools) ∙ device;
          known = omega (arith, known, kept.shape.count, so.kept.shape.count);
          names = sym names;
          kept = kept_now;
          told = told;
        };
        few = omega (arith, ap (λ (p : Frames). length p.dirty.items) pools, ap (λ (ds : List Dirty). length ds) clean);
      }

      pub opened : (t : Tables) × IsRowStore e x dev sides t × (IsTrue d0.told → HaveRows nulls (d0.bytes dev) sides t)
      unfolding all_read told_now store
      opened = by d0.told refl
        where
          clash : true ≡ false → ⊥
          clash e = cc

          by : (b : Bool) → d0.told ≡ b → (t : Tables) × IsRowStore e x dev sides t × (IsTrue d0.told → HaveRows nulls (d0.bytes dev) sides t)
          by true told =
              let has = so.told told in (
                tables_on has.pages,
                store (tables_on has.pages) (λ again. told_now told),
                λ again. record {
                  rows = all_rows has.pages;
                  read = all_read told;
                  apart = has.are.apart;
                  tables = has.are.tables;
                },
              )
          by false untold = (
            no_rows,
            store no_rows (λ told. absurd (clash (sym told ∙ kept.shape.told ∙ so.kept.shape.told ∙ untold))),
            λ told. absurd (clash (sym told ∙ untold)),
          )
