-- A new row in a store, and one change of it.
use Rattle.salt_bytes.specs.Page.{TableRow}
use Rattle.salt_checkpoint.proofs.Torn.{keeps_all, keeps_more}
use Rattle.salt_checkpoint.specs.Sides.{KeepsNamed, NamedSame}
use Rattle.salt_directory.proofs.Bounds.{removed_most, within_more, within_on, within_one}
use Rattle.salt_directory.specs.Bytes.{IsWithin, bytes_of_entries, row_bytes}
use Rattle.salt_directory.specs.Pages.{free_on}
use Rattle.salt_directory.specs.Rows.{one_row}
use Rattle.salt_directory.specs.Space.{HasRoom, may_grow}
use Rattle.salt_disk.specs.Disks.{KeepsAll, View}
use Rattle.salt_disk.specs.declared.disks.DiskErr.{DiskErr}
use Rattle.salt_model.specs.Tables.{Tables, place_cmp, put_row, remove_at, row_at}
use Rattle.salt_model.specs.declared.places.Place.{Place}
use Rattle.salt_pool.specs.Pools.{IsPool, with_dirty, with_frame}
use Rattle.salt_rows.proofs.Bounded.{few_growing, few_in}
use Rattle.salt_rows.proofs.Changing.{gone_there, put_again, standing_fresh}
use Rattle.salt_rows.specs.Changing.{IsFresh}
use Rattle.salt_rows.specs.Stores.{IsRowStore, IsStanding, HasRowsStanding, StandsOnPages, page_count}
use Rattle.salt_rows.specs.declared.store.RowStore.{RowStore}
use Rattle.salt_values.specs.Value.{key_of}
use Rattle.salt_values.specs.declared.value.Value.{Value}
use Rattle.std.proofs.Common.{IsTrue, List, None, Option, Some, [], ap, length, refl, subst, sym, true, ℕ, ◌+◌, ◌++◌, ◌≡◌, ◌≤◌, ◌∙◌, ◌∷◌}
use Rattle.std.specs.BTreeMap.{insert_entry}

-- ON A NEW PAGE

pub fresh_made : (x z : RowStore) (q : Place) (row : List Value) (made : List TableRow) (free page : ℕ) → made ≡ one_row q.table (Some row) → free ≡ free_on made → page ≡ length x.sides.items
    → z.pool ≡ with_dirty (with_frame x.pool page made) (record { page = page; side = 0 }) → IsPool z.pool → z.sides.items ≡ x.sides.items ++ 0 ∷ [] → z.space ≡ x.space ++ free ∷ [] → z.named ≡ x.named
    → z.directory ≡ insert_entry place_cmp x.directory q page → IsFresh x z q row
fresh_made x z q row made free page is own at pool is_pool sides space names entries = record {
  free = free;
  own = own ∙ ap free_on is;
  pool = pool ∙ λ i. with_dirty (with_frame x.pool (at i) (is i)) (record { page = at i; side = 0 });
  is_pool = is_pool;
  sides = sides;
  space = space;
  named = names;
  directory = entries ∙ ap (λ n. insert_entry place_cmp x.directory q n) at;
}

module _ (d : View) (x z : RowStore) (dev : ℕ) (named : List ℕ) (t : Tables) (is : IsRowStore d x dev named t) where
  pub fresh_here : (q : Place) (row : List Value) → key_of row ≡ q.key → row_at q t ≡ None → IsFresh x z q row → IsStanding d z dev named (put_row q row t)
  fresh_here q row key none made = standing_fresh d x dev named t is.is q row (one_row q.table (Some row)) made.free z key none refl made.own made.pool made.sides made.space made.named made.directory made.is_pool

  -- it is needed only where the others are full
  pub fresh_within : (row : List Value) → IsTrue d.told → HasRoom x.space (row_bytes row) None → row_bytes row ≤ 4115 → page_count z ≤ page_count x + 1 → IsWithin (page_count x) (bytes_of_entries t.list) (page_count z)
  fresh_within row told none small more =
      within_one (page_count x) (bytes_of_entries t.list) (page_count z) (few_in (d.bytes dev) x.pool x.sides.items x.space x.directory t (is.is.told told) (row_bytes row) small none) more

-- A ROW PUT where the old one was taken out

-- a store that some rows stand in, behind a call that says what it leaves
pub stands_in : (d e : View) (x y : RowStore) (to : Tables → Tables) → ((dev : ℕ) (named : List ℕ) (t : Tables) → IsRowStore d x dev named t → IsRowStore e y dev named (to t)) → StandsOnPages d x → StandsOnPages e y
stands_in d e x y to on s = record { dev = s.dev; named = s.named; t = to s.t; is = on s.dev s.named s.t s.is }

module _ (d e1 e2 : View) (x x1 x2 : RowStore) (q : Place) (row : List Value)
    (left : (dev : ℕ) (named : List ℕ) (t : Tables) → IsRowStore d x dev named t → IsRowStore e1 x1 dev named (remove_at q t))
    (puts : (dev : ℕ) (named : List ℕ) (t : Tables) → IsRowStore e1 x1 dev named t → row_at q t ≡ None → IsStanding e2 x2 dev named (put_row q row t)) where
  -- the row stands then, before room is made
  pub put_stands : (dev : ℕ) (named : List ℕ) (t : Tables) → IsRowStore d x dev named t → IsStanding e2 x2 dev named (put_row q row t)
  put_stands dev named t is = subst (IsStanding e2 x2 dev named) (put_again q row t) (puts dev named (remove_at q t) (left dev named t is) (gone_there q t))

  pub put_some : StandsOnPages d x → HasRowsStanding e2 x2
  put_some s = record { dev = s.dev; named = s.named; t = put_row q row s.t; is = put_stands s.dev s.named s.t s.is }

-- images of calls, the second of which writes nothing
pub images_kept : (named : List ℕ) (d e1 e2 : View) (dev : ℕ) (answer : Option DiskErr) → KeepsNamed named d e1 dev → KeepsAll e1 e2 answer → KeepsNamed named d e2 dev
images_kept named d e1 e2 dev answer images kept = keeps_more named d e1 e2 dev images (keeps_all named e1 e2 dev (kept.images dev (λ h. h)))

pub named_kept : (named : List ℕ) (d e1 e2 : View) (dev : ℕ) → NamedSame named (d.bytes dev) (e1.bytes dev) → KeepsAll e1 e2 None → NamedSame named (d.bytes dev) (e2.bytes dev)
named_kept named d e1 e2 dev same kept = subst (λ (bytes : List ℕ). NamedSame named (d.bytes dev) bytes) (sym (kept.kept dev (λ h. h)).bytes) same

-- with a row taken out there are at most as many pages
pub within_taken : (q : Place) (t : Tables) (n m k : ℕ) → n ≡ m → IsWithin n (bytes_of_entries (remove_at q t).list) k → IsWithin m (bytes_of_entries t.list) k
within_taken q t n m k same within =
    within_more m (bytes_of_entries (remove_at q t).list) (bytes_of_entries t.list) k (removed_most q t) (subst (λ c. IsWithin c (bytes_of_entries (remove_at q t).list) k) same within)

-- nor are there more behind a row that is put where one was taken out
pub within_put : (q : Place) (t : Tables) (n k m : ℕ) → IsWithin n (bytes_of_entries t.list) k → IsWithin k (bytes_of_entries (remove_at q t).list) m → IsWithin n (bytes_of_entries t.list) m
within_put q t n k m first second =
    within_on n k m (bytes_of_entries t.list) first (within_more k (bytes_of_entries (remove_at q t).list) (bytes_of_entries t.list) m (removed_most q t) second)

-- a page is split only where there may be one more
pub split_within : (d : View) (x z : RowStore) (dev : ℕ) (named : List ℕ) (t : Tables) → IsRowStore d x dev named t → IsTrue d.told → may_grow x.space ≡ true → page_count z ≤ page_count x + 1 → IsWithin (page_count x) (bytes_of_entries t.list) (page_count z)
split_within d x z dev named t is told grows more =
    within_one (page_count x) (bytes_of_entries t.list) (page_count z) (few_growing (d.bytes dev) x.pool x.sides.items x.space x.directory t (is.is.told told) grows) more
