-- Changes are made one after another.
use Rattle.salt_bytes.specs.Page.{page_place}
use Rattle.salt_bytes.specs.Spellable.{Every}
use Rattle.salt_checkpoint.proofs.Torn.{keeps_all, keeps_more, named_on, named_refl}
use Rattle.salt_checkpoint.specs.Sides.{KeepsNamed, NamedSame}
use Rattle.salt_codec.specs.Entries.{CanBePut}
use Rattle.salt_directory.proofs.Bounds.{change_most, within_more, within_on, within_same}
use Rattle.salt_directory.specs.Bytes.{IsWithin, bytes_of_changes, bytes_of_entries}
use Rattle.salt_disk.proofs.CallAfterCall.{cause_none, cause_on, keeps_on, same_shape}
use Rattle.salt_disk.specs.Disks.{FullOnly, HasCause, KeepsBut, KeepsOthers, View}
use Rattle.salt_disk.specs.declared.disks.DiskErr.{DiskErr}
use Rattle.salt_model.specs.Tables.{Tables, make_change, with_changes}
use Rattle.salt_rows.specs.Stores.{IsRowStore, StandsOnPages, device_of, page_count}
use Rattle.salt_rows.specs.declared.store.RowStore.{RowStore}
use Rattle.salt_values.specs.declared.change.Change.{Change}
use Rattle.std.proofs.Common.{IsTrue, List, None, Option, [], ap, arith, drop, get_or, length, refl, subst, sym, true, ℕ, ◌+◌, ◌<◌, ◌≡◌, ◌≤◌, ◌∙◌, ◌∷◌}
use Rattle.std.proofs.lemmas.List.{drop_all, drop_more}

-- nothing is done yet
pub keeps_same : (touched : ℕ → Type 0) (d : View) → KeepsBut touched d d None
keeps_same touched d = record {
  shape = same_shape d;
  kept = λ dev other. record { bytes = refl; images = λ image left. left };
  images = λ dev other image left. left;
}

-- these changes are left of all, for rows that stood in the store at first
pub record IsApplied (d0 d : View) (x0 x : RowStore) (dev : ℕ) (named : List ℕ) (t : Tables) (all left : List Change) : Type 0 where
  pub now : Tables
  pub is : IsRowStore d x dev named now
  pub made : with_changes left now ≡ with_changes all t
  pub bytes : bytes_of_entries now.list + bytes_of_changes left ≤ bytes_of_entries t.list + bytes_of_changes all
  pub pages : IsTrue d0.told → IsWithin (page_count x0) (bytes_of_entries t.list + bytes_of_changes all) (page_count x)
  pub images : KeepsNamed named d0 d dev
  pub sides : IsTrue d0.told → NamedSame named (d0.bytes dev) (d.bytes dev)

pub record IsApplying (d0 d : View) (x0 x : RowStore) (all left : List Change) : Type 0 where
  pub of : (dev : ℕ) (named : List ℕ) (t : Tables) → IsRowStore d0 x0 dev named t → IsApplied d0 d x0 x dev named t all left
  pub put : Every (CanBePut true) left
  pub device : device_of x ≡ device_of x0
  pub others : KeepsOthers (device_of x0) d0 d None
  pub cause : HasCause d0 d None

pub applying_begins : (d0 : View) (x0 : RowStore) (all : List Change) → Every (CanBePut true) all → IsApplying d0 d0 x0 x0 all all
applying_begins d0 x0 all put = record {
  of = λ dev named t is. record {
    now = t;
    is = is;
    made = refl;
    bytes = omega arith;
    pages = λ told. within_same (page_count x0) (bytes_of_entries t.list + bytes_of_changes all) (page_count x0) refl;
    images = keeps_all named d0 d0 dev (λ image left. left);
    sides = λ told. named_refl named (d0.bytes dev);
  };
  put = put;
  device = refl;
  others = keeps_same (λ dev. dev ≡ device_of x0) d0;
  cause = cause_none d0;
}

-- the next one, by its number
pub next_change : (d0 d : View) (x0 x : RowStore) (all : List Change) (i : ℕ) (c : Change) → i < length all → c ≡ get_or all i c → IsApplying d0 d x0 x all (drop i all) → IsApplying d0 d x0 x all (c ∷ drop (i + 1) all)
next_change d0 d x0 x all i c low is so_far = subst (IsApplying d0 d x0 x all) (drop_more all i c low ∙ ap (λ (k : Change). k ∷ drop (i + 1) all) (sym is)) so_far

pub no_more : (d0 d : View) (x0 x : RowStore) (all : List Change) (i : ℕ) → length all ≤ i → IsApplying d0 d x0 x all (drop i all) → IsApplying d0 d x0 x all []
no_more d0 d x0 x all i end so_far = subst (IsApplying d0 d x0 x all) (drop_all i all end) so_far

module _ (d0 d e : View) (x0 x y : RowStore) (all : List Change) (c : Change) (left : List Change) (so_far : IsApplying d0 d x0 x all (c ∷ left)) where
  -- what is kept of the store stands on all the way
  pub still_stands : StandsOnPages d0 x0 → StandsOnPages d x
  still_stands some = let of = so_far.of some.dev some.named some.t some.is in record { dev = some.dev; named = some.named; t = of.now; is = of.is }

  module _ (device : device_of y ≡ device_of x) (others : KeepsOthers (device_of x) d e None) (cause : HasCause d e None)
      (rows : (dev : ℕ) (named : List ℕ) (t : Tables) → IsRowStore d x dev named t → IsRowStore e y dev named (make_change c t))
      (images : (dev : ℕ) (named : List ℕ) (t : Tables) → IsRowStore d x dev named t → KeepsNamed named d e dev)
      (sides : (dev : ℕ) (named : List ℕ) (t : Tables) → IsRowStore d x dev named t → IsTrue d.told → NamedSame named (d.bytes dev) (e.bytes dev))
      (pages : (dev : ℕ) (named : List ℕ) (t : Tables) → IsRowStore d x dev named t → IsTrue d.told → IsWithin (page_count x) (bytes_of_entries t.list) (page_count y)) where
    one_applied : (dev : ℕ) (named : List ℕ) (t : Tables) → IsApplied d0 d x0 x dev named t all (c ∷ left) → IsApplied d0 e x0 y dev named t all left
    unfolding with_changes
    one_applied dev named t of = record {
      now = make_change c of.now;
      is = rows dev named of.now of.is;
      made = of.made;
      bytes = omega (arith, of.bytes, change_most c of.now);
      pages = λ told.
          within_on (page_count x0) (page_count x) (page_count y) (bytes_of_entries t.list + bytes_of_changes all) (of.pages told)
          (within_more (page_count x) (bytes_of_entries of.now.list) (bytes_of_entries t.list + bytes_of_changes all) (page_count y) (omega (arith, of.bytes)) (pages dev named of.now of.is (so_far.others.shape.told ∙ told)));
      images = keeps_more named d0 d e dev of.images (images dev named of.now of.is);
      sides = λ told. named_on named (d0.bytes dev) (d.bytes dev) (e.bytes dev) (of.sides told) (sides dev named of.now of.is (so_far.others.shape.told ∙ told));
    }

    pub applying_goes_on : IsApplying d0 e x0 y all left
    applying_goes_on = record {
      of = λ dev named t is. one_applied dev named t (so_far.of dev named t is);
      put = so_far.put.1;
      device = device ∙ so_far.device;
      others = keeps_on (λ n. n ≡ device_of x0) d0 d e None so_far.others (subst (λ k. KeepsOthers k d e None) so_far.device others);
      cause = cause_on d0 d e None so_far.cause cause;
    }

  -- an error ends it
  pub others_behind : (answer : Option DiskErr) → KeepsOthers (device_of x) d e answer → KeepsOthers (device_of x0) d0 e answer
  others_behind answer others = keeps_on (λ n. n ≡ device_of x0) d0 d e answer so_far.others (subst (λ k. KeepsOthers k d e answer) so_far.device others)

  pub images_behind : ((dev : ℕ) (named : List ℕ) (t : Tables) → IsRowStore d x dev named t → KeepsNamed named d e dev) → (dev : ℕ) (named : List ℕ) (t : Tables) → IsRowStore d0 x0 dev named t → KeepsNamed named d0 e dev
  images_behind images dev named t is = let of = so_far.of dev named t is in keeps_more named d0 d e dev of.images (images dev named of.now of.is)

  pub pages_behind : ((dev : ℕ) (named : List ℕ) (t : Tables) → IsRowStore d x dev named t → IsTrue d.told → IsWithin (page_count x) (bytes_of_entries t.list) (page_count y)) → (dev : ℕ) (named : List ℕ) (t : Tables) → IsRowStore d0 x0 dev named t → IsTrue d0.told
      → IsWithin (page_count x0) (bytes_of_entries t.list + bytes_of_changes all) (page_count y)
  pages_behind pages dev named t is told =
      let of = so_far.of dev named t is in
      within_on (page_count x0) (page_count x) (page_count y) (bytes_of_entries t.list + bytes_of_changes all) (of.pages told)
      (within_more (page_count x) (bytes_of_entries of.now.list) (bytes_of_entries t.list + bytes_of_changes all) (page_count y) (omega (arith, of.bytes)) (pages dev named of.now of.is (so_far.others.shape.told ∙ told)))

  pub full_behind : (answer : Option DiskErr) → FullOnly (device_of x) (d.limit (device_of x)) (page_place (page_count y) 0) answer → FullOnly (device_of x0) (d0.limit (device_of x0)) (page_place (page_count y) 0) answer
  full_behind answer full =
      subst (λ l. FullOnly (device_of x0) l (page_place (page_count y) 0) answer) (so_far.others.shape.limit (device_of x0))
      (subst (λ k. FullOnly k (d.limit k) (page_place (page_count y) 0) answer) so_far.device full)

-- behind the last one
pub all_applied : (d0 d : View) (x0 x : RowStore) (all : List Change) → IsApplying d0 d x0 x all [] → (dev : ℕ) (named : List ℕ) (t : Tables) → IsRowStore d0 x0 dev named t → IsRowStore d x dev named (with_changes all t)
unfolding with_changes
all_applied d0 d x0 x all done dev named t is = let of = done.of dev named t is in subst (IsRowStore d x dev named) of.made of.is
