-- The rows of a range that are loaded: of one partition, or of all.
use Rattle.salt_ast.specs.declared.trees.TableDef.{TableDef}
use Rattle.salt_bytes.specs.Generations.{WhichLog}
use Rattle.salt_commit.proofs.OnePart.{one_of_all, or_none}
use Rattle.salt_commit.proofs.Sound.{is_row_at}
use Rattle.salt_commit.proofs.Standing.{partitions_kept}
use Rattle.salt_commit.specs.Loads.{AreRowsOf, IsPartOf, IsRowAt}
use Rattle.salt_commit.specs.Stores.{IsStore, decided_by, reading}
use Rattle.salt_commit.specs.declared.store.Store.{Store}
use Rattle.salt_decisions.proofs.Framed.{decisions_kept}
use Rattle.salt_directory.specs.Directories.{is_in}
use Rattle.salt_directory.specs.Loading.{HasLoaded, part_of}
use Rattle.salt_disk.specs.Disks.{IsUnchanged, KeepsAll, SameShape, UnlessDown, View}
use Rattle.salt_disk.specs.declared.disks.DiskErr.TheVariants.{Failed, Full, Memory, Stopped}
use Rattle.salt_disk.specs.declared.disks.DiskErr.{DiskErr}
use Rattle.salt_eval.proofs.InOrder.{less_is, parted}
use Rattle.salt_eval.specs.Meets.{meets_table}
use Rattle.salt_eval.specs.Scans.{IsKeyed}
use Rattle.salt_loaded.specs.Meets.{all_meet}
use Rattle.salt_loaded.specs.Rows.{RowsOf, are_apart, tables_in, with_rows}
use Rattle.salt_model.specs.Kept.{Definition}
use Rattle.salt_model.specs.Tables.{Entry, Tables, is_within, place, place_cmp, place_total, row_at}
use Rattle.salt_model.specs.Words.{Every}
use Rattle.salt_model.specs.declared.locks.Reach.{Reach}
use Rattle.salt_model.specs.declared.places.Place.{Place}
use Rattle.salt_parts.specs.Loading.{HaveAllLoaded, all_of}
use Rattle.salt_place.specs.declared.placement.Shape.{Shape}
use Rattle.salt_ranges.specs.Ranges.{has_key}
use Rattle.salt_ranges.specs.declared.range.KeyRange.{KeyRange}
use Rattle.salt_stands.proofs.Booleans.{join, left, right}
use Rattle.salt_stands.proofs.Places.{equal_is, or_row, place_same, row_at_entries, same_tables}
use Rattle.salt_stands.specs.Coordinator.{Coordinator}
use Rattle.salt_stands.specs.Partition.{pages_device, part_device, part_of_key}
use Rattle.salt_stands.specs.Pieces.{PartView, listed}
use Rattle.salt_stands.specs.Placed.{IsPlaced}
use Rattle.salt_stands.specs.Tables.{joined}
use Rattle.salt_values.specs.Value.{is_same_value, key_of, value_cmp}
use Rattle.salt_values.specs.declared.value.Value.{Value}
use Rattle.std.proofs.Common.{Bool, List, None, Option, Some, [], ap, arith, false, refl, subst, sym, true, ℕ, ◌+◌, ◌++◌, ◌<◌, ◌≡◌, ◌∙◌, ◌∷◌}
use Rattle.std.proofs.lemmas.Cmp.{tied_itself}
use Rattle.std.proofs.lemmas.List.Folds.{list_all-append}
use Rattle.std.specs.FinMap.Entries.{below_all, find, find-put, find-where_key, is_sorted}
use Rattle.std.specs.List.{list_all}
use Rattle.std.specs.Ordering.{is_eq}
use Rattle.std.specs.Prelude.{Err, IfSome, Ok, OnOk, Result, cond, if◌then◌else◌, not, suc, zero, ◌&&◌, ◌==◌}
use Rattle.std.specs.declared.cmp.Ordering.TheVariants.{Equal, Greater, Less}
use Rattle.std.specs.declared.cmp.Ordering.{Ordering}
use lib.Dec.{T}

every_both : {A : Type 0} (P : A → Type 0) (xs ys : List A) → Every P xs → Every P ys → Every P (xs ++ ys)
every_both P [] ys h k = k
every_both P (x ∷ xs) ys h k = (h.0, every_both P xs ys h.1 k)

every_weaker : {A : Type 0} (P Q : A → Type 0) → ((x : A) → P x → Q x) → (xs : List A) → Every P xs → Every Q xs
every_weaker P Q weaker [] h = tt
every_weaker P Q weaker (x ∷ xs) h = (weaker x h.0, every_weaker P Q weaker xs h.1)

-- ENTRIES in order are found at their places

below_none : (q : Place) (es : List Entry) → T (below_all place_cmp q es) → find place_cmp q es ≡ None
below_none q [] h = refl
below_none q (e ∷ es) h = ap (λ o. cond (is_eq o) (Some e.1) (find place_cmp q es)) (less_is _ (parted _ _ h).0) ∙ below_none q es (parted _ _ h).1

pub each_found : (P : Place → List Value → Type 0) (es : List Entry) → T (is_sorted place_cmp es) → ((q : Place) (row : List Value) → find place_cmp q es ≡ Some row → P q row) → Every (λ (e : Entry). P e.0 e.1) es
each_found P [] sorted h = tt
each_found P (e ∷ es) sorted h =
    (h e.0 e.1 (ap (λ o. cond (is_eq o) (Some e.1) (find place_cmp e.0 es)) (tied_itself place_total e.0)), each_found P es (parted _ _ sorted).1 (λ q row is. h q row (behind q row is)))
  where
    behind : (q : Place) (row : List Value) → find place_cmp q es ≡ Some row → find place_cmp q (e ∷ es) ≡ Some row
    behind q row is = by (is_eq (place_cmp q e.0)) refl
      where
        by : (b : Bool) → is_eq (place_cmp q e.0) ≡ b → cond b (Some e.1) (find place_cmp q es) ≡ Some row
        by false tied = is
        by true tied =
            let none : find place_cmp q es ≡ None = ap (λ (p : Place). find place_cmp p es) (place_same q e.0 (equal_is _ tied)) ∙ below_none e.0 es (parted _ _ sorted).0 in
            absurd cc

-- ROWS AS TABLES

row_put : (t : ℕ) (q : Place) (x : List Value) (xs : List (List Value)) → row_at q (tables_in t (x ∷ xs)) ≡ cond (is_eq (place_cmp q (place t (key_of x)))) (Some x) (row_at q (tables_in t xs))
row_put t q x xs = find-put place_cmp place_total q (place t (key_of x)) x (tables_in t xs).list

-- of rows one behind the other the first one of a key counts
row_of_both : (t : ℕ) (q : Place) (xs ys : List (List Value)) → row_at q (tables_in t (xs ++ ys)) ≡ or_row (row_at q (tables_in t xs)) (row_at q (tables_in t ys))
row_of_both t q [] ys = refl
row_of_both t q (x ∷ xs) ys =
    row_put t q x (xs ++ ys) ∙ by (is_eq (place_cmp q (place t (key_of x)))) (row_of_both t q xs ys)
    ∙ ap (λ o. or_row o (row_at q (tables_in t ys))) (sym (row_put t q x xs))
  where
    by : (b : Bool) → row_at q (tables_in t (xs ++ ys)) ≡ or_row (row_at q (tables_in t xs)) (row_at q (tables_in t ys))
        → cond b (Some x) (row_at q (tables_in t (xs ++ ys))) ≡ or_row (cond b (Some x) (row_at q (tables_in t xs))) (row_at q (tables_in t ys))
    by true h = refl
    by false h = h

pub rows_keyed : (t : ℕ) (rows : List (List Value)) → IsKeyed (tables_in t rows)
rows_keyed t [] q = tt
rows_keyed t (x ∷ xs) q = subst (λ o. IfSome o (λ row. key_of row ≡ q.key)) (sym (row_put t q x xs)) (by (is_eq (place_cmp q (place t (key_of x)))) refl (rows_keyed t xs q))
  where
    by : (b : Bool) → is_eq (place_cmp q (place t (key_of x))) ≡ b → IfSome (row_at q (tables_in t xs)) (λ row. key_of row ≡ q.key) → IfSome (cond b (Some x) (row_at q (tables_in t xs))) (λ row. key_of row ≡ q.key)
    by true tied h = ap (λ (p : Place). p.key) (sym (place_same q (place t (key_of x)) (equal_is _ tied)))
    by false tied h = h

-- what holds of each key at which there is a row, holds of each row's key
each_key : (P : Value → Type 0) (t : ℕ) (rows : List (List Value)) → ((q : Place) (row : List Value) → row_at q (tables_in t rows) ≡ Some row → P q.key) → Every (λ row. P (key_of row)) rows
each_key P t [] h = tt
each_key P t (x ∷ xs) h =
    let own = place t (key_of x) in
    (h own x (row_put t own x xs ∙ ap (λ o. cond (is_eq o) (Some x) (row_at own (tables_in t xs))) (tied_itself place_total own)), each_key P t xs later)
  where
    later : (q : Place) (row : List Value) → row_at q (tables_in t xs) ≡ Some row → P q.key
    later q row is = by (is_eq (place_cmp q (place t (key_of x)))) refl
      where
        by : (b : Bool) → is_eq (place_cmp q (place t (key_of x))) ≡ b → P q.key
        by true tied = h q x (row_put t q x xs ∙ ap (λ b. cond b (Some x) (row_at q (tables_in t xs))) tied)
        by false tied = h q row (row_put t q x xs ∙ ap (λ b. cond b (Some x) (row_at q (tables_in t xs))) tied ∙ is)

row_of_part : (t : ℕ) (range : KeyRange) (q : Place) (es : Tables) → row_at q (part_of t range es) ≡ cond (is_in t range q) (row_at q es) None
row_of_part t range q es = find-where_key place_cmp (is_in t range) q (λ x tied. ap (is_in t range) (sym (place_same q x tied))) es.list

-- ROWS APART, as some stand in parts below n, and the others in part n
module _ (part : Value → ℕ) (n : ℕ) where
  other_key : (a b : Value) → part a < n → part b ≡ n → is_same_value a b ≡ false
  other_key a b low at = by (value_cmp a b) refl
    where
      by : (o : Ordering) → value_cmp a b ≡ o → is_eq o ≡ false
      by Less is = refl
      by Greater is = refl
      by Equal is = absurd (omega (arith, low, at, ap (λ (p : Place). part p.key) (place_same (place 0 a) (place 0 b) is)))

  apart_from : (x : List Value) (ys : List (List Value)) → part (key_of x) < n → Every (λ row. part (key_of row) ≡ n) ys → list_all (λ other. not (is_same_value (key_of x) (key_of other))) ys ≡ true
  apart_from x [] low at = refl
  apart_from x (y ∷ ys) low at =
      ap (λ b. not b && list_all (λ other. not (is_same_value (key_of x) (key_of other))) ys) (other_key (key_of x) (key_of y) low at.0) ∙ apart_from x ys low at.1

  apart_both : (xs ys : List (List Value)) → are_apart xs ≡ true → are_apart ys ≡ true → Every (λ row. part (key_of row) < n) xs → Every (λ row. part (key_of row) ≡ n) ys → are_apart (xs ++ ys) ≡ true
  apart_both [] ys first second low at = second
  apart_both (x ∷ xs) ys first second low at =
      let other = λ (y : List Value). not (is_same_value (key_of x) (key_of y)) in
      join (list_all other (xs ++ ys)) (are_apart (xs ++ ys))
      (list_all-append other xs ys ∙ join (list_all other xs) (list_all other ys) (left (list_all other xs) (are_apart xs) first) (apart_from x ys low.0 at))
      (apart_both xs ys (right (list_all other xs) (are_apart xs) first) second low.1 at)

-- what comes with an answer that is none
pub on_ok : {A E P Q : Type 0} (result : Result A E) → (P → Q) → OnOk result P → OnOk result Q
on_ok (Ok x) f h = f h
on_ok (Err e) f h = tt

-- OF ALL PARTITIONS

or_or : (a b c : Option (List Value)) → or_row a (or_row b c) ≡ or_row (or_row a b) c
or_or None b c = refl
or_or (Some x) b c = refl

row_pushed : (q : Place) (T : ℕ → Tables) (from n : ℕ) → row_at q (joined (listed T from (suc n))) ≡ or_row (row_at q (joined (listed T from n))) (row_at q (T (from + n)))
unfolding joined
row_pushed q T from zero =
    let same : from ≡ from + 0 = omega arith in
    row_at_entries q (T from).list (joined []) ∙ or_none (row_at q (T from)) ∙ ap (λ k. row_at q (T k)) same
row_pushed q T from (suc n) =
    let same : suc from + n ≡ from + suc n = omega arith in
    row_at_entries q (T from).list (joined (listed T (suc from) (suc n))) ∙ ap (or_row (row_at q (T from))) (row_pushed q T (suc from) n)
    ∙ or_or (row_at q (T from)) (row_at q (joined (listed T (suc from) n))) (row_at q (T (suc from + n)))
    ∙ ap (λ o. or_row o (row_at q (T (suc from + n)))) (sym (row_at_entries q (T from).list (joined (listed T (suc from) n))))
    ∙ ap (λ k. or_row (row_at q (joined (listed T from (suc n)))) (row_at q (T k))) same

module _ (t : ℕ) (range : KeyRange) (T : ℕ → Tables) (more : ℕ → List (List Value)) where
  row_of_all : (q : Place) (n : ℕ) → ((p : ℕ) → p < n → tables_in t (more p) ≡ part_of t range (T p)) → row_at q (tables_in t (all_of more n)) ≡ cond (is_in t range q) (row_at q (joined (listed T 0 n))) None
  unfolding joined
  row_of_all q zero each = none (is_in t range q)
    where
      none : (b : Bool) → ◌≡◌ {A = Option (List Value)} None (cond b None None)
      none true = refl
      none false = refl
  row_of_all q (suc n) each =
      let b = is_in t range q in
      let last : 0 + n ≡ n = omega arith in
      row_of_both t q (all_of more n) (more n)
      ∙ ap (λ o. or_row o (row_at q (tables_in t (more n)))) (row_of_all q n (λ p low. each p (omega (arith, low))))
      ∙ ap (or_row (cond b (row_at q (joined (listed T 0 n))) None)) (ap (row_at q) (each n (omega arith)) ∙ row_of_part t range q (T n))
      ∙ by b (row_pushed q T 0 n ∙ ap (λ k. or_row (row_at q (joined (listed T 0 n))) (row_at q (T k))) last)
    where
      by : (b : Bool) → row_at q (joined (listed T 0 (suc n))) ≡ or_row (row_at q (joined (listed T 0 n))) (row_at q (T n))
          → or_row (cond b (row_at q (joined (listed T 0 n))) None) (cond b (row_at q (T n)) None) ≡ cond b (row_at q (joined (listed T 0 (suc n)))) None
      by true h = sym h
      by false h = refl

  module _ (part : Value → ℕ) where
    all_apart : (n : ℕ) → ((p : ℕ) → p < n → (are_apart (more p) ≡ true) × Every (λ row. part (key_of row) ≡ p) (more p)) → (are_apart (all_of more n) ≡ true) × Every (λ row. part (key_of row) < n) (all_of more n)
    all_apart zero each = (refl, tt)
    all_apart (suc n) each =
        let before = all_apart n (λ p low. each p (omega (arith, low))) in
        let last = each n (omega arith) in (
          apart_both part n (all_of more n) (more n) before.0 last.0 before.1 last.1,
          every_both (λ row. part (key_of row) < suc n) (all_of more n) (more n)
              (every_weaker (λ row. part (key_of row) < n) (λ row. part (key_of row) < suc n) (λ row low. omega (arith, low)) (all_of more n) before.1)
              (every_weaker (λ row. part (key_of row) ≡ n) (λ row. part (key_of row) < suc n) (λ row at. omega (arith, at)) (more n) last.1),
        )

module _ (shape : Shape) (range : KeyRange) (T : ℕ → Tables) (n : ℕ) (placed : (p : ℕ) → p < n → IsPlaced shape p (T p)) (old new : RowsOf) where
  abbrev t : ℕ
  t = old.table

  abbrev all : Tables
  all = joined (listed T 0 n)

  -- the rows of each partition are loaded: those of all are, each once
  pub all_loaded : HaveAllLoaded range T n old new → HasLoaded range all old new
  all_loaded loaded = record {
    more = all_of loaded.more n;
    came = loaded.came;
    apart = (all_apart t range T loaded.more (part_of_key shape) n (λ p low. ((loaded.each p low).0, in_part p low))).0;
    rows = same_tables (tables_in t (all_of loaded.more n)) (part_of t range all)
        (λ q. row_of_all t range T loaded.more q n (λ p low. (loaded.each p low).1) ∙ sym (row_of_part t range q all));
  }
    where
      in_part : (p : ℕ) → p < n → Every (λ row. part_of_key shape (key_of row) ≡ p) (loaded.more p)
      in_part p low = each_key (λ key. part_of_key shape key ≡ p) t (loaded.more p) (λ q row is. by q row (is_in t range q) (sym (row_of_part t range q (T p)) ∙ ap (row_at q) (sym (loaded.each p low).1) ∙ is))
        where
          by : (q : Place) (row : List Value) (b : Bool) → cond b (row_at q (T p)) None ≡ Some row → part_of_key shape q.key ≡ p
          by q row true is = placed p low q row is
          by q row false is = absurd cc

  -- the rows of the one partition are loaded in which the keys of the range stand: those of all are
  pub one_loaded : (p : ℕ) → p < n → ((key : Value) (k : ℕ) → k < n → has_key range key ≡ true → part_of_key shape key ≡ k → k ≡ p) → HasLoaded range (T p) old new → HasLoaded range all old new
  one_loaded p low alone loaded = record {
    more = loaded.more;
    came = loaded.came;
    apart = loaded.apart;
    rows = loaded.rows ∙ same_tables (part_of t range (T p)) (part_of t range all)
        (λ q. row_of_part t range q (T p) ∙ by q (is_in t range q) refl ∙ sym (row_of_part t range q all));
  }
    where
      by : (q : Place) (b : Bool) → is_in t range q ≡ b → cond b (row_at q (T p)) None ≡ cond b (row_at q all) None
      by q true inside = sym (one_of_all range shape T n p low placed alone q (right (t == q.table) (has_key range q.key) inside))
      by q false inside = refl

-- THE ROWS OF A REACH

if_same : {X : Type 0} (b : Bool) (x y : X) → cond b x y ≡ (if b then x else y)
if_same true x y = refl
if_same false x y = refl

is_part : (r : Reach) (rows whole : Tables) → rows ≡ part_of r.table r.range whole → IsPartOf r rows whole
is_part r rows whole is q = ap (row_at q) is ∙ row_of_part r.table r.range q whole ∙ if_same (is_within r q) (row_at q whole) None

module _ (r : Reach) (whole : Tables) (old new : RowsOf) (none : old ≡ record { table = r.table; rows = [] }) (loaded : HasLoaded r.range whole old new) where
  came : new ≡ record { table = r.table; rows = loaded.more }
  came = loaded.came ∙ ap (with_rows loaded.more) none

  pub loaded_apart : are_apart new.rows ≡ true
  loaded_apart = ap (λ (l : RowsOf). are_apart l.rows) came ∙ loaded.apart

  pub loaded_part : (rows : Tables) → rows ≡ tables_in new.table new.rows → IsPartOf r rows whole
  loaded_part rows is = is_part r rows whole
      (is ∙ ap (λ (l : RowsOf). tables_in l.table l.rows) came ∙ ap (λ (l : RowsOf). tables_in l.table loaded.more) (sym none) ∙ loaded.rows ∙ ap (λ (l : RowsOf). part_of l.table r.range whole) none)

-- they fit their tables, where all rows do
pub part_fits : (schema : List TableDef) (r : Reach) (part whole : Tables) → IsPartOf r part whole → ((q : Place) (row : List Value) → row_at q whole ≡ Some row → IsRowAt schema q row) → AreRowsOf schema part
part_fits schema r part whole is fit = each_found (IsRowAt schema) part.list part.sorted (λ q row found. by q row (is_within r q) (sym (is q) ∙ found))
  where
    by : (q : Place) (row : List Value) (b : Bool) → (if b then row_at q whole else None) ≡ Some row → IsRowAt schema q row
    by q row true found = fit q row found
    by q row false found = absurd cc

-- and where each meets its table, and stands at the place of its key
pub met_fit : (schema : List TableDef) (es : Tables) → all_meet schema es ≡ true → IsKeyed es → AreRowsOf schema es
met_fit schema es met keyed = by es.list met (each_found (λ q row. key_of row ≡ q.key) es.list es.sorted (λ q row found. subst (λ o. IfSome o (λ row. key_of row ≡ q.key)) found (keyed q)))
  where
    by : (l : List Entry) → list_all (λ (e : Entry). meets_table schema e.0.table e.1) l ≡ true → Every (λ (e : Entry). key_of e.1 ≡ e.0.key) l → Every (λ (e : Entry). IsRowAt schema e.0 e.1) l
    by [] m k = tt
    by (e ∷ l) m k =
        let rest = list_all (λ (e : Entry). meets_table schema e.0.table e.1) l in
        ((is_row_at schema e.0.table e.1 (left (meets_table schema e.0.table e.1) rest m), sym k.0), by l (right (meets_table schema e.0.table e.1) rest m) k.1)

-- A STORE is as it was after calls that write nothing
store_same : (d e : View) (x : Store) (which : WhichLog) (c : Coordinator Definition) (v : ℕ → PartView) → SameShape d e → ((dev : ℕ) → IsUnchanged d e dev) → IsStore reading d x which c v → IsStore reading e x which c v
store_same d e x which c v shape kept is = record {
  decisions = decisions_kept d e x.decisions which c.log shape (kept 0) (kept 1) is.decisions;
  size = is.size;
  parts = partitions_kept d e x.parts v (decided_by c) shape (λ p. kept (part_device p)) (λ p. kept (part_device p + 1)) (λ p. kept (pages_device p)) is.parts;
  sound = λ told. is.sound (sym shape.told ∙ told);
}

pub store_unless : (d e : View) (x : Store) (which : WhichLog) (c : Coordinator Definition) (v : ℕ → PartView) (answer : Option DiskErr) → KeepsAll d e answer → IsStore reading d x which c v → UnlessDown answer (IsStore reading e x which c v)
store_unless d e x which c v None k is = store_same d e x which c v k.shape (λ dev. k.kept dev (λ none. none)) is
store_unless d e x which c v (Some Failed) k is = tt
store_unless d e x which c v (Some Stopped) k is = tt
store_unless d e x which c v (Some (Full n)) k is = store_same d e x which c v k.shape (λ dev. k.kept dev (λ none. none)) is
store_unless d e x which c v (Some Memory) k is = store_same d e x which c v k.shape (λ dev. k.kept dev (λ none. none)) is

pub none_left : {A : Type 0} (o : Option A) → ((x : A) → o ≡ Some x → ⊥) → None ≡ o
none_left None not_some = refl
none_left (Some x) not_some = absurd (not_some x refl)
