-- The pairs that a read adds are those with the last writers in its range.
use Rattle.law_states.proofs.Closures.{any-in, into-any}
use Rattle.law_states.specs.KeptSources.{WritesIn}
use Rattle.law_states.specs.Members.{In}
use Rattle.law_story.proofs.Ids.{and_left, and_right, is_same_id-refl, is_same_id-sym, is_same_id-true}
use Rattle.law_story.proofs.Lists.{not-true}
use Rattle.law_story.proofs.Places.{place_same}
use Rattle.salt_deps.proofs.Leaving.{of-those}
use Rattle.salt_deps.specs.Reads.{AreFresh, AreRead, is_read, reads_entry}
use Rattle.salt_model.specs.Tables.{place, place_cmp, place_total}
use Rattle.salt_model.specs.declared.locks.Mode.{Mode}
use Rattle.salt_model.specs.declared.places.Place.{Place}
use Rattle.salt_ranges.specs.Ranges.{has_key}
use Rattle.salt_ranges.specs.declared.range.KeyRange.{KeyRange}
use Rattle.salt_values.specs.Id.{has_id, is_same_id}
use Rattle.salt_values.specs.declared.id.Id.{Id}
use Rattle.std.proofs.Common.{ap, arith, inl, inr, slice_get, subst, suc, sym, zero, ◌↔◌, ◌∙◌}
use Rattle.std.proofs.lemmas.Bool.Decides.{nat_tests}
use Rattle.std.proofs.lemmas.Map.Entries.{btree_map_get_place}
use Rattle.std.specs.BTreeMap.{BTreeMap, IsOrdered, get, is_at}
use Rattle.std.specs.List.{filter, list_any}
use Rattle.std.specs.Map.{lookup}
use Rattle.std.specs.Ordering.{is_eq}
use Rattle.std.specs.Prelude.{Bool, List, Some, [], cond, false, not, refl, true, ℕ, ◌&&◌, ◌==◌, ◌||◌, ◌∷◌, ◌≡◌}
use Rattle.std.specs.declared.cmp.Ordering.{Ordering}
use Rattle.std.specs.declared.cmp.Ordering.TheVariants.{Equal, Greater, Less}

-- what is found, and what the writers to come add, is what it comes to
pub record IsReading (reader : Id) (table : ℕ) (range : KeyRange) (writers : List (Place × Id)) (found : List Id) (rest : List (Place × Id)) : Type 0 where
  pub same : (y : Id) → (has_id y found || list_any (reads_entry reader table range y) rest) ≡ list_any (reads_entry reader table range y) writers

or-end : (a : Bool) → (a || false) ≡ a
or-end true = refl
or-end false = refl

or-move : (a b c : Bool) → ((a || b) || c) ≡ (a || (b || c))
or-move true b c = refl
or-move false b c = refl

pub begins : (reader : Id) (table : ℕ) (range : KeyRange) (writers : List (Place × Id)) → IsReading reader table range writers [] writers
begins reader table range writers = record { same = λ y. refl }

pub goes-on : (reader : Id) (table : ℕ) (range : KeyRange) (writers : List (Place × Id)) (old new : List Id) (e : Place × Id) (from rest : List (Place × Id)) → from ≡ e ∷ rest →
    IsReading reader table range writers old from → ((y : Id) → has_id y new ≡ (has_id y old || reads_entry reader table range y e)) → IsReading reader table range writers new rest
goes-on reader table range writers old new e from rest is so found = record {
  same = λ y. ap (λ b. b || list_any (reads_entry reader table range y) rest) (found y)
      ∙ (or-move (has_id y old) (reads_entry reader table range y e) (list_any (reads_entry reader table range y) rest)
      ∙ (ap (λ (l : List (Place × Id)). has_id y old || list_any (reads_entry reader table range y) l) (sym is) ∙ so.same y));
}

pub ends : (reader : Id) (table : ℕ) (range : KeyRange) (writers : List (Place × Id)) (found : List Id) (rest : List (Place × Id)) → rest ≡ [] → IsReading reader table range writers found rest →
    AreRead reader table range writers found
ends reader table range writers found rest done so y =
    sym (or-end (has_id y found)) ∙ (ap (λ (l : List (Place × Id)). has_id y found || list_any (reads_entry reader table range y) l) (sym done) ∙ so.same y)

-- an entry that is read adds its writer, and another adds none
pub finds : (reader : Id) (table : ℕ) (range : KeyRange) (p : Place) (source : Id) (old new : List Id) → is_read reader table range p source ≡ true →
    ((q : Id) → has_id q new ≡ (is_same_id source q || has_id q old)) → (y : Id) → has_id y new ≡ (has_id y old || reads_entry reader table range y (p, source))
finds reader table range p source old new read put y =
    put y ∙ (turned (is_same_id source y) (has_id y old) ∙ (ap (λ b. has_id y old || b) (is_same_id-sym source y) ∙ ap (λ b. has_id y old || (b && is_same_id y source)) (sym read)))
  where
    turned : (a b : Bool) → (a || b) ≡ (b || a)
    turned true true = refl
    turned true false = refl
    turned false true = refl
    turned false false = refl

pub finds-none : (reader : Id) (table : ℕ) (range : KeyRange) (p : Place) (source : Id) (old : List Id) → is_read reader table range p source ≡ false → (y : Id) →
    has_id y old ≡ (has_id y old || reads_entry reader table range y (p, source))
finds-none reader table range p source old unread y = sym (ap (λ b. has_id y old || (b && is_same_id y source)) unread ∙ or-end (has_id y old))

eq-of : (r : Ordering) → is_eq r ≡ true → r ≡ Equal
eq-of Equal h = refl
eq-of Less h = cc
eq-of Greater h = cc

-- an entry that is found
found-in : (q : Place) (y : Id) (es : List (Place × Id)) → lookup (is_at (place_cmp q)) es ≡ Some y → In (q, y) es
found-in q y [] h = cc
found-in q y (e ∷ es) h = by (is_eq (place_cmp q e.0)) refl h (found-in q y es)
  where
    by : (t : Bool) → is_eq (place_cmp q e.0) ≡ t → cond t (Some e.1) (lookup (is_at (place_cmp q)) es) ≡ Some y →
        (lookup (is_at (place_cmp q)) es ≡ Some y → In (q, y) es) → In (q, y) (e ∷ es)
    by true tie g more = let value : e.1 ≡ y = cc in inl (λ i. (sym (place_same q e.0 (eq-of (place_cmp q e.0) tie)) i, value i))
    by false tie g more = inr (more g)

in-at : (e : Place × Id) (es : List (Place × Id)) → In e es → (i : ℕ) × (slice_get es i ≡ Some e)
in-at e [] h = absurd h
in-at e (f ∷ es) (inl g) = (zero, ap (λ x. Some x) g)
in-at e (f ∷ es) (inr g) = let r = in-at e es g in (suc r.0, r.1)

-- an entry of a map is found
in-found : (q : Place) (y : Id) (m : BTreeMap Place Id) → IsOrdered place_cmp m → In (q, y) m.entries → get place_cmp m q ≡ Some y
in-found q y m ordered i = let at = in-at (q, y) m.entries i in btree_map_get_place place_total m at.0 q y ordered at.1

number-same : (m n : ℕ) → (m == n) ≡ true → m ≡ n
number-same m n h = grind (arith, nat_tests)

number-refl : (n : ℕ) → (n == n) ≡ true
number-refl n = grind (arith, nat_tests)

-- it reads from exactly the last writers of keys in the range
pub are-writers : (reader : Id) (table : ℕ) (range : KeyRange) (mode : Mode) (m : BTreeMap Place Id) → IsOrdered place_cmp m → (y : Id) →
    (list_any (reads_entry reader table range y) m.entries ≡ true) ↔
    ((is_same_id y reader ≡ false) × WritesIn (get place_cmp m) (Some (record { table = table; range = range; mode = mode })) y)
are-writers reader table range mode m ordered y = (forth, back)
  where
    parts : (p : Place) (source : Id) → is_read reader table range p source ≡ true → (p.table ≡ table) × (has_key range p.key ≡ true) × (is_same_id source reader ≡ false)
    parts p source h =
        let inside = and_right (p.table == table) (has_key range p.key && not (is_same_id source reader)) h in (
          number-same p.table table (and_left (p.table == table) (has_key range p.key && not (is_same_id source reader)) h),
          and_left (has_key range p.key) (not (is_same_id source reader)) inside,
          not-true (is_same_id source reader) (and_right (has_key range p.key) (not (is_same_id source reader)) inside),
        )

    forth : list_any (reads_entry reader table range y) m.entries ≡ true → (is_same_id y reader ≡ false) × WritesIn (get place_cmp m) (Some (record { table = table; range = range; mode = mode })) y
    forth h =
        let e = any-in (reads_entry reader table range y) m.entries h in
        let source = is_same_id-true y e.0.1 (and_right (is_read reader table range e.0.0 e.0.1) (is_same_id y e.0.1) e.2) in
        let read = parts e.0.0 e.0.1 (and_left (is_read reader table range e.0.0 e.0.1) (is_same_id y e.0.1) e.2) in
        let number = read.0 in
        let entry : In (place table e.0.0.key, y) m.entries = subst (λ z. In z m.entries) (λ i. (record { table = number i; key = e.0.0.key }, sym source i)) e.1 in (
          subst (λ z. is_same_id z reader ≡ false) (sym source) read.2,
          (e.0.0.key, read.1, in-found (place table e.0.0.key) y m ordered entry),
        )

    back : (is_same_id y reader ≡ false) × WritesIn (get place_cmp m) (Some (record { table = table; range = range; mode = mode })) y → list_any (reads_entry reader table range y) m.entries ≡ true
    back h =
        let w = h.1 in
        into-any (reads_entry reader table range y) (place table w.0, y) m.entries (found-in (place table w.0) y m.entries w.2)
        (rw (number-refl table, w.1, h.0, is_same_id-refl y) refl)

-- of what is found, the sources that were not read from before
pub are-fresh : (reader : Id) (table : ℕ) (range : KeyRange) (writers : List (Place × Id)) (reads : Id → Id → Bool) (found fresh : List Id) → AreRead reader table range writers found →
    fresh ≡ filter (λ y. not (reads reader y)) found → AreFresh reader table range writers reads fresh
are-fresh reader table range writers reads found fresh read is y = ap (has_id y) is ∙ (of-those (λ z. not (reads reader z)) y found ∙ ap (λ b. b && not (reads reader y)) (read y))
