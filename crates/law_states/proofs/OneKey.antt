-- A reach of one key has the row at its place, if there is one.
use Rattle.law_states.specs.Overlays.{AreRows, AreRowsIn, Edit, entry_at, row_edited}
use Rattle.law_story.proofs.Places.{equal-is, place_same}
use Rattle.salt_model.specs.Tables.{Tables, is_within, place, place_cmp, place_total}
use Rattle.salt_model.specs.declared.locks.Mode.{Mode}
use Rattle.salt_model.specs.declared.places.Place.{Place}
use Rattle.salt_ranges.specs.Ranges.{has_key, one_key}
use Rattle.salt_values.specs.Value.{value_cmp, value_total}
use Rattle.salt_values.specs.declared.value.Value.{Value}
use Rattle.std.proofs.Common.{ap, sym, ◌∙◌}
use Rattle.std.specs.BTreeMap.{is_at}
use Rattle.std.specs.Cmp.{eq_by_cmp_equiv, tied_then, unsigned_ties}
use Rattle.std.specs.FinMap.Entries.{find}
use Rattle.std.specs.Map.{lookup}
use Rattle.std.specs.Ordering.{is_eq, is_gt, nat_cmp, ordering_reverse}
use Rattle.std.specs.Prelude.{Bool, List, None, Option, Some, [], cond, false, not, refl, true, ℕ, ◌&&◌, ◌∷◌, ◌≡◌}
use Rattle.std.specs.declared.cmp.Ordering.{Ordering}
use Rattle.std.specs.declared.cmp.Ordering.TheVariants.{Equal, Greater, Less}

-- between a key and itself stands that key alone
between : (o r : Ordering) → r ≡ ordering_reverse o → (not (is_gt o) && not (is_gt r)) ≡ is_eq o
between Less r e = ap (λ x. not (is_gt Less) && not (is_gt x)) e
between Equal r e = ap (λ x. not (is_gt Equal) && not (is_gt x)) e
between Greater r e = ap (λ x. not (is_gt Greater) && not (is_gt x)) e

one-key : (k x : Value) → has_key (one_key k) x ≡ is_eq (value_cmp k x)
one-key k x = between (value_cmp k x) (value_cmp x k) (value_total.antisymm x k)

pub within-one : (t : ℕ) (mode : Mode) (k : Value) (q : Place) →
    is_within (record { table = t; range = one_key k; mode = mode }) q ≡ is_eq (place_cmp (place t k) q)
within-one t mode k q =
    ap (λ b. b && has_key (one_key k) q.key) (unsigned_ties t q.table)
    ∙ ap (λ b. is_eq (nat_cmp t q.table) && b) (one-key k q.key)
    ∙ tied_then (nat_cmp t q.table) (value_cmp k q.key)

-- for a reach of one key, the row at its place is enough
pub one-key-rows : (t : ℕ) (mode : Mode) (k : Value) (ds : List Edit) (es : Tables) →
    AreRows (Some (record { table = t; range = one_key k; mode = mode })) ds es (entry_at (place t k) (row_edited ds es (place t k)))
one-key-rows t mode k ds es = by (row_edited ds es (place t k)) refl
  where
    here : (q : Place) → is_eq (place_cmp (place t k) q) ≡ true → place t k ≡ q
    here q e = place_same (place t k) q (equal-is (place_cmp (place t k) q) e)

    none : row_edited ds es (place t k) ≡ None → (q : Place) (b : Bool) → is_eq (place_cmp (place t k) q) ≡ b →
        None ≡ cond b (row_edited ds es q) None
    none n q true e = sym n ∙ ap (row_edited ds es) (here q e)
    none n q false e = refl

    one : (row : List Value) → row_edited ds es (place t k) ≡ Some row → (q : Place) (b : Bool) → is_eq (place_cmp (place t k) q) ≡ b →
        cond b (Some row) None ≡ cond b (row_edited ds es q) None
    one row s q true e = sym s ∙ ap (row_edited ds es) (here q e)
    one row s q false e = refl

    by : (o : Option (List Value)) → row_edited ds es (place t k) ≡ o →
        AreRowsIn (record { table = t; range = one_key k; mode = mode }) ds es (entry_at (place t k) o)
    by None n = record {
      sorted = tt;
      found = λ q. none n q (is_eq (place_cmp (place t k) q)) refl ∙ ap (λ b. cond b (row_edited ds es q) None) (sym (within-one t mode k q));
    }
    by (Some row) s = record {
      sorted = tt;
      found = λ q.
          ap (λ b. cond b (Some row) None) ((eq_by_cmp_equiv place_total).symm q (place t k))
          ∙ one row s q (is_eq (place_cmp (place t k) q)) refl
          ∙ ap (λ b. cond b (row_edited ds es q) None) (sym (within-one t mode k q));
    }

-- what a map gives at a place
pub lookup-find : {X : Type 0} (p : Place) (es : List (Place × X)) → lookup (is_at (place_cmp p)) es ≡ find place_cmp p es
lookup-find p [] = refl
lookup-find p (e ∷ es) = let rest = lookup-find p es in λ i. cond (is_eq (place_cmp p e.0)) (Some e.1) (rest i)
