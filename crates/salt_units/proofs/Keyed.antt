-- Rows stand at the places of their keys under edits that put each row at its own.
use Rattle.salt_eval.specs.Scans.{IsKeyed}
use Rattle.law_states.proofs.Overlays.{edited-row}
use Rattle.law_states.specs.Overlays.{AreInOrder, Edit, over, put_all, with_edits}
use Rattle.law_story.proofs.Places.{equal-is, place_same}
use Rattle.salt_model.specs.Tables.{Tables, changed_at, place_cmp, place_total, row_at}
use Rattle.salt_model.specs.Words.{Every}
use Rattle.salt_model.specs.declared.places.Place.{Place}
use Rattle.salt_units.specs.Acting.{HaveTheirKeys}
use Rattle.salt_units.specs.Edited.{HasItsKey}
use Rattle.salt_values.specs.declared.change.Change.{Change}
use Rattle.salt_values.specs.declared.value.Value.{Value}
use Rattle.std.proofs.Common.{subst, sym}
use Rattle.std.specs.FinMap.Entries.{by_order, find, is_sorted-put, put}
use Rattle.std.specs.Option.{ForSome}
use Rattle.std.specs.Ordering.{is_eq}
use Rattle.std.specs.Prelude.{Bool, IfSome, List, None, Option, Some, [], cond, false, refl, suc, true, zero, ◌∷◌, ◌≡◌}
use Rattle.std.specs.declared.cmp.Ordering.TheVariants.{Equal, Greater, Less}
use Rattle.std.specs.declared.cmp.Ordering.{Ordering}
use Rattle.salt_values.specs.Value.{key_of}

abbrev IsAt : Place → Option (List Value) → Type 0
IsAt p row = IfSome row (λ r. key_of r ≡ p.key)

-- the same of each edit
abbrev Each : List Edit → Type 0
Each ds = Every (λ (d : Edit). IsAt d.0 d.1) ds

each-of : (ds : List Edit) → HaveTheirKeys ds → Each ds
each-of [] h = tt
each-of (d ∷ ds) h = (by d.1 (h 0 d refl), each-of ds (λ k. h (suc k)))
  where
    by : (o : Option (List Value)) → ForSome o (λ row. key_of row ≡ d.0.key) → IsAt d.0 o
    by None h = tt
    by (Some row) h = h row refl

of-each : (ds : List Edit) → Each ds → HaveTheirKeys ds
of-each [] e k = λ d is. absurd cc
of-each (d ∷ ds) e zero = λ x is row put.
    let same : d ≡ x = cc in
    let at : IsAt x.0 x.1 = subst (λ (y : Edit). IsAt y.0 y.1) same e.0 in
    subst (IsAt x.0) put at
of-each (d ∷ ds) e (suc k) = of-each ds e.1 k

edited : (ds : List Edit) → Each ds → (p : Place) (below : Option (List Value)) → IsAt p below → IsAt p (over (find place_cmp p ds) below)
edited [] keyed p below h = h
edited (d ∷ ds) keyed p below h = by (is_eq (place_cmp p d.0)) refl (edited ds keyed.1 p below h)
  where
    by : (b : Bool) → is_eq (place_cmp p d.0) ≡ b → IsAt p (over (find place_cmp p ds) below) → IsAt p (over (cond b (Some d.1) (find place_cmp p ds)) below)
    by true tied more = subst (λ (q : Place). IsAt q d.1) (sym (place_same p d.0 (equal-is _ tied))) keyed.0
    by false apart more = more

pub keyed-under : (ds : List Edit) (es : Tables) → AreInOrder ds → HaveTheirKeys ds → IsKeyed es → IsKeyed (with_edits ds es)
keyed-under ds es in_order keyed below p = subst (IsAt p) (sym (edited-row ds es p in_order)) (edited ds (each-of ds keyed) p (row_at p es) (below p))

keys-put : (c : Change) (ds : List Edit) → HasItsKey c → Each ds → Each (put place_cmp (changed_at c) c.row ds)
keys-put c [] key keys = (key, tt)
keys-put c (d ∷ ds) key keys = by (place_cmp (changed_at c) d.0) refl (keys-put c ds key keys.1)
  where
    by : (o : Ordering) → place_cmp (changed_at c) d.0 ≡ o → Each (put place_cmp (changed_at c) c.row ds)
        → Each (by_order o ((changed_at c, c.row) ∷ d ∷ ds) ((d.0, c.row) ∷ ds) (d ∷ put place_cmp (changed_at c) c.row ds))
    by Less is more = (key, keys)
    by Equal is more = (subst (λ (q : Place). IsAt q c.row) (place_same (changed_at c) d.0 is) key, keys.1)
    by Greater is more = (keys.0, more)

each-put-all : (cs : List Change) (ds : List Edit) → Every HasItsKey cs → Each ds → Each (put_all cs ds)
each-put-all [] ds each keys = keys
each-put-all (c ∷ cs) ds each keys = each-put-all cs (put place_cmp (changed_at c) c.row ds) each.1 (keys-put c ds each.0 keys)

pub keys-put-all : (cs : List Change) (ds : List Edit) → Every HasItsKey cs → HaveTheirKeys ds → HaveTheirKeys (put_all cs ds)
keys-put-all cs ds each keys = of-each (put_all cs ds) (each-put-all cs ds each (each-of ds keys))

pub in-order-put-all : (cs : List Change) (ds : List Edit) → AreInOrder ds → AreInOrder (put_all cs ds)
in-order-put-all [] ds h = h
in-order-put-all (c ∷ cs) ds h = in-order-put-all cs (put place_cmp (changed_at c) c.row ds) (is_sorted-put place_cmp place_total (changed_at c) c.row ds h)
