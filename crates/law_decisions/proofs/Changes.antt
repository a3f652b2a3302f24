-- Changes and the edits that they are.
use Rattle.salt_ast.specs.declared.trees.TableDef.{TableDef}
use Rattle.salt_bytes.specs.Changes.{are_in_order, change_cmp}
use Rattle.law_states.specs.Overlays.{AreInOrder, edits_of, with_edits}
use Rattle.salt_model.specs.Tables.{Tables, changed_at, make_change, place_cmp, with_changes}
use Rattle.law_types.specs.Typed.{AreChangesOf, AreEditsOf}
use Rattle.salt_values.specs.declared.change.Change.{Change}
use Rattle.std.specs.FinMap.Entries.{below_all, is_sorted}
use Rattle.std.specs.Ordering.{is_lt}
use Rattle.std.specs.Prelude.{Bool, List, [], false, refl, true, ◌&&◌, ◌∷◌, ◌≡◌}
use lib.Dec.{T}

pub changes-made : (cs : List Change) (es : Tables) → with_changes cs es ≡ with_edits (edits_of cs) es
unfolding with_changes
changes-made [] es = refl
changes-made (c ∷ cs) es = changes-made cs (make_change c es)

pub changes-fit : (schema : List TableDef) (cs : List Change) → AreEditsOf schema (edits_of cs) → AreChangesOf schema cs
changes-fit schema [] h = tt
changes-fit schema (c ∷ cs) h = (h.0, changes-fit schema cs h.1)

is-true : (b : Bool) → T b → b ≡ true
is-true true h = refl
is-true false h = absurd h

first-true : (a b : Bool) → T (a && b) → T a
first-true true b h = tt
first-true false b h = h

second-true : (a b : Bool) → T (a && b) → T b
second-true true b h = h
second-true false b h = absurd h

both-true : (a b : Bool) → a ≡ true → b ≡ true → (a && b) ≡ true
both-true true b h g = g
both-true false b h g = cc

pub changes-ordered : (cs : List Change) → AreInOrder (edits_of cs) → are_in_order cs ≡ true
changes-ordered [] h = refl
changes-ordered (c ∷ []) h = refl
changes-ordered (c ∷ d ∷ cs) h =
    let below = first-true (below_all place_cmp (changed_at c) (edits_of (d ∷ cs))) (is_sorted place_cmp (edits_of (d ∷ cs))) h in
    let next = first-true (is_lt (place_cmp (changed_at c) (changed_at d))) (below_all place_cmp (changed_at c) (edits_of cs)) below in
    let rest = second-true (below_all place_cmp (changed_at c) (edits_of (d ∷ cs))) (is_sorted place_cmp (edits_of (d ∷ cs))) h in
    both-true (is_lt (change_cmp c d)) (are_in_order (d ∷ cs)) (is-true (is_lt (place_cmp (changed_at c) (changed_at d))) next) (changes-ordered (d ∷ cs) rest)
