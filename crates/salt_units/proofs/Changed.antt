-- The edit at a place is that of the change there.
use Rattle.law_states.specs.Overlays.{edits_of}
use Rattle.salt_model.specs.Tables.{changed_at, place_cmp}
use Rattle.salt_model.specs.declared.places.Place.{Place}
use Rattle.salt_units.proofs.Searches.{at-place}
use Rattle.salt_units.specs.Edited.{is_change_at}
use Rattle.salt_values.specs.declared.change.Change.{Change}
use Rattle.std.specs.FinMap.Entries as map
use Rattle.std.specs.Ordering.{is_eq}
use Rattle.std.specs.Prelude.{Bool, List, Some, cond, false, find, option_map, refl, true, ◌∷◌, ◌≡◌, []}

-- the edit at a place is that of the change there
pub edit-found : (p : Place) (cs : List Change) → option_map (λ (c : Change). c.row) (find (is_change_at p) cs) ≡ map.find place_cmp p (edits_of cs)
edit-found p [] = refl
edit-found p (c ∷ cs) = by (is_change_at p c) (is_eq (place_cmp p (changed_at c))) (at-place p (changed_at c)) (edit-found p cs)
  where
    by : (a b : Bool) → a ≡ b → option_map (λ (c : Change). c.row) (find (is_change_at p) cs) ≡ map.find place_cmp p (edits_of cs) → option_map (λ (c : Change). c.row) (cond a (Some c) (find (is_change_at p) cs)) ≡ cond b (Some c.row) (map.find place_cmp p (edits_of cs))
    by true true same more = refl
    by false false same more = more
    by true false same more = absurd cc
    by false true same more = absurd cc
