-- The row of a place under changes: that of the change there, else the one below.
use Rattle.salt_eval.specs.Scans.{IsKeyed}
use Rattle.law_states.proofs.Overlays.{edited-row}
use Rattle.law_states.specs.Overlays.{AreInOrder, edits_of, over, with_edits}
use Rattle.salt_eval.specs.Views.{shown_where}
use Rattle.salt_model.specs.Tables.{Tables, row_at}
use Rattle.salt_model.specs.declared.places.Place.{Place}
use Rattle.salt_units.proofs.Changed.{edit-found}
use Rattle.salt_units.specs.Edited.{IsPlaceOf, is_change_at}
use Rattle.salt_units.specs.Merging.{put_at, shown_at}
use Rattle.salt_values.specs.Value.{key_of}
use Rattle.salt_values.specs.declared.change.Change.{Change}
use Rattle.salt_values.specs.declared.value.Value.{Value}
use Rattle.std.proofs.Common.{ap, subst, sym, ◌∙◌}
use Rattle.std.specs.Option.{ForSome}
use Rattle.std.specs.Prelude.{Bool, IfSome, List, None, Option, Some, find, is_some, option_and_then, option_map, refl, ℕ, ◌≡◌}

pub keyed-rows : (es : Tables) → ((p : Place) → ForSome (row_at p es) (λ row. key_of row ≡ p.key)) → IsKeyed es
keyed-rows es h p = by (row_at p es) (h p)
  where
    by : (o : Option (List Value)) → ForSome o (λ row. key_of row ≡ p.key) → IfSome o (λ row. key_of row ≡ p.key)
    by None h = tt
    by (Some row) h = h row refl

pub rows-keyed : (es : Tables) → IsKeyed es → (p : Place) → ForSome (row_at p es) (λ row. key_of row ≡ p.key)
rows-keyed es h p = λ row is. subst (λ o. IfSome o (λ row. key_of row ≡ p.key)) is (h p)

-- a row that is put is shown
put-shown : (put : Option (List Value)) (below : List Value) → put ≡ shown_where (is_some put) (shown_at put below)
put-shown None below = refl
put-shown (Some row) below = refl

module _ (cs : List Change) (es : Tables) (p : Place) where
  abbrev under : Tables
  under = with_edits (edits_of cs) es

  -- the row of a place that a change is at, and of one that no change is at
  changed-row : (c : Change) → AreInOrder (edits_of cs) → find (is_change_at p) cs ≡ Some c → c.row ≡ row_at p under
  changed-row c h is = sym (edited-row (edits_of cs) es p h ∙ ap (λ o. over o (row_at p es)) (sym (edit-found p cs) ∙ ap (option_map (λ (c : Change). c.row)) is))

  unchanged-row : AreInOrder (edits_of cs) → find (is_change_at p) cs ≡ None → row_at p es ≡ row_at p under
  unchanged-row h is = sym (edited-row (edits_of cs) es p h ∙ ap (λ o. over o (row_at p es)) (sym (edit-found p cs) ∙ ap (option_map (λ (c : Change). c.row)) is))

  -- and what is shown of each
  pub row-put : (at : Option ℕ) (i : ℕ) (there : Bool) (below : List Value) → AreInOrder (edits_of cs) → IsPlaceOf p cs at → at ≡ Some i → there ≡ is_some (put_at cs at) → row_at p under ≡ shown_where there (shown_at (put_at cs at) below)
  row-put at i there below h found is put =
      let one : IsPlaceOf p cs (Some i) = subst (IsPlaceOf p cs) is found in
      sym (changed-row one.0 h one.2)
      ∙ sym (ap (option_and_then (λ (x : Change). x.row)) one.1)
      ∙ sym (ap (put_at cs) is)
      ∙ put-shown (put_at cs at) below
      ∙ ap (λ b. shown_where b (shown_at (put_at cs at) below)) (sym put)

  pub row-below : (at : Option ℕ) (there : Bool) (below : List Value) → AreInOrder (edits_of cs) → IsPlaceOf p cs at → at ≡ None → row_at p es ≡ shown_where there below → row_at p under ≡ shown_where there (shown_at (put_at cs at) below)
  row-below at there below h found is row =
      let none : IsPlaceOf p cs None = subst (IsPlaceOf p cs) is found in
      sym (unchanged-row h none) ∙ row ∙ ap (λ o. shown_where there (shown_at (put_at cs o) below)) (sym is)
