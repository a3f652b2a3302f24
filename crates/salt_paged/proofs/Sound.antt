-- Rows that make the tables of sound changes are sound.
use Rattle.salt_bytes.specs.Page.{TableRow}
use Rattle.salt_checkpoint.proofs.Moved.{are_apart, are_away, found_away, place_of}
use Rattle.salt_checkpoint.proofs.Rows.{row_found, with_after}
use Rattle.salt_checkpoint.specs.Rows.{after, found_row, is_row_at}
use Rattle.salt_model.specs.Tables.{changed_at, no_rows, place_cmp, place_total, row_at, with_changes}
use Rattle.salt_model.specs.declared.places.Place.{Place}
use Rattle.salt_stands.proofs.Booleans.{join, left, right}
use Rattle.salt_stands.proofs.Places.{equal_is, place_same}
use Rattle.salt_stands.specs.Coordinator.{Coordinator}
use Rattle.salt_stands.specs.Partition.{are_distinct, are_sound_rows, is_sound_change, is_sound_to}
use Rattle.salt_stands.specs.Reading.{Reading}
use Rattle.salt_stands.specs.Tables.{change_of_row}
use Rattle.salt_values.specs.declared.change.Change.{Change}
use Rattle.salt_values.specs.declared.value.Value.{Value}
use Rattle.std.proofs.Common.{Bool, List, None, Option, Some, [], ap, false, refl, subst, sym, true, ℕ, ◌≡◌, ◌∙◌, ◌∷◌}
use Rattle.std.proofs.lemmas.Cmp.{tied_itself}
use Rattle.std.specs.List.{list_all}
use Rattle.std.specs.Ordering.{is_eq}
use Rattle.std.specs.Prelude.{cond, map, nat_lt, ◌&&◌}

module _ {D : Type 0} (r : Reading D) (c : Coordinator D) (p : ℕ) where
  -- a row that a sound change may have put at the place
  abbrev is_sound_at : Place → Option (List Value) → Bool
  is_sound_at q None = true
  is_sound_at q (Some row) = nat_lt q.table (r.count_tables c.definitions) && is_sound_to r c p q (Some row)

  sound_after : (q : Place) (cs : List Change) (row : Option (List Value)) → list_all (is_sound_change r c p) cs ≡ true → is_sound_at q row ≡ true → is_sound_at q (after q cs row) ≡ true
  sound_after q [] row sound at = at
  sound_after q (ch ∷ cs) row sound at = sound_after q cs (cond (is_eq (place_cmp q (changed_at ch))) ch.row row) (right (is_sound_change r c p ch) (list_all (is_sound_change r c p) cs) sound) (one (is_eq (place_cmp q (changed_at ch))) refl)
    where
      put : (put : Option (List Value)) → (nat_lt ch.table (r.count_tables c.definitions) && is_sound_to r c p (changed_at ch) put) ≡ true → is_sound_at (changed_at ch) put ≡ true
      put None e = refl
      put (Some x) e = e

      one : (b : Bool) → is_eq (place_cmp q (changed_at ch)) ≡ b → is_sound_at q (cond b ch.row row) ≡ true
      one true e = subst (λ (k : Place). is_sound_at k ch.row ≡ true) (sym (place_same q (changed_at ch) (equal_is (place_cmp q (changed_at ch)) e))) (put ch.row (left (is_sound_change r c p ch) (list_all (is_sound_change r c p) cs) sound))
      one false e = at

  -- where no two stand at one place, each is found at its own
  sound_found : (rs : List TableRow) → are_distinct (map change_of_row rs) ≡ true → ((q : Place) → is_sound_at q (found_row q rs) ≡ true) → list_all (is_sound_change r c p) (map change_of_row rs) ≡ true
  sound_found [] apart sound = refl
  sound_found (x ∷ xs) apart sound = join (is_sound_change r c p (change_of_row x)) (list_all (is_sound_change r c p) (map change_of_row xs)) own (sound_found xs (right (are_away (place_of x) xs) (are_apart xs) apart) rest)
    where
      alone : are_away (place_of x) xs ≡ true
      alone = left (are_away (place_of x) xs) (are_apart xs) apart

      own : is_sound_change r c p (change_of_row x) ≡ true
      own = subst (λ (b : Bool). is_sound_at (place_of x) (cond b (Some x.row) (found_row (place_of x) xs)) ≡ true) (ap is_eq (tied_itself place_total (place_of x))) (sound (place_of x))

      rest : (q : Place) → is_sound_at q (found_row q xs) ≡ true
      rest q = by (is_row_at q x) refl (sound q)
        where
          by : (b : Bool) → is_row_at q x ≡ b → is_sound_at q (cond b (Some x.row) (found_row q xs)) ≡ true → is_sound_at q (found_row q xs) ≡ true
          by true e h = ap (is_sound_at q) (found_away q xs (subst (λ (k : Place). are_away k xs ≡ true) (sym (place_same q (place_of x) (equal_is (place_cmp q (place_of x)) e))) alone))
          by false e h = h

  pub rows_are_sound : (cs : List Change) (rs : List TableRow) → list_all (is_sound_change r c p) cs ≡ true → are_distinct (map change_of_row rs) ≡ true
      → with_changes (map change_of_row rs) no_rows ≡ with_changes cs no_rows → are_sound_rows r c p (map change_of_row rs) ≡ true
  rows_are_sound cs rs sound apart same =
      join (list_all (is_sound_change r c p) (map change_of_row rs)) (are_distinct (map change_of_row rs))
      (sound_found rs apart (λ q. subst (λ (row : Option (List Value)). is_sound_at q row ≡ true) (sym (found q)) (sound_after q cs None sound refl)))
      apart
    where
      found : (q : Place) → found_row q rs ≡ after q cs None
      found q = sym (row_found q rs apart) ∙ ap (row_at q) same ∙ with_after q cs no_rows
