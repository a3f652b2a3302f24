-- The writers in a reach are the last writers of its places.
use Rattle.law_story.proofs.Lists.{In, has-in, in-filter, in-has, in-map, into-filter, into-map, not-true}
use Rattle.law_story.proofs.Places.{equal-is, place_same}
use Rattle.law_story.specs.Rewordings.{WritersAreLast}
use Rattle.salt_model.specs.Reads.{Written, is_written_at, last_of_each, last_writer, writers_in, written_at, written_in}
use Rattle.salt_model.specs.Tables.{is_within, place_total}
use Rattle.salt_model.specs.Trace.{Trace}
use Rattle.salt_model.specs.declared.places.Place.{Place}
use Rattle.salt_values.specs.declared.id.Id.{Id}
use Rattle.std.proofs.Common.{ap, inl, inr, subst, sym, ◌∙◌}
use Rattle.std.proofs.lemmas.Cmp.{tied_itself}
use Rattle.std.specs.List.{filter, find}
use Rattle.std.specs.Prelude.{Bool, IsTrue, List, None, Option, Some, [], cond, false, not, option_map, refl, true, ◌∷◌, ◌≡◌}

-- a place that the test tells is the one written
at-place : (p : Place) (w : Written) → is_written_at p w ≡ true → p ≡ written_at w
at-place p w h = place_same p (written_at w) (equal-is _ h)

at-itself : (w : Written) → is_written_at (written_at w) w ≡ true
at-itself w = rw (tied_itself place_total (written_at w)) refl

-- the last writing of each place is the first found of it, the latest being first
last-found : (w : Written) (ws : List Written) → In w (last_of_each ws) → find (is_written_at (written_at w)) ws ≡ Some w
last-found w [] h = absurd h
last-found w (x ∷ ws) (inl e) = subst (λ y. find (is_written_at (written_at y)) (x ∷ ws) ≡ Some y) e (rw (at-itself x) refl)
last-found w (x ∷ ws) (inr h) = by (last-found w ws) (is_written_at (written_at w) x) refl
  where
    kept : In w (last_of_each ws) × (not (is_written_at (written_at x) w) ≡ true)
    kept = in-filter (λ v. not (is_written_at (written_at x) v)) w (last_of_each ws) h

    by : (In w (last_of_each ws) → find (is_written_at (written_at w)) ws ≡ Some w) → (b : Bool) → is_written_at (written_at w) x ≡ b → cond b (Some x) (find (is_written_at (written_at w)) ws) ≡ Some w
    by more true e =
        let same : is_written_at (written_at x) w ≡ true = subst (λ p. is_written_at p w ≡ true) (at-place (written_at w) x e) (at-itself w) in
        let other : is_written_at (written_at x) w ≡ false = not-true _ kept.1 in
        cc
    by more false e = more kept.0

found-at : (p : Place) (w : Written) (ws : List Written) → find (is_written_at p) ws ≡ Some w → p ≡ written_at w
found-at p w [] h = cc
found-at p w (x ∷ ws) h = by (found-at p w ws) (is_written_at p x) refl h
  where
    by : (find (is_written_at p) ws ≡ Some w → p ≡ written_at w) → (b : Bool) → is_written_at p x ≡ b → cond b (Some x) (find (is_written_at p) ws) ≡ Some w → p ≡ written_at w
    by more true e g = let s : x ≡ w = cc in at-place p w (subst (λ y. is_written_at p y ≡ true) s e)
    by more false e g = more g

found-last : (p : Place) (w : Written) (ws : List Written) → find (is_written_at p) ws ≡ Some w → In w (last_of_each ws)
found-last p w [] h = cc
found-last p w (x ∷ ws) h = by (found-last p w ws) (is_written_at p x) refl h
  where
    by : (find (is_written_at p) ws ≡ Some w → In w (last_of_each ws)) → (b : Bool) → is_written_at p x ≡ b → cond b (Some x) (find (is_written_at p) ws) ≡ Some w → In w (last_of_each (x ∷ ws))
    by more true e g = inl cc
    by more false e g = inr (into-filter (λ v. not (is_written_at (written_at x) v)) w (last_of_each ws) (more g) (apart (is_written_at (written_at x) w) refl))
      where
        apart : (b : Bool) → is_written_at (written_at x) w ≡ b → not b ≡ true
        apart false i = refl
        apart true i =
            let here : p ≡ written_at x = found-at p w ws g ∙ sym (at-place (written_at x) w i) in
            let same : is_written_at p x ≡ true = subst (λ q. is_written_at q x ≡ true) (sym here) (at-itself x) in
            cc

abbrev unit_of : Written → Id
unit_of w = w.unit

pub writers-last : (trace : Trace) → WritersAreLast trace
writers-last trace r u = (
  (λ h. from (in-map unit_of u _ (has-in u _ h))),
  (λ h. in-has u _ (into h.0 h.1 (find (is_written_at h.0) (written_in trace)) refl h.2)),
)
  where
    from : (w : Written) × In w (filter (λ (w : Written). is_within r (written_at w)) (last_of_each (written_in trace))) × (w.unit ≡ u) → (p : Place) × IsTrue (is_within r p) × (last_writer trace p ≡ Some u)
    from m =
        let i = in-filter (λ (w : Written). is_within r (written_at w)) m.0 (last_of_each (written_in trace)) m.1 in
        (written_at m.0, i.1, ap (option_map unit_of) (last-found m.0 (written_in trace) i.0) ∙ ap Some m.2)

    into : (p : Place) → IsTrue (is_within r p) → (o : Option Written) → find (is_written_at p) (written_in trace) ≡ o → option_map unit_of o ≡ Some u → In u (writers_in trace (Some r))
    into p h None e g = cc
    into p h (Some w) e g =
        let s : w.unit ≡ u = cc in
        let i = into-filter (λ (w : Written). is_within r (written_at w)) w (last_of_each (written_in trace)) (found-last p w (written_in trace) e) (subst (λ q. is_within r q ≡ true) (found-at p w (written_in trace) e) h) in
        subst (λ v. In v (writers_in trace (Some r))) s (into-map unit_of w _ i)
