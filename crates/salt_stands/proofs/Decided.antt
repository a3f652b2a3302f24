-- Units that are decided, and the changes of their entries.
use Rattle.salt_model.specs.Tables.{Tables, make_change, with_changes}
use Rattle.salt_values.specs.Id.{has_id}
use Rattle.salt_values.specs.declared.change.Change.{Change}
use Rattle.salt_bytes.specs.Coordinator.{Decision}
use Rattle.salt_bytes.specs.Partition.{Prepared}
use Rattle.salt_stands.proofs.Booleans.{any_last}
use Rattle.salt_stands.specs.Coordinator.{decided_for, unit_of}
use Rattle.salt_stands.specs.Partition.{changes_if, decided_changes}
use Rattle.salt_stands.specs.Pieces.{is_prepared_in}
use Rattle.salt_stands.specs.Words.{has_bit}
use Rattle.salt_values.specs.Id.{is_same_id}
use Rattle.salt_values.specs.declared.id.Id.{Id}
use Rattle.std.proofs.Common.{Bool, List, [], ap, append_assoc, false, refl, sym, true, ℕ, ◌++◌, ◌≡◌, ◌∙◌, ◌∷◌, arith}
use Rattle.std.proofs.lemmas.Bool.Decides.{Decides-eqb}
use Rattle.std.proofs.lemmas.List.{append-nil}
use Rattle.std.specs.List.{filter}
use Rattle.std.specs.Prelude.{cond, map, ◌&&◌, ◌==◌, ◌||◌}

pub decided_with : (p : ℕ) (ds : List Decision) (d : Decision) → has_bit d.mask p ≡ true → decided_for p (ds ++ d ∷ []) ≡ decided_for p ds ++ d.unit ∷ []
decided_with p [] d e = ap (λ b. map unit_of (cond b (d ∷ []) [])) e
decided_with p (x ∷ ds) d e = by (has_bit x.mask p) (decided_with p ds d e)
  where
    by : (b : Bool) → decided_for p (ds ++ d ∷ []) ≡ decided_for p ds ++ d.unit ∷ []
        → map unit_of (cond b (x ∷ filter (λ d. has_bit d.mask p) (ds ++ d ∷ [])) (filter (λ d. has_bit d.mask p) (ds ++ d ∷ []))) ≡ map unit_of (cond b (x ∷ filter (λ d. has_bit d.mask p) ds) (filter (λ d. has_bit d.mask p) ds)) ++ d.unit ∷ []
    by true h = ap (λ us. x.unit ∷ us) h
    by false h = h

pub decided_without : (p : ℕ) (ds : List Decision) (d : Decision) → has_bit d.mask p ≡ false → decided_for p (ds ++ d ∷ []) ≡ decided_for p ds
decided_without p [] d e = ap (λ b. map unit_of (cond b (d ∷ []) [])) e
decided_without p (x ∷ ds) d e = by (has_bit x.mask p) (decided_without p ds d e)
  where
    by : (b : Bool) → decided_for p (ds ++ d ∷ []) ≡ decided_for p ds
        → map unit_of (cond b (x ∷ filter (λ d. has_bit d.mask p) (ds ++ d ∷ [])) (filter (λ d. has_bit d.mask p) (ds ++ d ∷ []))) ≡ map unit_of (cond b (x ∷ filter (λ d. has_bit d.mask p) ds) (filter (λ d. has_bit d.mask p) ds))
    by true h = ap (λ us. x.unit ∷ us) h
    by false h = h

same_number : (a b : ℕ) → (a == b) ≡ (b == a)
same_number a b = grind (arith, Rattle.std.proofs.lemmas.Bool.Decides.nat_tests)

pub same_id_sym : (u v : Id) → is_same_id u v ≡ is_same_id v u
same_id_sym u v = ap (λ b. b && (u.seq == v.seq)) (same_number u.boot v.boot) ∙ ap (λ b. (v.boot == u.boot) && b) (same_number u.seq v.seq)

pub same_id_itself : (u : Id) → is_same_id u u ≡ true
same_id_itself u = ap (λ b. b && (u.seq == u.seq)) ((Decides-eqb u.boot u.boot).1 refl) ∙ (Decides-eqb u.seq u.seq).1 refl

pub prepared_more : (u : Id) (ps : List Prepared) (x : Prepared) → is_prepared_in u ps ≡ true → is_prepared_in u (ps ++ x ∷ []) ≡ true
prepared_more u [] x e = cc
prepared_more u (p ∷ ps) x e = by (is_same_id u p.unit) e (prepared_more u ps x)
  where
    by : (b : Bool) → (b || is_prepared_in u ps) ≡ true → (is_prepared_in u ps ≡ true → is_prepared_in u (ps ++ x ∷ []) ≡ true) → (b || is_prepared_in u (ps ++ x ∷ [])) ≡ true
    by true e h = refl
    by false e h = h e

pub prepared_last : (ps : List Prepared) (x : Prepared) → is_prepared_in x.unit (ps ++ x ∷ []) ≡ true
prepared_last [] x = ap (λ b. b || false) (same_id_itself x.unit)
prepared_last (p ∷ ps) x = by (is_same_id x.unit p.unit) (prepared_last ps x)
  where
    by : (b : Bool) → is_prepared_in x.unit (ps ++ x ∷ []) ≡ true → (b || is_prepared_in x.unit (ps ++ x ∷ [])) ≡ true
    by true h = refl
    by false h = h

pub changes_push : (us : List Id) (ps : List Prepared) (x : Prepared) → decided_changes us (ps ++ x ∷ []) ≡ decided_changes us ps ++ changes_if (has_id x.unit us) x.changes
changes_push us [] x = append-nil (changes_if (has_id x.unit us) x.changes)
changes_push us (p ∷ ps) x = ap (λ cs. changes_if (has_id p.unit us) p.changes ++ cs) (changes_push us ps x) ∙ sym (append_assoc (changes_if (has_id p.unit us) p.changes) (decided_changes us ps) (changes_if (has_id x.unit us) x.changes))

-- a further name that is not the unit's own changes nothing
has_other : (u v : Id) (us : List Id) → is_same_id v u ≡ false → has_id u (us ++ v ∷ []) ≡ has_id u us
has_other u v [] e = ap (λ b. b || false) (same_id_sym u v ∙ e)
has_other u v (w ∷ us) e = ap (λ b. is_same_id u w || b) (has_other u v us e)

or_left_false : (a b : Bool) → (a || b) ≡ false → a ≡ false
or_left_false true b e = cc
or_left_false false b e = refl

or_right_false : (a b : Bool) → (a || b) ≡ false → b ≡ false
or_right_false true b e = cc
or_right_false false b e = e

-- a unit that has no entry among these is decided: their changes are the same
pub changes_other : (us : List Id) (v : Id) (ps : List Prepared) → is_prepared_in v ps ≡ false → decided_changes (us ++ v ∷ []) ps ≡ decided_changes us ps
changes_other us v [] e = refl
changes_other us v (p ∷ ps) e =
    ap (λ b. changes_if b p.changes ++ decided_changes (us ++ v ∷ []) ps) (has_other p.unit v us (or_left_false (is_same_id v p.unit) (is_prepared_in v ps) e))
    ∙ ap (λ cs. changes_if (has_id p.unit us) p.changes ++ cs) (changes_other us v ps (or_right_false (is_same_id v p.unit) (is_prepared_in v ps) e))

pub with_changes_append : (cs ds : List Change) (t : Tables) → with_changes (cs ++ ds) t ≡ with_changes ds (with_changes cs t)
unfolding with_changes
with_changes_append [] ds t = refl
with_changes_append (c ∷ cs) ds t = with_changes_append cs ds (make_change c t)

pub has_last : (us : List Id) (u : Id) → has_id u (us ++ u ∷ []) ≡ true
has_last us u = any_last (is_same_id u) us u (same_id_itself u)
