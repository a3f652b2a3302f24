-- The steps of loops.
use Rattle.law_states.specs.DependencyCalls.{Wrote, WroteAll}
use Rattle.law_states.specs.KeptLocks.{Numbered, is_base_among}
use Rattle.law_states.specs.KeptSources.{Dependencies}
use Rattle.law_states.specs.KeptWaits.{Asker, clash_owners, is_base_of, served_in, waiting_for}
use Rattle.salt_locks.specs.Tables.{is_of_another, is_of_none}
use Rattle.law_story.proofs.Ids.{is_same_id-sym}
use Rattle.salt_model.specs.Locks.{is_same_owner}
use Rattle.salt_model.specs.Words.{is_empty}
use Rattle.salt_values.specs.Id.{has_id}
use Rattle.salt_model.specs.declared.events.Owner.{Owner}
use Rattle.salt_model.specs.declared.events.Owner.TheVariants.{Base, Unit}
use Rattle.salt_model.specs.declared.locks.Lock.{Lock}
use Rattle.salt_model.specs.declared.places.Place.{Place}
use Rattle.salt_values.specs.Id.{is_same_id}
use Rattle.salt_values.specs.declared.id.Id.{Id}
use Rattle.salt_conflicts.proofs.Same.{itself, same-dependencies}
use Rattle.salt_conflicts.specs.Calls.{is_unreleased}
use Rattle.salt_conflicts.specs.Waiters.{asker_of, askers}
use Rattle.salt_conflicts.specs.declared.waiters.Waiter.{Waiter}
use Rattle.std.proofs.Common.{ap, refl, subst, sym, ◌∙◌}
use Rattle.std.proofs.lemmas.List.{drop_more, flat_map_more, map_more, take_more}
use Rattle.std.specs.List.{filter, find, flat_map, list_any}
use Rattle.std.specs.Prelude.{Bool, List, Option, Some, [], cond, drop, false, get_or, length, map, not, option_map, take, true, ℕ, ◌&&◌, ◌+◌, ◌++◌, ◌<◌, ◌||◌, ◌∷◌, ◌≡◌}

-- one more key is written
pub wrote-more : (base : Option Id) (ps : List Place) (p : Place) (old mid new : Dependencies) → WroteAll base ps old mid → Wrote base p mid new →
    WroteAll base (ps ++ p ∷ []) old new
wrote-more base [] p old mid new same w = (new, subst (λ d. Wrote base p d new) (same-dependencies old mid same) w, itself new)
wrote-more base (q ∷ qs) p old mid new w last = (w.0, w.1, wrote-more base qs p w.0 mid new w.2 last)

-- the locks of one more program go

or-turned : (s t : Bool) → (t || s) ≡ (s || t)
or-turned true true = refl
or-turned true false = refl
or-turned false true = refl
or-turned false false = refl

owner-first : (b : Id) (bs : List Id) (o : Owner) → is_base_among (b ∷ bs) o ≡ (is_base_among bs o || is_same_owner (Base b) o)
owner-first b bs (Unit u) = refl
owner-first b bs (Base c) = or-turned (has_id c bs) (is_same_id c b) ∙ ap (λ t. has_id c bs || t) (is_same_id-sym c b)

pub release-first : (b : Id) (bs : List Id) (table : List Numbered) →
    filter (is_of_another (Base b)) (filter (is_unreleased bs) table) ≡ filter (is_unreleased (b ∷ bs)) table
release-first b bs [] = refl
release-first b bs (n ∷ ns) =
    by (is_base_among bs n.lock.owner) (is_same_owner (Base b) n.lock.owner) refl (release-first b bs ns)
    ∙ ap (λ t. cond (not t) (n ∷ filter (is_unreleased (b ∷ bs)) ns) (filter (is_unreleased (b ∷ bs)) ns)) (sym (owner-first b bs n.lock.owner))
  where
    by : (s t : Bool) → is_same_owner (Base b) n.lock.owner ≡ t → filter (is_of_another (Base b)) (filter (is_unreleased bs) ns) ≡ filter (is_unreleased (b ∷ bs)) ns →
        filter (is_of_another (Base b)) (cond (not s) (n ∷ filter (is_unreleased bs) ns) (filter (is_unreleased bs) ns))
        ≡ cond (not (s || t)) (n ∷ filter (is_unreleased (b ∷ bs)) ns) (filter (is_unreleased (b ∷ bs)) ns)
    by true t e ih = ih
    by false t e ih =
        ap (λ v. cond (not v) (n ∷ filter (is_of_another (Base b)) (filter (is_unreleased bs) ns)) (filter (is_of_another (Base b)) (filter (is_unreleased bs) ns))) e
        ∙ ap (λ r. cond (not t) (n ∷ r) r) ih

-- the locks of many programs go at once

owner-same : (xs bs : List Id) → ((q : Id) → has_id q xs ≡ has_id q bs) → (o : Owner) → is_base_among xs o ≡ is_base_among bs o
owner-same xs bs h (Unit u) = refl
owner-same xs bs h (Base b) = h b

pub release-same : (xs bs : List Id) → ((q : Id) → has_id q xs ≡ has_id q bs) → (table : List Numbered) → filter (is_of_none xs) table ≡ filter (is_unreleased bs) table
release-same xs bs h [] = refl
release-same xs bs h (n ∷ ns) =
    ap (λ t. cond (not t) (n ∷ filter (is_of_none xs) ns) (filter (is_of_none xs) ns)) (owner-same xs bs h n.lock.owner)
    ∙ ap (λ r. cond (not (is_base_among bs n.lock.owner)) (n ∷ r) r) (release-same xs bs h ns)

-- the first of the waiting units that clashes with nothing

pub not-empty : {A : Type 0} (xs : List A) → (xs ≡ [] → ⊥) → is_empty xs ≡ false
not-empty [] h = absurd (h refl)
not-empty (x ∷ xs) h = refl

pub served-first : (ls : List Lock) (w : Waiter) (ws : List Waiter) (b : Bool) → is_empty (clash_owners ls (asker_of w)) ≡ b →
    served_in ls (askers (w ∷ ws)) ≡ cond b (Some w.unit) (served_in ls (askers ws))
served-first ls w ws b e = by (is_empty (clash_owners ls (asker_of w))) ∙ ap (λ t. cond t (Some w.unit) (served_in ls (askers ws))) e
  where
    by : (t : Bool) →
        option_map (λ (a : Asker). a.unit) (cond t (Some (asker_of w)) (find (λ a. is_empty (clash_owners ls a)) (askers ws)))
        ≡ cond t (Some w.unit) (served_in ls (askers ws))
    by true = refl
    by false = refl

pub served-at : (ls : List Lock) (ws : List Waiter) (k : ℕ) (w : Waiter) (b : Bool) → k < length ws → w ≡ get_or ws k w → is_empty (clash_owners ls (asker_of w)) ≡ b →
    served_in ls (askers (drop k ws)) ≡ cond b (Some w.unit) (served_in ls (askers (drop (k + 1) ws)))
served-at ls ws k w b h at e =
    ap (λ l. served_in ls (askers l)) (drop_more ws k w h ∙ ap (λ x. x ∷ drop (k + 1) ws) (sym at)) ∙ served-first ls w (drop (k + 1) ws) b e

-- one more waiting unit, one more owner

abbrev pub one_if : Bool → Id → List Id
one_if true u = u ∷ []
one_if false u = []

waiting-push : (d : Dependencies) (bs : List Id) (w : Waiter) (ws : List Waiter) →
    waiting_for d (askers (ws ++ w ∷ [])) bs ≡ waiting_for d (askers ws) bs ++ one_if (list_any (λ b. not (d.finished b) && is_base_of w.base b) bs) w.unit
waiting-push d bs w [] = by (list_any (λ b. not (d.finished b) && is_base_of w.base b) bs)
  where
    by : (t : Bool) → map (λ (a : Asker). a.unit) (cond t (asker_of w ∷ []) []) ≡ [] ++ one_if t w.unit
    by true = refl
    by false = refl
waiting-push d bs w (x ∷ xs) = by (list_any (λ b. not (d.finished b) && is_base_of x.base b) bs) (waiting-push d bs w xs)
  where
    by : (t : Bool) → waiting_for d (askers (xs ++ w ∷ [])) bs ≡ waiting_for d (askers xs) bs ++ one_if (list_any (λ b. not (d.finished b) && is_base_of w.base b) bs) w.unit →
        map (λ (a : Asker). a.unit) (cond t (asker_of x ∷ filter (λ a. list_any (λ b. not (d.finished b) && is_base_of a.base b) bs) (askers (xs ++ w ∷ []))) (filter (λ a. list_any (λ b. not (d.finished b) && is_base_of a.base b) bs) (askers (xs ++ w ∷ []))))
        ≡ map (λ (a : Asker). a.unit) (cond t (asker_of x ∷ filter (λ a. list_any (λ b. not (d.finished b) && is_base_of a.base b) bs) (askers xs)) (filter (λ a. list_any (λ b. not (d.finished b) && is_base_of a.base b) bs) (askers xs)))
        ++ one_if (list_any (λ b. not (d.finished b) && is_base_of w.base b) bs) w.unit
    by true e = ap (λ l. x.unit ∷ l) e
    by false e = e

pub waiting-more : (d : Dependencies) (bs : List Id) (ws : List Waiter) (k : ℕ) (w : Waiter) (b : Bool) → k < length ws → w ≡ get_or ws k w →
    list_any (λ b. not (d.finished b) && is_base_of w.base b) bs ≡ b →
    waiting_for d (askers (take (k + 1) ws)) bs ≡ waiting_for d (askers (take k ws)) bs ++ one_if b w.unit
waiting-more d bs ws k w b h at e =
    ap (λ l. waiting_for d (askers l) bs) (take_more ws k w h ∙ ap (λ x. take k ws ++ x ∷ []) (sym at))
    ∙ (waiting-push d bs w (take k ws) ∙ ap (λ t. waiting_for d (askers (take k ws)) bs ++ one_if t w.unit) e)

pub mapped-more : {A B : Type 0} (f : A → B) (xs : List A) (k : ℕ) (x : A) → k < length xs → x ≡ get_or xs k x → map f (take (k + 1) xs) ≡ map f (take k xs) ++ f x ∷ []
mapped-more f xs k x h at = map_more f xs k x h ∙ ap (λ y. map f (take k xs) ++ f y ∷ []) (sym at)

pub flat-more : {A B : Type 0} (f : A → List B) (xs : List A) (k : ℕ) (x : A) → k < length xs → flat_map f (take (k + 1) xs) ≡ flat_map f (take k xs) ++ f (get_or xs k x)
flat-more f xs k x h = ap (flat_map f) (take_more xs k x h) ∙ sym (flat_map_more f [] (take k xs) (get_or xs k x))

pub edges-more : {A B : Type 0} (f : A → List B) (xs : List A) (k : ℕ) (x : A) (old new : List B) → k < length xs → new ≡ old ++ f (get_or xs k x) → old ≡ flat_map f (take k xs) →
    new ≡ flat_map f (take (k + 1) xs)
edges-more f xs k x old new h e g = e ∙ (ap (λ l. l ++ f (get_or xs k x)) g ∙ sym (flat-more f xs k x h))
