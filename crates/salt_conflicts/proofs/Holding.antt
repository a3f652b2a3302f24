-- Whose locks hold up the units that wait: what calls leave of what is known of them, and that nobody is served where all are held up.
use Rattle.law_states.proofs.Closures.{into-any}
use Rattle.law_states.specs.KeptLocks.{Numbered, clash_in, is_owned_by}
use Rattle.law_states.specs.KeptWaits.{clash_owners, served_in}
use Rattle.law_states.specs.Members.{In}
use Rattle.law_story.proofs.Ids.{and_left, and_right}
use Rattle.law_story.proofs.Lists.{any-not, in-cases, in-filter, in-map, into-map, not-true}
use Rattle.salt_conflicts.proofs.Steps.{served-first}
use Rattle.salt_conflicts.proofs.Told.{free-of}
use Rattle.salt_conflicts.specs.Calls.{handed_over}
use Rattle.salt_conflicts.specs.Holders.{AreHeldUp, IsHeldUp, KnowsHolders, is_among}
use Rattle.salt_conflicts.specs.Waiters.{asker_of, askers, holds_up, is_another}
use Rattle.salt_conflicts.specs.declared.waiters.Waiter.{Waiter}
use Rattle.salt_locks.proofs.Fits.{drops, salts, takes}
use Rattle.salt_locks.proofs.Spotting.{owner-is}
use Rattle.salt_locks.specs.Tables.{locks_in, put}
use Rattle.salt_model.specs.Locks.{clashes, is_same_owner, owners_of}
use Rattle.salt_model.specs.Words.{is_empty}
use Rattle.salt_model.specs.declared.events.Owner.{Owner}
use Rattle.salt_model.specs.declared.locks.Lock.{Lock}
use Rattle.salt_model.specs.declared.locks.Reach.{Reach}
use Rattle.salt_values.specs.declared.id.Id.{Id}
use Rattle.std.proofs.Common.{ap, inl, inr, subst, sym, ◌∙◌}
use Rattle.std.proofs.lemmas.List.{take_more}
use Rattle.std.specs.List.{filter}
use Rattle.std.specs.Prelude.{Bool, IsTrue, List, None, Option, Some, [], false, get_or, is_some, length, not, refl, take, true, ℕ, ◌&&◌, ◌+◌, ◌++◌, ◌<◌, ◌∷◌, ◌||◌, ◌≡◌, ◌⊎◌}

-- WHAT CALLS LEAVE

-- where nothing is known
pub unknown : (held : Bool) (os : List Owner) (table : List Numbered) (ws : List Waiter) → held ≡ false → KnowsHolders held os table ws
unknown held os table ws none sure = absurd (never (sym none ∙ sure))
  where
    never : false ≡ true → ⊥
    never e = cc

-- locks of these owners stay, and no unit is new among those that wait
held-on : (os : List Owner) (old new : List Numbered) (ws vs : List Waiter) → ((n : Numbered) → In n old → In n.lock.owner os → In n new) →
    ((w : Waiter) → In w vs → In w ws) → AreHeldUp os (locks_in old) ws → AreHeldUp os (locks_in new) vs
held-on os old new ws vs locks waits held w i =
    let h = held w (waits w i) in
    let m = in-map (λ (n : Numbered). n.lock) h.0 old h.1 in (
      h.0,
      subst (λ (l : Lock). In l (locks_in new)) m.2
          (into-map (λ (n : Numbered). n.lock) m.0 new (locks m.0 m.1 (subst (λ (l : Lock). In l.owner os) (sym m.2) h.2))),
      h.2,
      h.3,
    )

left-waited : (u : Id) (ws vs : List Waiter) → vs ≡ filter (is_another u) ws → (w : Waiter) → In w vs → In w ws
left-waited u ws vs is w i = (in-filter (is_another u) w ws (subst (λ (l : List Waiter). In w l) is i)).0

-- a unit waits no more
pub held-left : (u : Id) (held : Bool) (os : List Owner) (table : List Numbered) (ws vs : List Waiter) → vs ≡ filter (is_another u) ws →
    KnowsHolders held os table ws → KnowsHolders held os table vs
held-left u held os table ws vs is knows sure = held-on os table table ws vs (λ n i o. i) (left-waited u ws vs is) (knows sure)

-- a lock is taken besides
pub held-taken : (k : ℕ) (l : Lock) (held : Bool) (os : List Owner) (old new : List Numbered) (ws : List Waiter) →
    new ≡ put (record { number = k; lock = l }) old → KnowsHolders held os old ws → KnowsHolders held os new ws
held-taken k l held os old new ws locks knows sure =
    held-on os old new ws ws
    (λ n i o. subst (λ (t : List Numbered). In n t) (sym locks) ((takes k l old n).1 (inl i)))
    (λ w i. i)
    (knows sure)

-- of another owner's locks none is this owner's
of-others : (o : Owner) (os : List Owner) (l : Lock) → not (is_among o os) ≡ true → In l.owner os → is_owned_by o l ≡ false
of-others o os l none i = any-not (is_same_owner o) l.owner os (not-true (is_among o os) none) i

handed-stay : (u : Id) (base : Option Id) (os : List Owner) (old : List Numbered) → not (is_among (Owner.Unit u) os) ≡ true →
    (n : Numbered) → In n old → In n.lock.owner os → In n (handed_over u base old)
handed-stay u None os old none n i o = (drops (Owner.Unit u) old n).1 (i, of-others (Owner.Unit u) os n.lock none o)
handed-stay u (Some b) os old none n i o = (salts u b old n).1 (inl (i, of-others (Owner.Unit u) os n.lock none o))

-- a unit's locks go, or become its program's
pub held-handed : (u : Id) (base : Option Id) (held b : Bool) (os : List Owner) (old new : List Numbered) (ws vs : List Waiter) →
    b ≡ (held && not (is_among (Owner.Unit u) os)) → new ≡ handed_over u base old → vs ≡ filter (is_another u) ws → KnowsHolders held os old ws →
    KnowsHolders b os new vs
held-handed u base held b os old new ws vs keeps locks is knows sure =
    let both : (held && not (is_among (Owner.Unit u) os)) ≡ true = sym keeps ∙ sure in
    held-on os old new ws vs
    (λ n i o. subst (λ (t : List Numbered). In n t) (sym locks) (handed-stay u base os old (and_right held _ both) n i o))
    (left-waited u ws vs is)
    (knows (and_left held _ both))

-- WHOM NOBODY CAN SERVE

held-clashes : (ls : List Lock) (w : Waiter) (l : Lock) → In l ls → holds_up (Some l) w.reach w.unit w.family ≡ true → is_empty (clash_owners ls (asker_of w)) ≡ false
held-clashes ls w l i h = by w.reach refl h
  where
    by : (r : Option Reach) → w.reach ≡ r → holds_up (Some l) r w.unit w.family ≡ true → is_empty (owners_of (clash_in (Owner.Unit w.unit) w.family w.reach ls)) ≡ false
    by None f g = cc
    by (Some r) f g =
        let p = clashes (Owner.Unit w.unit) w.family r in
        ap (λ (r : Option Reach). is_empty (owners_of (clash_in (Owner.Unit w.unit) w.family r ls))) f
        ∙ (sym (free-of p ls) ∙ ap not (into-any p l ls i g))

pub none-served : (os : List Owner) (ls : List Lock) (ws : List Waiter) → AreHeldUp os ls ws → served_in ls (askers ws) ≡ None
none-served os ls [] held = refl
none-served os ls (w ∷ ws) held =
    let h = held w (inl refl) in
    served-first ls w ws false (held-clashes ls w h.0 h.1 h.3) ∙ none-served os ls ws (λ v i. held v (inr i))

-- one more waiting unit is held up, and owners are noted besides
pub held-more : (os ps : List Owner) (ls : List Lock) (ws : List Waiter) (k : ℕ) (w : Waiter) → k < length ws → w ≡ get_or ws k w →
    ((o : Owner) → In o os → In o ps) → IsHeldUp ps ls w → AreHeldUp os ls (take k ws) → AreHeldUp ps ls (take (k + 1) ws)
held-more os ps ls ws k w under at more last held v i =
    by (in-cases v (take k ws) (w ∷ []) (subst (λ (l : List Waiter). In v l) (take_more ws k w under ∙ ap (λ x. take k ws ++ x ∷ []) (sym at)) i))
  where
    by : In v (take k ws) ⊎ In v (w ∷ []) → IsHeldUp ps ls v
    by (inl j) = let h = held v j in (h.0, h.1, more (h.0).owner h.2, h.3)
    by (inr (inl e)) = subst (λ (x : Waiter). IsHeldUp ps ls x) e last
    by (inr (inr j)) = absurd j

pub none-told : (o : Option Id) (t : Bool) → is_some o ≡ not t → IsTrue t → o ≡ None
none-told None t told sure = refl
none-told (Some u) t told sure = by (told ∙ ap not sure)
  where
    by : true ≡ false → Some u ≡ None
    by e = cc

pub some-none : (u : Id) → Some u ≡ None → ⊥
some-none u e = cc

-- AN OWNER AMONG OTHERS

pub in-among : (o : Owner) (os : List Owner) → is_among o os ≡ true → In o os
in-among o [] h = absurd (never h)
  where
    never : false ≡ true → ⊥
    never e = cc
in-among o (p ∷ ps) h = by (is_same_owner o p) refl h (in-among o ps)
  where
    by : (t : Bool) → is_same_owner o p ≡ t → (t || is_among o ps) ≡ true → (is_among o ps ≡ true → In o ps) → In o (p ∷ ps)
    by true is g more = inl (owner-is o p is)
    by false is g more = inr (more g)
