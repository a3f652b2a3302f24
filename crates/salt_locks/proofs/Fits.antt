-- The calls by the members of what they leave.
use Rattle.law_states.specs.KeptLocks.{Numbered, is_owned_by, saline_of}
use Rattle.law_states.specs.LockCalls.{HasDropped, HasSalted, HasTaken}
use Rattle.law_states.specs.Members.{In}
use Rattle.law_story.proofs.Lists.{either, in-filter, in-map, into-filter, into-map}
use Rattle.salt_locks.specs.Places.{is_no_later}
use Rattle.salt_locks.specs.Tables.{is_of_another, put, salted}
use Rattle.salt_model.specs.declared.events.Owner.{Owner}
use Rattle.salt_model.specs.declared.locks.Lock.{Lock}
use Rattle.salt_values.specs.declared.id.Id.{Id}
use Rattle.std.proofs.Common.{ap, inl, inr, refl, subst, sym, ◌∙◌}
use Rattle.std.proofs.lemmas.Bool.{not-true}
use Rattle.std.specs.List.{filter}
use Rattle.std.specs.Prelude.{Bool, List, [], false, if◌then◌else◌, map, not, true, ℕ, ◌∷◌, ◌≡◌, ◌⊎◌}

pub drops : (o : Owner) (old : List Numbered) → HasDropped o old (filter (is_of_another o) old)
drops o old = λ n. (
  (λ h. let f = in-filter (is_of_another o) n old h in (f.0, not-true (is_owned_by o n.lock) f.1)),
  (λ h. into-filter (is_of_another o) n old h.0 (ap not h.1)),
)

in_put : (m n : Numbered) (ms : List Numbered) → In n (put m ms) → In n ms ⊎ (n ≡ m)
in_put m n [] h = either (λ e. inr (sym e)) (λ f. absurd f) h
in_put m n (x ∷ xs) h = by (λ r. in_put m n xs r) (is_no_later x.lock m.lock) h
  where
    by : (In n (put m xs) → In n xs ⊎ (n ≡ m)) → (b : Bool) → In n (if b then x ∷ put m xs else m ∷ x ∷ xs) → In n (x ∷ xs) ⊎ (n ≡ m)
    by rest true k = either (λ e. inl (inl e)) (λ r. either (λ i. inl (inr i)) (λ e. inr e) (rest r)) k
    by rest false k = either (λ e. inr (sym e)) (λ r. inl r) k

still_in_put : (m n : Numbered) (ms : List Numbered) → In n ms → In n (put m ms)
still_in_put m n [] h = absurd h
still_in_put m n (x ∷ xs) h = by (λ i. still_in_put m n xs i) (is_no_later x.lock m.lock)
  where
    by : (In n xs → In n (put m xs)) → (b : Bool) → In n (if b then x ∷ put m xs else m ∷ x ∷ xs)
    by rest true = either (λ e. inl e) (λ i. inr (rest i)) h
    by rest false = inr h

itself_in_put : (m : Numbered) (ms : List Numbered) → In m (put m ms)
itself_in_put m [] = inl refl
itself_in_put m (x ∷ xs) = by (itself_in_put m xs) (is_no_later x.lock m.lock)
  where
    by : In m (put m xs) → (b : Bool) → In m (if b then x ∷ put m xs else m ∷ x ∷ xs)
    by rest true = inr rest
    by rest false = inl refl

pub takes : (k : ℕ) (l : Lock) (old : List Numbered) → HasTaken k l old (put (record { number = k; lock = l }) old)
takes k l old = λ n. (
  (λ h. in_put (record { number = k; lock = l }) n old h),
  (λ h. either (λ i. still_in_put (record { number = k; lock = l }) n old i) (λ e. subst (λ x. In x (put (record { number = k; lock = l }) old)) (sym e) (itself_in_put (record { number = k; lock = l }) old)) h),
)

abbrev pub saline_numbered : Id → Numbered → Numbered
saline_numbered b m = record { number = m.number; lock = saline_of b m.lock }

salted_own : (u b : Id) (m : Numbered) → is_owned_by (Owner.Unit u) m.lock ≡ true → salted u b m ≡ saline_numbered b m
salted_own u b m e = rw e refl

salted_other : (u b : Id) (m : Numbered) → is_owned_by (Owner.Unit u) m.lock ≡ false → salted u b m ≡ m
salted_other u b m e = rw e refl

pub salts : (u b : Id) (old : List Numbered) → HasSalted u b old (map (salted u b) old)
salts u b old = λ n. (
  (λ h. let m = in-map (salted u b) n old h in by n m.0 m.1 m.2 (is_owned_by (Owner.Unit u) (m.0).lock) refl),
  (λ h. either
      (λ o. subst (λ x. In x (map (salted u b) old)) (salted_other u b n o.1) (into-map (salted u b) n old o.0))
      (λ s. subst (λ x. In x (map (salted u b) old)) (salted_own u b s.0 s.2 ∙ sym s.3) (into-map (salted u b) s.0 old s.1))
      h),
)
  where
    by : (n m : Numbered) → In m old → salted u b m ≡ n → (c : Bool) → is_owned_by (Owner.Unit u) m.lock ≡ c →
        (In n old × (is_owned_by (Owner.Unit u) n.lock ≡ false)) ⊎
        ((x : Numbered) × In x old × (is_owned_by (Owner.Unit u) x.lock ≡ true) × (n ≡ saline_numbered b x))
    by n m i is true e = inr (m, i, e, sym is ∙ salted_own u b m e)
    by n m i is false e = inl (subst (λ x. In x old × (is_owned_by (Owner.Unit u) x.lock ≡ false)) (sym (salted_other u b m e) ∙ is) (i, e))
