-- No two held locks of different owners clash, where an alkaline lock may stand beside a saline one, and two saline ones beside each other.
use Rattle.law_story.proofs.Apart.{and-false, beside, each-cover, touches-swap, unnot}
use Rattle.law_story.proofs.Coming.{Good}
use Rattle.law_story.proofs.Every.{IfSome, every-all, every-append, every-map}
use Rattle.law_story.proofs.Ids.{is_same_id-refl, is_same_id-sym, is_same_id-true}
use Rattle.law_story.proofs.Opens.{Open}
use Rattle.law_story.proofs.Replays.{Inv, IsNotEarly, any-left, good-event, not-open, replays}
use Rattle.salt_ast.specs.declared.lines.Act.TheVariants.{Call}
use Rattle.salt_ast.specs.declared.programs.Body.TheVariants.{Acid, Base}
use Rattle.salt_ast.specs.declared.trees.Statement.{Statement}
use Rattle.salt_model.specs.After.{branched, kept, reach_now}
use Rattle.salt_model.specs.Everywhere.{Always}
use Rattle.salt_model.specs.Kept.{Kept}
use Rattle.salt_model.specs.Locks.{NoneConflict, Taken, as_held, base_tables, conflict, cover, cover_lock, cover_of, family_of, held, is_same_owner, lock_by, lock_of, may_not_stand_together, reach_of, saline_lock, taken_by, taken_since, touches}
use Rattle.salt_model.specs.Next.{next}
use Rattle.salt_model.specs.Phases.{Fallen, Opening, Phase, Serving, phase}
use Rattle.salt_model.specs.Played.{IsPlayed}
use Rattle.salt_model.specs.Programs.{freed_by, named_early, programs_in, released_in}
use Rattle.salt_model.specs.Segments.{May}
use Rattle.salt_model.specs.Stops.{MayOpen}
use Rattle.salt_model.specs.Trace.{Trace, from, ◌asks◌, ◌says◌, ◌turns◌}
use Rattle.salt_model.specs.Units.{Never, Over, Running, Standing, Waiting, is_open, is_open_standing, kind_of, program_of_kind, standing, unit_count, units_begun}
use Rattle.salt_model.specs.Words.{Every, first_of_list}
use Rattle.salt_model.specs.declared.events.Answer.{Answer}
use Rattle.salt_model.specs.declared.events.End.{End}
use Rattle.salt_model.specs.declared.events.End.TheVariants.{Branched, Committed}
use Rattle.salt_model.specs.declared.events.Event.{Event}
use Rattle.salt_model.specs.declared.events.Event.TheVariants.{Began, Defined, Did, Early, Ended, Opened, Ready, Released, Waits}
use Rattle.salt_model.specs.declared.events.Owner.{Owner}
use Rattle.salt_model.specs.declared.events.Owner.TheVariants.{Base, Unit}
use Rattle.salt_model.specs.declared.events.UnitKind.{UnitKind}
use Rattle.salt_model.specs.declared.events.UnitKind.TheVariants.{Acid, Call, First, Later}
use Rattle.salt_model.specs.declared.locks.Family.{Family}
use Rattle.salt_model.specs.declared.locks.Family.TheVariants.{Acid, Alkaline, Saline}
use Rattle.salt_model.specs.declared.locks.Lock.{Lock}
use Rattle.salt_model.specs.declared.locks.Reach.{Reach}
use Rattle.salt_model.specs.declared.shown.BaseAt.TheVariants.{First}
use Rattle.salt_model.specs.declared.shown.Item.TheVariants.{Base}
use Rattle.salt_values.specs.Id.{has_id, is_same_id}
use Rattle.salt_values.specs.declared.id.Id.{Id}
use Rattle.std.proofs.Common.{ap, append-nil, arith, inl, inr, subst, sym, ◌∙◌}
use Rattle.std.proofs.lemmas.Bool.Decides.{nat_tests}
use Rattle.std.specs.Bool.{then_some}
use Rattle.std.specs.List.{cons_option, filter_map}
use Rattle.std.specs.Prelude.{Bool, List, None, Option, Some, [], cond, false, map, not, option_and_then, option_map, refl, true, ℕ, ⊤, ◌&&◌, ◌++◌, ◌+◌, ◌<◌, ◌==◌, ◌||◌, ◌∷◌, ◌≡◌, ◌≤◌, ◌⊎◌}

abbrev pub Old : ℕ → ℕ → Id → Type 0
Old boot n u = (u.boot < boot) ⊎ ((u.boot ≡ boot) × (u.seq ≤ n))

abbrev pub OldIn : Trace → Id → Type 0
OldIn trace u = Old (kept trace).boot (unit_count trace) u

-- each pair of what was taken
abbrev Pairs : (Taken → Taken → Type 0) → List Taken → Type 0
Pairs P ts = Every (λ t. Every (P t) ts) ts

abbrev Stands : Trace → Taken → Taken → Type 0
Stands trace t s = beside (as_held trace t) (as_held trace s) ≡ true

-- the cover stands beside what was taken
abbrev Beneath : Trace → Taken → Type 0
Beneath trace t = Every (λ l. beside (Some l) (as_held trace t) ≡ true) (cover trace)

pub record HeldFacts (trace : Trace) : Type 0 where
  pub units : Every (OldIn trace) (units_begun trace)
  pub takers : Every (λ t. OldIn trace t.unit) (taken_since trace)
  pub clear : Pairs (Stands trace) (taken_since trace)
  pub beneath : Every (Beneath trace) (taken_since trace)

pub every-both : {A : Type 0} (P Q : A → Type 0) (xs : List A) → Every P xs → Every Q xs → Every (λ x. P x × Q x) xs
every-both P Q [] h g = tt
every-both P Q (x ∷ xs) h g = ((h.0, g.0), every-both P Q xs h.1 g.1)

pairs-map : (P Q : Taken → Taken → Type 0) (R : Taken → Type 0) (ts : List Taken) → Every R ts → ((t s : Taken) → R t → R s → P t s → Q t s) → Pairs P ts → Pairs Q ts
pairs-map P Q R ts r f h =
    every-map (λ t. R t × Every (P t) ts) (λ t. Every (Q t) ts) (λ t x. every-map (λ s. R s × P t s) (Q t) (λ s y. f t s x.0 y.0 y.1) ts (every-both R (P t) ts r x.1)) ts (every-both R (λ t. Every (P t) ts) ts r h)

-- a lock stays or goes
abbrev Fades : Option Lock → Option Lock → Type 0
Fades new old = (new ≡ old) ⊎ (new ≡ None)

beside-none : (o : Option Lock) → beside o None ≡ true
beside-none None = refl
beside-none (Some l) = refl

fades-beside : (o p new next : Option Lock) → Fades new o → Fades next p → beside o p ≡ true → beside new next ≡ true
fades-beside o p new next (inl a) (inl b) h = rw (a, b) h
fades-beside o p new next (inr a) b h = rw a refl
fades-beside o p new next (inl a) (inr b) h = rw b (beside-none new)

pub lock_by-open : (trace : Trace) (t : Taken) (s : Standing) (k : Option UnitKind) → is_open_standing s ≡ true → lock_by trace t s k ≡ Some (lock_of (Unit t.unit) (family_of k) t.reach)
lock_by-open trace t Running k h = refl
lock_by-open trace t Waiting k h = refl
lock_by-open trace t Never k h = cc
lock_by-open trace t (Over e) k h = cc

released-fades : (trace : Trace) (e : Event) → ((b : Id) → has_id b (released_in trace) ≡ true → has_id b (released_in (trace says e)) ≡ true) → (p : Option Id) (r : Reach) → Fades (saline_lock (trace says e) p r) (saline_lock trace p r)
released-fades trace e more None r = inl refl
released-fades trace e more (Some b) r = by (has_id b (released_in trace)) refl (has_id b (released_in (trace says e))) refl
  where
    by : (x : Bool) → has_id b (released_in trace) ≡ x → (y : Bool) → has_id b (released_in (trace says e)) ≡ y → Fades (then_some (not y) (lock_of (Base b) Saline r)) (then_some (not x) (lock_of (Base b) Saline r))
    by x f true g = inr refl
    by false f false g = inl refl
    by true f false g = let z = more b f in cc

standing-fades : (trace : Trace) (e : Event) → ((b : Id) → has_id b (released_in trace) ≡ true → has_id b (released_in (trace says e)) ≡ true) → (t : Taken) (s : Standing) (k : Option UnitKind) → Fades (lock_by (trace says e) t s k) (lock_by trace t s k)
standing-fades trace e more t (Over (Committed n)) k = released-fades trace e more (option_and_then program_of_kind k) t.reach
standing-fades trace e more t s k = inl refl

-- every event but a commit takes locks away at most
abbrev is_commit : Event → Bool
is_commit (Ended u (Committed n)) = true
is_commit e = false

abbrev NewTo : Trace → Event → Taken → Type 0
NewTo trace (Began u kind) t = is_same_id t.unit u ≡ false
NewTo trace e t = ⊤

ended-fades : (trace : Trace) (v : Id) (end : End) → is_commit (Ended v end) ≡ false → (t : Taken) → Fades (as_held (trace says Ended v end) t) (as_held trace t)
ended-fades trace v end c t = by (is_same_id t.unit v) end c
  where
    by : (b : Bool) (end : End) → is_commit (Ended v end) ≡ false → Fades (lock_by (trace says Ended v end) t (cond b (Over end) (standing t.unit trace)) (kind_of t.unit trace)) (as_held trace t)
    by false end c = standing-fades trace (Ended v end) (λ b h. h) t (standing t.unit trace) (kind_of t.unit trace)
    by true (Committed n) c = cc
    by true end c = inr refl

runs-fades : (trace : Trace) (e : Event) (v : Id) → Open trace v → (now : Standing) → is_open_standing now ≡ true → (t : Taken) → ((b : Id) → has_id b (released_in trace) ≡ true → has_id b (released_in (trace says e)) ≡ true) →
    (b : Bool) → is_same_id t.unit v ≡ b → Fades (lock_by (trace says e) t (cond b now (standing t.unit trace)) (kind_of t.unit trace)) (as_held trace t)
runs-fades trace e v o now w t more false s = standing-fades trace e more t (standing t.unit trace) (kind_of t.unit trace)
runs-fades trace e v o now w t more true s =
    inl (lock_by-open (trace says e) t now (kind_of t.unit trace) w ∙ sym (lock_by-open trace t (standing t.unit trace) (kind_of t.unit trace) (ap (is_open trace) (is_same_id-true t.unit v s) ∙ o)))

pub any-right : (u : Id) (us vs : List Id) → has_id u vs ≡ true → has_id u (us ++ vs) ≡ true
any-right u [] vs h = h
any-right u (v ∷ us) vs h = by (is_same_id u v) (any-right u us vs h)
  where
    by : (b : Bool) → has_id u (us ++ vs) ≡ true → (b || has_id u (us ++ vs)) ≡ true
    by true h = refl
    by false h = h

held-fades : (trace : Trace) (e : Event) → Good trace e → is_commit e ≡ false → (t : Taken) → NewTo trace e t → Fades (as_held (trace says e) t) (as_held trace t)
held-fades trace (Began u kind) g c t n = rw n (standing-fades trace (Began u kind) (λ b h. h) t (standing t.unit trace) (kind_of t.unit trace))
held-fades trace (Did v st a) g c t n = runs-fades trace (Did v st a) v g.0 Running refl t (λ b h. h) (is_same_id t.unit v) refl
held-fades trace (Waits v owners) g c t n = runs-fades trace (Waits v owners) v g Waiting refl t (λ b h. h) (is_same_id t.unit v) refl
held-fades trace (Ended v end) g c t n = ended-fades trace v end c t
held-fades trace (Released bs) g c t n = standing-fades trace (Released bs) (λ b h. any-right b (freed_by bs trace) _ (any-left b (released_in trace) bs h)) t (standing t.unit trace) (kind_of t.unit trace)
held-fades trace Ready g c t n = standing-fades trace Ready (λ b h. any-left b (released_in trace) (programs_in trace) h) t (standing t.unit trace) (kind_of t.unit trace)
held-fades trace e g c t n = standing-fades trace e (λ b h. h) t (standing t.unit trace) (kind_of t.unit trace)

-- a commit: the alkaline locks of a subtransaction become saline
together-swap : (f g : Family) → may_not_stand_together f g ≡ may_not_stand_together g f
together-swap Family.Acid Family.Acid = refl
together-swap Family.Acid Alkaline = refl
together-swap Family.Acid Saline = refl
together-swap Alkaline Family.Acid = refl
together-swap Alkaline Alkaline = refl
together-swap Alkaline Saline = refl
together-swap Saline Family.Acid = refl
together-swap Saline Alkaline = refl
together-swap Saline Saline = refl

owner-swap : (a b : Owner) → is_same_owner a b ≡ is_same_owner b a
owner-swap (Unit u) (Unit v) = is_same_id-sym u v
owner-swap (Base u) (Base v) = is_same_id-sym u v
owner-swap (Unit u) (Base v) = refl
owner-swap (Base u) (Unit v) = refl

beside-swap : (o p : Option Lock) → beside o p ≡ beside p o
beside-swap None None = refl
beside-swap None (Some m) = refl
beside-swap (Some l) None = refl
beside-swap (Some l) (Some m) = rw (owner-swap l.owner m.owner, together-swap l.family m.family, touches-swap (reach_of l) (reach_of m)) refl

saline-saline : (trace at : Trace) (p q : Option Id) (r s : Reach) → beside (saline_lock trace p r) (saline_lock at q s) ≡ true
saline-saline trace at None q r s = refl
saline-saline trace at (Some b) None r s = beside-none _
saline-saline trace at (Some b) (Some c) r s = by (not (has_id b (released_in trace))) (not (has_id c (released_in at)))
  where
    by : (x y : Bool) → beside (then_some x (lock_of (Base b) Saline r)) (then_some y (lock_of (Base c) Saline s)) ≡ true
    by false y = refl
    by true false = refl
    by true true = ap not (and-false (not (is_same_id b c)))

becomes-saline : (trace at : Trace) (t : Taken) (b : Id) (s : Taken) (x : Standing) (k : Option UnitKind) → is_same_id t.unit s.unit ≡ false → beside (Some (lock_of (Unit t.unit) Alkaline t.reach)) (lock_by trace s x k) ≡ true → beside (saline_lock at (Some b) t.reach) (lock_by trace s x k) ≡ true
becomes-saline trace at t b s x k differ h = by (not (has_id b (released_in at))) x h
  where
    open-one : (f : Family) → beside (Some (lock_of (Unit t.unit) Alkaline t.reach)) (Some (lock_of (Unit s.unit) f s.reach)) ≡ true → not (conflict (lock_of (Base b) Saline t.reach) (lock_of (Unit s.unit) f s.reach)) ≡ true
    open-one Family.Acid h = ap (λ z. not (not z && touches t.reach s.reach)) (sym differ) ∙ h
    open-one Alkaline h = refl
    open-one Saline h = refl

    by : (v : Bool) (x : Standing) → beside (Some (lock_of (Unit t.unit) Alkaline t.reach)) (lock_by trace s x k) ≡ true → beside (then_some v (lock_of (Base b) Saline t.reach)) (lock_by trace s x k) ≡ true
    by false x h = refl
    by true Running h = open-one (family_of k) h
    by true Waiting h = open-one (family_of k) h
    by true Never h = refl
    by true (Over (Committed n)) h = saline-with (option_and_then program_of_kind k)
      where
        saline-with : (p : Option Id) → beside (Some (lock_of (Base b) Saline t.reach)) (saline_lock trace p s.reach) ≡ true
        saline-with None = refl
        saline-with (Some c) = elim (not (has_id c (released_in trace))) as (λ v. beside (Some (lock_of (Base b) Saline t.reach)) (then_some v (lock_of (Base c) Saline s.reach)) ≡ true) [ true ↦ ap not (and-false (not (is_same_id b c))) | false ↦ refl ]
    by true (Over end) h = refl

turns-saline : (trace at : Trace) (t s : Taken) (k : Option UnitKind) (x : Standing) (j : Option UnitKind) → is_same_id t.unit s.unit ≡ false → beside (Some (lock_of (Unit t.unit) (family_of k) t.reach)) (lock_by trace s x j) ≡ true → beside (saline_lock at (option_and_then program_of_kind k) t.reach) (lock_by trace s x j) ≡ true
turns-saline trace at t s (Some (First n b p q)) x j differ h = becomes-saline trace at t b s x j differ h
turns-saline trace at t s (Some (Later b part)) x j differ h = becomes-saline trace at t b s x j differ h
turns-saline trace at t s (Some (Acid n)) x j differ h = refl
turns-saline trace at t s (Some (Call n p q)) x j differ h = refl
turns-saline trace at t s None x j differ h = refl

commit-still : (trace : Trace) (v : Id) (n : ℕ) (a : Taken) (x : Standing) (k : Option UnitKind) → lock_by (trace says Ended v (Committed n)) a x k ≡ lock_by trace a x k
commit-still trace v n a Running k = refl
commit-still trace v n a Waiting k = refl
commit-still trace v n a Never k = refl
commit-still trace v n a (Over (Committed m)) k = same (option_and_then program_of_kind k)
  where
    same : (p : Option Id) → saline_lock (trace says Ended v (Committed n)) p a.reach ≡ saline_lock trace p a.reach
    same None = refl
    same (Some b) = refl
commit-still trace v n a (Over end) k = refl

commit-stands : (trace : Trace) (v : Id) (n : ℕ) → Open trace v → (t s : Taken) → Stands trace t s → Stands (trace says Ended v (Committed n)) t s
commit-stands trace v n o t s h = by (is_same_id t.unit v) refl (is_same_id s.unit v) refl
  where
    apart : (a b : Id) → is_same_id a v ≡ true → is_same_id b v ≡ false → is_same_id a b ≡ false
    apart a b x y = is_same_id-sym a b ∙ ap (is_same_id b) (is_same_id-true a v x) ∙ y

    was : (a : Taken) → is_same_id a.unit v ≡ true → as_held trace a ≡ Some (lock_of (Unit a.unit) (family_of (kind_of a.unit trace)) a.reach)
    was a x = lock_by-open trace a (standing a.unit trace) (kind_of a.unit trace) (ap (is_open trace) (is_same_id-true a.unit v x) ∙ o)

    one : (a b : Taken) → is_same_id a.unit v ≡ true → is_same_id b.unit v ≡ false → beside (as_held trace a) (as_held trace b) ≡ true → beside (saline_lock trace (option_and_then program_of_kind (kind_of a.unit trace)) a.reach) (as_held trace b) ≡ true
    one a b x y g = turns-saline trace trace a b (kind_of a.unit trace) (standing b.unit trace) (kind_of b.unit trace) (apart a.unit b.unit x y) (ap (λ z. beside z (as_held trace b)) (sym (was a x)) ∙ g)

    by : (x : Bool) → is_same_id t.unit v ≡ x → (y : Bool) → is_same_id s.unit v ≡ y → Stands (trace says Ended v (Committed n)) t s
    by false x false y = rw (x, y) (rw (commit-still trace v n t (standing t.unit trace) (kind_of t.unit trace), commit-still trace v n s (standing s.unit trace) (kind_of s.unit trace)) h)
    by true x true y = rw (x, y) (saline-saline (trace says Ended v (Committed n)) (trace says Ended v (Committed n)) (option_and_then program_of_kind (kind_of t.unit trace)) (option_and_then program_of_kind (kind_of s.unit trace)) t.reach s.reach)
    by true x false y = rw (x, y) (rw (commit-still trace v n t (Over (Committed n)) (kind_of t.unit trace), commit-still trace v n s (standing s.unit trace) (kind_of s.unit trace)) (one t s x y h))
    by false x true y = rw (x, y) (rw (commit-still trace v n t (standing t.unit trace) (kind_of t.unit trace), commit-still trace v n s (Over (Committed n)) (kind_of s.unit trace)) (beside-swap (as_held trace t) (saline_lock trace (option_and_then program_of_kind (kind_of s.unit trace)) s.reach) ∙ one s t y x (beside-swap (as_held trace s) (as_held trace t) ∙ h)))

-- names are new
unequal : (n m : ℕ) → m < n → (m == n) ≡ false
unequal n m h = grind (arith, nat_tests)

pub old-new : (boot n : ℕ) (u : Id) → Old boot n u → is_same_id u (record { boot = boot; seq = n + 1 }) ≡ false
old-new boot n u (inl l) = rw (unequal boot u.boot l) refl
old-new boot n u (inr e) = rw (unequal (n + 1) u.seq (omega (arith, e.1))) (and-false (u.boot == boot))

old-more : (boot n : ℕ) (u : Id) → Old boot n u → Old boot (n + 1) u
old-more boot n u (inl l) = inl l
old-more boot n u (inr e) = inr (e.0, omega (arith, e.1))

old-boot : (boot new n m : ℕ) → boot < new → (u : Id) → Old boot n u → Old new m u
old-boot boot new n m l u (inl k) = inl (omega arith)
old-boot boot new n m l u (inr e) = inl (omega (arith, e.0))

opens-later : (p : Phase) (trace : Trace) (boot n : ℕ) → MayOpen p trace boot n → (kept trace).boot < boot
opens-later Fallen trace boot n h = h.0
opens-later Opening trace boot n h = absurd h
opens-later Serving trace boot n h = absurd h

pub boot-branched : (k : Kept) (n : ℕ) (o : Option UnitKind) → (branched k n o).boot ≡ k.boot
boot-branched k n None = refl
boot-branched k n (Some kind) = refl

pub old-says : (trace : Trace) (e : Event) → May trace e → (u : Id) → OldIn trace u → OldIn (trace says e) u
old-says trace (Began v kind) m u h = old-more (kept trace).boot (unit_count trace) u h
old-says trace (Opened boot n) m u h = old-boot (kept trace).boot boot (unit_count trace) 0 (opens-later (phase trace) trace boot n m) u h
old-says trace (Ended v (Branched n c)) m u h = rw (boot-branched (kept trace) n (kind_of v trace)) h
old-says trace e m u h = h

pub old-of : (trace : Trace) (us : List Id) (u : Id) → Every (OldIn trace) us → has_id u us ≡ true → OldIn trace u
old-of trace [] u h b = cc
old-of trace (v ∷ us) u h b = by (is_same_id u v) refl b (old-of trace us u h.1)
  where
    by : (x : Bool) → is_same_id u v ≡ x → (x || has_id u us) ≡ true → (has_id u us ≡ true → OldIn trace u) → OldIn trace u
    by true e b f = subst (OldIn trace) (sym (is_same_id-true u v e)) h.0
    by false e b f = f b

stands-says : (trace : Trace) (e : Event) → Good trace e → is_commit e ≡ false → (t s : Taken) → NewTo trace e t → NewTo trace e s → Stands trace t s → Stands (trace says e) t s
stands-says trace e g c t s x y h = fades-beside (as_held trace t) (as_held trace s) (as_held (trace says e) t) (as_held (trace says e) s) (held-fades trace e g c t x) (held-fades trace e g c s y) h

plain-clear : (trace : Trace) (e : Event) → Good trace e → is_commit e ≡ false → Every (NewTo trace e) (taken_since trace) → Pairs (Stands trace) (taken_since trace) → Pairs (Stands (trace says e)) (taken_since trace)
plain-clear trace e g c new h = pairs-map (Stands trace) (Stands (trace says e)) (NewTo trace e) (taken_since trace) new (λ t s x y p. stands-says trace e g c t s x y p) h

did-clear : (trace : Trace) (u : Id) (st : Statement) (a : Answer) → Good trace (Did u st a) → Pairs (Stands trace) (taken_since trace) → Pairs (Stands (trace says Did u st a)) (taken_since (trace says Did u st a))
did-clear trace u st a g h =
    by (reach_now u trace st) g.4.0
  where
    old : Pairs (Stands (trace says Did u st a)) (taken_since trace)
    old = plain-clear trace (Did u st a) g refl (every-all _ (λ t. tt) (taken_since trace)) h

    by : (o : Option Reach) → Every (λ s. beside (option_map (lock_of (Unit u) (family_of (kind_of u trace))) o) (as_held trace s) ≡ true) (taken_since trace) → Pairs (Stands (trace says Did u st a)) (taken_since trace ++ taken_by u o)
    by None c = subst (Pairs (Stands (trace says Did u st a))) (sym (append-nil (taken_since trace))) old
    by (Some r) c =
        every-append (λ t. Every (Stands here t) (taken_since trace ++ new ∷ [])) (taken_since trace) (new ∷ [])
        (every-map (λ t. Every (Stands here t) (taken_since trace) × Stands here t new) (λ t. Every (Stands here t) (taken_since trace ++ new ∷ [])) (λ t x. every-append (Stands here t) (taken_since trace) (new ∷ []) x.0 (x.1, tt)) (taken_since trace)
        (every-both (λ t. Every (Stands here t) (taken_since trace)) (λ t. Stands here t new) (taken_since trace) old
        (every-map (Stands here new) (λ t. Stands here t new) (λ t x. beside-swap (as_held here t) (as_held here new) ∙ x) (taken_since trace) first)))
        (every-append (Stands here new) (taken_since trace) (new ∷ []) first (own, tt), tt)
      where
        here : Trace
        here = trace says Did u st a

        new : Taken
        new = record { unit = u; reach = r }

        now : as_held (trace says Did u st a) new ≡ Some (lock_of (Unit u) (family_of (kind_of u trace)) r)
        now = rw (is_same_id-refl u) refl

        first : Every (Stands (trace says Did u st a) new) (taken_since trace)
        first = every-map (λ s. beside (Some (lock_of (Unit u) (family_of (kind_of u trace)) r)) (as_held trace s) ≡ true) (Stands (trace says Did u st a) new)
            (λ s x. fades-beside (Some (lock_of (Unit u) (family_of (kind_of u trace)) r)) (as_held trace s) (as_held (trace says Did u st a) new) (as_held (trace says Did u st a) s) (inl now) (held-fades trace (Did u st a) g refl s tt) x) (taken_since trace) c

        own : Stands (trace says Did u st a) new new
        own = rw (is_same_id-refl u, is_same_id-refl u) refl

-- a lock of the cover stands beside each saline lock
over-beside : (at : Trace) (t : Taken) (x : Standing) (k : Option UnitKind) (b : Id) (n : ℕ) → (is_open_standing x ≡ true → ⊥) → beside (Some (cover_lock b n)) (lock_by at t x k) ≡ true
over-beside at t Running k b n h = absurd (h refl)
over-beside at t Waiting k b n h = absurd (h refl)
over-beside at t Never k b n h = refl
over-beside at t (Over (Committed m)) k b n h = saline (option_and_then program_of_kind k)
  where
    saline : (p : Option Id) → beside (Some (cover_lock b n)) (saline_lock at p t.reach) ≡ true
    saline None = refl
    saline (Some c) = elim (not (has_id c (released_in at))) as (λ v. beside (Some (cover_lock b n)) (then_some v (lock_of (Base c) Saline t.reach)) ≡ true) [ true ↦ ap not (and-false (not (is_same_id b c))) | false ↦ refl ]
over-beside at t (Over end) k b n h = refl

over-beneath : (at : Trace) (t : Taken) → (is_open at t.unit ≡ true → ⊥) → Beneath at t
over-beneath at t h = each-cover (λ l. beside (Some l) (as_held at t) ≡ true) at (λ b n. over-beside at t (standing t.unit at) (kind_of t.unit at) b n h)

-- outside an early opening and a definition the cover stays or goes
abbrev Covering : List Id → Trace → List Lock
Covering released trace = cover_of released (base_tables (kept trace)) (first_of_list (named_early trace))

covering-less : (trace : Trace) (now : List Id) → ((b : Id) → has_id b (released_in trace) ≡ true → has_id b now ≡ true) → (Covering now trace ≡ cover trace) ⊎ (Covering now trace ≡ [])
covering-less trace now more = by (first_of_list (named_early trace))
  where
    by : (o : Option Id) → (cover_of now (base_tables (kept trace)) o ≡ cover_of (released_in trace) (base_tables (kept trace)) o) ⊎ (cover_of now (base_tables (kept trace)) o ≡ [])
    by None = inl refl
    by (Some b) = at (has_id b (released_in trace)) refl (has_id b now) refl
      where
        at : (x : Bool) → has_id b (released_in trace) ≡ x → (y : Bool) → has_id b now ≡ y → (cond y [] (map (cover_lock b) (base_tables (kept trace))) ≡ cond x [] (map (cover_lock b) (base_tables (kept trace)))) ⊎ (cond y [] (map (cover_lock b) (base_tables (kept trace))) ≡ [])
        at x e true g = inr refl
        at false e false g = inl refl
        at true e false g = let z = more b e in cc

abbrev IsNoDefinition : Event → Type 0
IsNoDefinition (Defined n text) = ⊥
IsNoDefinition e = ⊤

cover-less : (trace : Trace) (e : Event) → IsNotEarly e → IsNoDefinition e → (cover (trace says e) ≡ cover trace) ⊎ (cover (trace says e) ≡ [])
cover-less trace (Released bs) n d = covering-less trace (released_in (trace says Released bs)) (λ b h. any-right b (freed_by bs trace) _ (any-left b (released_in trace) bs h))
cover-less trace Ready n d = covering-less trace (released_in (trace says Ready)) (λ b h. any-left b (released_in trace) (programs_in trace) h)
cover-less trace (Ended v (Branched n c)) m d = by (kind_of v trace)
  where
    by : (o : Option UnitKind) → (cover_of (released_in trace) (base_tables (branched (kept trace) n o)) (first_of_list (named_early trace)) ≡ cover trace) ⊎ (cover_of (released_in trace) (base_tables (branched (kept trace) n o)) (first_of_list (named_early trace)) ≡ [])
    by None = inl refl
    by (Some kind) = inl refl
cover-less trace (Early bs) n d = absurd n
cover-less trace (Defined n text) m d = absurd d
cover-less trace e n d = inl refl

plain-beneath : (trace : Trace) (e : Event) → Good trace e → is_commit e ≡ false → IsNotEarly e → IsNoDefinition e → (t : Taken) → NewTo trace e t → Beneath trace t → Beneath (trace says e) t
plain-beneath trace e g c n d t new h = by (cover-less trace e n d)
  where
    fades : Every (λ l. beside (Some l) (as_held (trace says e) t) ≡ true) (cover trace)
    fades = every-map (λ l. beside (Some l) (as_held trace t) ≡ true) (λ l. beside (Some l) (as_held (trace says e) t) ≡ true) (λ l b. fades-beside (Some l) (as_held trace t) (Some l) (as_held (trace says e) t) (inl refl) (held-fades trace e g c t new) b) (cover trace) h

    by : (cover (trace says e) ≡ cover trace) ⊎ (cover (trace says e) ≡ []) → Beneath (trace says e) t
    by (inl q) = subst (Every (λ l. beside (Some l) (as_held (trace says e) t) ≡ true)) (sym q) fades
    by (inr q) = subst (Every (λ l. beside (Some l) (as_held (trace says e) t) ≡ true)) (sym q) tt

-- behind a commit
commit-beneath : (trace : Trace) (v : Id) (n : ℕ) (t : Taken) → Beneath trace t → Beneath (trace says Ended v (Committed n)) t
commit-beneath trace v n t h = by (is_same_id t.unit v) refl
  where
    by : (x : Bool) → is_same_id t.unit v ≡ x → Beneath (trace says Ended v (Committed n)) t
    by true x = over-beneath (trace says Ended v (Committed n)) t (λ o. let shut : is_open (trace says Ended v (Committed n)) t.unit ≡ false = rw x refl in cc)
    by false x = rw x (subst (λ o. Every (λ l. beside (Some l) o ≡ true) (cover trace)) (sym (commit-still trace v n t (standing t.unit trace) (kind_of t.unit trace))) h)

held-plain : (trace : Trace) (e : Event) → Inv trace → May trace e → HeldFacts trace → is_commit e ≡ false → Every (NewTo trace e) (taken_since trace) → taken_since (trace says e) ≡ taken_since trace → units_begun (trace says e) ≡ units_begun trace → IsNotEarly e → IsNoDefinition e → HeldFacts (trace says e)
held-plain trace e inv m h c new taken units n d = record {
  units = subst (Every (OldIn (trace says e))) (sym units) (every-map (OldIn trace) (OldIn (trace says e)) (old-says trace e m) (units_begun trace) h.units);
  takers = subst (Every (λ t. OldIn (trace says e) t.unit)) (sym taken) (every-map (λ t. OldIn trace t.unit) (λ t. OldIn (trace says e) t.unit) (λ t. old-says trace e m t.unit) (taken_since trace) h.takers);
  clear = subst (Pairs (Stands (trace says e))) (sym taken) (plain-clear trace e (good-event trace e inv m) c new h.clear);
  beneath = subst (Every (Beneath (trace says e))) (sym taken)
      (every-map (λ t. NewTo trace e t × Beneath trace t) (Beneath (trace says e)) (λ t x. plain-beneath trace e (good-event trace e inv m) c n d t x.0 x.1) (taken_since trace)
      (every-both (NewTo trace e) (Beneath trace) (taken_since trace) new h.beneath));
}

held-says : (trace : Trace) (e : Event) → Inv trace → May trace e → HeldFacts trace → HeldFacts (trace says e)
held-says trace (Began v kind) inv m h =
    let g = good-event trace (Began v kind) inv m in
    record {
      units = every-append (OldIn (trace says Began v kind)) (units_begun trace) (v ∷ []) (every-map (OldIn trace) (OldIn (trace says Began v kind)) (old-says trace (Began v kind) m) (units_begun trace) h.units)
          (subst (OldIn (trace says Began v kind)) (sym g.1) (inr (refl, omega arith)), tt);
      takers = every-map (λ t. OldIn trace t.unit) (λ t. OldIn (trace says Began v kind) t.unit) (λ t. old-says trace (Began v kind) m t.unit) (taken_since trace) h.takers;
      clear = plain-clear trace (Began v kind) g refl (every-map (λ t. OldIn trace t.unit) (NewTo trace (Began v kind)) (λ t o. ap (is_same_id t.unit) g.1 ∙ old-new (kept trace).boot (unit_count trace) t.unit o) (taken_since trace) h.takers) h.clear;
      beneath = every-map (λ t. OldIn trace t.unit × Beneath trace t) (Beneath (trace says Began v kind)) (λ t x. plain-beneath trace (Began v kind) g refl tt tt t (ap (is_same_id t.unit) g.1 ∙ old-new (kept trace).boot (unit_count trace) t.unit x.0) x.1) (taken_since trace)
          (every-both (λ t. OldIn trace t.unit) (Beneath trace) (taken_since trace) h.takers h.beneath);
    }
held-says trace (Did u st a) inv m h =
    let g = good-event trace (Did u st a) inv m in
    record {
      units = h.units;
      takers = every-append (λ t. OldIn trace t.unit) (taken_since trace) (taken_by u (reach_now u trace st)) h.takers (by (reach_now u trace st) (old-of trace (units_begun trace) u h.units (inv.base.each u g.0).begun));
      clear = did-clear trace u st a g h.clear;
      beneath = every-append (Beneath (trace says Did u st a)) (taken_since trace) (taken_by u (reach_now u trace st))
          (every-map (Beneath trace) (Beneath (trace says Did u st a)) (λ t x. plain-beneath trace (Did u st a) g refl tt tt t tt x) (taken_since trace) h.beneath)
          (under (reach_now u trace st) g.4.1);
    }
  where
    under : (o : Option Reach) → Every (λ l. beside (option_map (lock_of (Unit u) (family_of (kind_of u trace))) o) (Some l) ≡ true) (cover trace) → Every (Beneath (trace says Did u st a)) (taken_by u o)
    under None c = tt
    under (Some r) c = (
      every-map (λ l. beside (Some (lock_of (Unit u) (family_of (kind_of u trace)) r)) (Some l) ≡ true) (λ l. beside (Some l) (as_held (trace says Did u st a) (record { unit = u; reach = r })) ≡ true)
          (λ l x. rw (is_same_id-refl u) (beside-swap (Some l) (Some (lock_of (Unit u) (family_of (kind_of u trace)) r)) ∙ x)) (cover trace) c,
      tt,
    )

    by : (o : Option Reach) → OldIn trace u → Every (λ t. OldIn trace t.unit) (taken_by u o)
    by None x = tt
    by (Some r) x = (x, tt)
held-says trace (Ended v (Committed n)) inv m h =
    let g = good-event trace (Ended v (Committed n)) inv m in
    record {
      units = h.units;
      takers = h.takers;
      clear = pairs-map (Stands trace) (Stands (trace says Ended v (Committed n))) (λ t. ⊤) (taken_since trace) (every-all _ (λ t. tt) (taken_since trace)) (λ t s x y p. commit-stands trace v n g.0 t s p) h.clear;
      beneath = every-map (Beneath trace) (Beneath (trace says Ended v (Committed n))) (commit-beneath trace v n) (taken_since trace) h.beneath;
    }
held-says trace (Ended v end) inv m h = held-plain trace (Ended v end) inv m h refl (every-all _ (λ t. tt) (taken_since trace)) refl refl tt tt
held-says trace (Early bs) inv m h = record { units = every-map (OldIn trace) (OldIn (trace says Early bs)) (old-says trace (Early bs) m) (units_begun trace) h.units; takers = tt; clear = tt; beneath = tt }
held-says trace (Defined n text) inv m h =
    let g = good-event trace (Defined n text) inv m in
    record {
      units = every-map (OldIn trace) (OldIn (trace says Defined n text)) (old-says trace (Defined n text) m) (units_begun trace) h.units;
      takers = every-map (λ t. OldIn trace t.unit) (λ t. OldIn (trace says Defined n text) t.unit) (λ t. old-says trace (Defined n text) m t.unit) (taken_since trace) h.takers;
      clear = plain-clear trace (Defined n text) g refl (every-all _ (λ t. tt) (taken_since trace)) h.clear;
      beneath = every-all (Beneath (trace says Defined n text)) (λ t. over-beneath (trace says Defined n text) t (λ o. not-open trace t.unit g (inv.base.each t.unit o).begun o)) (taken_since trace);
    }
held-says trace e inv m h = held-plain trace e inv m h refl (every-all _ (λ t. tt) (taken_since trace)) refl refl tt tt

pub no-clash : (trace : Trace) → IsPlayed trace → HeldFacts trace
no-clash (from k) p = record { units = tt; takers = tt; clear = tt; beneath = tt }
no-clash (trace asks line) p = let h = no-clash trace p.0 in record { units = h.units; takers = h.takers; clear = pairs-map (Stands trace) (Stands (trace asks line)) (λ t. ⊤) (taken_since trace) (every-all _ (λ t. tt) (taken_since trace)) (λ t s x y q. fades-beside _ _ _ _ (inl (same t (standing t.unit trace) (kind_of t.unit trace))) (inl (same s (standing s.unit trace) (kind_of s.unit trace))) q) h.clear; beneath = every-map (Beneath trace) (Beneath (trace asks line)) (λ t x. subst (λ o. Every (λ l. beside (Some l) o ≡ true) (cover trace)) (sym (same t (standing t.unit trace) (kind_of t.unit trace))) x) (taken_since trace) h.beneath }
  where
    salines : (o : Option Id) (r : Reach) → saline_lock (trace asks line) o r ≡ saline_lock trace o r
    salines None r = refl
    salines (Some b) r = refl

    same : (t : Taken) (s : Standing) (k : Option UnitKind) → lock_by (trace asks line) t s k ≡ lock_by trace t s k
    same t (Over (Committed n)) k = salines (option_and_then program_of_kind k) t.reach
    same t s k = refl
no-clash (trace turns b) p = let h = no-clash trace p.0 in record { units = h.units; takers = h.takers; clear = pairs-map (Stands trace) (Stands (trace turns b)) (λ t. ⊤) (taken_since trace) (every-all _ (λ t. tt) (taken_since trace)) (λ t s x y q. fades-beside _ _ _ _ (inl (same t (standing t.unit trace) (kind_of t.unit trace))) (inl (same s (standing s.unit trace) (kind_of s.unit trace))) q) h.clear; beneath = every-map (Beneath trace) (Beneath (trace turns b)) (λ t x. subst (λ o. Every (λ l. beside (Some l) o ≡ true) (cover trace)) (sym (same t (standing t.unit trace) (kind_of t.unit trace))) x) (taken_since trace) h.beneath }
  where
    salines : (o : Option Id) (r : Reach) → saline_lock (trace turns b) o r ≡ saline_lock trace o r
    salines None r = refl
    salines (Some c) r = refl

    same : (t : Taken) (s : Standing) (k : Option UnitKind) → lock_by (trace turns b) t s k ≡ lock_by trace t s k
    same t (Over (Committed n)) k = salines (option_and_then program_of_kind k) t.reach
    same t s k = refl
no-clash (trace says e) p = held-says trace e (replays trace p.0) p.1 (no-clash trace p.0)

every-held : {A B : Type 0} (P : B → Type 0) (f : A → Option B) (xs : List A) → Every (λ x. IfSome P (f x)) xs → Every P (filter_map f xs)
every-held P f [] h = tt
every-held {A} {B} P f (x ∷ xs) h = by (f x) h.0 (every-held P f xs h.1)
  where
    by : (o : Option B) → IfSome P o → Every P (filter_map f xs) → Every P (cons_option o (filter_map f xs))
    by None p more = more
    by (Some y) p more = (p, more)

-- at the end of a played trace no two held locks of different owners conflict
pub none-conflict : (trace : Trace) → IsPlayed trace → NoneConflict (held trace)
none-conflict trace p =
    every-append (λ l. Every (λ m. conflict l m ≡ false) (held trace)) (cover trace) (filter_map (as_held trace) (taken_since trace)) covers takes
  where
    facts : HeldFacts trace
    facts = no-clash trace p

    own : (b : Id) (n : ℕ) (c : Id) (m : ℕ) → conflict (cover_lock b n) (cover_lock c m) ≡ false
    own b n c m = and-false (not (is_same_id b c))

    second : (l : Lock) (o : Option Lock) → beside (Some l) o ≡ true → IfSome (λ m. conflict l m ≡ false) o
    second l None h = tt
    second l (Some m) h = unnot (conflict l m) h

    second-of : (m : Lock) (o : Option Lock) → beside (Some m) o ≡ true → IfSome (λ l. conflict l m ≡ false) o
    second-of m None h = tt
    second-of m (Some l) h = unnot (conflict l m) (beside-swap (Some l) (Some m) ∙ h)

    -- what was taken, beside a lock of the cover
    under : Every (λ t. Every (λ l. beside (Some l) (as_held trace t) ≡ true) (cover trace)) (taken_since trace)
    under = facts.beneath

    over-all : (ls : List Lock) (ts : List Taken) → Every (λ t. Every (λ l. beside (Some l) (as_held trace t) ≡ true) ls) ts → Every (λ l. Every (λ m. conflict l m ≡ false) (filter_map (as_held trace) ts)) ls
    over-all [] ts h = tt
    over-all (l ∷ ls) ts h = (
      every-held (λ m. conflict l m ≡ false) (as_held trace) ts (every-map (λ t. Every (λ l. beside (Some l) (as_held trace t) ≡ true) (l ∷ ls)) (λ t. IfSome (λ m. conflict l m ≡ false) (as_held trace t)) (λ t x. second l (as_held trace t) x.0) ts h),
      over-all ls ts (every-map (λ t. Every (λ l. beside (Some l) (as_held trace t) ≡ true) (l ∷ ls)) (λ t. Every (λ l. beside (Some l) (as_held trace t) ≡ true) ls) (λ t x. x.1) ts h),
    )

    covers : Every (λ l. Every (λ m. conflict l m ≡ false) (held trace)) (cover trace)
    covers = every-map (λ l. Every (λ m. conflict l m ≡ false) (cover trace) × Every (λ m. conflict l m ≡ false) (filter_map (as_held trace) (taken_since trace))) (λ l. Every (λ m. conflict l m ≡ false) (held trace))
        (λ l x. every-append (λ m. conflict l m ≡ false) (cover trace) (filter_map (as_held trace) (taken_since trace)) x.0 x.1) (cover trace)
        (both-locks (λ l. Every (λ m. conflict l m ≡ false) (cover trace)) (λ l. Every (λ m. conflict l m ≡ false) (filter_map (as_held trace) (taken_since trace))) (cover trace)
        (each-cover (λ l. Every (λ m. conflict l m ≡ false) (cover trace)) trace (λ b n. each-cover (λ m. conflict (cover_lock b n) m ≡ false) trace (own b n)))
        (over-all (cover trace) (taken_since trace) under))
      where
        both-locks : (P Q : Lock → Type 0) (xs : List Lock) → Every P xs → Every Q xs → Every (λ x. P x × Q x) xs
        both-locks P Q xs h g = every-both P Q xs h g

    first : (t : Taken) (o : Option Lock) → Every (λ l. beside (Some l) o ≡ true) (cover trace) → Every (λ s. beside o (as_held trace s) ≡ true) (taken_since trace) → IfSome (λ l. Every (λ m. conflict l m ≡ false) (held trace)) o
    first t None c h = tt
    first t (Some l) c h = every-append (λ m. conflict l m ≡ false) (cover trace) (filter_map (as_held trace) (taken_since trace))
        (every-map (λ m. beside (Some m) (Some l) ≡ true) (λ m. conflict l m ≡ false) (λ m x. second-of m (Some l) x) (cover trace) c)
        (every-held (λ m. conflict l m ≡ false) (as_held trace) (taken_since trace) (every-map (λ s. beside (Some l) (as_held trace s) ≡ true) (λ s. IfSome (λ m. conflict l m ≡ false) (as_held trace s)) (λ s e. second l (as_held trace s) e) (taken_since trace) h))

    takes : Every (λ l. Every (λ m. conflict l m ≡ false) (held trace)) (filter_map (as_held trace) (taken_since trace))
    takes = every-held (λ l. Every (λ m. conflict l m ≡ false) (held trace)) (as_held trace) (taken_since trace)
        (every-map (λ t. Beneath trace t × Every (Stands trace t) (taken_since trace)) (λ t. IfSome (λ l. Every (λ m. conflict l m ≡ false) (held trace)) (as_held trace t)) (λ t x. first t (as_held trace t) x.0 x.1) (taken_since trace)
        (every-both (Beneath trace) (λ t. Every (Stands trace t) (taken_since trace)) (taken_since trace) facts.beneath facts.clear))

-- and so at every place
pub none-conflict-always : (trace : Trace) → IsPlayed trace → Always (λ t. NoneConflict (held t)) trace
none-conflict-always (from k) p = none-conflict (from k) p
none-conflict-always (trace asks line) p = (none-conflict-always trace p.0, none-conflict (trace asks line) p)
none-conflict-always (trace turns b) p = (none-conflict-always trace p.0, none-conflict (trace turns b) p)
none-conflict-always (trace says e) p = (none-conflict-always trace p.0, none-conflict (trace says e) p)
