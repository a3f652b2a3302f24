-- What each event makes of the held locks.
use Rattle.law_states.proofs.Ascending.{every-in}
use Rattle.law_states.proofs.Gone.{absent, released-now}
use Rattle.law_states.specs.KeptLocks.{is_base_among, is_owned_by, lock_committed, lock_taken}
use Rattle.law_states.specs.Members.{In}
use Rattle.law_states.specs.UnitFacts.{covered_by}
use Rattle.law_states.specs.WatchSteps.{lock_fate, lock_won, locks_after}
use Rattle.law_story.proofs.Coming.{Good}
use Rattle.law_story.proofs.HeldLocks.{HeldFacts, OldIn, lock_by-open, no-clash, old-new}
use Rattle.law_story.proofs.Hiding.{Hides, cover-none, hides, program-in}
use Rattle.law_story.proofs.Ids.{is_same_id-refl, is_same_id-sym, is_same_id-true}
use Rattle.law_story.proofs.Lists.{has-in, in-has, in-right}
use Rattle.law_story.proofs.NextFits.{Fits}
use Rattle.law_story.proofs.Replays.{good-event, replays}
use Rattle.law_story.proofs.Sound.{Dead, Sound, named-bases, none-open, of-program}
use Rattle.law_story.proofs.Upheld.{OfBoots, holds, may-fit}
use Rattle.law_story.proofs.WellKept.{of-start}
use Rattle.salt_ast.specs.declared.trees.Statement.{Statement}
use Rattle.salt_model.specs.After.{branched, kept, reach_now}
use Rattle.salt_model.specs.Kept.{WellKept}
use Rattle.salt_model.specs.Locks.{Taken, as_held, base_tables, cover, cover_lock, cover_of, family_of, held, is_holding, lock_by, lock_of, saline_lock, taken_by, taken_since}
use Rattle.salt_model.specs.Played.{IsPlayed}
use Rattle.salt_model.specs.Programs.{named_early, passed_in, programs_in, released_in}
use Rattle.salt_model.specs.Trace.{Asked, Trace, start_of, ◌asks◌, ◌says◌, ◌turns◌}
use Rattle.salt_model.specs.Units.{Never, Over, Running, Standing, Waiting, is_open, is_open_standing, kind_of, program_of, program_of_kind, standing, unit_count}
use Rattle.salt_model.specs.Words.{first_of_list}
use Rattle.salt_model.specs.declared.events.Answer.{Answer}
use Rattle.salt_model.specs.declared.events.End.{End}
use Rattle.salt_model.specs.declared.events.End.TheVariants.{Branched, Committed}
use Rattle.salt_model.specs.declared.events.Event.{Event}
use Rattle.salt_model.specs.declared.events.Event.TheVariants.{Began, Defined, Did, Early, Ended, Ready, Released, Waits}
use Rattle.salt_model.specs.declared.events.Owner.TheVariants.{Base, Unit}
use Rattle.salt_model.specs.declared.events.UnitKind.{UnitKind}
use Rattle.salt_model.specs.declared.locks.Family.TheVariants.{Saline}
use Rattle.salt_model.specs.declared.locks.Lock.{Lock}
use Rattle.salt_model.specs.declared.locks.Reach.{Reach}
use Rattle.salt_values.specs.Id.{has_id, is_same_id}
use Rattle.salt_values.specs.declared.id.Id.{Id}
use Rattle.std.proofs.Common.{ap, append-nil, inl, inr, sym, ℕ, ◌∙◌}
use Rattle.std.specs.Bool.{then_some}
use Rattle.std.specs.List.{cons_option, filter, filter_map}
use Rattle.std.specs.Prelude.{Bool, List, None, Option, Some, [], cond, false, map, not, option_and_then, option_map, refl, true, ⊤, ◌++◌, ◌||◌, ◌∷◌, ◌≡◌}

-- lists through partial functions
pub filter_map-append : {A B : Type 0} (f : A → Option B) (xs ys : List A) → filter_map f (xs ++ ys) ≡ filter_map f xs ++ filter_map f ys
filter_map-append f [] ys = refl
filter_map-append {B = B} f (x ∷ xs) ys = by (f x) (filter_map-append f xs ys)
  where
    by : (o : Option B) → filter_map f (xs ++ ys) ≡ filter_map f xs ++ filter_map f ys →
        cons_option o (filter_map f (xs ++ ys)) ≡ cons_option o (filter_map f xs) ++ filter_map f ys
    by None e = e
    by (Some y) e = ap (λ l. y ∷ l) e

pub filter_map-same : {A B : Type 0} (f g : A → Option B) (xs : List A) → ((x : A) → In x xs → f x ≡ g x) → filter_map f xs ≡ filter_map g xs
filter_map-same f g [] h = refl
filter_map-same f g (x ∷ xs) h = λ i. cons_option (h x (inl refl) i) (filter_map-same f g xs (λ y m. h y (inr m)) i)

filter_map-through : {A B C : Type 0} (f : A → Option B) (g : B → Option C) (xs : List A) →
    filter_map (λ x. option_and_then g (f x)) xs ≡ filter_map g (filter_map f xs)
filter_map-through f g [] = refl
filter_map-through {B = B} f g (x ∷ xs) = by (f x) (filter_map-through f g xs)
  where
    by : (o : Option B) → filter_map (λ x. option_and_then g (f x)) xs ≡ filter_map g (filter_map f xs) →
        cons_option (option_and_then g o) (filter_map (λ x. option_and_then g (f x)) xs) ≡ filter_map g (cons_option o (filter_map f xs))
    by None e = e
    by (Some y) e = ap (cons_option (g y)) e

pub filter-as-map : {A : Type 0} (p : A → Bool) (xs : List A) → filter_map (λ x. then_some (p x) x) xs ≡ filter p xs
filter-as-map p [] = refl
filter-as-map p (x ∷ xs) = by (p x) (filter-as-map p xs)
  where
    by : (b : Bool) → filter_map (λ x. then_some (p x) x) xs ≡ filter p xs →
        cons_option (then_some b x) (filter_map (λ x. then_some (p x) x) xs) ≡ cond b (x ∷ filter p xs) (filter p xs)
    by true e = ap (λ l. x ∷ l) e
    by false e = e

filter_map-none : {A B : Type 0} (f : A → Option B) (xs : List A) → ((x : A) → f x ≡ None) → filter_map f xs ≡ []
filter_map-none f [] h = refl
filter_map-none f (x ∷ xs) h = rw (h x) (filter_map-none f xs h)

-- what a lock held by a statement's unit is in two traces with the same releases
same-salines : (trace here : Trace) → released_in here ≡ released_in trace → (p : Option Id) (r : Reach) →
    saline_lock here p r ≡ saline_lock trace p r
same-salines trace here e None r = refl
same-salines trace here e (Some b) r = ap (λ (bs : List Id). then_some (not (has_id b bs)) (lock_of (Base b) Saline r)) e

same-locks : (trace here : Trace) → released_in here ≡ released_in trace → (t : Taken) (s : Standing) (k : Option UnitKind) →
    lock_by here t s k ≡ lock_by trace t s k
same-locks trace here e t (Over (Committed n)) k = same-salines trace here e (option_and_then program_of_kind k) t.reach
same-locks trace here e t s k = refl

-- the locks that statements took since the last early opening
abbrev pub parts : Trace → List Lock
parts trace = filter_map (as_held trace) (taken_since trace)

-- an event that moves no lock
unmoved : (trace : Trace) (e : Event) → released_in (trace says e) ≡ released_in trace → taken_since (trace says e) ≡ taken_since trace →
    ((t : Taken) → In t (taken_since trace) → lock_by trace t (standing t.unit (trace says e)) (kind_of t.unit (trace says e)) ≡ as_held trace t) →
    parts (trace says e) ≡ parts trace
unmoved trace e r k h =
    ap (filter_map (as_held (trace says e))) k ∙
    filter_map-same (as_held (trace says e)) (as_held trace) (taken_since trace) (λ t i. same-locks trace (trace says e) r t (standing t.unit (trace says e)) (kind_of t.unit (trace says e)) ∙ h t i)

-- an open unit goes on
goes-on : (trace : Trace) (u : Id) (t : Taken) (now : Standing) → is_open trace u ≡ true → is_open_standing now ≡ true →
    lock_by trace t (cond (is_same_id t.unit u) now (standing t.unit trace)) (kind_of t.unit trace) ≡ as_held trace t
goes-on trace u t now o w = by (is_same_id t.unit u) refl
  where
    by : (b : Bool) → is_same_id t.unit u ≡ b → lock_by trace t (cond b now (standing t.unit trace)) (kind_of t.unit trace) ≡ as_held trace t
    by false e = refl
    by true e =
        lock_by-open trace t now (kind_of t.unit trace) w
        ∙ sym (lock_by-open trace t (standing t.unit trace) (kind_of t.unit trace) (ap (is_open trace) (is_same_id-true t.unit u e) ∙ o))

parts-began : (trace : Trace) (u : Id) (kind : UnitKind) → HeldFacts trace → Good trace (Began u kind) → parts (trace says Began u kind) ≡ parts trace
parts-began trace u kind h g = unmoved trace (Began u kind) refl refl (λ t i. its t (new t (takers t i)))
  where
    takers : (t : Taken) → In t (taken_since trace) → OldIn trace t.unit
    takers t i = every-in (λ t. OldIn trace t.unit) t (taken_since trace) h.takers i

    new : (t : Taken) → OldIn trace t.unit → is_same_id t.unit u ≡ false
    new t o = ap (is_same_id t.unit) g.1 ∙ old-new (kept trace).boot (unit_count trace) t.unit o

    its : (t : Taken) → is_same_id t.unit u ≡ false →
        lock_by trace t (standing t.unit (trace says Began u kind)) (kind_of t.unit (trace says Began u kind)) ≡ as_held trace t
    its t e = rw e refl

parts-did : (trace : Trace) (u : Id) (st : Statement) (a : Answer) → is_open trace u ≡ true →
    parts (trace says Did u st a) ≡ parts trace ++ lock_taken u (kind_of u trace) (reach_now u trace st)
parts-did trace u st a o =
    filter_map-append (as_held here) (taken_since trace) (taken_by u (reach_now u trace st)) ∙ (λ i. old i ++ new (reach_now u trace st) i)
  where
    here : Trace
    here = trace says Did u st a

    old : filter_map (as_held (trace says Did u st a)) (taken_since trace) ≡ parts trace
    old =
        filter_map-same (as_held here) (as_held trace) (taken_since trace)
        (λ t i. same-locks trace here refl t (standing t.unit here) (kind_of t.unit here) ∙ goes-on trace u t Running o refl)

    new : (r : Option Reach) → filter_map (as_held (trace says Did u st a)) (taken_by u r) ≡ lock_taken u (kind_of u trace) r
    new None = refl
    new (Some r) = rw (is_same_id-refl u) refl

-- whose a held lock is: the unit's, while that is open, or a program's
taken-from : (trace : Trace) (u : Id) (t : Taken) → is_same_id t.unit u ≡ false → (s : Standing) (k : Option UnitKind) (g : Lock → Option Lock) →
    ((l : Lock) → is_owned_by (Unit u) l ≡ false → g l ≡ Some l) → lock_by trace t s k ≡ option_and_then g (lock_by trace t s k)
taken-from trace u t n s k g f = by s
  where
    other : is_same_id u t.unit ≡ false
    other = is_same_id-sym u t.unit ∙ n

    saline : (p : Option Id) → saline_lock trace p t.reach ≡ option_and_then g (saline_lock trace p t.reach)
    saline None = refl
    saline (Some b) =
        elim (is_holding trace b) as (λ x. then_some x (lock_of (Base b) Saline t.reach) ≡ option_and_then g (then_some x (lock_of (Base b) Saline t.reach))) [ true ↦ sym (f (lock_of (Base b) Saline t.reach) refl) | false ↦ refl ]

    by : (s : Standing) → lock_by trace t s k ≡ option_and_then g (lock_by trace t s k)
    by Never = refl
    by Running = sym (f (lock_of (Unit t.unit) (family_of k) t.reach) other)
    by Waiting = sym (f (lock_of (Unit t.unit) (family_of k) t.reach) other)
    by (Over (Committed n)) = saline (option_and_then program_of_kind k)
    by (Over end) = refl

-- an end: each lock of the unit becomes what this function makes of it
parts-ended : (trace : Trace) (u : Id) (end : End) (g : Lock → Option Lock) → is_open trace u ≡ true →
    ((l : Lock) → is_owned_by (Unit u) l ≡ false → g l ≡ Some l) →
    ((t : Taken) → is_same_id t.unit u ≡ true → lock_by trace t (Over end) (kind_of t.unit trace) ≡ g (lock_of (Unit t.unit) (family_of (kind_of t.unit trace)) t.reach)) →
    parts (trace says Ended u end) ≡ filter_map g (parts trace)
parts-ended trace u end g o others own =
    filter_map-same (as_held (trace says Ended u end)) (λ t. option_and_then g (as_held trace t)) (taken_since trace) (λ t i. same-locks trace (trace says Ended u end) refl t (standing t.unit (trace says Ended u end)) (kind_of t.unit trace) ∙ its t (is_same_id t.unit u) refl)
    ∙ filter_map-through (as_held trace) g (taken_since trace)
  where
    its : (t : Taken) (b : Bool) → is_same_id t.unit u ≡ b →
        lock_by trace t (cond b (Over end) (standing t.unit trace)) (kind_of t.unit trace) ≡ option_and_then g (as_held trace t)
    its t false e = taken-from trace u t e (standing t.unit trace) (kind_of t.unit trace) g others
    its t true e =
        own t e
        ∙ sym (ap (option_and_then g) (lock_by-open trace t (standing t.unit trace) (kind_of t.unit trace) (ap (is_open trace) (is_same_id-true t.unit u e) ∙ o)))

parts-committed : (trace : Trace) (u : Id) (n : ℕ) → Sound trace → is_open trace u ≡ true →
    parts (trace says Ended u (Committed n)) ≡ filter_map (lock_committed u (program_of u trace)) (parts trace)
parts-committed trace u n s o = parts-ended trace u (Committed n) (lock_committed u (program_of u trace)) o (λ l e. rw e refl) own
  where
    alive : (p : Option Id) → program_of u trace ≡ p → (r : Reach) → saline_lock trace p r ≡ option_map (λ b. lock_of (Base b) Saline r) p
    alive None e r = refl
    alive (Some b) e r = by (has_id b (released_in trace)) refl
      where
        by : (x : Bool) → has_id b (released_in trace) ≡ x → then_some (not x) (lock_of (Base b) Saline r) ≡ Some (lock_of (Base b) Saline r)
        by false f = refl
        by true f = absurd (s.alive b u o (of-program trace u b e) (inr (inl (has-in b (released_in trace) f))))

    own : (t : Taken) → is_same_id t.unit u ≡ true →
        lock_by trace t (Over (Committed n)) (kind_of t.unit trace) ≡ lock_committed u (program_of u trace) (lock_of (Unit t.unit) (family_of (kind_of t.unit trace)) t.reach)
    own t e = rw (is_same_id-true t.unit u e, is_same_id-refl u) (alive (program_of u trace) refl t.reach)

parts-dropped : (trace : Trace) (u : Id) (end : End) → is_open trace u ≡ true →
    ((t : Taken) → lock_by trace t (Over end) (kind_of t.unit trace) ≡ None) →
    parts (trace says Ended u end) ≡ filter_map (λ l. then_some (not (is_owned_by (Unit u) l)) l) (parts trace)
parts-dropped trace u end o none =
    parts-ended trace u end (λ l. then_some (not (is_owned_by (Unit u) l)) l) o (λ l e. rw e refl) (λ t e. none t ∙ own t e)
  where
    own : (t : Taken) → is_same_id t.unit u ≡ true →
        None ≡ then_some (not (is_owned_by (Unit u) (lock_of (Unit t.unit) (family_of (kind_of t.unit trace)) t.reach))) (lock_of (Unit t.unit) (family_of (kind_of t.unit trace)) t.reach)
    own t e = rw (is_same_id-sym u t.unit, e) refl

parts-released : (trace : Trace) (bs : List Id) → Hides trace →
    parts (trace says Released bs) ≡ filter_map (λ l. then_some (not (is_base_among bs l.owner)) l) (parts trace)
parts-released trace bs h =
    filter_map-same (as_held (trace says Released bs)) (λ t. option_and_then keeps (as_held trace t)) (taken_since trace) (λ t i. its t i (standing t.unit trace) (kind_of t.unit trace) refl)
    ∙ filter_map-through (as_held trace) keeps (taken_since trace)
  where
    keeps : Lock → Option Lock
    keeps l = then_some (not (is_base_among bs l.owner)) l

    salines : (p : Option Id) (r : Reach) → ((b : Id) → p ≡ Some b → has_id b (passed_in trace) ≡ false) →
        saline_lock (trace says Released bs) p r ≡ option_and_then (λ l. then_some (not (is_base_among bs l.owner)) l) (saline_lock trace p r)
    salines None r n = refl
    salines (Some b) r n =
        ap (λ x. then_some (not x) (lock_of (Base b) Saline r)) (released-now trace bs b (n b refl)) ∙ by (has_id b (released_in trace))
      where
        by : (x : Bool) → then_some (not (x || has_id b bs)) (lock_of (Base b) Saline r) ≡ option_and_then (λ l. then_some (not (is_base_among bs l.owner)) l) (then_some (not x) (lock_of (Base b) Saline r))
        by true = refl
        by false = refl

    its : (t : Taken) → In t (taken_since trace) → (s : Standing) (k : Option UnitKind) → kind_of t.unit trace ≡ k →
        lock_by (trace says Released bs) t s k ≡ option_and_then (λ l. then_some (not (is_base_among bs l.owner)) l) (lock_by trace t s k)
    its t i (Over (Committed n)) k q =
        salines (option_and_then program_of_kind k) t.reach (λ b e. absent b (passed_in trace) (λ j. h.since t i b (ap (option_and_then program_of_kind) q ∙ e) j))
    its t i Never k q = refl
    its t i Running k q = refl
    its t i Waiting k q = refl
    its t i (Over end) k q = refl

-- at a Ready nothing of them is held
parts-ready : (trace : Trace) → Sound trace → Fits trace Ready → parts (trace says Ready) ≡ []
parts-ready trace s f = filter_map-none (as_held (trace says Ready)) (taken_since trace) (λ t. its t (standing t.unit trace) refl)
  where
    salines : (u : Id) (p : Option Id) (r : Reach) → program_of u trace ≡ p → saline_lock (trace says Ready) p r ≡ None
    salines u None r e = refl
    salines u (Some b) r e =
        ap (λ x. then_some (not x) (lock_of (Base b) Saline r))
        (in-has b (released_in trace ++ programs_in trace) (in-right b (released_in trace) (programs_in trace) (program-in trace u b e)))

    its : (t : Taken) (x : Standing) → standing t.unit trace ≡ x → lock_by (trace says Ready) t x (kind_of t.unit trace) ≡ None
    its t (Over (Committed n)) e = salines t.unit (program_of t.unit trace) t.reach refl
    its t Never e = refl
    its t Running e = absurd (none-open trace s f t.unit (ap is_open_standing e))
    its t Waiting e = absurd (none-open trace s f t.unit (ap is_open_standing e))
    its t (Over end) e = refl

filter_map-all : {A : Type 0} (xs : List A) → filter_map (λ x. Some x) xs ≡ xs
filter_map-all [] = refl
filter_map-all (x ∷ xs) = ap (λ l. x ∷ l) (filter_map-all xs)

-- no lock is taken: each has its fate
by-fate : (trace : Trace) (e : Event) (ls : List Lock) → lock_won trace e ≡ [] → ls ≡ filter_map (lock_fate trace e) (parts trace) →
    ls ≡ locks_after trace e (parts trace)
by-fate trace e ls w h =
    h ∙ sym (append-nil (filter_map (lock_fate trace e) (parts trace))) ∙ ap (λ l. filter_map (lock_fate trace e) (parts trace) ++ l) (sym w)

abbrev IsNotEarly : Event → Type 0
IsNotEarly (Early bs) = ⊥
IsNotEarly e = ⊤

parts-event : (trace : Trace) (e : Event) → IsNotEarly e → HeldFacts trace → Hides trace → Good trace e → Sound trace → Fits trace e →
    parts (trace says e) ≡ locks_after trace e (parts trace)
parts-event trace (Began u kind) n h d g s f = by-fate trace (Began u kind) _ refl (parts-began trace u kind h g ∙ sym (filter_map-all (parts trace)))
parts-event trace (Did u st a) n h d g s f =
    parts-did trace u st a f.0 ∙ ap (λ l. l ++ lock_taken u (kind_of u trace) (reach_now u trace st)) (sym (filter_map-all (parts trace)))
parts-event trace (Waits u owners) n h d g s f =
    by-fate trace (Waits u owners) _ refl
    (unmoved trace (Waits u owners) refl refl (λ t i. goes-on trace u t Waiting f refl) ∙ sym (filter_map-all (parts trace)))
parts-event trace (Ended u (Committed m)) n h d g s f = by-fate trace (Ended u (Committed m)) _ refl (parts-committed trace u m s f.0)
parts-event trace (Ended u end) n h d g s f = by-fate trace (Ended u end) _ refl (parts-dropped trace u end f.0 (λ t. refl))
parts-event trace (Released bs) n h d g s f = by-fate trace (Released bs) _ refl (parts-released trace bs d)
parts-event trace Ready n h d g s f =
    by-fate trace Ready _ refl (parts-ready trace s f ∙ sym (filter_map-none (lock_fate trace Ready) (parts trace) (λ l. refl)))
parts-event trace (Early bs) n h d g s f = absurd n
parts-event trace e n h d g s f = by-fate trace e _ refl (unmoved trace e refl refl (λ t i. refl) ∙ sym (filter_map-all (parts trace)))

-- THE COVER

pub first-in : (c : Id) (bs : List Id) → first_of_list bs ≡ Some c → In c bs
first-in c [] h = cc
first-in c (b ∷ bs) h = inl (cc)

-- with these programs released
abbrev Covering : List Id → Trace → List Lock
Covering now trace = cover_of now (base_tables (kept trace)) (first_of_list (named_early trace))

-- a lock of the cover has this fate
fated : (g : Lock → Option Lock) (o : Lock → Option Lock) (b : Id) (ns : List ℕ) → ((n : ℕ) → g (cover_lock b n) ≡ o (cover_lock b n)) →
    filter_map g (map (cover_lock b) ns) ≡ filter_map o (map (cover_lock b) ns)
fated g o b [] h = refl
fated g o b (n ∷ ns) h = λ i. cons_option (h n i) (fated g o b ns h i)

cover-fate : (trace : Trace) (g : Lock → Option Lock) → ((b : Id) (n : ℕ) → g (cover_lock b n) ≡ Some (cover_lock b n)) → filter_map g (cover trace) ≡ cover trace
cover-fate trace g h = by (first_of_list (named_early trace))
  where
    all : (b : Id) (x : Bool) → filter_map g (cond x [] (map (cover_lock b) (base_tables (kept trace)))) ≡ cond x [] (map (cover_lock b) (base_tables (kept trace)))
    all b true = refl
    all b false = fated g (λ l. Some l) b (base_tables (kept trace)) (h b) ∙ filter_map-all (map (cover_lock b) (base_tables (kept trace)))

    by : (o : Option Id) → filter_map g (cover_of (released_in trace) (base_tables (kept trace)) o) ≡ cover_of (released_in trace) (base_tables (kept trace)) o
    by None = refl
    by (Some b) = all b (has_id b (released_in trace))

cover-released : (trace : Trace) (bs : List Id) → Hides trace →
    cover (trace says Released bs) ≡ filter_map (λ l. then_some (not (is_base_among bs l.owner)) l) (cover trace)
cover-released trace bs h = by (first_of_list (named_early trace)) (λ c e. h.unpassed c (first-in c (named_early trace) e))
  where
    keeps : Lock → Option Lock
    keeps l = then_some (not (is_base_among bs l.owner)) l

    drop : (b : Id) (ns : List ℕ) (y : Bool) → has_id b bs ≡ y → cond y [] (map (cover_lock b) ns) ≡ filter_map (λ l. then_some (not (is_base_among bs l.owner)) l) (map (cover_lock b) ns)
    drop b ns true e = sym (fated keeps (λ l. None) b ns (λ n. rw e refl) ∙ filter_map-none (λ l. None) (map (cover_lock b) ns) (λ l. refl))
    drop b ns false e = sym (fated keeps (λ l. Some l) b ns (λ n. rw e refl) ∙ filter_map-all (map (cover_lock b) ns))

    at : (b : Id) (ns : List ℕ) (x : Bool) → cond (x || has_id b bs) [] (map (cover_lock b) ns) ≡ filter_map (λ l. then_some (not (is_base_among bs l.owner)) l) (cond x [] (map (cover_lock b) ns))
    at b ns true = refl
    at b ns false = drop b ns (has_id b bs) refl

    by : (o : Option Id) → ((c : Id) → o ≡ Some c → In c (passed_in trace) → ⊥) →
        cover_of (released_in (trace says Released bs)) (base_tables (kept trace)) o ≡ filter_map (λ l. then_some (not (is_base_among bs l.owner)) l) (cover_of (released_in trace) (base_tables (kept trace)) o)
    by None n = refl
    by (Some b) n =
        ap (λ x. cond x [] (map (cover_lock b) (base_tables (kept trace)))) (released-now trace bs b (absent b (passed_in trace) (λ j. n b refl j)))
        ∙ at b (base_tables (kept trace)) (has_id b (released_in trace))

cover-ready : (trace : Trace) → Hides trace → cover (trace says Ready) ≡ []
cover-ready trace h = by (first_of_list (named_early trace)) (λ c e. h.found c (h.named_found c (first-in c (named_early trace) e)))
  where
    by : (o : Option Id) → ((c : Id) → o ≡ Some c → In c (programs_in trace)) → cover_of (released_in trace ++ programs_in trace) (base_tables (kept trace)) o ≡ []
    by None n = refl
    by (Some b) n =
        ap (λ x. cond x [] (map (cover_lock b) (base_tables (kept trace)))) (in-has b (released_in trace ++ programs_in trace) (in-right b (released_in trace) (programs_in trace) (n b refl)))

-- an early opening covers: the first program that it names is not released
pub cover-early : (trace : Trace) (bs : List Id) → Sound trace → Fits trace (Early bs) → cover (trace says Early bs) ≡ covered_by (kept trace) bs
cover-early trace bs s f = by (first_of_list bs) (λ c e. s.goes_on c (named-bases trace bs f c (first-in c bs e)))
  where
    by : (o : Option Id) → ((c : Id) → o ≡ Some c → Dead trace c → ⊥) → cover_of (released_in trace) (base_tables (kept trace)) o ≡ cover_of [] (base_tables (kept trace)) o
    by None n = refl
    by (Some b) n =
        ap (λ x. cond x [] (map (cover_lock b) (base_tables (kept trace)))) (absent b (released_in trace) (λ j. n b refl (inr (inl j))))

cover-ended : (trace : Trace) (u : Id) (end : End) → cover (trace says Ended u end) ≡ cover trace
cover-ended trace u (Branched n c) = by (kind_of u trace)
  where
    by : (o : Option UnitKind) → cover_of (released_in trace) (base_tables (branched (kept trace) n o)) (first_of_list (named_early trace)) ≡ cover trace
    by None = refl
    by (Some kind) = refl
cover-ended trace u end = refl

cover-event : (trace : Trace) (e : Event) → IsNotEarly e → IsPlayed (trace says e) → OfBoots (start_of trace).kept → Fits trace e →
    cover (trace says e) ≡ filter_map (lock_fate trace e) (cover trace)
cover-event trace (Ended u (Committed m)) n p w f =
    sym (cover-fate trace (lock_committed u (program_of u trace)) (λ b k. refl))
cover-event trace (Ended u end) n p w f =
    cover-ended trace u end ∙ sym (cover-fate trace (λ l. then_some (not (is_owned_by (Unit u) l)) l) (λ b k. refl))
cover-event trace (Released bs) n p w f = cover-released trace bs (hides trace p.0 w)
cover-event trace Ready n p w f = cover-ready trace (hides trace p.0 w) ∙ sym (filter_map-none (lock_fate trace Ready) (cover trace) (λ l. refl))
cover-event trace (Defined m text) n p w f =
    cover-none (trace says Defined m text) (hides (trace says Defined m text) p w) f.1
    ∙ sym (cover-none trace (hides trace p.0 w) f.1) ∙ sym (filter_map-all (cover trace))
cover-event trace (Early bs) n p w f = absurd n
cover-event trace e n p w f = sym (filter_map-all (cover trace))

assoc : {A : Type 0} (xs ys zs : List A) → xs ++ (ys ++ zs) ≡ (xs ++ ys) ++ zs
assoc [] ys zs = refl
assoc (x ∷ xs) ys zs = ap (λ l. x ∷ l) (assoc xs ys zs)

held-event : (trace : Trace) (e : Event) → IsNotEarly e → cover (trace says e) ≡ filter_map (lock_fate trace e) (cover trace) →
    parts (trace says e) ≡ locks_after trace e (parts trace) → held (trace says e) ≡ locks_after trace e (held trace)
held-event trace e n c h =
    (λ i. c i ++ h i)
    ∙ assoc (filter_map (lock_fate trace e) (cover trace)) (filter_map (lock_fate trace e) (parts trace)) (lock_won trace e)
    ∙ ap (λ l. l ++ lock_won trace e) (sym (filter_map-append (lock_fate trace e) (cover trace) (parts trace)))

held-early : (trace : Trace) (bs : List Id) → Sound trace → Fits trace (Early bs) → held (trace says Early bs) ≡ locks_after trace (Early bs) (held trace)
held-early trace bs s f =
    append-nil (cover (trace says Early bs)) ∙ cover-early trace bs s f
    ∙ ap (λ l. l ++ covered_by (kept trace) bs) (sym (filter_map-none (lock_fate trace (Early bs)) (held trace) (λ l. refl)))

pub held-says : (trace : Trace) (e : Event) → IsPlayed (trace says e) → WellKept (start_of trace).kept →
    held (trace says e) ≡ locks_after trace e (held trace)
held-says trace e p w =
    let o = of-start (start_of trace).kept w in
    let k = holds trace p.0 o in
    let f = may-fit trace e k.comes p.1 in
    by e p f k.sound (λ n. parts-event trace e n (no-clash trace p.0) (hides trace p.0 o) (good-event trace e (replays trace p.0) p.1) k.sound f)
  where
    by : (e : Event) → IsPlayed (trace says e) → Fits trace e → Sound trace → (IsNotEarly e → parts (trace says e) ≡ locks_after trace e (parts trace)) →
        held (trace says e) ≡ locks_after trace e (held trace)
    by (Early bs) p f s h = held-early trace bs s f
    by e p f s h = held-event trace e tt (cover-event trace e tt p (of-start (start_of trace).kept w) f) (h tt)

-- at a Ready nothing is held
pub held-ready : (trace : Trace) → Sound trace → Hides trace → Fits trace Ready → held (trace says Ready) ≡ []
held-ready trace s h f = λ i. cover-ready trace h i ++ parts-ready trace s f i

-- a line and a turn of `go all` move no lock
pub held-asks : (trace : Trace) (asked : Asked) → held (trace asks asked) ≡ held trace
held-asks trace asked =
    ap (λ l. cover trace ++ l)
    (filter_map-same (as_held (trace asks asked)) (as_held trace) (taken_since trace) (λ t i. same-locks trace (trace asks asked) refl t (standing t.unit trace) (kind_of t.unit trace)))

pub held-turns : (trace : Trace) (b : Id) → held (trace turns b) ≡ held trace
held-turns trace b =
    ap (λ l. cover trace ++ l)
    (filter_map-same (as_held (trace turns b)) (as_held trace) (taken_since trace) (λ t i. same-locks trace (trace turns b) refl t (standing t.unit trace) (kind_of t.unit trace)))
