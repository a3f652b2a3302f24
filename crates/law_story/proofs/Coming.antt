-- What comes next: whose it is, and why it may come.
use Rattle.law_story.proofs.Apart.{IsTaken, alone-beside, alone-clear, beside, takes-apart, takes-beside, takes-clear}
use Rattle.law_story.proofs.Every.{IfSome, every-append, every-filter, every-map, every-passes}
use Rattle.law_story.proofs.Ids.{is_same_id-refl}
use Rattle.law_story.proofs.Opens.{Alone, Open, Sole, failing, is_ended, lasts}
use Rattle.salt_ast.specs.declared.lines.Act.{Act}
use Rattle.salt_ast.specs.declared.lines.Act.TheVariants.{Begin, Call, Commit, Do, Rollback, Step}
use Rattle.salt_ast.specs.declared.lines.Line.{Line}
use Rattle.salt_ast.specs.declared.lines.Line.TheVariants.{Go, Program, Session, Table}
use Rattle.salt_ast.specs.declared.trees.Statement.{Statement}
use Rattle.salt_model.specs.After.{answer_now, kept, reach_now}
use Rattle.salt_model.specs.Honest.{FitsEnd, cause_in}
use Rattle.salt_model.specs.Kept.{cont_of, kept_program}
use Rattle.salt_model.specs.Locks.{as_held, clashing, cover, family_of, is_holding, lock_of, taken_since, touches}
use Rattle.salt_model.specs.Next.{serving_event}
use Rattle.salt_model.specs.Openings.{cuts_or_drains, drains, follow_opening, to_cut, unfinished}
use Rattle.salt_model.specs.Phases.{Opening, Serving, phase}
use Rattle.salt_model.specs.Programs.{accepted_in}
use Rattle.salt_model.specs.Reads.{to_release}
use Rattle.salt_model.specs.Refusals.{is_busy, judged, refusal, refused_line}
use Rattle.salt_model.specs.Trace.{Asked, Rejected, Trace, Tree, from, line_asked, line_of, start_of, ◌asks◌, ◌says◌, ◌turns◌}
use Rattle.salt_model.specs.Turns.{act_event, after_began, after_did, after_end, asks_for, commits, does, does_next, fails, finishes, follow, fresh_unit, go, goes_on, is_at_end, line_event, next_number, releases, settle, settle_by, turn}
use Rattle.salt_model.specs.Units.{Running, Waiting, is_of_program, is_of_session, is_open, is_open_standing, kind_of, open_units, program_unit, session_unit, standing, units_begun, wait_list}
use Rattle.salt_model.specs.Waiting.{WaitUnit, asked_by, block_of, clashing_now, is_on_cycle, names_of, next_unblocked, victim, wait_graph, wait_unit}
use Rattle.salt_model.specs.Words.{Every, first_of_list, greatest, is_empty}
use Rattle.salt_model.specs.declared.events.Answer.{Answer}
use Rattle.salt_model.specs.declared.events.Cause.{Cause}
use Rattle.salt_model.specs.declared.events.End.{End}
use Rattle.salt_model.specs.declared.events.End.TheVariants.{Branched, Committed, Cut}
use Rattle.salt_model.specs.declared.events.Event.{Event}
use Rattle.salt_model.specs.declared.events.Event.TheVariants.{Accepted, Began, Defined, Did, Down, Early, Ended, Finished, Opened, Ready, Refused, Waits}
use Rattle.salt_model.specs.declared.events.Owner.{Owner}
use Rattle.salt_model.specs.declared.events.Owner.TheVariants.{Unit}
use Rattle.salt_model.specs.declared.events.Refusal.{Refusal}
use Rattle.salt_model.specs.declared.events.Refusal.TheVariants.{Busy}
use Rattle.salt_model.specs.declared.events.UnitKind.{UnitKind}
use Rattle.salt_model.specs.declared.events.UnitKind.TheVariants.{Acid, Call, First, Later}
use Rattle.salt_model.specs.declared.locks.Family.TheVariants.{Alkaline}
use Rattle.salt_model.specs.declared.locks.Reach.{Reach}
use Rattle.salt_model.specs.declared.shown.BaseAt.TheVariants.{Finished, First}
use Rattle.salt_values.specs.Id.{in_order, insert_id, is_older, is_same_id, without}
use Rattle.salt_values.specs.declared.cont.Cont.{Cont}
use Rattle.salt_values.specs.declared.id.Id.{Id}
use Rattle.std.proofs.Common.{subst, sym, ◌∙◌}
use Rattle.std.specs.Bool.{then_some}
use Rattle.std.specs.List.{filter, find, list_any}
use Rattle.std.specs.Option.{option_or}
use Rattle.std.specs.Prelude.{Bool, List, None, Option, Some, [], cond, false, if◌then◌else◌, is_none, map, nat_lt, not, option_map, option_to_list, refl, true, ℕ, ⊤, ◌||◌, ◌∷◌, ◌≡◌}
use Rattle.std.specs.Prelude.{option_and_then}

-- what a statement would reach is free of what other open units have taken
abbrev pub Free : Trace → Id → Statement → Type 0
Free trace u st = (v : Id) → Open trace v → is_same_id u v ≡ false → (s : Reach) → IsTaken trace v s → Every (λ r. touches s r ≡ false) (option_to_list (reach_now u trace st))

-- a statement's lock would stand beside each held lock
abbrev pub Clear : Trace → Id → Statement → Type 0
Clear trace u st =
    Every (λ s. beside (option_map (lock_of (Unit u) (family_of (kind_of u trace))) (reach_now u trace st)) (as_held trace s) ≡ true) (taken_since trace) ×
    Every (λ l. beside (option_map (lock_of (Unit u) (family_of (kind_of u trace))) (reach_now u trace st)) (Some l) ≡ true) (cover trace)

abbrev pub CutFits : Trace → End → Type 0
CutFits trace Cut = phase trace ≡ Serving → ⊥
CutFits trace end = ⊤

-- what is known of an event that comes next
abbrev pub Good : Trace → Event → Type 0
Good trace (Did u st a) = Open trace u × (a ≡ answer_now u trace st) × Free trace u st × (phase trace ≡ Opening → Alone trace u) × Clear trace u st
Good trace (Waits u owners) = Open trace u
Good trace (Ended u end) = Open trace u × FitsEnd end (failing u trace) × CutFits trace end
Good trace (Defined n t) = open_units trace ≡ []
Good trace (Began u kind) = (phase trace ≡ Opening → (open_units trace ≡ []) × (family_of (Some kind) ≡ Alkaline)) × (u ≡ fresh_unit trace)
Good trace Ready = open_units trace ≡ []
Good trace (Early bs) = (open_units trace ≡ []) × ((start_of trace).early ≡ true)
Good trace e = ⊤

pub some-option_or : {A : Type 0} (P : A → Type 0) (o other : Option A) → IfSome P o → IfSome P other → IfSome P (option_or o other)
some-option_or P None other h g = g
some-option_or P (Some e) other h g = h

some-map : {A B : Type 0} (P : B → Type 0) (f : A → B) (o : Option A) → IfSome (λ a. P (f a)) o → IfSome P (option_map f o)
some-map P f None h = tt
some-map P f (Some a) h = h

some-all : {A : Type 0} (P : A → Type 0) (o : Option A) → ((a : A) → P a) → IfSome P o
some-all P None f = tt
some-all P (Some a) f = f a

pub some-then_some : {A : Type 0} (P : A → Type 0) (b : Bool) (e : A) → P e → IfSome P (then_some b e)
some-then_some P true e h = h
some-then_some P false e h = tt

some-first : {A : Type 0} (P : A → Type 0) (xs : List A) → Every P xs → IfSome P (first_of_list xs)
some-first P [] h = tt
some-first P (x ∷ xs) h = h.0

some-greatest : (P : Id → Type 0) (us : List Id) → Every P us → IfSome P (greatest us)
some-greatest P [] h = tt
some-greatest P (u ∷ us) h = by (greatest us) h.0 (some-greatest P us h.1)
  where
    by : (o : Option Id) → P u → IfSome P o → IfSome P (elim o [ None ↦ Some u | Some v ↦ Some (if is_older u v then v else u) ])
    by None p q = p
    by (Some v) p q = elim (is_older u v) as (λ b. P (cond b v u)) [ true ↦ q | false ↦ p ]

some-find : {A : Type 0} (P : A → Type 0) (p : A → Bool) (xs : List A) → Every P xs → IfSome (λ x. P x × (p x ≡ true)) (find p xs)
some-find P p [] h = tt
some-find P p (x ∷ xs) h = by (p x) refl (some-find P p xs h.1)
  where
    by : (b : Bool) → p x ≡ b → IfSome (λ x. P x × (p x ≡ true)) (find p xs) → IfSome (λ x. P x × (p x ≡ true)) (cond b (Some x) (find p xs))
    by true e more = (h.0, e)
    by false e more = more

pub every-mapped : {A B : Type 0} (P : B → Type 0) (f : A → B) (xs : List A) → Every (λ x. P (f x)) xs → Every P (map f xs)
every-mapped P f [] h = tt
every-mapped P f (x ∷ xs) h = (h.0, every-mapped P f xs h.1)

-- waiting units are open
stays : (trace : Trace) (e : Event) (u : Id) → is_ended u e ≡ false → Open trace u → Open (trace says e) u
stays trace (Ended v end) u n h = rw n h
stays trace (Began v kind) u n h = elim (is_same_id u v) as (λ b. is_open_standing (cond b Running (standing u trace)) ≡ true) [ true ↦ refl | false ↦ h ]
stays trace (Did v st a) u n h = elim (is_same_id u v) as (λ b. is_open_standing (cond b Running (standing u trace)) ≡ true) [ true ↦ refl | false ↦ h ]
stays trace (Waits v owners) u n h = elim (is_same_id u v) as (λ b. is_open_standing (cond b Waiting (standing u trace)) ≡ true) [ true ↦ refl | false ↦ h ]
stays trace e u n h = h

every-without : (P Q : Id → Type 0) (v : Id) → ((u : Id) → is_same_id u v ≡ false → P u → Q u) → (us : List Id) → Every P us → Every Q (without (v ∷ []) us)
every-without P Q v f [] h = tt
every-without P Q v f (u ∷ us) h = by (is_same_id u v) refl (every-without P Q v f us h.1)
  where
    by : (b : Bool) → is_same_id u v ≡ b → Every Q (without (v ∷ []) us) → Every Q (cond (not (b || false)) (u ∷ without (v ∷ []) us) (without (v ∷ []) us))
    by true e more = more
    by false e more = (f u e h.0, more)

pub waits-open : (trace : Trace) → Every (Open trace) (wait_list trace)
waits-open (from k) = tt
waits-open (trace asks line) = waits-open trace
waits-open (trace turns b) = waits-open trace
waits-open (trace says Waits v owners) =
    every-append (Open (trace says Waits v owners)) (without (v ∷ []) (wait_list trace)) (v ∷ [])
    (every-without (Open trace) (Open (trace says Waits v owners)) v (λ u n h. stays trace (Waits v owners) u refl h) (wait_list trace) (waits-open trace))
    (rw (is_same_id-refl v) refl, tt)
waits-open (trace says Did v st a) = every-without (Open trace) (Open (trace says Did v st a)) v (λ u n h. stays trace (Did v st a) u refl h) (wait_list trace) (waits-open trace)
waits-open (trace says Ended v end) = every-without (Open trace) (Open (trace says Ended v end)) v (λ u n h. stays trace (Ended v end) u n h) (wait_list trace) (waits-open trace)
waits-open (trace says Began v kind) = every-map (Open trace) (Open (trace says Began v kind)) (λ u h. stays trace (Began v kind) u refl h) (wait_list trace) (waits-open trace)
waits-open (trace says e) = waits-open trace

victim-open : (trace : Trace) → IfSome (Open trace) (victim trace)
victim-open trace =
    some-option_or (Open trace) (greatest (names_of (filter (λ w. w.acid) on))) (greatest (names_of on))
    (some-greatest (Open trace) (names_of (filter (λ w. w.acid) on)) (every-mapped (Open trace) (λ w. w.unit) (filter (λ w. w.acid) on) (every-filter (λ w. Open trace w.unit) (λ w. w.acid) on on-open)))
    (some-greatest (Open trace) (names_of on) (every-mapped (Open trace) (λ w. w.unit) on on-open))
  where
    on : List WaitUnit
    on = filter (is_on_cycle (wait_graph trace)) (wait_graph trace)

    on-open : Every (λ w. Open trace w.unit) on
    on-open = every-filter (λ w. Open trace w.unit) (is_on_cycle (wait_graph trace)) (wait_graph trace) (every-mapped (λ w. Open trace w.unit) (wait_unit trace) (wait_list trace) (waits-open trace))

fits-none : (end : End) (f : Option Cause) → f ≡ None → FitsEnd end None → FitsEnd end f
fits-none end f e h = subst (FitsEnd end) (sym e) h

pub nothing : {A : Type 0} (xs : List A) → is_empty xs ≡ true → xs ≡ []
nothing [] h = refl
nothing (x ∷ xs) h = cc

module _ (trace : Trace) where
  abbrev G : Event → Type 0
  G = Good trace

  good-fails : (u : Id) (c : Cause) (o : Option UnitKind) → Open trace u → failing u trace ≡ Some c → G (fails trace u c o)
  good-fails u c (Some (Later b part)) h f = (h, f, tt)
  good-fails u c o h f = (h, f, tt)

  good-did : (u : Id) (a : Answer) → Open trace u → failing u trace ≡ cause_in a → IfSome G (after_did trace u a)
  good-did u (Answer.Failed c) h f = good-fails u c (kind_of u trace) h f
  good-did u a h f = some-then_some G (is_at_end trace u (block_of u trace)) (commits trace u) (h, fits-none (Committed (next_number trace)) (failing u trace) f refl, tt)

  good-finishes : (b : Id) → IfSome G (finishes trace b)
  good-finishes b = some-then_some G (is_none (cont_of b (kept trace))) (Finished b) tt

  good-end : (end : End) (o : Option UnitKind) → IfSome G (after_end trace end o)
  good-end (Committed n) (Some (First s b name args)) = tt
  good-end (Committed n) (Some (Later b part)) = good-finishes b
  good-end (Branched n c) (Some (Later b part)) = good-finishes b
  good-end end o = tt

  good-releases : (bs : List Id) → IfSome G (releases bs)
  good-releases [] = tt
  good-releases (b ∷ bs) = tt

-- while serving
module _ (trace : Trace) (serving : phase trace ≡ Serving) where
  not-opening : {A : Type 0} → phase trace ≡ Opening → A
  not-opening e = let x : Opening ≡ Serving = sym e ∙ serving in cc

  good-asks : (u : Id) (st : Statement) (owners : List Owner) → Open trace u → clashing trace u st ≡ owners → (Good trace) (asks_for trace u st owners)
  good-asks u st [] o e = (o, refl, (λ v p differ s t. takes-apart trace u v st s e differ p t), not-opening, (takes-clear trace u st e, takes-beside trace u st e))
  good-asks u st (owner ∷ owners) o e = o

  good-turn : (u : Id) → Open trace u → IfSome (Good trace) (turn trace u)
  good-turn u o = some-map (Good trace) (λ st. asks_for trace u st (clashing trace u st)) (asked_by u trace) (some-all _ (asked_by u trace) (λ st. good-asks u st (clashing trace u st) o refl))

  good-does_next : (u : Id) → Open trace u → is_empty (clashing_now trace u) ≡ true → IfSome (Good trace) (does_next trace u)
  good-does_next u o e = by (asked_by u trace) e
    where
      by : (p : Option Statement) → is_empty (elim p [ None ↦ [] | Some st ↦ clashing trace u st ]) ≡ true → IfSome (Good trace) (option_map (does trace u) p)
      by None h = tt
      by (Some st) h = good-asks u st [] o (nothing (clashing trace u st) h)

  good-turn_of : (o : Option Id) → IfSome (Open trace) o → IfSome (Good trace) (option_and_then (turn trace) o)
  good-turn_of None h = tt
  good-turn_of (Some u) h = good-turn u h

  good-act : ((u : Id) → failing u trace ≡ None) → (s : ℕ) (act : Act) (o : Option Id) → IfSome (Open trace) o → IfSome (Good trace) (act_event trace s act o)
  good-act q s Begin o h = (not-opening, refl)
  good-act q s (Do st) None h = (not-opening, refl)
  good-act q s (Do st) (Some u) h = good-turn u h
  good-act q s (Call n args) o h = some-map (Good trace) _ (kept_program n (kept trace)) (some-all _ (kept_program n (kept trace)) (λ p. (not-opening, refl)))
  good-act q s Step o h = good-turn_of o h
  good-act q s Commit None h = tt
  good-act q s Commit (Some u) h = (h, fits-none (Committed (next_number trace)) (failing u trace) (q u) refl, tt)
  good-act q s Rollback None h = tt
  good-act q s Rollback (Some u) h = (h, q u, tt)

  good-goes_on : (b : Id) (o : Option Id) → IfSome (Open trace) o → IfSome (Good trace) (goes_on trace b o)
  good-goes_on b (Some u) h = good-turn u h
  good-goes_on b None h = some-map (Good trace) _ (cont_of b (kept trace)) (some-all _ (cont_of b (kept trace)) (λ c. (not-opening, refl)))

  open-units : Every (Open trace) (open_units trace)
  open-units = every-passes (is_open trace) (units_begun trace)

  good-go : (b : Id) → IfSome (Good trace) (go trace b)
  good-go b = good-goes_on b (program_unit b trace) (some-first (Open trace) (filter (is_of_program b trace) (open_units trace)) (every-filter (Open trace) (is_of_program b trace) (open_units trace) open-units))

  -- a definition is asked for where nothing is open
  abbrev NoneOpen : Line → Type 0
  NoneOpen (Table d) = open_units trace ≡ []
  NoneOpen (Program p) = open_units trace ≡ []
  NoneOpen line = ⊤

  good-line : ((u : Id) → failing u trace ≡ None) → (line : Line) → NoneOpen line → IfSome (Good trace) (line_event trace line)
  good-line q (Session s act) h = good-act q s act (session_unit s trace) (some-first (Open trace) (filter (is_of_session s trace) (open_units trace)) (every-filter (Open trace) (is_of_session s trace) (open_units trace) open-units))
  good-line q (Go b) h = good-go b
  good-line q (Table d) h = h
  good-line q (Program p) h = h
  good-line q line h = tt

  good-began : (u : Id) (line : Line) (kind : UnitKind) → Open trace u → IfSome (Good trace) (after_began trace u line kind)
  good-began u (Session s Begin) (Acid t) o = tt
  good-began u line kind o = good-turn u o

  good-settle : ((u : Id) → failing u trace ≡ None) → IfSome (Good trace) (settle trace)
  good-settle q = by (victim trace) (next_unblocked trace) (victim-open trace) (some-find (Open trace) (λ u. is_empty (clashing_now trace u)) (wait_list trace) (waits-open trace))
    where
      by : (v s : Option Id) → IfSome (Open trace) v → IfSome (λ u. Open trace u × (is_empty (clashing_now trace u) ≡ true)) s → IfSome (Good trace) (settle_by trace v s)
      by (Some u) s h g = (h, q u, tt)
      by None (Some u) h g = good-does_next u g.0 g.1
      by None None h g = tt

good-follow : (trace : Trace) (e : Event) → phase (trace says e) ≡ Serving → IfSome (Good (trace says e)) (follow (trace says e) e)
good-follow trace (Began u kind) p = good-began (trace says Began u kind) p u (line_of trace) kind (rw (is_same_id-refl u) refl)
good-follow trace (Did u st a) p = good-did (trace says Did u st a) u a (rw (is_same_id-refl u) refl) (rw (is_same_id-refl u) refl)
good-follow trace (Ended u end) p = good-end (trace says Ended u end) end (kind_of u (trace says Ended u end))
good-follow trace (Accepted b) p = good-finishes (trace says Accepted b) b
good-follow trace (Finished b) p = good-releases (trace says Finished b) (to_release (trace says Finished b))
good-follow trace e p = tt

-- nothing fails after an event that follows nothing failed
unfailing : (trace : Trace) (v : Id) (st : Statement) (a : Answer) → cause_in a ≡ None → (u : Id) → failing u (trace says Did v st a) ≡ None
unfailing trace v st a e u = rw e (elim (is_same_id u v) as (λ b. cond {A = Option Cause} b None None ≡ None) [ true ↦ refl | false ↦ refl ])

pub good-serving : (trace : Trace) (e : Event) → phase (trace says e) ≡ Serving → lasts e ≡ false → IfSome (Good (trace says e)) (serving_event (trace says e) e)
good-serving trace Ready p l = tt
good-serving trace (Early bs) p l = tt
good-serving trace (Did v st (Answer.Failed c)) p l = good-follow trace (Did v st (Answer.Failed c)) p
good-serving trace (Did v st a) p l =
    some-option_or (Good (trace says Did v st a)) (follow (trace says Did v st a) (Did v st a)) (settle (trace says Did v st a)) (good-follow trace (Did v st a) p) (good-settle (trace says Did v st a) p (unfailing trace v st a refl))
good-serving trace (Down why) p l = cc
good-serving trace (Opened boot n) p l = cc
good-serving trace (Ended v Cut) p l = cc
good-serving trace e p l = some-option_or (Good (trace says e)) (follow (trace says e) e) (settle (trace says e)) (good-follow trace e p) (good-settle (trace says e) p (λ u. refl))

-- in an opening
every-insert : (P : Id → Type 0) (u : Id) (us : List Id) → P u → Every P us → Every P (insert_id u us)
every-insert P u [] p h = (p, tt)
every-insert P u (v ∷ vs) p h = by (is_older u v) (is_same_id u v) (every-insert P u vs p h.1)
  where
    by : (a b : Bool) → Every P (insert_id u vs) → Every P (cond a (u ∷ v ∷ vs) (cond b (v ∷ vs) (v ∷ insert_id u vs)))
    by true b more = (p, h)
    by false true more = h
    by false false more = (h.0, more)

every-order : (P : Id → Type 0) (us : List Id) → Every P us → Every P (in_order us)
every-order P [] h = tt
every-order P (u ∷ us) h = every-insert P u (in_order us) h.0 (every-order P us h.1)

pub good-cuts : (trace : Trace) → phase trace ≡ Opening → IfSome (Good trace) (cuts_or_drains trace (to_cut trace))
good-cuts trace p = by (to_cut trace) (every-order (Open trace) _ (every-filter (Open trace) (λ u. nat_lt u.boot (kept trace).boot) (open_units trace) (every-passes (is_open trace) (units_begun trace))))
  where
    drained : (cs : List Cont) (b : Bool) → is_empty (open_units trace) ≡ b → IfSome (Good trace) (then_some b (drains trace cs))
    drained cs false e = tt
    drained [] true e = nothing (open_units trace) e
    drained (c ∷ cs) true e = early (start_of trace).early refl
      where
        early : (x : Bool) → (start_of trace).early ≡ x → Good trace (unfinished x trace c cs)
        early true a = (nothing (open_units trace) e, a)
        early false a = ((λ p. (nothing (open_units trace) e, refl)), refl)

    by : (us : List Id) → Every (Open trace) us → IfSome (Good trace) (cuts_or_drains trace us)
    by (u ∷ us) h = (h.0, tt, λ s. let x : Opening ≡ Serving = sym p ∙ s in cc)
    by [] h = drained (kept trace).conts (is_empty (open_units trace)) refl

free-alone : (trace : Trace) (u : Id) (st : Statement) → ((v : Id) → Open trace v → is_same_id u v ≡ true) → Free trace u st
free-alone trace u st alone v o differ s t = let x = alone v o in cc

alone-does_next : (trace : Trace) (u : Id) → Open trace u → Alone trace u → IfSome (Good trace) (does_next trace u)
alone-does_next trace u o alone = some-map (Good trace) (does trace u) (asked_by u trace) (some-all _ (asked_by u trace) (λ st. (o, refl, free-alone trace u st alone.0, (λ p. alone), (alone-clear trace u st alone, alone-beside trace u st alone))))

good-drains : (trace : Trace) (e : Event) → Sole (trace says e) → IfSome (Good (trace says e)) (follow_opening (trace says e) e)
good-drains trace (Began u kind) s = alone-does_next (trace says Began u kind) u (rw (is_same_id-refl u) refl) s
good-drains trace (Did u st a) s =
    some-option_or (Good (trace says Did u st a)) (after_did (trace says Did u st a) u a) (does_next (trace says Did u st a) u)
    (good-did (trace says Did u st a) u a (rw (is_same_id-refl u) refl) (rw (is_same_id-refl u) refl)) (alone-does_next (trace says Did u st a) u (rw (is_same_id-refl u) refl) s)
good-drains trace (Ended u end) s = good-end (trace says Ended u end) end (kind_of u (trace says Ended u end))
good-drains trace (Accepted b) s = good-finishes (trace says Accepted b) b
good-drains trace e s = tt

pub good-opening : (trace : Trace) (e : Event) → phase (trace says e) ≡ Opening → Sole (trace says e) → IfSome (Good (trace says e)) (option_or (follow_opening (trace says e) e) (cuts_or_drains (trace says e) (to_cut (trace says e))))
good-opening trace e p s = some-option_or (Good (trace says e)) (follow_opening (trace says e) e) (cuts_or_drains (trace says e) (to_cut (trace says e))) (good-drains trace e s) (good-cuts (trace says e) p)

not-busy : (trace : Trace) → is_busy trace ≡ false → open_units trace ≡ []
not-busy trace h = by (open_units trace) h
  where
    by : (us : List Id) → (not (is_empty us) || list_any (is_holding trace) (accepted_in trace)) ≡ false → us ≡ []
    by [] h = refl
    by (u ∷ us) h = cc

-- of two answers that are none, each is none
pub neither : {A : Type 0} (o other : Option A) → option_or o other ≡ None → (o ≡ None) × (other ≡ None)
neither None other h = (refl, h)
neither (Some x) other h = cc

pub none-then_some : {A : Type 0} (b : Bool) (x : A) → then_some b x ≡ None → b ≡ false
none-then_some true x h = cc
none-then_some false x h = refl

unrefused : (trace : Trace) (p : phase trace ≡ Serving) (line : Line) → refused_line trace line ≡ None → NoneOpen (trace asks Tree line) p line
unrefused trace p (Table d) h = not-busy trace (none-then_some (is_busy trace) Busy (neither (judged trace (Table d)) _ h).1)
unrefused trace p (Program d) h = not-busy trace (none-then_some (is_busy trace) Busy (neither (judged trace (Program d)) _ h).1)
unrefused trace p line h = tt

pub good-asked : (trace : Trace) (p : phase trace ≡ Serving) (asked : Asked) (o : Option Refusal) → refusal trace asked ≡ o → IfSome (Good (trace asks asked)) (option_or (option_map Refused o) (line_event (trace asks asked) (line_asked asked)))
good-asked trace p asked (Some r) e = tt
good-asked trace p (Tree line) None e = good-line (trace asks Tree line) p (λ u. refl) line (unrefused trace p line e)
good-asked trace p (Rejected r) None e = cc

pub good-turned : (trace : Trace) (p : phase trace ≡ Serving) (b : Id) → IfSome (Good (trace turns b)) (go (trace turns b) b)
good-turned trace p b = good-go (trace turns b) p b
