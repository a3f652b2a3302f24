-- What `next` gives while serving: whose unit acts, that nothing clashes where a statement is done, and where what is told of programs comes.
use Rattle.law_story.proofs.Fresh.{IfComes, comes-map, comes-option_or, comes-then_some, or_left}
use Rattle.law_story.proofs.Ids.{is_same_id-refl}
use Rattle.law_story.proofs.Lists.{In, either, in-cases, in-filter, in-map, in-order, in-without, order-none}
use Rattle.salt_ast.specs.declared.lines.Act.{Act}
use Rattle.salt_ast.specs.declared.lines.Act.TheVariants.{Begin, Call, Commit, Do, Rollback, Step}
use Rattle.salt_ast.specs.declared.lines.Line.{Line}
use Rattle.salt_ast.specs.declared.lines.Line.TheVariants.{Go, Program, Session, Table}
use Rattle.salt_ast.specs.declared.programs.Body.{Body}
use Rattle.salt_ast.specs.declared.programs.Body.TheVariants.{Acid, Base}
use Rattle.salt_ast.specs.declared.trees.Statement.{Statement}
use Rattle.salt_model.specs.After.{kept}
use Rattle.salt_model.specs.Continuing.{last_said, part_due, program_continued}
use Rattle.salt_model.specs.Kept.{cont_in, cont_of, kept_program}
use Rattle.salt_model.specs.Locks.{clashing, is_holding}
use Rattle.salt_model.specs.Next.{decision_in, flight, next, said_event, serving_event}
use Rattle.salt_model.specs.Openings.{cuts_or_drains, drains, follow_opening, stands_now, to_cut, unfinished}
use Rattle.salt_model.specs.Phases.{Fallen, Opening, Phase, Serving, phase}
use Rattle.salt_model.specs.Programs.{accepted_in}
use Rattle.salt_model.specs.Reads.{to_release}
use Rattle.salt_model.specs.Refusals.{is_base_program, is_busy, is_covering, is_held_back, judged, refusal, refused_line, state_wrong}
use Rattle.salt_model.specs.Trace.{Asked, Rejected, Trace, Tree, from, line_asked, line_of, start_of, ◌asks◌, ◌says◌, ◌turns◌}
use Rattle.salt_model.specs.Turns.{act_event, after_began, after_did, after_end, asks_for, commits, does, does_next, fails, follow, fresh_base, fresh_unit, go, goes_on, is_at_end, kind_called, line_event, next_number, releases, settle, settle_by, turn}
use Rattle.salt_model.specs.Units.{Running, Waiting, is_of_program, is_of_session, is_open, is_open_standing, kind_of, open_units, program_unit, session_unit, standing, units_begun, wait_list}
use Rattle.salt_model.specs.Waiting.{WaitUnit, asked_by, block_of, clashing_now, is_acid, is_on_cycle, names_of, next_unblocked, victim, wait_graph, wait_unit}
use Rattle.salt_model.specs.Words.{first_of_list, greatest, is_empty}
use Rattle.salt_model.specs.declared.events.Answer.{Answer}
use Rattle.salt_model.specs.declared.events.Answer.TheVariants.{Failed}
use Rattle.salt_model.specs.declared.events.End.{End}
use Rattle.salt_model.specs.declared.events.End.TheVariants.{Branched, Committed, Cut, Failed, Victim}
use Rattle.salt_model.specs.declared.events.Event.{Event}
use Rattle.salt_model.specs.declared.events.Event.TheVariants.{Accepted, Armed, Began, Defined, Did, Early, Ended, Finished, Opened, Ready, Refused, Released, Shown, Waits}
use Rattle.salt_model.specs.declared.events.Owner.{Owner}
use Rattle.salt_model.specs.declared.events.Owner.TheVariants.{Base}
use Rattle.salt_model.specs.declared.events.Refusal.{Refusal}
use Rattle.salt_model.specs.declared.events.Refusal.TheVariants.{Busy, State}
use Rattle.salt_model.specs.declared.events.UnitKind.{UnitKind}
use Rattle.salt_model.specs.declared.events.UnitKind.TheVariants.{Acid, Call, First, Later}
use Rattle.salt_model.specs.declared.locks.Family.TheVariants.{Acid}
use Rattle.salt_model.specs.declared.shown.BaseAt.TheVariants.{Finished, First}
use Rattle.salt_model.specs.declared.shown.Item.TheVariants.{Base}
use Rattle.salt_values.specs.Id.{in_order, is_older, is_same_id, without}
use Rattle.salt_values.specs.declared.cont.Cont.{Cont}
use Rattle.salt_values.specs.declared.id.Id.{Id}
use Rattle.salt_values.specs.declared.value.Value.{Value}
use Rattle.std.proofs.Common.{ap, inl, inr, subst, sym, ◌∙◌}
use Rattle.std.specs.Bool.{then_some}
use Rattle.std.specs.List.{filter, find, list_any}
use Rattle.std.specs.Option.{option_or}
use Rattle.std.specs.Prelude.{Bool, List, None, Option, Some, [], cond, false, if◌then◌else◌, is_none, map, nat_lt, not, option_and_then, option_map, refl, true, ℕ, ⊤, ◌&&◌, ◌<◌, ◌==◌, ◌||◌, ◌∷◌, ◌≡◌, ◌⊎◌}

pub first-in : {A : Type 0} (x : A) (xs : List A) → first_of_list xs ≡ Some x → In x xs
first-in x [] h = cc
first-in x (y ∷ ys) h = inl (cc)

pub find-in : {A : Type 0} (p : A → Bool) (x : A) (xs : List A) → find p xs ≡ Some x → In x xs × (p x ≡ true)
find-in p x [] h = cc
find-in {A = A} p x (y ∷ ys) h = go (find-in p x ys) (p y) refl h
  where
    go : (find p ys ≡ Some x → In x ys × (p x ≡ true)) → (b : Bool) → p y ≡ b → cond b (Some y) (find p ys) ≡ Some x → In x (y ∷ ys) × (p x ≡ true)
    go more true e g = let s : y ≡ x = cc in (inl s, subst (λ z. p z ≡ true) s e)
    go more false e g = let r = more g in (inr r.0, r.1)

pub greatest-in : (x : Id) (us : List Id) → greatest us ≡ Some x → In x us
greatest-in x [] h = cc
greatest-in x (u ∷ us) h = go (greatest-in x us) (greatest us) refl h
  where
    pick : (b : Bool) (v : Id) → (greatest us ≡ Some x → In x us) → greatest us ≡ Some v → Some (cond b v u) ≡ Some x → In x (u ∷ us)
    pick true v more e g = inr (more (e ∙ g))
    pick false v more e g = inl (cc)

    go : (greatest us ≡ Some x → In x us) → (o : Option Id) → greatest us ≡ o → elim o [ None ↦ Some u | Some v ↦ Some (if is_older u v then v else u) ] ≡ Some x → In x (u ∷ us)
    go more None e g = inl (cc)
    go more (Some v) e g = pick (is_older u v) v more e g

either-else : (o p : Option Id) (x : Id) → option_or o p ≡ Some x → (o ≡ Some x) ⊎ (p ≡ Some x)
either-else None p x h = inr h
either-else (Some y) p x h = inl h

-- a waiting unit is open
pub wait-open : (trace : Trace) (u : Id) → In u (wait_list trace) → is_open trace u ≡ true
wait-open (from k) u h = absurd h
wait-open (trace asks line) u h = wait-open trace u h
wait-open (trace turns b) u h = wait-open trace u h
wait-open (trace says Waits v owners) u h = either (λ g. elim (is_same_id u v) as (λ b. is_open_standing (cond b Waiting (standing u trace)) ≡ true) [ true ↦ refl | false ↦ wait-open trace u (in-without u (v ∷ []) (wait_list trace) g).0 ]) (either (λ e. let s : is_same_id u v ≡ true = subst (λ x. is_same_id x v ≡ true) e (is_same_id-refl v) in rw s refl) (λ f. absurd f)) (in-cases u (without (v ∷ []) (wait_list trace)) (v ∷ []) h)
wait-open (trace says Did v st answer) u h = elim (is_same_id u v) as (λ b. is_open_standing (cond b Running (standing u trace)) ≡ true) [ true ↦ refl | false ↦ wait-open trace u (in-without u (v ∷ []) (wait_list trace) h).0 ]
wait-open (trace says Began v kind) u h = elim (is_same_id u v) as (λ b. is_open_standing (cond b Running (standing u trace)) ≡ true) [ true ↦ refl | false ↦ wait-open trace u h ]
wait-open (trace says Ended v end) u h = let r = in-without u (v ∷ []) (wait_list trace) h in rw (or_left (is_same_id u v) false r.1) (wait-open trace u r.0)
wait-open (trace says e) u h = wait-open trace u h

-- a fact of what comes
pub comes-map-at : {A : Type 0} (P : Event → Type 0) (f : A → Event) (o : Option A) → ((a : A) → o ≡ Some a → P (f a)) → IfComes P (option_map f o)
comes-map-at P f None h = tt
comes-map-at P f (Some a) h = h a refl

pub comes-then_some-at : (P : Event → Type 0) (b : Bool) (e : Event) → (b ≡ true → P e) → IfComes P (then_some b e)
comes-then_some-at P true e h = h refl
comes-then_some-at P false e h = tt

abbrev pub is_first_of : Id → Option UnitKind → Bool
is_first_of b (Some (First s c n args)) = is_same_id b c
is_first_of b kind = false

-- directly after the Committed of b's First unit
abbrev pub IsAcceptance : Id → Trace → Option Event → Type 0
IsAcceptance b trace (Some (Ended u (Committed n))) = is_first_of b (kind_of u trace) ≡ true
IsAcceptance b trace e = ⊥

-- directly after the decided end, or the Accepted that follows it, whose way is the end
abbrev pub IsLastEnd : Id → Trace → Option Event → Type 0
IsLastEnd b trace (Some (Ended u (Committed n))) = (option_and_then program_continued (kind_of u trace) ≡ Some b) × (part_due trace b ≡ None)
IsLastEnd b trace (Some (Ended u (Branched n c))) = (option_and_then program_continued (kind_of u trace) ≡ Some b) × (part_due trace b ≡ None)
IsLastEnd b trace (Some (Accepted c)) = (c ≡ b) × (part_due trace b ≡ None)
IsLastEnd b trace e = ⊥

-- the events that an opening may have
abbrev pub ForOpening : Event → Type 0
ForOpening (Began u (Later b part)) = ⊤
ForOpening (Began u kind) = ⊥
ForOpening (Waits u owners) = ⊥
ForOpening (Ended u Victim) = ⊥
ForOpening (Refused r) = ⊥
ForOpening (Armed pairs) = ⊥
ForOpening (Shown items) = ⊥
ForOpening (Released bs) = ⊥
ForOpening e = ⊤

abbrev pub Within : Phase → Event → Type 0
Within Opening e = ForOpening e
Within phase e = ⊤

-- nothing is open, b's continuation is the first, and openings are not early
abbrev pub DrainsFirst : Trace → Id → Type 0
DrainsFirst trace b = (open_units trace ≡ []) × (first_of_list (map (λ (c : Cont). c.base) (kept trace).conts) ≡ Some b) × ((start_of trace).early ≡ false)

-- each accepted program is released
abbrev pub NoneHolds : Trace → Type 0
NoneHolds trace = list_any (is_holding trace) (accepted_in trace) ≡ false

abbrev pub FitsKind : Trace → UnitKind → Type 0
FitsKind trace (First s b n args) = (phase trace ≡ Serving) × (b ≡ fresh_base trace) × (is_covering trace ≡ false)
FitsKind trace (Later b part) = (program_unit b trace ≡ None) × (part_due trace b ≡ Some part) × (phase trace ≡ Opening → DrainsFirst trace b)
FitsKind trace kind = phase trace ≡ Serving

abbrev pub IsAfterFinished : Option Event → Type 0
IsAfterFinished (Some (Finished b)) = ⊤
IsAfterFinished e = ⊥

abbrev pub FitsEnd : Trace → Id → End → Type 0
FitsEnd trace u (Committed n) = n ≡ next_number trace
FitsEnd trace u (Branched n c) = n ≡ next_number trace
FitsEnd trace u Cut = (phase trace ≡ Opening) × (first_of_list (to_cut trace) ≡ Some u)
FitsEnd trace u end = ⊤

abbrev pub Fits : Trace → Event → Type 0
Fits trace (Did u st a) = (is_open trace u ≡ true) × (phase trace ≡ Opening → is_acid trace u ≡ false) × (is_acid trace u ≡ true → clashing trace u st ≡ [])
Fits trace (Waits u owners) = is_open trace u ≡ true
Fits trace (Ended u end) = (is_open trace u ≡ true) × FitsEnd trace u end
Fits trace (Defined n text) = (n ≡ next_number trace) × NoneHolds trace
Fits trace (Began u kind) = (u ≡ fresh_unit trace) × (phase trace ≡ Fallen → ⊥) × FitsKind trace kind
Fits trace (Accepted b) = IsAcceptance b trace (last_said trace)
Fits trace (Finished b) = IsLastEnd b trace (last_said trace)
Fits trace (Released bs) = (bs ≡ to_release trace) × (releases (to_release trace) ≡ Some (Released bs)) × IsAfterFinished (last_said trace) × (phase trace ≡ Serving)
Fits trace (Opened boot n) = (phase trace ≡ Fallen) × ((kept trace).boot < boot)
Fits trace Ready = (phase trace ≡ Opening) × ((kept trace).conts ≡ []) × (to_cut trace ≡ []) × (open_units trace ≡ [])
Fits trace (Early bs) =
    (phase trace ≡ Opening) × (bs ≡ in_order (map (λ (c : Cont). c.base) (kept trace).conts)) × (to_cut trace ≡ []) × (open_units trace ≡ []) ×
    ((start_of trace).early ≡ true) × (bs ≡ [] → ⊥)
Fits trace e = ⊤

is-serving : (p : Phase) → p ≡ Serving → (p ≡ Fallen → ⊥) × (p ≡ Opening → ⊥)
is-serving p s = ((λ f. cc), (λ o. cc))

-- the first of the open units with a test is open, and passes it
pub opened-in : (trace : Trace) (p : Id → Bool) (u : Id) → first_of_list (filter p (open_units trace)) ≡ Some u → (is_open trace u ≡ true) × (p u ≡ true)
opened-in trace p u h = let r = in-filter p u (open_units trace) (first-in u _ h) in ((in-filter (is_open trace) u (units_begun trace) r.0).1, r.1)

-- the line calls no program that is held back, and defines where none holds
abbrev IsNotHeld : Trace → Line → Type 0
IsNotHeld trace (Session s act) = is_held_back trace act ≡ false
IsNotHeld trace (Table d) = NoneHolds trace
IsNotHeld trace (Program d) = NoneHolds trace
IsNotHeld trace line = ⊤

module _ (trace : Trace) (serving : phase trace ≡ Serving) where
  abbrev P : Event → Type 0
  P = Fits trace

  fits-asks : (u : Id) (st : Statement) (owners : List Owner) → is_open trace u ≡ true → clashing trace u st ≡ owners → P (asks_for trace u st owners)
  fits-asks u st [] o c = (o, (λ e. absurd ((is-serving (phase trace) serving).1 e)), (λ a. c))
  fits-asks u st (owner ∷ owners) o c = o

  fits-turn : (u : Id) → is_open trace u ≡ true → IfComes P (turn trace u)
  fits-turn u o = comes-map P _ (asked_by u trace) (λ st. fits-asks u st (clashing trace u st) o refl)

  fits-turn_of : (o : Option Id) → ((u : Id) → o ≡ Some u → is_open trace u ≡ true) → IfComes P (option_and_then (turn trace) o)
  fits-turn_of None h = tt
  fits-turn_of (Some u) h = fits-turn u (h u refl)

  uncovered : (p : Bool) → (p && true) ≡ false → p ≡ false
  uncovered true h = h
  uncovered false h = refl

  kind-called : (s : ℕ) (n : List ℕ) (args : List Value) (body : Body) → (is_covering trace && elim body [ Acid block ↦ false | Base parts ↦ true ]) ≡ false → FitsKind trace (kind_called trace s n args body)
  kind-called s n args (Acid block) h = serving
  kind-called s n args (Base parts) h = (serving, refl, uncovered (is_covering trace) h)

  not-fallen : phase trace ≡ Fallen → ⊥
  not-fallen = (is-serving (phase trace) serving).0

  fits-act : (s : ℕ) (act : Act) (o : Option Id) → is_held_back trace act ≡ false → ((u : Id) → o ≡ Some u → is_open trace u ≡ true) → IfComes P (act_event trace s act o)
  fits-act s Begin o f h = (refl, not-fallen, serving)
  fits-act s (Do st) None f h = (refl, not-fallen, serving)
  fits-act s (Do st) (Some u) f h = fits-turn u (h u refl)
  fits-act s (Call n args) o f h = comes-map-at P _ (kept_program n (kept trace)) (λ p e. (refl, not-fallen, kind-called s n args p.body (ap (λ q. is_covering trace && is_base_program q) (sym e) ∙ f)))
  fits-act s Step o f h = fits-turn_of o h
  fits-act s Commit o f h = comes-map-at P _ o (λ u e. (h u e, refl))
  fits-act s Rollback o f h = comes-map-at P _ o (λ u e. (h u e, tt))

  fits-goes_on : (b : Id) (o : Option Id) → program_unit b trace ≡ o → ((u : Id) → o ≡ Some u → is_open trace u ≡ true) → IfComes P (goes_on trace b o)
  fits-goes_on b (Some u) e h = fits-turn u (h u refl)
  fits-goes_on b None e h = comes-map-at P _ (cont_of b (kept trace)) (λ c g. (refl, not-fallen, (e, ap (option_map (λ c. c.next)) g, (λ o. absurd ((is-serving (phase trace) serving).1 o)))))

  fits-go : (b : Id) → IfComes P (go trace b)
  fits-go b = fits-goes_on b (program_unit b trace) refl (λ u e. (opened-in trace (is_of_program b trace) u e).0)

  fits-line : (line : Line) → IsNotHeld trace line → IfComes P (line_event trace line)
  fits-line (Session s act) f = fits-act s act (session_unit s trace) f (λ u e. (opened-in trace (is_of_session s trace) u e).0)
  fits-line (Go b) f = fits-go b
  fits-line (Table d) f = (refl, f)
  fits-line (Program d) f = (refl, f)
  fits-line line f = tt

  fits-settle : (v s : Option Id) → ((u : Id) → v ≡ Some u → is_open trace u ≡ true) → ((u : Id) → s ≡ Some u → (is_open trace u ≡ true) × (is_empty (clashing_now trace u) ≡ true)) → IfComes P (settle_by trace v s)
  fits-settle (Some u) s h g = (h u refl, tt)
  fits-settle None (Some u) h g = serves (asked_by u trace) refl (g u refl)
    where
      emptied : (os : List Owner) → is_empty os ≡ true → os ≡ []
      emptied [] e = refl
      emptied (o ∷ os) e = cc

      serves : (o : Option Statement) → asked_by u trace ≡ o → (is_open trace u ≡ true) × (is_empty (elim o [ None ↦ [] | Some st ↦ clashing trace u st ]) ≡ true) → IfComes P (option_map (does trace u) o)
      serves None e k = tt
      serves (Some st) e k = (k.0, (λ x. absurd ((is-serving (phase trace) serving).1 x)), (λ a. emptied (clashing trace u st) k.1))
  fits-settle None None h g = tt

  abbrev on : List WaitUnit
  on = filter (is_on_cycle (wait_graph trace)) (wait_graph trace)

  victim-open : (u : Id) → victim trace ≡ Some u → is_open trace u ≡ true
  victim-open u h = either (λ e. among (filter (λ w. w.acid) on) (λ w g. (in-filter (λ w. w.acid) w on g).0) (greatest-in u _ e)) (λ e. among on (λ w g. g) (greatest-in u _ e)) (either-else (greatest (names_of (filter (λ w. w.acid) on))) (greatest (names_of on)) u h)
    where
      among : (ws : List WaitUnit) → ((w : WaitUnit) → In w ws → In w on) → In u (names_of ws) → is_open trace u ≡ true
      among ws sub g =
          let r = in-map (λ w. w.unit) u ws g in
          let q = (in-filter (is_on_cycle (wait_graph trace)) r.0 (wait_graph trace) (sub r.0 r.1)).0 in
          let s = in-map (wait_unit trace) r.0 (wait_list trace) q in
          subst (λ v. is_open trace v ≡ true) (ap (λ w. w.unit) s.2 ∙ r.2) (wait-open trace s.0 s.1)

  fits-settling : IfComes P (settle trace)
  fits-settling = fits-settle (victim trace) (next_unblocked trace) victim-open (λ u e. let r = find-in (λ u. is_empty (clashing_now trace u)) u (wait_list trace) e in (wait-open trace u r.0, r.1))

due-none : (trace : Trace) (b : Id) → is_none (cont_of b (kept trace)) ≡ true → part_due trace b ≡ None
due-none trace b h = go (cont_of b (kept trace)) h
  where
    go : (o : Option Cont) → is_none o ≡ true → option_map (λ c. c.next) o ≡ None
    go None h = refl
    go (Some c) h = cc

-- what follows an event in its turn
fits-began : (trace : Trace) → phase trace ≡ Serving → (u : Id) (line : Line) (kind : UnitKind) → IfComes (Fits (trace says Began u kind)) (after_began (trace says Began u kind) u line kind)
fits-began trace p u (Session s Begin) (Acid t) = tt
fits-began trace p u line kind = fits-turn (trace says Began u kind) p u (rw (is_same_id-refl u) refl)

fits-did : (trace : Trace) (u : Id) (st : Statement) (answer a : Answer) → IfComes (Fits (trace says Did u st answer)) (after_did (trace says Did u st answer) u a)
fits-did trace u st answer (Failed c) = go (kind_of u trace)
  where
    go : (o : Option UnitKind) → Fits (trace says Did u st answer) (fails (trace says Did u st answer) u c o)
    go (Some (Later b part)) = (rw (is_same_id-refl u) refl, refl)
    go o = (rw (is_same_id-refl u) refl, tt)
fits-did trace u st answer a = comes-then_some (Fits (trace says Did u st answer)) (is_at_end (trace says Did u st answer) u (block_of u (trace says Did u st answer))) (commits (trace says Did u st answer) u) (rw (is_same_id-refl u) refl, refl)

fits-end : (trace : Trace) (u : Id) (end : End) (o : Option UnitKind) → kind_of u trace ≡ o → IfComes (Fits (trace says Ended u end)) (after_end (trace says Ended u end) end o)
fits-end trace u (Committed n) (Some (First s b name args)) k = rw (k, is_same_id-refl b) refl
fits-end trace u (Committed n) (Some (Later b part)) k = comes-then_some-at (Fits (trace says Ended u (Committed n))) (is_none (cont_of b (kept (trace says Ended u (Committed n))))) (Finished b) (λ h. (rw k refl, due-none (trace says Ended u (Committed n)) b h))
fits-end trace u (Branched n c) (Some (Later b part)) k = comes-then_some-at (Fits (trace says Ended u (Branched n c))) (is_none (cont_of b (kept (trace says Ended u (Branched n c))))) (Finished b) (λ h. (rw k refl, due-none (trace says Ended u (Branched n c)) b h))
fits-end trace u end o k = tt

fits-releases : (trace : Trace) → phase trace ≡ Serving → (b : Id) (bs : List Id) → bs ≡ to_release (trace says Finished b) → IfComes (Fits (trace says Finished b)) (releases bs)
fits-releases trace p b [] h = tt
fits-releases trace p b (c ∷ cs) h = (h, rw (← h) refl, tt, p)

fits-follow : (trace : Trace) (e : Event) → phase (trace says e) ≡ Serving → IfComes (Fits (trace says e)) (follow (trace says e) e)
fits-follow trace (Began u kind) p = fits-began trace p u (line_of trace) kind
fits-follow trace (Did u st a) p = fits-did trace u st a a
fits-follow trace (Ended u end) p = fits-end trace u end (kind_of u trace) refl
fits-follow trace (Accepted b) p = comes-then_some-at (Fits (trace says Accepted b)) (is_none (cont_of b (kept (trace says Accepted b)))) (Finished b) (λ h. (refl, due-none (trace says Accepted b) b h))
fits-follow trace (Finished b) p = fits-releases trace p b (to_release (trace says Finished b)) refl
fits-follow trace e p = tt

fits-serving : (trace : Trace) (e : Event) → phase (trace says e) ≡ Serving → IfComes (Fits (trace says e)) (serving_event (trace says e) e)
fits-serving trace Ready p = tt
fits-serving trace (Early bs) p = tt
fits-serving trace e p = comes-option_or (Fits (trace says e)) (follow (trace says e) e) (settle (trace says e)) (fits-follow trace e p) (fits-settling (trace says e) p)

-- in an opening

abbrev pub IsOwn : Id → Option Event → Type 0
IsOwn u (Some (Began v kind)) = v ≡ u
IsOwn u (Some (Did v st a)) = v ≡ u
IsOwn u e = ⊥

-- what holds where an opening goes on
abbrev pub Drains : Trace → Type 0
Drains trace = phase trace ≡ Opening → (u : Id) → IsOwn u (last_said trace) → is_acid trace u ≡ false

abbrev pub FitsOpening : Trace → Event → Type 0
FitsOpening trace e = Fits trace e × ForOpening e

module _ (trace : Trace) (opening : phase trace ≡ Opening) where
  abbrev Q : Event → Type 0
  Q = FitsOpening trace

  open-fallen : phase trace ≡ Fallen → ⊥
  open-fallen f = cc

  fits-does_next : (u : Id) → is_open trace u ≡ true → is_acid trace u ≡ false → IfComes Q (does_next trace u)
  fits-does_next u o a = comes-map Q _ (asked_by u trace) (λ st. ((o, (λ p. a), (λ t. cc)), tt))

  fits-drains : (cs : List Cont) → (kept trace).conts ≡ cs → to_cut trace ≡ [] → open_units trace ≡ [] → Q (drains trace cs)
  fits-drains [] e c n = ((opening, e, c, n), tt)
  fits-drains (x ∷ cs) e c n = by (start_of trace).early refl
    where
      some : {A : Type 0} (x : A) (xs : List A) → x ∷ xs ≡ [] → ⊥
      some x xs h = cc

      by : (t : Bool) → (start_of trace).early ≡ t → Q (unfinished t trace x cs)
      by true a = ((opening, ap (λ (l : List Cont). in_order (map (λ (c : Cont). c.base) l)) (sym e), c, n, a, (λ g. some _ _ (order-none (map (λ (c : Cont). c.base) (x ∷ cs)) g))), tt)
      by false a = ((refl, open-fallen, (ap (λ us. first_of_list (filter (is_of_program x.base trace) us)) n, subst (λ (l : List Cont). option_map (λ (y : Cont). y.next) (cont_in x.base l) ≡ Some x.next) (sym e) (rw (is_same_id-refl x.base) refl), (λ o. (n, ap (λ (l : List Cont). first_of_list (map (λ (c : Cont). c.base) l)) e, a)))), tt)

  fits-cuts : (us : List Id) → to_cut trace ≡ us → IfComes Q (cuts_or_drains trace us)
  fits-cuts [] e = comes-then_some-at Q (is_empty (open_units trace)) (drains trace (kept trace).conts) (λ n. fits-drains (kept trace).conts refl e (none (open_units trace) n))
    where
      none : (us : List Id) → is_empty us ≡ true → us ≡ []
      none [] h = refl
      none (u ∷ us) h = cc
  fits-cuts (u ∷ us) e =
      let i : In u (to_cut trace) = subst (In u) (sym e) (inl refl) in
      let f = in-filter (λ u. nat_lt u.boot (kept trace).boot) u (open_units trace) (in-order u _ i) in
      (((in-filter (is_open trace) u (units_begun trace) f.0).1, (opening, ap first_of_list e)), tt)

is-for : (P : Event → Type 0) (o : Option Event) → IfComes P o → IfComes ForOpening o → IfComes (λ e. P e × ForOpening e) o
is-for P None h g = tt
is-for P (Some e) h g = (h, g)

for-did : (trace : Trace) (u : Id) (a : Answer) → IfComes ForOpening (after_did trace u a)
for-did trace u (Failed c) = go (kind_of u trace)
  where
    go : (o : Option UnitKind) → ForOpening (fails trace u c o)
    go (Some (Later b part)) = tt
    go o = tt
for-did trace u a = comes-then_some ForOpening (is_at_end trace u (block_of u trace)) (commits trace u) tt

for-end : (trace : Trace) (end : End) (o : Option UnitKind) → IfComes ForOpening (after_end trace end o)
for-end trace (Committed n) (Some (First s b name args)) = tt
for-end trace (Committed n) (Some (Later b part)) = comes-then_some ForOpening (is_none (cont_of b (kept trace))) (Finished b) tt
for-end trace (Branched n c) (Some (Later b part)) = comes-then_some ForOpening (is_none (cont_of b (kept trace))) (Finished b) tt
for-end trace end o = tt

opens-follow : (trace : Trace) (e : Event) → phase (trace says e) ≡ Opening → Drains (trace says e) → IfComes (FitsOpening (trace says e)) (follow_opening (trace says e) e)
opens-follow trace (Began u kind) p d = fits-does_next (trace says Began u kind) p u (rw (is_same_id-refl u) refl) (d p u refl)
opens-follow trace (Did u st a) p d = comes-option_or (FitsOpening (trace says Did u st a)) (after_did (trace says Did u st a) u a) (does_next (trace says Did u st a) u) (is-for (Fits (trace says Did u st a)) _ (fits-did trace u st a a) (for-did (trace says Did u st a) u a)) (fits-does_next (trace says Did u st a) p u (rw (is_same_id-refl u) refl) (d p u refl))
opens-follow trace (Ended u end) p d = is-for (Fits (trace says Ended u end)) _ (fits-end trace u end (kind_of u trace) refl) (for-end (trace says Ended u end) end (kind_of u trace))
opens-follow trace (Accepted b) p d = comes-then_some-at (FitsOpening (trace says Accepted b)) (is_none (cont_of b (kept (trace says Accepted b)))) (Finished b) (λ h. ((refl, due-none (trace says Accepted b) b h), tt))
opens-follow trace e p d = tt

-- what may come after a trace
abbrev pub Comes : Trace → Event → Type 0
Comes trace e = Fits trace e × Within (phase trace) e

with-phase : (trace : Trace) (p : Phase) (o : Option Event) → phase trace ≡ p → (p ≡ Opening → IfComes (FitsOpening trace) o) → ((p ≡ Opening → ⊥) → IfComes (Fits trace) o) → IfComes (Comes trace) o
with-phase trace p None e f g = tt
with-phase trace Opening (Some x) e f g = let r = f refl in (r.0, rw e r.1)
with-phase trace Serving (Some x) e f g = (g (λ o. cc), rw e tt)
with-phase trace Fallen (Some x) e f g = (g (λ o. cc), rw e tt)

serves-next : (trace : Trace) → phase trace ≡ Serving → IfComes (Fits trace) (next trace) → IfComes (Comes trace) (next trace)
serves-next trace s h = with-phase trace Serving (next trace) s (λ o. cc) (λ n. h)

fits-said : (trace : Trace) (e : Event) (p : Phase) → phase (trace says e) ≡ p → Drains (trace says e) → IfComes (Comes (trace says e)) (said_event p (trace says e) e)
fits-said trace e Serving h d = with-phase (trace says e) Serving (serving_event (trace says e) e) h (λ o. cc) (λ n. fits-serving trace e h)
fits-said trace e Opening h d = with-phase (trace says e) Opening (option_or (follow_opening (trace says e) e) (cuts_or_drains (trace says e) (to_cut (trace says e)))) h (λ o. comes-option_or (FitsOpening (trace says e)) (follow_opening (trace says e) e) (cuts_or_drains (trace says e) (to_cut (trace says e))) (opens-follow trace e h d) (fits-cuts (trace says e) h (to_cut (trace says e)) refl)) (λ n. absurd (n refl))
fits-said trace e Fallen h d = tt

-- a flight is a definition, or the end of an open unit
abbrev pub Flies : Trace → Event → Type 0
Flies trace (Ended u (Committed n)) = (is_open trace u ≡ true) × (n ≡ next_number trace)
Flies trace (Ended u (Branched n c)) = (is_open trace u ≡ true) × (n ≡ next_number trace)
Flies trace (Defined n text) = (n ≡ next_number trace) × NoneHolds trace
Flies trace e = ⊥

pub flies-next : (trace : Trace) (o : Option Event) → IfComes (Comes trace) o → IfComes (Flies trace) (decision_in o)
flies-next trace None h = tt
flies-next trace (Some (Ended u (Committed n))) h = h.0
flies-next trace (Some (Ended u (Branched n c))) h = h.0
flies-next trace (Some (Defined n text)) h = h.0
flies-next trace (Some e) h = tt

flies-stands : (trace : Trace) (n : ℕ) (o : Option Event) → IfComes (Flies trace) o → IfComes (FitsOpening trace) (stands_now trace n o)
flies-stands trace n None h = tt
flies-stands trace n (Some (Ended u (Committed m))) h = comes-then_some (FitsOpening trace) (n == next_number trace) (Ended u (Committed m)) (h, tt)
flies-stands trace n (Some (Ended u (Branched m c))) h = comes-then_some (FitsOpening trace) (n == next_number trace) (Ended u (Branched m c)) (h, tt)
flies-stands trace n (Some (Defined m text)) h = comes-then_some (FitsOpening trace) (n == next_number trace) (Defined m text) (h, tt)
flies-stands trace n (Some e) h = absurd h

pub fits-asked : (trace : Trace) (asked : Asked) → phase trace ≡ Serving → IfComes (Comes (trace asks asked)) (next (trace asks asked))
fits-asked trace asked s =
    let here = trace asks asked in
    serves-next here s (by asked (refusal trace asked) refl s)
  where
    none-of : (o p q : Option Refusal) → option_or o (option_or p q) ≡ None → p ≡ None
    none-of None None q h = refl
    none-of None (Some r) q h = cc
    none-of (Some r) p q h = cc

    not-so : {A : Type 0} (x : A) (b c : Bool) → then_some (b || c) x ≡ None → c ≡ false
    not-so x true c h = cc
    not-so x false true h = cc
    not-so x false false h = refl

    last-of : (o p q : Option Refusal) → option_or o (option_or p q) ≡ None → q ≡ None
    last-of None None q h = h
    last-of None (Some r) q h = cc
    last-of (Some r) p q h = cc

    free : (line : Line) → refused_line trace line ≡ None → IsNotHeld (trace asks Tree line) line
    free (Table d) h = not-so _ (not (is_empty (open_units trace))) (list_any (is_holding trace) (accepted_in trace)) (last-of (judged trace (Table d)) (then_some false State) (then_some (is_busy trace) Busy) h)
    free (Program d) h = not-so _ (not (is_empty (open_units trace))) (list_any (is_holding trace) (accepted_in trace)) (last-of (judged trace (Program d)) (then_some false State) (then_some (is_busy trace) Busy) h)
    free (Session t act) h = not-so _ (state_wrong trace (session_unit t trace) act) (is_held_back trace act) (none-of (judged trace (Session t act)) _ _ h)
    free line h = tt

    by : (asked : Asked) (o : Option Refusal) → refusal trace asked ≡ o → phase trace ≡ Serving → IfComes (Fits (trace asks asked)) (option_or (option_map Refused o) (line_event (trace asks asked) (line_asked asked)))
    by asked (Some r) e s = tt
    by (Tree line) None e s = fits-line (trace asks Tree line) s line (free line e)
    by (Rejected r) None e s = cc

pub fits-turns : (trace : Trace) (b : Id) → phase trace ≡ Serving → IfComes (Comes (trace turns b)) (next (trace turns b))
fits-turns trace b s = serves-next (trace turns b) s (fits-go (trace turns b) s b)

pub fits-opened : (trace : Trace) (boot n : ℕ) → IfComes (Flies trace) (flight trace) → IfComes (Comes (trace says Opened boot n)) (next (trace says Opened boot n))
fits-opened trace boot n h =
    let here = trace says Opened boot n in
    with-phase here Opening (next here) refl (λ o. comes-option_or (FitsOpening here) (stands_now here n (flight trace)) (cuts_or_drains here (to_cut here)) (flies-stands here n (flight trace) (moved-flies (flight trace) h)) (fits-cuts here refl (to_cut here) refl)) (λ n. absurd (n refl))
  where
    moved-flies : (o : Option Event) → IfComes (Flies trace) o → IfComes (Flies (trace says Opened boot n)) o
    moved-flies None h = tt
    moved-flies (Some (Ended u (Committed m))) h = h
    moved-flies (Some (Ended u (Branched m c))) h = h
    moved-flies (Some (Defined m text)) h = h
    moved-flies (Some e) h = absurd h

pub fits-says : (trace : Trace) (e : Event) → Drains (trace says e) → IfComes (Comes (trace says e)) (said_event (phase (trace says e)) (trace says e) e)
fits-says trace e d = fits-said trace e (phase (trace says e)) refl d
