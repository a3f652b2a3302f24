-- What comes next is asked for: a statement by the line or by its unit's block, a call's unit by a program that is kept.
use Rattle.law_story.proofs.Coming.{neither, none-then_some}
use Rattle.law_story.proofs.Defined.{IsKeptProgram}
use Rattle.law_story.proofs.Fresh.{IfComes, comes-map, comes-option_or, comes-then_some, or_left, or_right, standing-other}
use Rattle.law_story.proofs.Ids.{is_same_id-refl, is_same_id-true}
use Rattle.law_story.proofs.Lists.{In, either, in-cases, in-without}
use Rattle.law_story.proofs.NextFits.{Drains, Fits, IsOwn, comes-map-at, comes-then_some-at, find-in, opened-in}
use Rattle.law_story.proofs.Replays.{open-other}
use Rattle.law_story.proofs.Sound.{Sound, none-open, none-open-early, not-fresh, open-named}
use Rattle.law_story.specs.Names.{is_unit_of}
use Rattle.salt_ast.specs.declared.lines.Act.{Act}
use Rattle.salt_ast.specs.declared.lines.Act.TheVariants.{Begin, Call, Commit, Do, Rollback, Step}
use Rattle.salt_ast.specs.declared.lines.Line.{Line}
use Rattle.salt_ast.specs.declared.lines.Line.TheVariants.{Go, Session}
use Rattle.salt_ast.specs.declared.programs.Body.{Body}
use Rattle.salt_ast.specs.declared.programs.Body.TheVariants.{Acid, Base}
use Rattle.salt_ast.specs.declared.trees.Statement.{Statement}
use Rattle.salt_model.specs.After.{kept}
use Rattle.salt_model.specs.AsDeclared.{IsOfLine, IsOnly, IsOnlyDone}
use Rattle.salt_model.specs.Kept.{block_of_kind, cont_of, kept_program}
use Rattle.salt_model.specs.Locks.{clashing}
use Rattle.salt_model.specs.Next.{decision_in, is_decision, next, said_event, serving_event}
use Rattle.salt_model.specs.Openings.{after_opened, cuts_or_drains, drains, follow_opening, stands_now, to_cut, unfinished}
use Rattle.salt_model.specs.Phases.{Fallen, Opening, Phase, Serving, phase}
use Rattle.salt_model.specs.Reads.{to_release}
use Rattle.salt_model.specs.Refusals.{has_block, is_called, is_state_wrong, judged, refusal, refused_line, state_wrong}
use Rattle.salt_model.specs.Segments.{May}
use Rattle.salt_model.specs.Trace.{Asked, Rejected, Trace, Tree, from, line_asked, line_of, start_of, ◌asks◌, ◌says◌, ◌turns◌}
use Rattle.salt_model.specs.Turns.{act_event, after_began, after_did, after_end, asks_for, commits, does_next, fails, finishes, follow, fresh_unit, go, goes_on, is_at_end, is_statement_line, kind_called, line_event, next_number, releases, settle, settle_by, turn}
use Rattle.salt_model.specs.Units.{Never, Over, Running, Standing, Waiting, done_of, is_of_program, is_of_session, is_open, is_open_standing, is_waiting, is_waiting_standing, kind_of, line_begun, line_waited, open_units, program_of_kind, program_unit, session_of_kind, session_unit, standing, wait_list}
use Rattle.salt_model.specs.Waiting.{asked_by, asking_line, block_of, clashing_now, is_acid, next_unblocked, statement_in, statement_of_line, victim}
use Rattle.salt_model.specs.Words.{is_empty}
use Rattle.salt_model.specs.declared.events.Answer.{Answer}
use Rattle.salt_model.specs.declared.events.Answer.TheVariants.{Failed}
use Rattle.salt_model.specs.declared.events.Cause.{Cause}
use Rattle.salt_model.specs.declared.events.End.{End}
use Rattle.salt_model.specs.declared.events.End.TheVariants.{Branched, Committed}
use Rattle.salt_model.specs.declared.events.Event.{Event}
use Rattle.salt_model.specs.declared.events.Event.TheVariants.{Accepted, Began, Defined, Did, Down, Early, Ended, Finished, Opened, Ready, Refused, Waits}
use Rattle.salt_model.specs.declared.events.Owner.{Owner}
use Rattle.salt_model.specs.declared.events.Refusal.{Refusal}
use Rattle.salt_model.specs.declared.events.UnitKind.{UnitKind}
use Rattle.salt_model.specs.declared.events.UnitKind.TheVariants.{Acid, Call, First, Later}
use Rattle.salt_model.specs.declared.events.Why.{Why}
use Rattle.salt_values.specs.Id.{is_same_id, without}
use Rattle.salt_values.specs.declared.cont.Cont.{Cont}
use Rattle.salt_values.specs.declared.id.Id.{Id}
use Rattle.std.proofs.Common.{ap, inl, inr, subst, sym, ◌∙◌}
use Rattle.std.proofs.lemmas.Bool.{eqb-true}
use Rattle.std.specs.Bool.{then_some}
use Rattle.std.specs.Option.{option_or}
use Rattle.std.specs.Prelude.{Bool, List, None, Option, Some, [], cond, false, is_none, is_some, length, not, option_and_then, option_map, refl, true, ℕ, ⊤, ◌==◌, ◌∷◌, ◌≡◌, ◌⊎◌}
use Rattle.salt_model.specs.declared.events.Refusal.TheVariants as refused

-- the unit began with a statement's line
abbrev pub IsSingle : Trace → Id → Type 0
IsSingle trace u = (t : ℕ) × (only : Statement) × (line_begun u trace ≡ Session t (Do only))

abbrev pub IsOfAcid : Trace → Id → ℕ → Type 0
IsOfAcid trace u s = kind_of u trace ≡ Some (Acid s)

-- a session's unit does what its line asks
abbrev pub IsFromLine : Trace → Id → Statement → Type 0
IsFromLine trace u st = (s : ℕ) → IsOfAcid trace u s → IsOfLine s trace u (standing u trace) st × IsOnly trace u st (line_begun u trace)

-- it begins to wait in the segment of a line of its session; of that which began it, where a statement's line did
abbrev pub WaitsByLine : Trace → Id → Type 0
WaitsByLine trace u =
    (s : ℕ) → IsOfAcid trace u s → ((st : Statement) × (line_of trace ≡ Session s (Do st))) × (IsSingle trace u → (line_of trace ≡ line_begun u trace) × (done_of u trace ≡ []))

-- a unit that commits has done its block, where it is kept, or its line's statement
abbrev pub AllDone : Trace → Id → Option UnitKind → Type 0
AllDone trace u None = ⊤
AllDone trace u (Some (Acid s)) = IsOnlyDone (done_of u trace) (line_begun u trace)
AllDone trace u (Some kind) = (block : List Statement) → block_of_kind (kept trace) kind ≡ Some block → length (done_of u trace) ≡ length block

-- what is known of an event that comes next
abbrev pub IsAsked : Trace → Event → Type 0
IsAsked trace (Began u (Acid s)) = (t : ℕ) (only : Statement) → line_of trace ≡ Session t (Do only) → t ≡ s
IsAsked trace (Began u (Call s n args)) = IsKeptProgram (kept trace) n
IsAsked trace (Began u (First s b n args)) = IsKeptProgram (kept trace) n
IsAsked trace (Did u st a) = (asked_by u trace ≡ Some st) × IsFromLine trace u st
IsAsked trace (Waits u owners) = WaitsByLine trace u
IsAsked trace (Ended u (Committed n)) = AllDone trace u (kind_of u trace)
IsAsked trace e = ⊤

-- the event with which a trace ends, where it ends with one
abbrev pub said_at_end : Trace → Option Event
said_at_end (from k) = None
said_at_end (trace asks asked) = None
said_at_end (trace turns b) = None
said_at_end (trace says e) = Some e

-- what holds of an open unit of session s while the run serves
pub record SessionUnit (trace : Trace) (u : Id) (s : ℕ) : Type 0 where
  pub waited : is_waiting trace u ≡ true → (st : Statement) × (line_waited u trace ≡ Session s (Do st))
  pub single : IsSingle trace u → ((is_waiting trace u ≡ true) × (line_waited u trace ≡ line_begun u trace) × (done_of u trace ≡ [])) ⊎ IsOwn u (said_at_end trace)

abbrev pub Sessions : Trace → Type 0
Sessions trace = phase trace ≡ Serving → (u : Id) → is_open trace u ≡ true → (s : ℕ) → IsOfAcid trace u s → SessionUnit trace u s

-- WHAT A UNIT OF A SESSION ASKS FOR

asked-acid : (trace : Trace) (u : Id) (st : Statement) (s : ℕ) → IsOfAcid trace u s → asked_by u trace ≡ Some st → statement_of_line (asking_line u trace (standing u trace)) ≡ Some st
asked-acid trace u st s k a = subst (λ o. statement_in u trace (option_and_then (block_of_kind (kept trace)) o) ≡ Some st) k a

line-does : (line : Line) (s : ℕ) (first st : Statement) → line ≡ Session s (Do first) → statement_of_line line ≡ Some st → st ≡ first
line-does line s first st e a = let g : Some first ≡ Some st = sym (ap statement_of_line e) ∙ a in cc

-- while it runs: of this line
running-line : (trace : Trace) (u : Id) (s : ℕ) (first st : Statement) (x : Standing) → is_waiting_standing x ≡ false → line_of trace ≡ Session s (Do first) → statement_of_line (asking_line u trace x) ≡ Some st → IsOfLine s trace u x st × (st ≡ first)
running-line trace u s first st Waiting w e a = cc
running-line trace u s first st x w e a = let q = line-does (line_of trace) s first st e a in (subst (λ z. line_of trace ≡ Session s (Do z)) (sym q) e, q)

-- while it waits: of the line of its Waits
waiting-line : (trace : Trace) (u : Id) (s : ℕ) (first st : Statement) (x : Standing) → is_waiting_standing x ≡ true → line_waited u trace ≡ Session s (Do first) → statement_of_line (asking_line u trace x) ≡ Some st → IsOfLine s trace u x st
waiting-line trace u s first st Waiting w e a = subst (λ z. line_waited u trace ≡ Session s (Do z)) (sym (line-does (line_waited u trace) s first st e a)) e
waiting-line trace u s first st x w e a = cc

only-none : (trace : Trace) (u : Id) (st : Statement) (line : Line) → ((t : ℕ) (only : Statement) → line ≡ Session t (Do only) → ⊥) → IsOnly trace u st line
only-none trace u st (Session t (Do only)) n = absurd (n t only refl)
only-none trace u st line n = tt

done-none : (done : List Statement) (line : Line) → ((t : ℕ) (only : Statement) → line ≡ Session t (Do only) → ⊥) → IsOnlyDone done line
done-none done (Session t (Do only)) n = absurd (n t only refl)
done-none done line n = tt

only-some : (trace : Trace) (u : Id) (st : Statement) (line : Line) → done_of u trace ≡ [] → ((t : ℕ) (only : Statement) → line ≡ Session t (Do only) → st ≡ only) → IsOnly trace u st line
only-some trace u st (Session t (Do only)) d n = (n t only refl, d)
only-some trace u st line d n = tt

-- TURNS

asked-turn : (trace : Trace) (u : Id) → ((st : Statement) → asked_by u trace ≡ Some st → IsFromLine trace u st × WaitsByLine trace u) → IfComes (IsAsked trace) (turn trace u)
asked-turn trace u h = comes-map-at (IsAsked trace) _ (asked_by u trace) (λ st e. its st e (clashing trace u st))
  where
    its : (st : Statement) → asked_by u trace ≡ Some st → (os : List Owner) → IsAsked trace (asks_for trace u st os)
    its st e [] = (e, (h st e).0)
    its st e (o ∷ os) = (h st e).1

-- of a unit with a block
asked-other : (trace : Trace) (u : Id) → ((s : ℕ) → IsOfAcid trace u s → ⊥) → IfComes (IsAsked trace) (turn trace u)
asked-other trace u n = asked-turn trace u (λ st e. ((λ s k. absurd (n s k)), (λ s k. absurd (n s k))))

program-not-acid : (o : Option UnitKind) (b : Id) → elim (option_and_then program_of_kind o) [ None ↦ false | Some c ↦ is_same_id b c ] ≡ true → (s : ℕ) → o ≡ Some (Acid s) → ⊥
program-not-acid o b h s k = let g : false ≡ true = subst (λ o. elim (option_and_then program_of_kind o) [ None ↦ false | Some c ↦ is_same_id b c ] ≡ true) k h in cc

session-same : (o : Option UnitKind) (s t : ℕ) → elim (option_and_then session_of_kind o) [ None ↦ false | Some t ↦ s == t ] ≡ true → o ≡ Some (Acid t) → s ≡ t
session-same o s t h k = eqb-true s t (subst (λ o. elim (option_and_then session_of_kind o) [ None ↦ false | Some t ↦ s == t ] ≡ true) k h)

asked-goes_on : (trace : Trace) (b : Id) (o : Option Id) → program_unit b trace ≡ o → IfComes (IsAsked trace) (goes_on trace b o)
asked-goes_on trace b None e = comes-map (IsAsked trace) _ (cont_of b (kept trace)) (λ c. tt)
asked-goes_on trace b (Some u) e = asked-other trace u (program-not-acid (kind_of u trace) b (opened-in trace (is_of_program b trace) u e).1)

pub asked-go : (trace : Trace) (b : Id) → IfComes (IsAsked trace) (go trace b)
asked-go trace b = asked-goes_on trace b (program_unit b trace) refl

-- LINES

called-not-acid : (trace : Trace) (u : Id) → is_called trace u ≡ true → (s : ℕ) → IsOfAcid trace u s → ⊥
called-not-acid trace u h s k = go (kind_of u trace) h k
  where
    go : (o : Option UnitKind) → elim o [ None ↦ false | Some kind ↦ has_block kind ] ≡ true → o ≡ Some (Acid s) → ⊥
    go None h k = cc
    go (Some (Acid x)) h k = cc
    go (Some (Call x n args)) h k = cc
    go (Some (First x b n args)) h k = cc
    go (Some (Later b part)) h k = cc

not-false : (b : Bool) → not b ≡ false → b ≡ true
not-false true h = refl
not-false false h = cc

-- a session's line that is not refused
asked-act : (trace : Trace) (s : ℕ) (act : Act) (o : Option Id) → Sessions trace → phase trace ≡ Serving → line_of trace ≡ Session s act → said_at_end trace ≡ None → session_unit s trace ≡ o → state_wrong trace o act ≡ false → IfComes (IsAsked trace) (act_event trace s act o)
asked-act trace s Begin o h p l n e w = λ t only g. (let x : Session s Begin ≡ Session t (Do only) = sym l ∙ g in cc)
asked-act trace s (Do st) None h p l n e w = λ t only g. (let x : Session s (Do st) ≡ Session t (Do only) = sym l ∙ g in cc)
asked-act trace s (Do first) (Some u) h p l n e w = asked-turn trace u (λ st a. ((λ t k. (its st a t k).0), (λ t k. (its st a t k).1)))
  where
    opened : (is_open trace u ≡ true) × (is_of_session s trace u ≡ true)
    opened = opened-in trace (is_of_session s trace) u e

    runs : is_waiting trace u ≡ false
    runs = or_left (is_waiting trace u) _ w

    not-single : (t : ℕ) → IsOfAcid trace u t → IsSingle trace u → ⊥
    not-single t k i = either (λ v. let x = v.0 in let y = runs in cc) (λ v. absurd (subst (IsOwn u) n v)) ((h p u opened.0 t k).single i)

    its : (st : Statement) → asked_by u trace ≡ Some st → (t : ℕ) → IsOfAcid trace u t → (IsOfLine t trace u (standing u trace) st × IsOnly trace u st (line_begun u trace)) × (((st : Statement) × (line_of trace ≡ Session t (Do st))) × (IsSingle trace u → (line_of trace ≡ line_begun u trace) × (done_of u trace ≡ [])))
    its st a t k =
        let same : s ≡ t = session-same (kind_of u trace) s t opened.1 k in
        let lt : line_of trace ≡ Session t (Do first) = subst (λ z. line_of trace ≡ Session z (Do first)) same l in
        let r = running-line trace u t first st (standing u trace) runs lt (asked-acid trace u st t k a) in
        ((r.0, only-none trace u st (line_begun u trace) (λ x only g. not-single t k (x, only, g))), ((first, lt), (λ i. absurd (not-single t k i))))
asked-act trace s (Call name args) o h p l n e w = comes-map-at (IsAsked trace) _ (kept_program name (kept trace)) (λ q g. its q.body (ap is_some g))
  where
    its : (body : Body) → IsKeptProgram (kept trace) name → IsAsked trace (Began (fresh_unit trace) (kind_called trace s name args body))
    its (Acid block) d = d
    its (Base parts) d = d
asked-act trace s Step None h p l n e w = tt
asked-act trace s Step (Some u) h p l n e w = asked-other trace u (called-not-acid trace u (not-false (is_called trace u) (or_right (is_waiting trace u) _ w)))
asked-act trace s Commit None h p l n e w = tt
asked-act trace s Commit (Some u) h p l n e w = by (kind_of u trace) refl
  where
    opened : (is_open trace u ≡ true) × (is_of_session s trace u ≡ true)
    opened = opened-in trace (is_of_session s trace) u e

    right : (is_waiting trace u ≡ false) × (is_called trace u ≡ false)
    right = (or_left (is_waiting trace u) _ w, or_right (is_waiting trace u) _ w)

    not-single : (t : ℕ) → IsOfAcid trace u t → IsSingle trace u → ⊥
    not-single t k i = either (λ v. let x = v.0 in let y = right.0 in cc) (λ v. absurd (subst (IsOwn u) n v)) ((h p u opened.0 t k).single i)

    called : (kind : UnitKind) → kind_of u trace ≡ Some kind → has_block kind ≡ true → ⊥
    called kind k b = let x : false ≡ true = sym right.1 ∙ (ap (λ o. elim o [ None ↦ false | Some kind ↦ has_block kind ]) k ∙ b) in cc

    by : (o : Option UnitKind) → kind_of u trace ≡ o → AllDone trace u o
    by None k = tt
    by (Some (Acid t)) k = done-none (done_of u trace) (line_begun u trace) (λ x only g. not-single t k (x, only, g))
    by (Some (Call t name args)) k = absurd (called (Call t name args) k refl)
    by (Some (First t b name args)) k = absurd (called (First t b name args) k refl)
    by (Some (Later b part)) k = absurd (called (Later b part) k refl)
asked-act trace s Rollback o h p l n e w = comes-map (IsAsked trace) _ o (λ u. tt)

state-right : (trace : Trace) (line : Line) → refused_line trace line ≡ None → is_state_wrong trace line ≡ false
state-right trace line h =
    none-then_some (is_state_wrong trace line) refused.State
    (neither (then_some (is_state_wrong trace line) refused.State) _ (neither (judged trace line) _ h).1).0

pub sessions-asks : (trace : Trace) (asked : Asked) → Sessions trace → ((u : Id) (s : ℕ) → is_open trace u ≡ true → IsOfAcid trace u s → IsSingle trace u → IsOwn u (said_at_end trace) → ⊥) → Sessions (trace asks asked)
sessions-asks trace asked h q p u o s k = record {
  waited = (h p u o s k).waited;
  single = λ i. inl (either (λ v. v) (λ v. absurd (q u s o k i v)) ((h p u o s k).single i));
}

pub sessions-turns : (trace : Trace) (b : Id) → Sessions trace → ((u : Id) (s : ℕ) → is_open trace u ≡ true → IsOfAcid trace u s → IsSingle trace u → IsOwn u (said_at_end trace) → ⊥) → Sessions (trace turns b)
sessions-turns trace b h q p u o s k = record {
  waited = (h p u o s k).waited;
  single = λ i. inl (either (λ v. v) (λ v. absurd (q u s o k i v)) ((h p u o s k).single i));
}

asked-line : (trace : Trace) (line : Line) → Sessions (trace asks Tree line) → phase trace ≡ Serving → refused_line trace line ≡ None → IfComes (IsAsked (trace asks Tree line)) (line_event (trace asks Tree line) line)
asked-line trace (Session s act) h p n = asked-act (trace asks Tree (Session s act)) s act (session_unit s (trace asks Tree (Session s act))) h p refl refl refl (or_left (state_wrong trace (session_unit s trace) act) _ (state-right trace (Session s act) n))
asked-line trace (Go b) h p n = asked-go (trace asks Tree (Go b)) b
asked-line trace line h p n = tt

pub asked-asks : (trace : Trace) (asked : Asked) → Sessions (trace asks asked) → phase trace ≡ Serving → IfComes (IsAsked (trace asks asked)) (next (trace asks asked))
asked-asks trace asked h p = by asked (refusal trace asked) refl h
  where
    by : (asked : Asked) (o : Option Refusal) → refusal trace asked ≡ o → Sessions (trace asks asked) → IfComes (IsAsked (trace asks asked)) (option_or (option_map Refused o) (line_event (trace asks asked) (line_asked asked)))
    by asked (Some r) e h = tt
    by (Tree line) None e h = asked-line trace line h p e
    by (Rejected r) None e h = cc

-- WHAT FOLLOWS WITHIN A SEGMENT

-- what comes next is of the unit, where a statement's line began it
abbrev IsServed : Trace → ℕ → Id → Type 0
IsServed trace s u = IsOfAcid trace u s → IsSingle trace u → (e : Event) × (next trace ≡ Some e) × (is_unit_of u e ≡ true)

pub single-next : (trace : Trace) (u : Id) (s : ℕ) → phase trace ≡ Serving → IsOfAcid trace u s → IsSingle trace u → IsOwn u (said_at_end trace) → (e : Event) × (next trace ≡ Some e) × (is_unit_of u e ≡ true)
single-next (from x) u s p k i own = absurd own
single-next (trace asks asked) u s p k i own = absurd own
single-next (trace turns b) u s p k i own = absurd own
single-next (trace says Began v kind) u s p k i own = subst (IsServed (trace says Began v kind) s) own at-own k i
  where
    asks-own : (st : Statement) (os : List Owner) → is_unit_of v (asks_for (trace says Began v kind) v st os) ≡ true
    asks-own st [] = is_same_id-refl v
    asks-own st (o ∷ os) = is_same_id-refl v

    at-own : IsServed (trace says Began v kind) s v
    at-own k i =
        let t = i.0 in
        let only = i.1 in
        let line : line_of trace ≡ Session t (Do only) = rw (is_same_id-refl v) at i.2 in
        let asked : asked_by v (trace says Began v kind) ≡ Some only = subst (λ o. statement_in v (trace says Began v kind) (option_and_then (block_of_kind (kept trace)) o) ≡ Some only) (sym k) (rw (is_same_id-refl v) (ap statement_of_line line)) in
        let e = asks_for (trace says Began v kind) v only (clashing (trace says Began v kind) v only) in
        let turned : turn (trace says Began v kind) v ≡ Some e = ap (option_map (λ st. asks_for (trace says Began v kind) v st (clashing (trace says Began v kind) v st))) asked in
        let began : after_began (trace says Began v kind) v (line_of trace) kind ≡ Some e = subst (λ z. after_began (trace says Began v kind) v z kind ≡ Some e) (sym line) turned in
        let served : serving_event (trace says Began v kind) (Began v kind) ≡ Some e = ap (λ o. option_or o (settle (trace says Began v kind))) began in
        (e, subst (λ q. said_event q (trace says Began v kind) (Began v kind) ≡ Some e) (sym p) served, asks-own only (clashing (trace says Began v kind) v only))
single-next (trace says Did v st a) u s p k i own = subst (IsServed (trace says Did v st a) s) own at-own k i
  where
    fails-own : (c : Cause) (o : Option UnitKind) → is_unit_of v (fails (trace says Did v st a) v c o) ≡ true
    fails-own c (Some (Later b part)) = is_same_id-refl v
    fails-own c o = is_same_id-refl v

    ended : (t : ℕ) (only : Statement) → IsOfAcid trace v s → line_begun v trace ≡ Session t (Do only) → (answer : Answer) → (e : Event) × (after_did (trace says Did v st a) v answer ≡ Some e) × (is_unit_of v e ≡ true)
    ended t only k l (Failed c) = (fails (trace says Did v st a) v c (kind_of v trace), refl, fails-own c (kind_of v trace))
    ended t only k l answer = (
      commits (trace says Did v st a) v,
      ap (λ b. then_some b (commits (trace says Did v st a) v))
          (subst (λ o. is_at_end (trace says Did v st a) v (option_and_then (block_of_kind (kept trace)) o) ≡ true) (sym k) (ap is_statement_line l)),
      is_same_id-refl v,
    )

    at-own : IsServed (trace says Did v st a) s v
    at-own k i =
        let r = ended i.0 i.1 k i.2 a in
        (r.0, subst (λ q. said_event q (trace says Did v st a) (Did v st a) ≡ Some r.0) (sym p) (ap (λ o. option_or o (settle (trace says Did v st a))) r.1), r.2)
single-next (trace says e) u s p k i own = absurd own

waiting-open : (trace : Trace) (u : Id) → is_waiting trace u ≡ true → is_open trace u ≡ true
waiting-open trace u h = go (standing u trace) h
  where
    go : (x : Standing) → is_waiting_standing x ≡ true → is_open_standing x ≡ true
    go Waiting h = refl
    go Never h = cc
    go Running h = cc
    go (Over e) h = cc

-- a unit of the wait list waits
abbrev pub AllWait : Trace → Type 0
AllWait trace = (u : Id) → In u (wait_list trace) → is_waiting trace u ≡ true

pub all-wait : (trace : Trace) (e : Event) → Sound trace → Fits trace e → AllWait trace → AllWait (trace says e)
all-wait trace (Waits v owners) s f h u i =
    either (λ g. go (is_same_id u v) (h u (in-without u (v ∷ []) (wait_list trace) g).0))
    (either (λ e. rw (subst (λ x. is_same_id x v ≡ true) e (is_same_id-refl v)) refl) (λ f. absurd f)) (in-cases u (without (v ∷ []) (wait_list trace)) (v ∷ []) i)
  where
    go : (b : Bool) → is_waiting trace u ≡ true → is_waiting_standing (cond b Waiting (standing u trace)) ≡ true
    go true g = refl
    go false g = g
all-wait trace (Did v st answer) s f h u i = let r = in-without u (v ∷ []) (wait_list trace) i in rw (or_left (is_same_id u v) false r.1) (h u r.0)
all-wait trace (Ended v end) s f h u i = let r = in-without u (v ∷ []) (wait_list trace) i in rw (or_left (is_same_id u v) false r.1) (h u r.0)
all-wait trace (Began v kind) s f h u i =
    let n : is_same_id u v ≡ false = subst (λ x. is_same_id u x ≡ false) (sym f.0) (not-fresh trace u s f.1 (open-named trace u (waiting-open trace u (h u i)))) in
    rw n (h u i)
all-wait trace e s f h u i = h u i

-- settling serves a unit that waits
own-runs : (trace : Trace) (u : Id) → is_waiting trace u ≡ true → IsOwn u (said_at_end trace) → ⊥
own-runs (trace says Began v kind) u w own = let g : is_waiting (trace says Began v kind) u ≡ false = subst (λ x. is_waiting (trace says Began v kind) x ≡ false) own (rw (is_same_id-refl v) refl) in cc
own-runs (trace says Did v st a) u w own = let g : is_waiting (trace says Did v st a) u ≡ false = subst (λ x. is_waiting (trace says Did v st a) x ≡ false) own (rw (is_same_id-refl v) refl) in cc
own-runs trace u w own = absurd own

asked-served : (trace : Trace) (u : Id) → Sessions trace → phase trace ≡ Serving → is_waiting trace u ≡ true → IfComes (IsAsked trace) (does_next trace u)
asked-served trace u h p w = comes-map-at (IsAsked trace) _ (asked_by u trace) (λ st a. (a, λ s k. its st a s k))
  where
    its : (st : Statement) → asked_by u trace ≡ Some st → (s : ℕ) → IsOfAcid trace u s → IsOfLine s trace u (standing u trace) st × IsOnly trace u st (line_begun u trace)
    its st a s k =
        let unit = h p u (waiting-open trace u w) s k in
        let of = unit.waited w in
        let asked = asked-acid trace u st s k a in
        (waiting-line trace u s of.0 st (standing u trace) w of.1 asked, only (line_begun u trace) refl)
      where
        waits : IsSingle trace u → (line_waited u trace ≡ line_begun u trace) × (done_of u trace ≡ [])
        waits i = either (λ v. (v.1, v.2)) (λ v. absurd (own-runs trace u w v)) ((h p u (waiting-open trace u w) s k).single i)

        asked-waiting : (x : Standing) → is_waiting_standing x ≡ true → statement_of_line (asking_line u trace x) ≡ Some st → statement_of_line (line_waited u trace) ≡ Some st
        asked-waiting Waiting w e = e
        asked-waiting x w e = cc

        only : (line : Line) → line_begun u trace ≡ line → IsOnly trace u st line
        only (Session t (Do first)) e =
            let r = waits (t, first, e) in
            (line-does (line_waited u trace) t first st (r.0 ∙ e) (asked-waiting (standing u trace) w (asked-acid trace u st s k a)), r.1)
        only line e = tt

asked-settle : (trace : Trace) → Sessions trace → AllWait trace → phase trace ≡ Serving → IfComes (IsAsked trace) (settle trace)
asked-settle trace h all p = by (victim trace) (next_unblocked trace) refl
  where
    by : (v s : Option Id) → next_unblocked trace ≡ s → IfComes (IsAsked trace) (settle_by trace v s)
    by (Some u) s e = tt
    by None None e = tt
    by None (Some u) e = asked-served trace u h p (all u (find-in (λ u. is_empty (clashing_now trace u)) u (wait_list trace) e).0)

-- a unit's first turn

do-line : (line : Line) (st : Statement) → statement_of_line line ≡ Some st → (t : ℕ) × (line ≡ Session t (Do st))
do-line (Session t (Do first)) st e = let g : first ≡ st = cc in (t, ap (λ x. Session t (Do x)) g)
do-line line st e = cc

asked-first : (trace : Trace) (u : Id) (kind : UnitKind) → IsAsked trace (Began u kind) → IfComes (IsAsked (trace says Began u kind)) (turn (trace says Began u kind) u)
asked-first trace u kind g = asked-turn (trace says Began u kind) u (λ st a. ((λ s k. (its st a s k).0), (λ s k. (its st a s k).1)))
  where
    its : (st : Statement) → asked_by u (trace says Began u kind) ≡ Some st → (s : ℕ) → IsOfAcid (trace says Began u kind) u s →
        (IsOfLine s (trace says Began u kind) u (standing u (trace says Began u kind)) st × IsOnly (trace says Began u kind) u st (line_begun u (trace says Began u kind))) ×
        (((first : Statement) × (line_of trace ≡ Session s (Do first))) × (IsSingle (trace says Began u kind) u → (line_of trace ≡ line_begun u (trace says Began u kind)) × (done_of u (trace says Began u kind) ≡ [])))
    its st a s k =
        let here = trace says Began u kind in
        let asked = asked-acid (trace says Began u kind) u st s k a in
        let own : Some kind ≡ Some (Acid s) = rw (is_same_id-refl u) at k in
        let acid : kind ≡ Acid s = cc in
        let runs : standing u (trace says Began u kind) ≡ Running = rw (is_same_id-refl u) refl in
        let begun : line_begun u (trace says Began u kind) ≡ line_of trace = rw (is_same_id-refl u) refl in
        let none : done_of u (trace says Began u kind) ≡ [] = rw (is_same_id-refl u) refl in
        let by = do-line (line_of trace) st (subst (λ x. statement_of_line (asking_line u (trace says Began u kind) x) ≡ Some st) runs asked) in
        let same : by.0 ≡ s = subst (λ x. IsAsked trace (Began u x)) acid g by.0 st by.1 in
        let line : line_of trace ≡ Session s (Do st) = subst (λ t. line_of trace ≡ Session t (Do st)) same by.1 in (
          (
            subst (λ x. IsOfLine s (trace says Began u kind) u x st) (sym runs) line,
            only-some (trace says Began u kind) u st (line_begun u (trace says Began u kind)) none (λ t only e. (let f : Session s (Do st) ≡ Session t (Do only) = sym line ∙ sym begun ∙ e in cc)),
          ),
          ((st, line), (λ i. (sym begun, none))),
        )

asked-began : (trace : Trace) (u : Id) (line : Line) (kind : UnitKind) → IsAsked trace (Began u kind) → IfComes (IsAsked (trace says Began u kind)) (after_began (trace says Began u kind) u line kind)
asked-began trace u (Session t Begin) (Acid s) g = tt
asked-began trace u line kind g = asked-first trace u kind g

all-done : (trace : Trace) (u : Id) (st : Statement) (a : Answer) → IsFromLine trace u st → (o : Option UnitKind) → kind_of u trace ≡ o →
    is_at_end (trace says Did u st a) u (option_and_then (block_of_kind (kept trace)) o) ≡ true → AllDone (trace says Did u st a) u o
all-done trace u st a g o k e = by o k e
  where
    line : (line : Line) → IsOnly trace u st line → IsOnlyDone (done_of u (trace says Did u st a)) line
    line (Session t (Do only)) h = rw (is_same_id-refl u) (rw h.1 (ap (λ x. x ∷ []) h.0))
    line l h = tt

    block : (o : Option (List Statement)) → is_at_end (trace says Did u st a) u o ≡ true → (b : List Statement) → o ≡ Some b → length (done_of u (trace says Did u st a)) ≡ length b
    block o e b q = eqb-true (length (done_of u (trace says Did u st a))) (length b) (subst (λ o. is_at_end (trace says Did u st a) u o ≡ true) q e)

    by : (o : Option UnitKind) → kind_of u trace ≡ o → is_at_end (trace says Did u st a) u (option_and_then (block_of_kind (kept trace)) o) ≡ true → AllDone (trace says Did u st a) u o
    by None k e = tt
    by (Some (Acid s)) k e = line (line_begun u trace) (g s k).1
    by (Some (Call s n args)) k e = block (block_of_kind (kept trace) (Call s n args)) e
    by (Some (First s b n args)) k e = block (block_of_kind (kept trace) (First s b n args)) e
    by (Some (Later b part)) k e = block (block_of_kind (kept trace) (Later b part)) e

asked-did : (trace : Trace) (u : Id) (st : Statement) (a answer : Answer) → IsAsked trace (Did u st a) → IfComes (IsAsked (trace says Did u st a)) (after_did (trace says Did u st a) u answer)
asked-did trace u st a (Failed c) g = go (kind_of u trace)
  where
    go : (o : Option UnitKind) → IsAsked (trace says Did u st a) (fails (trace says Did u st a) u c o)
    go (Some (Later b part)) = tt
    go o = tt
asked-did trace u st a answer g = comes-then_some-at (IsAsked (trace says Did u st a)) (is_at_end (trace says Did u st a) u (block_of u (trace says Did u st a))) (commits (trace says Did u st a) u) (λ e. all-done trace u st a g.1 (kind_of u trace) refl e)

asked-finish : (trace : Trace) (b : Id) → IfComes (IsAsked trace) (finishes trace b)
asked-finish trace b = comes-then_some (IsAsked trace) (is_none (cont_of b (kept trace))) (Finished b) tt

asked-end : (trace : Trace) (end : End) (o : Option UnitKind) → IfComes (IsAsked trace) (after_end trace end o)
asked-end trace (Committed n) (Some (First s b name args)) = tt
asked-end trace (Committed n) (Some (Later b part)) = asked-finish trace b
asked-end trace (Branched n c) (Some (Later b part)) = asked-finish trace b
asked-end trace end o = tt

asked-release : (trace : Trace) (bs : List Id) → IfComes (IsAsked trace) (releases bs)
asked-release trace [] = tt
asked-release trace (b ∷ bs) = tt

asked-follow : (trace : Trace) (e : Event) → IsAsked trace e → IfComes (IsAsked (trace says e)) (follow (trace says e) e)
asked-follow trace (Began u kind) g = asked-began trace u (line_of trace) kind g
asked-follow trace (Did u st a) g = asked-did trace u st a a g
asked-follow trace (Ended u end) g = asked-end (trace says Ended u end) end (kind_of u trace)
asked-follow trace (Accepted b) g = asked-finish (trace says Accepted b) b
asked-follow trace (Finished b) g = asked-release (trace says Finished b) (to_release (trace says Finished b))
asked-follow trace e g = tt

asked-serving : (trace : Trace) (e : Event) → IsAsked trace e → Sessions (trace says e) → AllWait (trace says e) → phase (trace says e) ≡ Serving → IfComes (IsAsked (trace says e)) (serving_event (trace says e) e)
asked-serving trace Ready g h all p = tt
asked-serving trace (Early bs) g h all p = tt
asked-serving trace e g h all p = comes-option_or (IsAsked (trace says e)) (follow (trace says e) e) (settle (trace says e)) (asked-follow trace e g) (asked-settle (trace says e) h all p)

-- OPENINGS

pub acid-is : (o : Option UnitKind) (s : ℕ) → is_none (option_and_then program_of_kind o) ≡ false → o ≡ Some (Acid s) → ⊥
acid-is o s h k = let g : true ≡ false = subst (λ o. is_none (option_and_then program_of_kind o) ≡ false) k h in cc

asked-drain : (trace : Trace) (u : Id) → is_acid trace u ≡ false → IfComes (IsAsked trace) (does_next trace u)
asked-drain trace u h = comes-map-at (IsAsked trace) _ (asked_by u trace) (λ st a. (a, λ s k. absurd (acid-is (kind_of u trace) s h k)))

asked-cuts : (trace : Trace) (us : List Id) → IfComes (IsAsked trace) (cuts_or_drains trace us)
asked-cuts trace (u ∷ us) = tt
asked-cuts trace [] = comes-then_some (IsAsked trace) (is_empty (open_units trace)) (drains trace (kept trace).conts) (go (kept trace).conts)
  where
    go : (cs : List Cont) → IsAsked trace (drains trace cs)
    go [] = tt
    go (c ∷ cs) = by (start_of trace).early
      where
        by : (t : Bool) → IsAsked trace (unfinished t trace c cs)
        by true = tt
        by false = tt

asked-opens : (trace : Trace) (e : Event) → IsAsked trace e → Drains (trace says e) → phase (trace says e) ≡ Opening → IfComes (IsAsked (trace says e)) (follow_opening (trace says e) e)
asked-opens trace (Began u kind) g d p = asked-drain (trace says Began u kind) u (d p u refl)
asked-opens trace (Did u st a) g d p =
    comes-option_or (IsAsked (trace says Did u st a)) (after_did (trace says Did u st a) u a) (does_next (trace says Did u st a) u)
    (asked-did trace u st a a g) (asked-drain (trace says Did u st a) u (d p u refl))
asked-opens trace (Ended u end) g d p = asked-end (trace says Ended u end) end (kind_of u trace)
asked-opens trace (Accepted b) g d p = asked-finish (trace says Accepted b) b
asked-opens trace e g d p = tt

pub asked-said : (trace : Trace) (e : Event) → IsAsked trace e → Sessions (trace says e) → AllWait (trace says e) → Drains (trace says e) → (q : Phase) → phase (trace says e) ≡ q → IfComes (IsAsked (trace says e)) (said_event q (trace says e) e)
asked-said trace e g h all d Serving p = asked-serving trace e g h all p
asked-said trace e g h all d Opening p =
    comes-option_or (IsAsked (trace says e)) (follow_opening (trace says e) e) (cuts_or_drains (trace says e) (to_cut (trace says e)))
    (asked-opens trace e g d p) (asked-cuts (trace says e) (to_cut (trace says e)))
asked-said trace e g h all d Fallen p = tt

-- a decision in flight goes through a stop
all-done-opened : (trace : Trace) (boot n : ℕ) (u : Id) (o : Option UnitKind) → AllDone trace u o → AllDone (trace says Opened boot n) u o
all-done-opened trace boot n u None h = h
all-done-opened trace boot n u (Some (Acid s)) h = h
all-done-opened trace boot n u (Some (Call s name args)) h = h
all-done-opened trace boot n u (Some (First s b name args)) h = h
all-done-opened trace boot n u (Some (Later b part)) h = h

all-done-down : (trace : Trace) (why : Why) (u : Id) (o : Option UnitKind) → AllDone trace u o → AllDone (trace says Down why) u o
all-done-down trace why u None h = h
all-done-down trace why u (Some (Acid s)) h = h
all-done-down trace why u (Some (Call s name args)) h = h
all-done-down trace why u (Some (First s b name args)) h = h
all-done-down trace why u (Some (Later b part)) h = h

-- a decision that comes next, or is in flight, is asked for
abbrev pub Flying : Trace → Option Event → Type 0
Flying trace o = IfComes (λ e. IsAsked trace e × (is_decision e ≡ true)) o

pub flying-next : (trace : Trace) (o : Option Event) → IfComes (IsAsked trace) o → Flying trace (decision_in o)
flying-next trace None h = tt
flying-next trace (Some e) h = by (is_decision e) refl
  where
    by : (b : Bool) → is_decision e ≡ b → Flying trace (then_some b e)
    by true q = (h, q)
    by false q = tt

pub flying-down : (trace : Trace) (why : Why) (o : Option Event) → Flying trace o → Flying (trace says Down why) o
flying-down trace why None h = tt
flying-down trace why (Some (Ended u (Committed n))) h = (all-done-down trace why u (kind_of u trace) h.0, refl)
flying-down trace why (Some (Ended u (Branched n c))) h = (tt, refl)
flying-down trace why (Some (Defined n text)) h = (tt, refl)
flying-down trace why (Some e) h = absurd (let x = h.1 in cc)

pub asked-opened : (trace : Trace) (boot n : ℕ) (o : Option Event) → Flying trace o → IfComes (IsAsked (trace says Opened boot n)) (after_opened (trace says Opened boot n) n o)
asked-opened trace boot n None h = asked-cuts (trace says Opened boot n) (to_cut (trace says Opened boot n))
asked-opened trace boot n (Some d) h =
    comes-option_or (IsAsked (trace says Opened boot n)) (stands_now (trace says Opened boot n) n (Some d)) (cuts_or_drains (trace says Opened boot n) (to_cut (trace says Opened boot n)))
    (comes-then_some (IsAsked (trace says Opened boot n)) (n == next_number trace) d (its d h.0 h.1)) (asked-cuts (trace says Opened boot n) (to_cut (trace says Opened boot n)))
  where
    its : (d : Event) → IsAsked trace d → is_decision d ≡ true → IsAsked (trace says Opened boot n) d
    its (Ended u (Committed m)) a g = all-done-opened trace boot n u (kind_of u trace) a
    its (Ended u (Branched m c)) a g = tt
    its (Defined m text) a g = tt
    its e a g = cc

-- SESSIONS, AN EVENT ON

other-begun : (trace : Trace) (e : Event) (u : Id) → is_unit_of u e ≡ false → line_begun u (trace says e) ≡ line_begun u trace
other-begun trace (Began v kind) u n = rw n refl
other-begun trace e u n = refl

other-waited : (trace : Trace) (e : Event) (u : Id) → is_unit_of u e ≡ false → line_waited u (trace says e) ≡ line_waited u trace
other-waited trace (Waits v owners) u n = rw n refl
other-waited trace e u n = refl

other-done : (trace : Trace) (e : Event) (u : Id) → is_unit_of u e ≡ false → done_of u (trace says e) ≡ done_of u trace
other-done trace (Began v kind) u n = rw n refl
other-done trace (Did v st a) u n = rw n refl
other-done trace e u n = refl

other-kind : (trace : Trace) (e : Event) (u : Id) → is_unit_of u e ≡ false → kind_of u (trace says e) ≡ kind_of u trace
other-kind trace (Began v kind) u n = rw n refl
other-kind trace e u n = refl

session-other : (trace : Trace) (e : Event) (u : Id) (s : ℕ) → Sessions trace → phase trace ≡ Serving → next trace ≡ Some e → is_unit_of u e ≡ false → is_open (trace says e) u ≡ true → IsOfAcid (trace says e) u s → SessionUnit (trace says e) u s
session-other trace e u s h p n other o k = record {
  waited = λ w. let q = old.waited (waiting w) in (q.0, other-waited trace e u other ∙ q.1);
  single = λ i. inl (either (λ v. (ap is_waiting_standing same ∙ v.0, other-waited trace e u other ∙ v.1 ∙ sym (other-begun trace e u other), other-done trace e u other ∙ v.2)) (λ own. absurd (moved i own)) (old.single (single-before i)));
}
  where
    same : standing u (trace says e) ≡ standing u trace
    same = standing-other u e (standing u trace) other

    kind : IsOfAcid trace u s
    kind = sym (other-kind trace e u other) ∙ k

    old : SessionUnit trace u s
    old = h p u (open-other trace e u other o) s kind

    waiting : is_waiting (trace says e) u ≡ true → is_waiting trace u ≡ true
    waiting w = ap is_waiting_standing (sym same) ∙ w

    single-before : IsSingle (trace says e) u → IsSingle trace u
    single-before i = (i.0, i.1, sym (other-begun trace e u other) ∙ i.2)

    moved : IsSingle (trace says e) u → IsOwn u (said_at_end trace) → ⊥
    moved i own =
        let r = single-next trace u s p kind (single-before i) own in
        let x : Some r.0 ≡ Some e = sym r.1 ∙ n in
        let y : r.0 ≡ e = cc in
        let z : true ≡ false = sym (subst (λ d. is_unit_of u d ≡ true) y r.2) ∙ other in
        cc

-- a unit that runs by this event
session-own : (trace : Trace) (e : Event) (u : Id) (s : ℕ) → is_waiting (trace says e) u ≡ false → IsOwn u (Some e) → SessionUnit (trace says e) u s
session-own trace e u s r own = record { waited = λ w. absurd (let x : false ≡ true = sym r ∙ w in cc); single = λ i. inr own }

session-waits : (trace : Trace) (v : Id) (owners : List Owner) (u : Id) (s : ℕ) → WaitsByLine trace v → u ≡ v → is_same_id u v ≡ true → IsOfAcid trace u s → SessionUnit (trace says Waits v owners) u s
session-waits trace v owners u s g same t k = record {
  waited = λ w. ((by.0.0), waited ∙ by.0.1);
  single = λ i. inl (rw t refl, waited ∙ (by.1 i).0, (by.1 i).1);
}
  where
    by : ((st : Statement) × (line_of trace ≡ Session s (Do st))) × (IsSingle trace u → (line_of trace ≡ line_begun u trace) × (done_of u trace ≡ []))
    by = subst (WaitsByLine trace) (sym same) g s k

    waited : line_waited u (trace says Waits v owners) ≡ line_of trace
    waited = rw t refl

pub sessions-says : (trace : Trace) (e : Event) → Sessions trace → Sound trace → Fits trace e → IsAsked trace e → May trace e → Sessions (trace says e)
sessions-says trace (Down why) h s f g m p u o t k = cc
sessions-says trace (Opened boot n) h s f g m p u o t k = cc
sessions-says trace Ready h s f g m p u o t k = absurd (none-open trace s f u o)
sessions-says trace (Early bs) h s f g m p u o t k = absurd (none-open-early trace bs s f u o)
sessions-says trace (Began v kind) h s f g m p u o t k = by (is_same_id u v) refl
  where
    by : (b : Bool) → is_same_id u v ≡ b → SessionUnit (trace says Began v kind) u t
    by true e = session-own trace (Began v kind) u t (rw e refl) (sym (is_same_id-true u v e))
    by false e = session-other trace (Began v kind) u t h p m e o k
sessions-says trace (Did v st a) h s f g m p u o t k = by (is_same_id u v) refl
  where
    by : (b : Bool) → is_same_id u v ≡ b → SessionUnit (trace says Did v st a) u t
    by true e = session-own trace (Did v st a) u t (rw e refl) (sym (is_same_id-true u v e))
    by false e = session-other trace (Did v st a) u t h p m e o k
sessions-says trace (Waits v owners) h s f g m p u o t k = by (is_same_id u v) refl
  where
    by : (b : Bool) → is_same_id u v ≡ b → SessionUnit (trace says Waits v owners) u t
    by true e = session-waits trace v owners u t g (is_same_id-true u v e) e k
    by false e = session-other trace (Waits v owners) u t h p m e o k
sessions-says trace (Ended v end) h s f g m p u o t k = by (is_same_id u v) refl
  where
    by : (b : Bool) → is_same_id u v ≡ b → SessionUnit (trace says Ended v end) u t
    by true e = absurd (let x : false ≡ true = rw e at o in cc)
    by false e = session-other trace (Ended v end) u t h p m e o k
sessions-says trace e h s f g m p u o t k = session-other trace e u t h p m refl o k
