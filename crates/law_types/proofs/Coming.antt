-- What comes next does what is judged: calls fit, statements of lines are not refused, and what is defined is neither.
use Rattle.salt_ast.specs.Judgement.{kept_limit, statement_fault, table_fault}
use Rattle.salt_ast.specs.ProgramJudgement.{call_fault, call_kept_limit, faulty, fits, is_program, kept as of_kept, line_fault, of_program_fault, program_fault, program_kept_limit, session_scope}
use Rattle.salt_ast.specs.declared.lines.Act.TheVariants.{Begin, Call, Commit, Do, Rollback, Step}
use Rattle.salt_ast.specs.declared.lines.Act.{Act}
use Rattle.salt_ast.specs.declared.lines.Line.TheVariants.{Go, Program, Session, Table}
use Rattle.salt_ast.specs.declared.lines.Line.{Line}
use Rattle.salt_ast.specs.declared.programs.Body.TheVariants.{Acid, Base}
use Rattle.salt_ast.specs.declared.programs.Body.{Body}
use Rattle.salt_ast.specs.declared.trees.Statement.{Statement}
use Rattle.law_story.proofs.Asking.{AllWait, IsOfAcid, acid-is}
use Rattle.law_story.proofs.Fresh.{IfComes, comes-map, comes-option_or, comes-then_some}
use Rattle.law_story.proofs.Ids.{is_same_id-refl}
use Rattle.law_story.proofs.NextFits.{Drains, comes-map-at, find-in, opened-in}
use Rattle.salt_model.specs.After.{kept}
use Rattle.salt_model.specs.Kept.{block_of_kind, cont_of, kept_program, programs_of, schema_of}
use Rattle.salt_model.specs.Locks.{clashing}
use Rattle.salt_model.specs.Next.{decision_in, is_decision, next, said_event, serving_event}
use Rattle.salt_model.specs.Openings.{after_opened, cuts_or_drains, drains, follow_opening, stands_now, to_cut, unfinished}
use Rattle.salt_model.specs.Phases.{Fallen, Opening, Phase, Serving, phase}
use Rattle.salt_model.specs.Reads.{to_release}
use Rattle.salt_model.specs.Refusals.{defines, is_busy, is_state_wrong, judged, known_at, refusal, refusal_by, refused_line}
use Rattle.salt_model.specs.Trace.{Asked, Rejected, Trace, Tree, line_asked, line_of, start_of, ◌asks◌, ◌says◌}
use Rattle.salt_model.specs.Turns.{act_event, after_began, after_did, after_end, asks_for, commits, does_next, fails, finishes, follow, fresh_unit, go, goes_on, is_at_end, kind_called, line_event, next_number, releases, settle, settle_by, turn}
use Rattle.salt_model.specs.Units.{Standing, Waiting, is_of_program, is_waiting, is_waiting_standing, kind_of, line_waited, open_units, program_of_kind, program_unit, session_unit, standing, wait_list}
use Rattle.salt_model.specs.Waiting.{asked_by, asking_line, block_of, clashing_now, is_acid, next_unblocked, statement_in, statement_of_line, victim}
use Rattle.salt_model.specs.Words.{is_empty}
use Rattle.salt_model.specs.declared.events.Answer.TheVariants.{Failed}
use Rattle.salt_model.specs.declared.events.Answer.{Answer}
use Rattle.salt_model.specs.declared.events.End.TheVariants.{Branched, Committed}
use Rattle.salt_model.specs.declared.events.End.{End}
use Rattle.salt_model.specs.declared.events.Event.TheVariants.{Accepted, Began, Defined, Did, Down, Early, Ended, Finished, Opened, Ready, Refused, Waits}
use Rattle.salt_model.specs.declared.events.Event.{Event}
use Rattle.salt_model.specs.declared.events.Owner.{Owner}
use Rattle.salt_model.specs.declared.events.Refusal.TheVariants as refused
use Rattle.salt_model.specs.declared.events.Refusal.{Refusal}
use Rattle.salt_model.specs.declared.events.UnitKind.TheVariants as kind
use Rattle.salt_model.specs.declared.events.UnitKind.{UnitKind}
use Rattle.salt_model.specs.declared.events.Why.{Why}
use Rattle.law_types.specs.Played.{HasKey}
use Rattle.law_types.specs.Typed.{has_key}
use Rattle.law_types.proofs.Judged.{one-is-none, unmapped, fault-free}
use Rattle.salt_ast.proofs.LowExprs.{other_is_none}
use Rattle.salt_values.specs.Id.{is_same_id}
use Rattle.salt_values.specs.declared.cont.Cont.{Cont}
use Rattle.salt_values.specs.declared.id.Id.{Id}
use Rattle.salt_values.specs.declared.value.Value.{Value}
use Rattle.std.proofs.Common.{ap, subst}
use Rattle.std.specs.Bool.{then_some}
use Rattle.std.specs.Option.{option_or}
use Rattle.std.specs.Prelude.{Bool, IfSome, List, None, Option, Some, [], false, is_none, not, option_and_then, option_map, refl, true, ℕ, ⊤, ◌&&◌, ◌==◌, ◌||◌, ◌∷◌, ◌≡◌}

-- a session's statement is not refused here
abbrev pub IsJudgedNow : Trace → Statement → Type 0
IsJudgedNow trace st = statement_fault (schema_of (kept trace)) session_scope st ≡ None

abbrev pub IsLineJudged : Trace → Line → Type 0
IsLineJudged trace line = IfSome (statement_of_line line) (IsJudgedNow trace)

abbrev pub IsDefinable : Trace → Line → Type 0
IsDefinable trace (Table d) = (table_fault (schema_of (kept trace)) d ≡ None) × (has_key d.columns ≡ true)
IsDefinable trace (Program p) = program_fault (schema_of (kept trace)) (programs_of (kept trace)) p ≡ None
IsDefinable trace line = ⊤

-- what is known of an event that comes next
abbrev pub IsReady : Trace → Event → Type 0
IsReady trace (Began u (kind.Acid s)) = IsLineJudged trace (line_of trace)
IsReady trace (Began u (kind.Call s n args)) = fits (programs_of (kept trace)) n args ≡ true
IsReady trace (Began u (kind.First s b n args)) = fits (programs_of (kept trace)) n args ≡ true
IsReady trace (Did u st a) = (s : ℕ) → IsOfAcid trace u s → IsJudgedNow trace st
IsReady trace (Waits u owners) = (s : ℕ) → IsOfAcid trace u s → IsLineJudged trace (line_of trace)
IsReady trace (Defined n text) = IsDefinable trace (line_of trace) × (open_units trace ≡ [])
IsReady trace e = ⊤

-- what a session's unit waits to do is not refused
abbrev pub WaitJudged : Trace → Type 0
WaitJudged trace = (u : Id) → is_waiting trace u ≡ true → (s : ℕ) → IsOfAcid trace u s → IsLineJudged trace (line_waited u trace)

-- TURNS

judged-of : (trace : Trace) (line : Line) (st : Statement) → IsLineJudged trace line → statement_of_line line ≡ Some st → IsJudgedNow trace st
judged-of trace line st h e = subst (λ o. IfSome o (IsJudgedNow trace)) e h

asked-acid : (trace : Trace) (u : Id) (st : Statement) (s : ℕ) → IsOfAcid trace u s → asked_by u trace ≡ Some st → statement_of_line (asking_line u trace (standing u trace)) ≡ Some st
asked-acid trace u st s k a = subst (λ o. statement_in u trace (option_and_then (block_of_kind (kept trace)) o) ≡ Some st) k a

asked-judged : (trace : Trace) (u : Id) (st : Statement) (s : ℕ) → WaitJudged trace → IsOfAcid trace u s → asked_by u trace ≡ Some st → IsLineJudged trace (line_of trace) → IsJudgedNow trace st
asked-judged trace u st s w k a h = by (standing u trace) refl (asked-acid trace u st s k a)
  where
    by : (x : Standing) → standing u trace ≡ x → statement_of_line (asking_line u trace x) ≡ Some st → IsJudgedNow trace st
    by Waiting e a = judged-of trace (line_waited u trace) st (w u (ap is_waiting_standing e) s k) a
    by x e a = judged-of trace (line_of trace) st h a

ready-turn : (trace : Trace) (u : Id) → WaitJudged trace → ((s : ℕ) → IsOfAcid trace u s → IsLineJudged trace (line_of trace)) → IfComes (IsReady trace) (turn trace u)
ready-turn trace u w h = comes-map-at (IsReady trace) _ (asked_by u trace) (λ st e. its st e (clashing trace u st))
  where
    its : (st : Statement) → asked_by u trace ≡ Some st → (os : List Owner) → IsReady trace (asks_for trace u st os)
    its st e [] = λ s k. asked-judged trace u st s w k e (h s k)
    its st e (o ∷ os) = h

program-not-acid : (o : Option UnitKind) (b : Id) → elim (option_and_then program_of_kind o) [ None ↦ false | Some c ↦ is_same_id b c ] ≡ true → (s : ℕ) → o ≡ Some (kind.Acid s) → ⊥
program-not-acid o b h s k = let g : false ≡ true = subst (λ o. elim (option_and_then program_of_kind o) [ None ↦ false | Some c ↦ is_same_id b c ] ≡ true) k h in cc

ready-goes_on : (trace : Trace) (b : Id) (o : Option Id) → WaitJudged trace → program_unit b trace ≡ o → IfComes (IsReady trace) (goes_on trace b o)
ready-goes_on trace b None w e = comes-map (IsReady trace) _ (cont_of b (kept trace)) (λ c. tt)
ready-goes_on trace b (Some u) w e =
    ready-turn trace u w (λ s k. absurd (program-not-acid (kind_of u trace) b (opened-in trace (is_of_program b trace) u e).1 s k))

pub ready-go : (trace : Trace) (b : Id) → WaitJudged trace → IfComes (IsReady trace) (go trace b)
ready-go trace b w = ready-goes_on trace b (program_unit b trace) w refl

-- LINES

module _ (trace : Trace) (s : ℕ) where
  abbrev here : Act → Trace
  here act = trace asks Tree (Session s act)

  call-fits : (n : List ℕ) (args : List Value) → line_fault (known_at trace) (Session s (Call n args)) ≡ None → fits (programs_of (kept trace)) n args ≡ true
  unfolding line_fault call_fault
  call-fits n args h =
      (fault-free (then_some (not (is_program (programs_of (kept trace)) n)) n) None (fits (programs_of (kept trace)) n args)
      (unmapped faulty (call_fault (programs_of (kept trace)) n args) (other_is_none (option_map of_kept (call_kept_limit (programs_of (kept trace)) (known_at trace).unreleased n)) _ h))).typed

  statement-free : (st : Statement) → line_fault (known_at trace) (Session s (Do st)) ≡ None → IsJudgedNow trace st
  unfolding line_fault
  statement-free st h = unmapped faulty (statement_fault (schema_of (kept trace)) session_scope st) h

  ready-act : (act : Act) (o : Option Id) → line_fault (known_at trace) (Session s act) ≡ None → WaitJudged (here act) → IfComes (IsReady (here act)) (act_event (here act) s act o)
  ready-act Begin o h w = tt
  ready-act (Do st) None h w = statement-free st h
  ready-act (Do st) (Some u) h w = ready-turn (here (Do st)) u w (λ t k. statement-free st h)
  ready-act (Call n args) o h w = comes-map (IsReady (here (Call n args))) _ (kept_program n (kept trace)) (λ p. its p.body)
    where
      its : (body : Body) → IsReady (here (Call n args)) (Began (fresh_unit (here (Call n args))) (kind_called (here (Call n args)) s n args body))
      its (Acid block) = call-fits n args h
      its (Base parts) = call-fits n args h
  ready-act Step None h w = tt
  ready-act Step (Some u) h w = ready-turn (here Step) u w (λ t k. tt)
  ready-act Commit o h w = comes-map (IsReady (here Commit)) _ o (λ u. tt)
  ready-act Rollback o h w = comes-map (IsReady (here Rollback)) _ o (λ u. tt)

line-free : (trace : Trace) (line : Line) → refused_line trace line ≡ None → line_fault (known_at trace) line ≡ None
line-free trace line h = unmapped refusal_by (line_fault (known_at trace) line) (one-is-none (judged trace line) _ h)

not-told : {A : Type 0} (b : Bool) (x : A) → then_some b x ≡ None → b ≡ false
not-told true x h = absurd cc
not-told false x h = refl

none-open : (trace : Trace) (line : Line) → refused_line trace line ≡ None → defines line ≡ true → open_units trace ≡ []
none-open trace line h d = idle (open_units trace) busy
  where
    free : (defines line && is_busy trace) ≡ false
    free = not-told (defines line && is_busy trace) refused.Busy (other_is_none (then_some (is_state_wrong trace line) refused.State) _ (other_is_none (judged trace line) _ h))

    quiet : (a b : Bool) → a ≡ true → (a && b) ≡ false → b ≡ false
    quiet true b e g = g
    quiet false b e g = absurd cc

    first : (a b : Bool) → (a || b) ≡ false → a ≡ false
    first true b g = g
    first false b g = refl

    busy : not (is_empty (open_units trace)) ≡ false
    busy = first _ _ (quiet (defines line) (is_busy trace) d free)

    idle : (us : List Id) → not (is_empty us) ≡ false → us ≡ []
    idle [] g = refl
    idle (u ∷ us) g = absurd cc

ready-line : (trace : Trace) (line : Line) → refused_line trace line ≡ None → HasKey (Tree line) → WaitJudged (trace asks Tree line) → IfComes (IsReady (trace asks Tree line)) (line_event (trace asks Tree line) line)
unfolding line_fault
ready-line trace (Session s act) h key w = ready-act trace s act (session_unit s (trace asks Tree (Session s act))) (line-free trace (Session s act) h) w
ready-line trace (Go b) h key w = ready-go (trace asks Tree (Go b)) b w
ready-line trace (Table d) h key w =
    ((unmapped faulty (table_fault (schema_of (kept trace)) d) (other_is_none (option_map of_kept (kept_limit (schema_of (kept trace)))) _ (line-free trace (Table d) h)), key), none-open trace (Table d) h refl)
ready-line trace (Program p) h key w =
    (unmapped of_program_fault (program_fault (schema_of (kept trace)) (programs_of (kept trace)) p) (other_is_none (option_map of_kept (program_kept_limit (programs_of (kept trace)))) _ (line-free trace (Program p) h)), none-open trace (Program p) h refl)
ready-line trace line h key w = tt

pub ready-asks : (trace : Trace) (asked : Asked) → HasKey asked → WaitJudged (trace asks asked) → IfComes (IsReady (trace asks asked)) (next (trace asks asked))
ready-asks trace asked key w = by asked (refusal trace asked) refl key w
  where
    by : (asked : Asked) (o : Option Refusal) → refusal trace asked ≡ o → HasKey asked → WaitJudged (trace asks asked) →
        IfComes (IsReady (trace asks asked)) (option_or (option_map Refused o) (line_event (trace asks asked) (line_asked asked)))
    by asked (Some r) e key w = tt
    by (Tree line) None e key w = ready-line trace line e key w
    by (Rejected r) None e key w = absurd cc

-- WHAT FOLLOWS WITHIN A SEGMENT

ready-served : (trace : Trace) (u : Id) → WaitJudged trace → is_waiting trace u ≡ true → IfComes (IsReady trace) (does_next trace u)
ready-served trace u w waits = comes-map-at (IsReady trace) _ (asked_by u trace) (λ st a s k. by st s k (standing u trace) waits (asked-acid trace u st s k a))
  where
    by : (st : Statement) (s : ℕ) → IsOfAcid trace u s → (x : Standing) → is_waiting_standing x ≡ true → statement_of_line (asking_line u trace x) ≡ Some st → IsJudgedNow trace st
    by st s k Waiting e a = judged-of trace (line_waited u trace) st (w u waits s k) a
    by st s k x e a = absurd cc

ready-settle : (trace : Trace) → WaitJudged trace → AllWait trace → IfComes (IsReady trace) (settle trace)
ready-settle trace w all = by (victim trace) (next_unblocked trace) refl
  where
    by : (v s : Option Id) → next_unblocked trace ≡ s → IfComes (IsReady trace) (settle_by trace v s)
    by (Some u) s e = tt
    by None None e = tt
    by None (Some u) e = ready-served trace u w (all u (find-in (λ u. is_empty (clashing_now trace u)) u (wait_list trace) e).0)

ready-first : (trace : Trace) (u : Id) (x : UnitKind) → IsReady trace (Began u x) → (s : ℕ) → IsOfAcid (trace says Began u x) u s → IsLineJudged trace (line_of trace)
ready-first trace u x g s k =
    let own : Some x ≡ Some (kind.Acid s) = rw (is_same_id-refl u) at k in
    let acid : x ≡ kind.Acid s = cc in
    subst (λ y. IsReady trace (Began u y)) acid g

ready-began : (trace : Trace) (u : Id) (line : Line) (x : UnitKind) → IsReady trace (Began u x) → WaitJudged (trace says Began u x) → IfComes (IsReady (trace says Began u x)) (after_began (trace says Began u x) u line x)
ready-began trace u (Session t Begin) (kind.Acid s) g w = tt
ready-began trace u line x g w = ready-turn (trace says Began u x) u w (ready-first trace u x g)

ready-did : (trace : Trace) (u : Id) (a : Answer) → IfComes (IsReady trace) (after_did trace u a)
ready-did trace u (Failed c) = by (kind_of u trace)
  where
    by : (o : Option UnitKind) → IsReady trace (fails trace u c o)
    by (Some (kind.Later b part)) = tt
    by o = tt
ready-did trace u a = comes-then_some (IsReady trace) (is_at_end trace u (block_of u trace)) (commits trace u) tt

ready-finish : (trace : Trace) (b : Id) → IfComes (IsReady trace) (finishes trace b)
ready-finish trace b = comes-then_some (IsReady trace) (is_none (cont_of b (kept trace))) (Finished b) tt

ready-end : (trace : Trace) (end : End) (o : Option UnitKind) → IfComes (IsReady trace) (after_end trace end o)
ready-end trace (Committed n) (Some (kind.First s b name args)) = tt
ready-end trace (Committed n) (Some (kind.Later b part)) = ready-finish trace b
ready-end trace (Branched n c) (Some (kind.Later b part)) = ready-finish trace b
ready-end trace end o = tt

ready-release : (trace : Trace) (bs : List Id) → IfComes (IsReady trace) (releases bs)
ready-release trace [] = tt
ready-release trace (b ∷ bs) = tt

ready-follow : (trace : Trace) (e : Event) → IsReady trace e → WaitJudged (trace says e) → IfComes (IsReady (trace says e)) (follow (trace says e) e)
ready-follow trace (Began u x) g w = ready-began trace u (line_of trace) x g w
ready-follow trace (Did u st a) g w = ready-did (trace says Did u st a) u a
ready-follow trace (Ended u end) g w = ready-end (trace says Ended u end) end (kind_of u trace)
ready-follow trace (Accepted b) g w = ready-finish (trace says Accepted b) b
ready-follow trace (Finished b) g w = ready-release (trace says Finished b) (to_release (trace says Finished b))
ready-follow trace e g w = tt

ready-serving : (trace : Trace) (e : Event) → IsReady trace e → WaitJudged (trace says e) → AllWait (trace says e) → IfComes (IsReady (trace says e)) (serving_event (trace says e) e)
ready-serving trace Ready g w all = tt
ready-serving trace (Early bs) g w all = tt
ready-serving trace e g w all = comes-option_or (IsReady (trace says e)) (follow (trace says e) e) (settle (trace says e)) (ready-follow trace e g w) (ready-settle (trace says e) w all)

-- OPENINGS

ready-drain : (trace : Trace) (u : Id) → is_acid trace u ≡ false → IfComes (IsReady trace) (does_next trace u)
ready-drain trace u h = comes-map-at (IsReady trace) _ (asked_by u trace) (λ st a s k. absurd (acid-is (kind_of u trace) s h k))

ready-cuts : (trace : Trace) (us : List Id) → IfComes (IsReady trace) (cuts_or_drains trace us)
ready-cuts trace (u ∷ us) = tt
ready-cuts trace [] = comes-then_some (IsReady trace) (is_empty (open_units trace)) (drains trace (kept trace).conts) (by (kept trace).conts)
  where
    by-each : (early : Bool) (c : Cont) (cs : List Cont) → IsReady trace (unfinished early trace c cs)
    by-each true c cs = tt
    by-each false c cs = tt

    by : (cs : List Cont) → IsReady trace (drains trace cs)
    by [] = tt
    by (c ∷ cs) = by-each (start_of trace).early c cs

ready-opens : (trace : Trace) (e : Event) → Drains (trace says e) → phase (trace says e) ≡ Opening → IfComes (IsReady (trace says e)) (follow_opening (trace says e) e)
ready-opens trace (Began u x) d p = ready-drain (trace says Began u x) u (d p u refl)
ready-opens trace (Did u st a) d p =
    comes-option_or (IsReady (trace says Did u st a)) (after_did (trace says Did u st a) u a) (does_next (trace says Did u st a) u)
    (ready-did (trace says Did u st a) u a) (ready-drain (trace says Did u st a) u (d p u refl))
ready-opens trace (Ended u end) d p = ready-end (trace says Ended u end) end (kind_of u trace)
ready-opens trace (Accepted b) d p = ready-finish (trace says Accepted b) b
ready-opens trace e d p = tt

pub ready-said : (trace : Trace) (e : Event) → IsReady trace e → WaitJudged (trace says e) → AllWait (trace says e) → Drains (trace says e) → (q : Phase) → phase (trace says e) ≡ q →
    IfComes (IsReady (trace says e)) (said_event q (trace says e) e)
ready-said trace e g w all d Serving p = ready-serving trace e g w all
ready-said trace e g w all d Opening p =
    comes-option_or (IsReady (trace says e)) (follow_opening (trace says e) e) (cuts_or_drains (trace says e) (to_cut (trace says e)))
    (ready-opens trace e d p) (ready-cuts (trace says e) (to_cut (trace says e)))
ready-said trace e g w all d Fallen p = tt

-- A DECISION IN FLIGHT goes through a stop

abbrev pub Flying : Trace → Option Event → Type 0
Flying trace o = IfComes (λ e. IsReady trace e × (is_decision e ≡ true)) o

pub flying-next : (trace : Trace) (o : Option Event) → IfComes (IsReady trace) o → Flying trace (decision_in o)
flying-next trace None h = tt
flying-next trace (Some e) h = by (is_decision e) refl
  where
    by : (b : Bool) → is_decision e ≡ b → Flying trace (then_some b e)
    by true q = (h, q)
    by false q = tt

defines-down : (trace : Trace) (why : Why) (line : Line) → IsDefinable trace line → IsDefinable (trace says Down why) line
defines-down trace why (Table d) h = h
defines-down trace why (Program p) h = h
defines-down trace why line h = tt

pub flying-down : (trace : Trace) (why : Why) (o : Option Event) → Flying trace o → Flying (trace says Down why) o
flying-down trace why None h = tt
flying-down trace why (Some (Ended u (Committed n))) h = (tt, refl)
flying-down trace why (Some (Ended u (Branched n c))) h = (tt, refl)
flying-down trace why (Some (Defined n text)) h = ((defines-down trace why (line_of trace) h.0.0, h.0.1), refl)
flying-down trace why (Some e) h = absurd (let x = h.1 in cc)

defines-opened : (trace : Trace) (boot n : ℕ) (line : Line) → IsDefinable trace line → IsDefinable (trace says Opened boot n) line
defines-opened trace boot n (Table d) h = h
defines-opened trace boot n (Program p) h = h
defines-opened trace boot n line h = tt

pub ready-opened : (trace : Trace) (boot n : ℕ) (o : Option Event) → Flying trace o → IfComes (IsReady (trace says Opened boot n)) (after_opened (trace says Opened boot n) n o)
ready-opened trace boot n None h = ready-cuts (trace says Opened boot n) (to_cut (trace says Opened boot n))
ready-opened trace boot n (Some d) h =
    comes-option_or (IsReady (trace says Opened boot n)) (stands_now (trace says Opened boot n) n (Some d)) (cuts_or_drains (trace says Opened boot n) (to_cut (trace says Opened boot n)))
    (comes-then_some (IsReady (trace says Opened boot n)) (n == next_number trace) d (its d h.0 h.1)) (ready-cuts (trace says Opened boot n) (to_cut (trace says Opened boot n)))
  where
    its : (d : Event) → IsReady trace d → is_decision d ≡ true → IsReady (trace says Opened boot n) d
    its (Ended u (Committed m)) a g = tt
    its (Ended u (Branched m c)) a g = tt
    its (Defined m text) a g = (defines-opened trace boot n (line_of trace) a.0, a.1)
    its e a g = absurd cc
