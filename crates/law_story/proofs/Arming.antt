-- Where commits do not go over messages, the stops that are armed are those of the story: `net` is refused there, and no other line arms
-- anything else.
use Rattle.law_story.proofs.Coming.{Good}
use Rattle.law_story.proofs.Every.{IfSome}
use Rattle.law_story.proofs.Fresh.{IfComes, comes-map, comes-option_or, comes-then_some}
use Rattle.law_story.proofs.Replays.{replays}
use Rattle.salt_ast.specs.declared.lines.Act.{Act}
use Rattle.salt_ast.specs.declared.lines.Act.TheVariants.{Begin, Call, Commit, Do, Rollback, Step}
use Rattle.salt_ast.specs.declared.lines.Line.{Line}
use Rattle.salt_ast.specs.declared.lines.Line.TheVariants.{Crash, Go, Net, Session, Nothing}
use Rattle.salt_ast.specs.declared.trees.Statement.{Statement}
use Rattle.salt_model.specs.After.{kept}
use Rattle.salt_model.specs.Arming.{armed_behind, armed_by, armed_by_lines, stops_asked}
use Rattle.salt_model.specs.Kept.{cont_of, kept_program}
use Rattle.salt_model.specs.Locks.{clashing}
use Rattle.salt_model.specs.Next.{flight, is_decision, next, said_event, serving_event}
use Rattle.salt_model.specs.Openings.{after_opened, cuts_or_drains, drains, follow_opening, stands_now, to_cut, unfinished}
use Rattle.salt_model.specs.Phases.{Fallen, Opening, Phase, Serving, phase}
use Rattle.salt_model.specs.Played.{IsPlayed}
use Rattle.salt_model.specs.Reads.{to_release}
use Rattle.salt_model.specs.Refusals.{judged, refusal, refused_line}
use Rattle.salt_model.specs.Trace.{Asked, Rejected, Trace, Tree, from, line_asked, line_of, start_of, story_of, ◌asks◌, ◌says◌, ◌turns◌}
use Rattle.salt_model.specs.Turns.{act_event, after_began, after_did, after_end, asks_for, commits, does_next, fails, finishes, follow, go, goes_on, is_at_end, line_event, next_number, releases, settle, settle_by, turn}
use Rattle.salt_model.specs.Units.{kind_of, open_units, program_unit, session_unit}
use Rattle.salt_model.specs.Waiting.{asked_by, block_of, next_unblocked, victim}
use Rattle.salt_model.specs.Words.{is_empty}
use Rattle.salt_model.specs.declared.events.Answer.{Answer}
use Rattle.salt_model.specs.declared.events.Answer.TheVariants.{Failed}
use Rattle.salt_model.specs.declared.events.Cause.{Cause}
use Rattle.salt_model.specs.declared.events.End.{End}
use Rattle.salt_model.specs.declared.events.End.TheVariants.{Branched, Committed}
use Rattle.salt_model.specs.declared.events.Event.{Event}
use Rattle.salt_model.specs.declared.events.Event.TheVariants.{Accepted, Armed, Began, Did, Down, Early, Ended, Finished, Opened, Ready, Refused}
use Rattle.salt_model.specs.declared.events.Owner.{Owner}
use Rattle.salt_model.specs.declared.events.Refusal.{Refusal}
use Rattle.salt_model.specs.declared.events.Refusal.TheVariants.{State}
use Rattle.salt_model.specs.declared.events.UnitKind.{UnitKind}
use Rattle.salt_model.specs.declared.events.UnitKind.TheVariants.{Acid, First, Later}
use Rattle.salt_model.specs.declared.events.Why.TheVariants.{Stopped}
use Rattle.salt_values.specs.declared.cont.Cont.{Cont}
use Rattle.salt_values.specs.declared.id.Id.{Id}
use Rattle.std.proofs.Common.{ap, subst, sym, ◌∙◌}
use Rattle.std.specs.Bool.{then_some}
use Rattle.std.specs.Option.{option_or}
use Rattle.std.specs.Prelude.{Bool, List, None, Option, Some, [], false, is_none, not, option_and_then, option_map, refl, true, ℕ, ⊤, ◌++◌, ◌==◌, ◌∷◌, ◌≡◌}

-- an event that arms comes by a line that arms stops
abbrev IsArmedBy : Line → Event → Type 0
IsArmedBy line (Armed pairs) = stops_asked line pairs ≡ pairs
IsArmedBy line e = ⊤

-- NOTHING BUT A LINE ARMS

module _ (line : Line) (trace : Trace) where
  abbrev P : Event → Type 0
  P = IsArmedBy line

  by-asks : (u : Id) (st : Statement) (owners : List Owner) → P (asks_for trace u st owners)
  by-asks u st [] = tt
  by-asks u st (owner ∷ owners) = tt

  by-turn : (u : Id) → IfComes P (turn trace u)
  by-turn u = comes-map P _ (asked_by u trace) (λ st. by-asks u st (clashing trace u st))

  by-turn_of : (o : Option Id) → IfComes P (option_and_then (turn trace) o)
  by-turn_of None = tt
  by-turn_of (Some u) = by-turn u

  by-does_next : (u : Id) → IfComes P (does_next trace u)
  by-does_next u = comes-map P _ (asked_by u trace) (λ st. tt)

  by-act : (s : ℕ) (act : Act) (o : Option Id) → IfComes P (act_event trace s act o)
  by-act s Begin o = tt
  by-act s (Do st) None = tt
  by-act s (Do st) (Some u) = by-turn u
  by-act s (Call n args) o = comes-map P _ (kept_program n (kept trace)) (λ p. tt)
  by-act s Step o = by-turn_of o
  by-act s Commit o = comes-map P _ o (λ u. tt)
  by-act s Rollback o = comes-map P _ o (λ u. tt)

  by-goes_on : (b : Id) (o : Option Id) → IfComes P (goes_on trace b o)
  by-goes_on b (Some u) = by-turn u
  by-goes_on b None = comes-map P _ (cont_of b (kept trace)) (λ c. tt)

  by-go : (b : Id) → IfComes P (go trace b)
  by-go b = by-goes_on b (program_unit b trace)

  by-settle : (v s : Option Id) → IfComes P (settle_by trace v s)
  by-settle (Some u) s = tt
  by-settle None (Some u) = by-does_next u
  by-settle None None = tt

  by-began : (u : Id) (of : Line) (kind : UnitKind) → IfComes P (after_began trace u of kind)
  by-began u (Session s Begin) (Acid t) = tt
  by-began u of kind = by-turn u

  by-fails : (u : Id) (c : Cause) (o : Option UnitKind) → P (fails trace u c o)
  by-fails u c (Some (Later b part)) = tt
  by-fails u c o = tt

  by-did : (u : Id) (a : Answer) → IfComes P (after_did trace u a)
  by-did u (Failed c) = by-fails u c (kind_of u trace)
  by-did u a = comes-then_some P (is_at_end trace u (block_of u trace)) (commits trace u) tt

  by-finishes : (b : Id) → IfComes P (finishes trace b)
  by-finishes b = comes-then_some P (is_none (cont_of b (kept trace))) (Finished b) tt

  by-end : (end : End) (o : Option UnitKind) → IfComes P (after_end trace end o)
  by-end (Committed n) (Some (First s b name args)) = tt
  by-end (Committed n) (Some (Later b part)) = by-finishes b
  by-end (Branched n c) (Some (Later b part)) = by-finishes b
  by-end end o = tt

  by-releases : (bs : List Id) → IfComes P (releases bs)
  by-releases [] = tt
  by-releases (b ∷ bs) = tt

  by-follow : (e : Event) → IfComes P (follow trace e)
  by-follow (Began u kind) = by-began u (line_of trace) kind
  by-follow (Did u st a) = by-did u a
  by-follow (Ended u end) = by-end end (kind_of u trace)
  by-follow (Accepted b) = by-finishes b
  by-follow (Finished b) = by-releases (to_release trace)
  by-follow e = tt

  by-serving : (e : Event) → IfComes P (serving_event trace e)
  by-serving Ready = tt
  by-serving (Early bs) = tt
  by-serving e = comes-option_or P (follow trace e) (settle trace) (by-follow e) (by-settle (victim trace) (next_unblocked trace))

  by-unfinished : (early : Bool) (c : Cont) (cs : List Cont) → P (unfinished early trace c cs)
  by-unfinished true c cs = tt
  by-unfinished false c cs = tt

  by-drains : (cs : List Cont) → P (drains trace cs)
  by-drains [] = tt
  by-drains (c ∷ cs) = by-unfinished (start_of trace).early c cs

  by-cuts : (us : List Id) → IfComes P (cuts_or_drains trace us)
  by-cuts [] = comes-then_some P (is_empty (open_units trace)) (drains trace (kept trace).conts) (by-drains (kept trace).conts)
  by-cuts (u ∷ us) = tt

  by-follow_opening : (e : Event) → IfComes P (follow_opening trace e)
  by-follow_opening (Began u kind) = by-does_next u
  by-follow_opening (Did u st a) = comes-option_or P (after_did trace u a) (does_next trace u) (by-did u a) (by-does_next u)
  by-follow_opening (Ended u end) = by-end end (kind_of u trace)
  by-follow_opening (Accepted b) = by-finishes b
  by-follow_opening e = tt

  by-opening : (e : Event) → IfComes P (option_or (follow_opening trace e) (cuts_or_drains trace (to_cut trace)))
  by-opening e = comes-option_or P (follow_opening trace e) (cuts_or_drains trace (to_cut trace)) (by-follow_opening e) (by-cuts (to_cut trace))

  by-said : (q : Phase) (e : Event) → IfComes P (said_event q trace e)
  by-said Serving e = by-serving e
  by-said Opening e = by-opening e
  by-said Fallen e = tt

  by-decision : (e : Event) → is_decision e ≡ true → P e
  by-decision (Armed pairs) h = cc
  by-decision e h = tt

  by-opened : (was : Trace) (n : ℕ) (o : Option Event) → IfSome (λ e. Good was e × (is_decision e ≡ true)) o → IfComes P (after_opened trace n o)
  by-opened was n o h = comes-option_or P (stands_now trace n o) (cuts_or_drains trace (to_cut trace)) (stands o h) (by-cuts (to_cut trace))
    where
      stands : (o : Option Event) → IfSome (λ e. Good was e × (is_decision e ≡ true)) o → IfComes P (stands_now trace n o)
      stands None h = tt
      stands (Some d) h = comes-then_some P (n == next_number trace) d (by-decision d h.1)

-- A LINE that is not refused

not-over : (judged q : Option Refusal) (over_net : Bool) → over_net ≡ false → option_or judged (option_or (then_some (not over_net) State) q) ≡ None → ⊥
not-over None q true off h = cc
not-over None q false off h = cc
not-over (Some r) q over_net off h = cc

by-line : (trace : Trace) (line : Line) → (start_of trace).over_net ≡ false → refused_line trace line ≡ None →
    IfComes (IsArmedBy line) (line_event (trace asks Tree line) line)
by-line trace (Session s act) off h = by-act (Session s act) (trace asks Tree (Session s act)) s act (session_unit s (trace asks Tree (Session s act)))
by-line trace (Go b) off h = by-go (Go b) (trace asks Tree (Go b)) b
by-line trace (Crash pairs) off h = refl
by-line trace (Net pairs) off h = absurd (not-over (judged trace (Net pairs)) None (start_of trace).over_net off h)
by-line trace line off h = tt

by-asked : (trace : Trace) (asked : Asked) (o : Option Refusal) → (start_of trace).over_net ≡ false → refusal trace asked ≡ o →
    IfComes (IsArmedBy (line_asked asked)) (option_or (option_map Refused o) (line_event (trace asks asked) (line_asked asked)))
by-asked trace asked (Some r) off h = tt
by-asked trace (Tree line) None off h = by-line trace line off h
by-asked trace (Rejected r) None off h = cc

-- WHAT COMES NEXT

arms-next : (trace : Trace) → IsPlayed trace → (start_of trace).over_net ≡ false → IfComes (IsArmedBy (line_of trace)) (next trace)
arms-next (from k) p off = tt
arms-next (trace asks asked) p off = by-asked trace asked (refusal trace asked) off refl
arms-next (trace turns b) p off = by-go (line_of trace) (trace turns b) b
arms-next (trace says Down why) p off = tt
arms-next (trace says Opened boot n) p off = by-opened (line_of trace) (trace says Opened boot n) trace n (flight trace) (replays trace p.0).flying
arms-next (trace says e) p off = by-said (line_of trace) (trace says e) (phase (trace says e)) e

said-armed : (trace : Trace) (e : Event) → IsPlayed (trace says e) → (start_of trace).over_net ≡ false → IsArmedBy (line_of trace) e
said-armed trace (Armed pairs) p off = subst (IfComes (IsArmedBy (line_of trace))) p.1 (arms-next trace p.0 off)
said-armed trace e p off = tt

-- STOPS, one event after another

same-after : (line : Line) (e : Event) (stops : List (ℕ × ℕ)) → IsArmedBy line e → armed_by line e stops ≡ armed_by Nothing e stops
same-after line (Armed pairs) stops h = ap (λ more. Some (stops ++ more)) h
same-after line (Down Stopped) stops h = refl
same-after line (Down why) stops h = refl
same-after line e stops h = refl

same-on : (line : Line) (e : Event) (o : Option (List (ℕ × ℕ))) → IsArmedBy line e → option_and_then (armed_by line e) o ≡ option_and_then (armed_by Nothing e) o
same-on line e None h = refl
same-on line e (Some stops) h = same-after line e stops h

behind-nothing : (o : Option (List (ℕ × ℕ))) → armed_behind [] o ≡ o
behind-nothing None = refl
behind-nothing (Some stops) = refl

behind-one : (es : List Event) (e : Event) (o : Option (List (ℕ × ℕ))) → armed_behind (es ++ e ∷ []) o ≡ option_and_then (armed_by Nothing e) (armed_behind es o)
behind-one [] e None = refl
behind-one (x ∷ es) e None = refl
behind-one [] e (Some stops) = behind-nothing (armed_by Nothing e stops)
behind-one (x ∷ es) e (Some stops) = behind-one es e (armed_by Nothing x stops)

pub armed-same : (trace : Trace) → IsPlayed trace → (start_of trace).over_net ≡ false → (first : List (ℕ × ℕ)) →
    armed_by_lines first trace ≡ armed_behind (story_of trace) (Some first)
armed-same (from k) p off first = refl
armed-same (trace asks asked) p off first = armed-same trace p.0 off first
armed-same (trace turns b) p off first = armed-same trace p.0 off first
armed-same (trace says e) p off first =
    same-on (line_of trace) e (armed_by_lines first trace) (said-armed trace e p off)
    ∙ ap (option_and_then (armed_by Nothing e)) (armed-same trace p.0 off first)
    ∙ sym (behind-one (story_of trace) e (Some first))
