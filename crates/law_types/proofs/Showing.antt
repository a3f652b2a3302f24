-- What is shown are the held locks, or the programs under way.
use Rattle.salt_ast.specs.declared.lines.Act.TheVariants.{Begin, Call, Commit, Do, Rollback, Step}
use Rattle.salt_ast.specs.declared.lines.Act.{Act}
use Rattle.salt_ast.specs.declared.lines.Line.TheVariants.{Session, ShowBases, ShowLocks, Table, Program, Go, GoAll, Nothing, Crash, Net}
use Rattle.salt_ast.specs.declared.lines.Line.{Line}
use Rattle.salt_ast.specs.declared.trees.Statement.{Statement}
use Rattle.law_story.proofs.Fresh.{IfComes, comes-map, comes-option_or, comes-then_some}
use Rattle.salt_model.specs.Kept.{cont_of, kept_program}
use Rattle.salt_model.specs.After.{kept}
use Rattle.salt_model.specs.Locks.{clashing}
use Rattle.salt_model.specs.Next.{decision_in, flight, is_decision, next, said_event, serving_event}
use Rattle.salt_model.specs.Openings.{after_opened, cuts_or_drains, drains, follow_opening, stands_now, to_cut, unfinished}
use Rattle.salt_model.specs.Phases.{Fallen, Opening, Phase, Serving, phase}
use Rattle.salt_model.specs.Reads.{to_release}
use Rattle.salt_model.specs.Refusals.{refusal}
use Rattle.salt_model.specs.Shown.{base_items, lock_items}
use Rattle.salt_model.specs.Trace.{Trace, from, line_asked, line_of, start_of, ◌asks◌, ◌says◌, ◌turns◌}
use Rattle.salt_model.specs.Turns.{act_event, after_began, after_did, after_end, asks_for, commits, does_next, fails, finishes, follow, go, goes_on, is_at_end, line_event, next_number, releases, settle, settle_by, turn}
use Rattle.salt_model.specs.Units.{kind_of, open_units, program_unit, session_unit}
use Rattle.salt_model.specs.Waiting.{asked_by, block_of, next_unblocked, victim}
use Rattle.salt_model.specs.Words.{is_empty}
use Rattle.salt_model.specs.declared.events.Answer.TheVariants.{Failed}
use Rattle.salt_model.specs.declared.events.Answer.{Answer}
use Rattle.salt_model.specs.declared.events.Cause.{Cause}
use Rattle.salt_model.specs.declared.events.End.TheVariants.{Branched, Committed}
use Rattle.salt_model.specs.declared.events.End.{End}
use Rattle.salt_model.specs.declared.events.Event.TheVariants.{Accepted, Began, Did, Down, Early, Ended, Finished, Opened, Ready, Refused, Shown}
use Rattle.salt_model.specs.declared.events.Event.{Event}
use Rattle.salt_model.specs.declared.events.Owner.{Owner}
use Rattle.salt_model.specs.declared.events.UnitKind.TheVariants.{Acid, First, Later}
use Rattle.salt_model.specs.declared.events.UnitKind.{UnitKind}
use Rattle.salt_values.specs.declared.cont.Cont.{Cont}
use Rattle.salt_values.specs.declared.id.Id.{Id}
use Rattle.std.proofs.Common.{inl, inr}
use Rattle.std.specs.Bool.{then_some}
use Rattle.std.specs.Option.{option_or}
use Rattle.std.specs.Prelude.{Bool, List, None, Option, Some, [], false, is_none, option_map, refl, true, ℕ, ⊤, ◌==◌, ◌∷◌, ◌≡◌, ◌⊎◌, option_and_then}

abbrev pub IsShownBy : Trace → Event → Type 0
IsShownBy trace (Shown items) = (items ≡ lock_items trace) ⊎ (items ≡ base_items trace)
IsShownBy trace e = ⊤

abbrev IsDecision : Event → Type 0
IsDecision e = is_decision e ≡ true

module _ (trace : Trace) where
  abbrev P : Event → Type 0
  P = IsShownBy trace

  by-asks : (u : Id) (st : Statement) (owners : List Owner) → P (asks_for trace u st owners)
  by-asks u st [] = tt
  by-asks u st (owner ∷ owners) = tt

  by-turn : (u : Id) → IfComes P (turn trace u)
  by-turn u = comes-map P _ (asked_by u trace) (λ st. by-asks u st (clashing trace u st))

  by-turn_of : (o : Option Id) → IfComes P (option_and_then (turn trace) o)
  by-turn_of None = tt
  by-turn_of (Some u) = by-turn u

  by-does_next : (u : Id) → IfComes P (does_next trace u)
  by-does_next u = comes-map P _ (asked_by u trace) (λ st. tt)

  by-act : (s : ℕ) (act : Act) (o : Option Id) → IfComes P (act_event trace s act o)
  by-act s Begin o = tt
  by-act s (Do st) None = tt
  by-act s (Do st) (Some u) = by-turn u
  by-act s (Call n args) o = comes-map P _ (kept_program n (kept trace)) (λ p. tt)
  by-act s Step o = by-turn_of o
  by-act s Commit o = comes-map P _ o (λ u. tt)
  by-act s Rollback o = comes-map P _ o (λ u. tt)

  by-goes_on : (b : Id) (o : Option Id) → IfComes P (goes_on trace b o)
  by-goes_on b (Some u) = by-turn u
  by-goes_on b None = comes-map P _ (cont_of b (kept trace)) (λ c. tt)

  by-go : (b : Id) → IfComes P (go trace b)
  by-go b = by-goes_on b (program_unit b trace)

  by-line : (line : Line) → IfComes P (line_event trace line)
  by-line (Session s act) = by-act s act (session_unit s trace)
  by-line (Go b) = by-go b
  by-line ShowLocks = inl refl
  by-line ShowBases = inr refl
  by-line (Table d) = tt
  by-line (Program d) = tt
  by-line Nothing = tt
  by-line GoAll = tt
  by-line (Crash pairs) = tt
  by-line (Net pairs) = tt

  by-settle : (v s : Option Id) → IfComes P (settle_by trace v s)
  by-settle (Some u) s = tt
  by-settle None (Some u) = by-does_next u
  by-settle None None = tt

  by-began : (u : Id) (line : Line) (kind : UnitKind) → IfComes P (after_began trace u line kind)
  by-began u (Session s Begin) (Acid t) = tt
  by-began u line kind = by-turn u

  by-fails : (u : Id) (c : Cause) (o : Option UnitKind) → P (fails trace u c o)
  by-fails u c (Some (Later b part)) = tt
  by-fails u c o = tt

  by-did : (u : Id) (a : Answer) → IfComes P (after_did trace u a)
  by-did u (Failed c) = by-fails u c (kind_of u trace)
  by-did u a = comes-then_some P (is_at_end trace u (block_of u trace)) (commits trace u) tt

  by-finishes : (b : Id) → IfComes P (finishes trace b)
  by-finishes b = comes-then_some P (is_none (cont_of b (kept trace))) (Finished b) tt

  by-end : (end : End) (o : Option UnitKind) → IfComes P (after_end trace end o)
  by-end (Committed n) (Some (First s b name args)) = tt
  by-end (Committed n) (Some (Later b part)) = by-finishes b
  by-end (Branched n c) (Some (Later b part)) = by-finishes b
  by-end end o = tt

  by-releases : (bs : List Id) → IfComes P (releases bs)
  by-releases [] = tt
  by-releases (b ∷ bs) = tt

  by-follow : (e : Event) → IfComes P (follow trace e)
  by-follow (Began u kind) = by-began u (line_of trace) kind
  by-follow (Did u st a) = by-did u a
  by-follow (Ended u end) = by-end end (kind_of u trace)
  by-follow (Accepted b) = by-finishes b
  by-follow (Finished b) = by-releases (to_release trace)
  by-follow e = tt

  by-serving : (e : Event) → IfComes P (serving_event trace e)
  by-serving Ready = tt
  by-serving (Early bs) = tt
  by-serving e = comes-option_or P (follow trace e) (settle trace) (by-follow e) (by-settle (victim trace) (next_unblocked trace))

  by-unfinished : (early : Bool) (c : Cont) (cs : List Cont) → P (unfinished early trace c cs)
  by-unfinished true c cs = tt
  by-unfinished false c cs = tt

  by-drains : (cs : List Cont) → P (drains trace cs)
  by-drains [] = tt
  by-drains (c ∷ cs) = by-unfinished (start_of trace).early c cs

  by-cuts : (us : List Id) → IfComes P (cuts_or_drains trace us)
  by-cuts [] = comes-then_some P (is_empty (open_units trace)) (drains trace (kept trace).conts) (by-drains (kept trace).conts)
  by-cuts (u ∷ us) = tt

  by-follow_opening : (e : Event) → IfComes P (follow_opening trace e)
  by-follow_opening (Began u kind) = by-does_next u
  by-follow_opening (Did u st a) = comes-option_or P (after_did trace u a) (does_next trace u) (by-did u a) (by-does_next u)
  by-follow_opening (Ended u end) = by-end end (kind_of u trace)
  by-follow_opening (Accepted b) = by-finishes b
  by-follow_opening e = tt

  by-opening : (e : Event) → IfComes P (option_or (follow_opening trace e) (cuts_or_drains trace (to_cut trace)))
  by-opening e = comes-option_or P (follow_opening trace e) (cuts_or_drains trace (to_cut trace)) (by-follow_opening e) (by-cuts (to_cut trace))

  by-said : (q : Phase) (e : Event) → IfComes P (said_event q trace e)
  by-said Serving e = by-serving e
  by-said Opening e = by-opening e
  by-said Fallen e = tt

  by-decision : (e : Event) → is_decision e ≡ true → P e
  by-decision (Shown items) h = cc
  by-decision e h = tt

  by-opened : (n : ℕ) (o : Option Event) → IfComes IsDecision o → IfComes P (after_opened trace n o)
  by-opened n o h = comes-option_or P (stands_now trace n o) (cuts_or_drains trace (to_cut trace)) (stands o h) (by-cuts (to_cut trace))
    where
      stands : (o : Option Event) → IfComes IsDecision o → IfComes P (stands_now trace n o)
      stands None h = tt
      stands (Some d) h = comes-then_some P (n == next_number trace) d (by-decision d h)

decided : (o : Option Event) → IfComes IsDecision (decision_in o)
decided None = tt
decided (Some e) = by (is_decision e) refl
  where
    by : (t : Bool) → is_decision e ≡ t → IfComes IsDecision (then_some t e)
    by true h = h
    by false h = tt

flies : (trace : Trace) → IfComes IsDecision (flight trace)
flies (from k) = tt
flies (trace asks asked) = decided (next (trace asks asked))
flies (trace turns b) = decided (next (trace turns b))
flies (trace says Down why) = flies trace
flies (trace says Opened boot n) = decided (next (trace says Opened boot n))
flies (trace says e) = decided (next (trace says e))

pub shown-next : (trace : Trace) → IfComes (IsShownBy trace) (next trace)
shown-next (from k) = tt
shown-next (trace asks asked) =
    comes-option_or (IsShownBy (trace asks asked)) (option_map Refused (refusal trace asked)) (line_event (trace asks asked) (line_asked asked))
    (comes-map (IsShownBy (trace asks asked)) Refused (refusal trace asked) (λ r. tt)) (by-line (trace asks asked) (line_asked asked))
shown-next (trace turns b) = by-go (trace turns b) b
shown-next (trace says Down why) = tt
shown-next (trace says Opened boot n) = by-opened (trace says Opened boot n) n (flight trace) (flies trace)
shown-next (trace says e) = by-said (trace says e) (phase (trace says e)) e
