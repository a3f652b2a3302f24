-- A Waits comes only of a unit that runs, for the statement that it asks for, with all owners that clash.
use Rattle.law_story.proofs.Coming.{neither}
use Rattle.law_story.proofs.Fresh.{IfComes, comes-map, comes-option_or, comes-then_some}
use Rattle.law_story.proofs.Ids.{and_right, is_same_id-refl}
use Rattle.law_story.proofs.Lists.{either}
use Rattle.law_story.proofs.NextFits.{Flies, comes-map-at, find-in}
use Rattle.law_story.proofs.Upheld.{OfBoots, holds}
use Rattle.salt_ast.specs.declared.lines.Act.{Act}
use Rattle.salt_ast.specs.declared.lines.Act.TheVariants.{Begin, Call, Commit, Do, Rollback, Step}
use Rattle.salt_ast.specs.declared.lines.Line.{Line}
use Rattle.salt_ast.specs.declared.lines.Line.TheVariants.{Go, Session}
use Rattle.salt_ast.specs.declared.trees.Statement.{Statement}
use Rattle.salt_model.specs.After.{kept}
use Rattle.salt_model.specs.Kept.{cont_of, kept_program}
use Rattle.salt_model.specs.Locks.{clashing}
use Rattle.salt_model.specs.Next.{flight, next, said_event, serving_event}
use Rattle.salt_model.specs.Openings.{cuts_or_drains, drains, follow_opening, stands_now, to_cut, unfinished}
use Rattle.salt_model.specs.Phases.{Fallen, Opening, Phase, Serving, phase}
use Rattle.salt_model.specs.Played.{IsPlayed}
use Rattle.salt_model.specs.Programs.{named_early}
use Rattle.salt_model.specs.Reads.{to_release}
use Rattle.salt_model.specs.Refusals.{is_held_back, is_state_wrong, judged, refusal, state_wrong}
use Rattle.salt_model.specs.Trace.{Asked, Rejected, Trace, Tree, from, line_asked, line_of, start_of, ◌asks◌, ◌says◌, ◌turns◌}
use Rattle.salt_model.specs.Turns.{act_event, after_began, after_did, after_end, asks_for, can_go, commits, does_next, fails, finishes, follow, go, goes_on, is_at_end, line_event, next_to_go, next_turn, owes_turn, releases, settle, settle_by, still_to_go, turn, turn_owed}
use Rattle.salt_model.specs.Units.{is_waiting, kind_of, open_units, program_unit, session_unit}
use Rattle.salt_model.specs.Waiting.{asked_by, block_of, next_unblocked, victim}
use Rattle.salt_model.specs.Words.{is_empty}
use Rattle.salt_model.specs.declared.events.Answer.{Answer}
use Rattle.salt_model.specs.declared.events.Answer.TheVariants.{Failed}
use Rattle.salt_model.specs.declared.events.Cause.{Cause}
use Rattle.salt_model.specs.declared.events.End.{End}
use Rattle.salt_model.specs.declared.events.End.TheVariants.{Branched, Committed}
use Rattle.salt_model.specs.declared.events.Event.{Event}
use Rattle.salt_model.specs.declared.events.Event.TheVariants.{Accepted, Began, Defined, Did, Down, Early, Ended, Finished, Opened, Ready, Refused, Waits}
use Rattle.salt_model.specs.declared.events.Owner.{Owner}
use Rattle.salt_model.specs.declared.events.Refusal.{Refusal}
use Rattle.salt_model.specs.declared.events.Refusal.TheVariants.{State}
use Rattle.salt_model.specs.declared.events.UnitKind.{UnitKind}
use Rattle.salt_model.specs.declared.events.UnitKind.TheVariants.{Acid, First, Later}
use Rattle.salt_values.specs.declared.cont.Cont.{Cont}
use Rattle.salt_values.specs.declared.id.Id.{Id}
use Rattle.std.proofs.Common.{inl, inr, subst}
use Rattle.std.specs.Bool.{then_some}
use Rattle.std.specs.List.{find}
use Rattle.std.specs.Option.{option_or, option_map_or}
use Rattle.std.specs.Prelude.{Bool, List, None, Option, Some, [], cond, false, is_none, is_some, not, option_map, refl, true, ℕ, ⊤, ◌||◌, ◌∷◌, ◌≡◌, ◌⊎◌}

-- what is known of a Waits that comes
abbrev pub Asks : Trace → Event → Type 0
Asks trace (Waits u owners) =
    (is_waiting trace u ≡ false) × ((st : Statement) × (asked_by u trace ≡ Some st) × (clashing trace u st ≡ owners) × (is_empty owners ≡ false))
Asks trace e = ⊤

module _ (trace : Trace) where
  abbrev P : Event → Type 0
  P = Asks trace

  asks-for : (u : Id) (st : Statement) (owners : List Owner) → is_waiting trace u ≡ false → asked_by u trace ≡ Some st →
      clashing trace u st ≡ owners → P (asks_for trace u st owners)
  asks-for u st [] w a c = tt
  asks-for u st (owner ∷ owners) w a c = (w, (st, a, c, refl))

  asks-turn : (u : Id) → is_waiting trace u ≡ false → IfComes P (turn trace u)
  asks-turn u w = comes-map-at P _ (asked_by u trace) (λ st a. asks-for u st (clashing trace u st) w a refl)

  asks-serve : (u : Id) → IfComes P (does_next trace u)
  asks-serve u = comes-map P _ (asked_by u trace) (λ st. tt)

  asks-goes_on : (b : Id) (o : Option Id) → ((u : Id) → o ≡ Some u → is_waiting trace u ≡ false) → IfComes P (goes_on trace b o)
  asks-goes_on b (Some u) h = asks-turn u (h u refl)
  asks-goes_on b None h = comes-map P _ (cont_of b (kept trace)) (λ c. tt)

  asks-go : (b : Id) → ((u : Id) → program_unit b trace ≡ Some u → is_waiting trace u ≡ false) → IfComes P (go trace b)
  asks-go b h = asks-goes_on b (program_unit b trace) h

  or-first-false : (x y : Bool) → (x || y) ≡ false → x ≡ false
  or-first-false false y h = refl
  or-first-false true y h = h

  asks-act : (s : ℕ) (act : Act) (o : Option Id) → state_wrong trace o act ≡ false → IfComes P (act_event trace s act o)
  asks-act s Begin o w = tt
  asks-act s (Do st) None w = tt
  asks-act s (Do st) (Some u) w = asks-turn u (or-first-false (is_waiting trace u) _ w)
  asks-act s (Call n args) o w = comes-map P _ (kept_program n (kept trace)) (λ p. tt)
  asks-act s Step None w = tt
  asks-act s Step (Some u) w = asks-turn u (or-first-false (is_waiting trace u) _ w)
  asks-act s Commit o w = comes-map P _ o (λ u. tt)
  asks-act s Rollback o w = comes-map P _ o (λ u. tt)

  asks-line : (line : Line) → is_state_wrong trace line ≡ false → IfComes P (line_event trace line)
  asks-line (Session s act) w = asks-act s act (session_unit s trace) (or-first-false _ (is_held_back trace act) w)
  asks-line (Go b) w = asks-go b (λ u e. subst (λ o. option_map_or (is_waiting trace) o false ≡ false) e w)
  asks-line line w = tt

  asks-fails : (u : Id) (c : Cause) (o : Option UnitKind) → P (fails trace u c o)
  asks-fails u c (Some (Later b part)) = tt
  asks-fails u c o = tt

  asks-did : (u : Id) (a : Answer) → IfComes P (after_did trace u a)
  asks-did u (Failed c) = asks-fails u c (kind_of u trace)
  asks-did u a = comes-then_some P (is_at_end trace u (block_of u trace)) (commits trace u) tt

  asks-finishes : (b : Id) → IfComes P (finishes trace b)
  asks-finishes b = comes-then_some P (is_none (cont_of b (kept trace))) (Finished b) tt

  asks-end : (end : End) (o : Option UnitKind) → IfComes P (after_end trace end o)
  asks-end (Committed n) (Some (First s b name args)) = tt
  asks-end (Committed n) (Some (Later b part)) = asks-finishes b
  asks-end (Branched n c) (Some (Later b part)) = asks-finishes b
  asks-end end o = tt

  asks-releases : (bs : List Id) → IfComes P (releases bs)
  asks-releases [] = tt
  asks-releases (b ∷ bs) = tt

  asks-settle : (v s : Option Id) → IfComes P (settle_by trace v s)
  asks-settle (Some u) s = tt
  asks-settle None (Some u) = asks-serve u
  asks-settle None None = tt

  asks-unfinished : (t : Bool) (c : Cont) (cs : List Cont) → P (unfinished t trace c cs)
  asks-unfinished true c cs = tt
  asks-unfinished false c cs = tt

  asks-drains : (cs : List Cont) → P (drains trace cs)
  asks-drains [] = tt
  asks-drains (c ∷ cs) = asks-unfinished (start_of trace).early c cs

  asks-cuts : (us : List Id) → IfComes P (cuts_or_drains trace us)
  asks-cuts (u ∷ us) = tt
  asks-cuts [] = comes-then_some P (is_empty (open_units trace)) (drains trace (kept trace).conts) (asks-drains (kept trace).conts)

  asks-stands : (here : Trace) (n : ℕ) (o : Option Event) → IfComes (Flies here) o → IfComes P (stands_now trace n o)
  asks-stands here n None h = tt
  asks-stands here n (Some (Ended u end)) h = comes-then_some P _ (Ended u end) tt
  asks-stands here n (Some (Defined m text)) h = comes-then_some P _ (Defined m text) tt
  asks-stands here n (Some e) h = absurd h

  asks-began : (u : Id) (line : Line) (kind : UnitKind) → is_waiting trace u ≡ false → IfComes P (after_began trace u line kind)
  asks-began u (Session s Begin) (Acid z) w = tt
  asks-began u line kind w = asks-turn u w

asks-follow : (trace : Trace) (e : Event) → IfComes (Asks (trace says e)) (follow (trace says e) e)
asks-follow trace (Began u kind) = asks-began (trace says Began u kind) u (line_of trace) kind (rw (is_same_id-refl u) refl)
asks-follow trace (Did u st a) = asks-did (trace says Did u st a) u a
asks-follow trace (Ended u end) = asks-end (trace says Ended u end) end (kind_of u trace)
asks-follow trace (Accepted b) = asks-finishes (trace says Accepted b) b
asks-follow trace (Finished b) = asks-releases (trace says Finished b) (to_release (trace says Finished b))
asks-follow trace e = tt

asks-serving : (trace : Trace) (e : Event) → IfComes (Asks (trace says e)) (serving_event (trace says e) e)
asks-serving trace Ready = tt
asks-serving trace (Early bs) = tt
asks-serving trace e =
    comes-option_or (Asks (trace says e)) (follow (trace says e) e) (settle (trace says e)) (asks-follow trace e)
    (asks-settle (trace says e) (victim (trace says e)) (next_unblocked (trace says e)))

asks-opens : (trace : Trace) (e : Event) → IfComes (Asks (trace says e)) (follow_opening (trace says e) e)
asks-opens trace (Began u kind) = asks-serve (trace says Began u kind) u
asks-opens trace (Did u st a) =
    comes-option_or (Asks (trace says Did u st a)) (after_did (trace says Did u st a) u a) (does_next (trace says Did u st a) u)
    (asks-did (trace says Did u st a) u a) (asks-serve (trace says Did u st a) u)
asks-opens trace (Ended u end) = asks-end (trace says Ended u end) end (kind_of u trace)
asks-opens trace (Accepted b) = asks-finishes (trace says Accepted b) b
asks-opens trace e = tt

asks-said : (trace : Trace) (e : Event) (p : Phase) → IfComes (Asks (trace says e)) (said_event p (trace says e) e)
asks-said trace e Serving = asks-serving trace e
asks-said trace e Opening =
    comes-option_or (Asks (trace says e)) (follow_opening (trace says e) e) (cuts_or_drains (trace says e) (to_cut (trace says e)))
    (asks-opens trace e) (asks-cuts (trace says e) (to_cut (trace says e)))
asks-said trace e Fallen = tt

none-when : {A : Type 0} (b : Bool) (x : A) → then_some b x ≡ None → b ≡ false
none-when true x h = cc
none-when false x h = refl

asks-asked : (trace : Trace) (asked : Asked) (o : Option Refusal) → refusal trace asked ≡ o →
    IfComes (Asks (trace asks asked)) (option_or (option_map Refused o) (line_event (trace asks asked) (line_asked asked)))
asks-asked trace asked (Some r) e = tt
asks-asked trace (Rejected r) None e = cc
asks-asked trace (Tree line) None e =
    asks-line (trace asks Tree line) line
    (none-when (is_state_wrong trace line) State (neither (then_some (is_state_wrong trace line) State) _ (neither (judged trace line) _ e).1).0)

either-else : (o p : Option Id) (x : Id) → option_or o p ≡ Some x → (o ≡ Some x) ⊎ (p ≡ Some x)
either-else None p x h = inr h
either-else (Some y) p x h = inl h

-- whose turn is next can go
can-of : (trace : Trace) (b : Id) → next_turn trace ≡ Some b → can_go trace b ≡ true
can-of trace b h = either (λ g. (find-in (can_go trace) b (still_to_go trace) g).1) (λ g. owed (owes_turn trace) g) (either-else (next_to_go trace) (turn_owed trace) b h)
  where
    owed : (t : Bool) → cond t (find (can_go trace) (named_early trace)) None ≡ Some b → can_go trace b ≡ true
    owed true g = (find-in (can_go trace) b (named_early trace) g).1
    owed false g = cc

-- a program that has a turn does not wait
turns-run : (trace : Trace) (b : Id) → next_turn trace ≡ Some b → (u : Id) → program_unit b trace ≡ Some u → is_waiting trace u ≡ false
turns-run trace b h u e =
    not-so (is_waiting trace u) (go (program_unit b trace) e (and_right (is_some (cont_of b (kept trace))) _ (can-of trace b h)))
  where
    go : (o : Option Id) → o ≡ Some u → elim o [ None ↦ true | Some v ↦ not (is_waiting trace v) ] ≡ true → not (is_waiting trace u) ≡ true
    go None q g = cc
    go (Some v) q g = let s : v ≡ u = cc in subst (λ x. not (is_waiting trace x) ≡ true) s g

    not-so : (t : Bool) → not t ≡ true → t ≡ false
    not-so true g = cc
    not-so false g = refl

pub asks-next : (trace : Trace) → IsPlayed trace → OfBoots (start_of trace).kept → IfComes (Asks trace) (next trace)
asks-next (from k) p f = tt
asks-next (trace asks asked) p f = asks-asked trace asked (refusal trace asked) refl
asks-next (trace turns b) p f = asks-go (trace turns b) b (turns-run trace b p.3)
asks-next (trace says Down why) p f = tt
asks-next (trace says Opened boot n) p f =
    let here = trace says Opened boot n in
    comes-option_or (Asks here) (stands_now here n (flight trace)) (cuts_or_drains here (to_cut here)) (asks-stands here trace n (flight trace) (holds trace p.0 f).flies) (asks-cuts here (to_cut here))
asks-next (trace says e) p f = asks-said trace e (phase (trace says e))
