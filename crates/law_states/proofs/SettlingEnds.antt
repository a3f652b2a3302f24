-- What is still to come falls with each event.
use Rattle.law_states.proofs.UnitLists.{map-filter}
use Rattle.law_states.specs.Follows.{follow_in, said_in, serving_in, settles_in, unit_of}
use Rattle.law_states.specs.KeptSources.{Dependencies}
use Rattle.law_states.specs.KeptWaits.{Asker, clash_owners, drop_asker, graph_unit, served_in, victim_in}
use Rattle.law_states.specs.Laws.{is_of_run}
use Rattle.law_states.specs.Members.{In}
use Rattle.law_states.specs.Nexts.{said_next}
use Rattle.law_states.specs.OpenUnits.{OpenUnit, UnitState, asks_next, unit_named}
use Rattle.law_states.specs.Readings.{WatchReading, beside_by, locks_in}
use Rattle.law_states.specs.Settling.{stage, to_come, waiters, waiters_after}
use Rattle.law_states.specs.States.{After, State}
use Rattle.law_states.specs.Told.{Beside, Clashes, after_began_in, after_did_in, after_end_in, asks_in, commits_in, does_in, fails_in, finishes_in, is_at_end_in, settle_in, turn_in}
use Rattle.law_states.specs.UnitFacts.{UnitFacts, facts_in, facts_of, unit_before}
use Rattle.law_states.specs.WatchSteps.{waits_by}
use Rattle.law_story.proofs.Fresh.{IfComes}
use Rattle.law_story.proofs.Ids.{is_same_id-refl, is_same_id-true}
use Rattle.law_story.proofs.Lists.{all-in, either, filter-less, filter-short, in-filter, in-map}
use Rattle.law_story.proofs.NextFits.{comes-map-at, comes-then_some-at, find-in, greatest-in}
use Rattle.salt_ast.specs.declared.lines.Act.TheVariants.{Begin}
use Rattle.salt_ast.specs.declared.lines.Line.{Line}
use Rattle.salt_ast.specs.declared.lines.Line.TheVariants.{Session}
use Rattle.salt_ast.specs.declared.trees.Statement.{Statement}
use Rattle.salt_model.specs.Kept.{block_of_kind, cont_of}
use Rattle.salt_model.specs.Phases.{Phase, Serving}
use Rattle.salt_model.specs.Turns.{releases}
use Rattle.salt_model.specs.Waiting.{WaitUnit, is_on_cycle, names_of, victim_of}
use Rattle.salt_model.specs.Words.{greatest, is_empty}
use Rattle.salt_model.specs.declared.events.Answer.{Answer}
use Rattle.salt_model.specs.declared.events.Answer.TheVariants.{Failed}
use Rattle.salt_model.specs.declared.events.Cause.{Cause}
use Rattle.salt_model.specs.declared.events.End.{End}
use Rattle.salt_model.specs.declared.events.End.TheVariants.{Branched, Committed}
use Rattle.salt_model.specs.declared.events.Event.{Event}
use Rattle.salt_model.specs.declared.events.Event.TheVariants.{Accepted, Began, Did, Down, Early, Ended, Finished, Opened, Ready, Waits}
use Rattle.salt_model.specs.declared.events.Owner.{Owner}
use Rattle.salt_model.specs.declared.events.UnitKind.{UnitKind}
use Rattle.salt_model.specs.declared.events.UnitKind.TheVariants.{Acid, First, Later}
use Rattle.salt_model.specs.declared.locks.Lock.{Lock}
use Rattle.salt_values.specs.Id.{has_id, is_same_id, without}
use Rattle.salt_values.specs.declared.id.Id.{Id}
use Rattle.std.proofs.Common.{ap, arith, inl, inr, subst, sym, ◌∙◌}
use Rattle.std.proofs.lemmas.List.{length-append, length-map}
use Rattle.std.specs.List.{filter, find, list_all}
use Rattle.std.specs.Option.{option_or}
use Rattle.std.specs.Prelude.{Bool, List, None, Option, Some, [], false, is_none, length, map, not, option_and_then, option_map, refl, true, ℕ, ◌*◌, ◌+◌, ◌<◌, ◌∷◌, ◌≡◌, ◌≤◌, ◌⊎◌}

-- an event's stage, and what it may add to the waiting units
abbrev cost : Event → ℕ
cost (Waits u owners) = 7
cost e = stage e

-- in a turn the costs fall

asks-cost : (s : UnitState) (o : OpenUnit) (st : Statement) (owners : List Owner) → cost (asks_in s o st owners) < 8
asks-cost s o st [] = omega arith
asks-cost s o st (owner ∷ owners) = omega arith

turn-cost : (s : UnitState) (c : Clashes) (o : OpenUnit) → IfComes (λ f. cost f < 8) (turn_in s c o)
turn-cost s c o = comes-map-at (λ f. cost f < 8) (λ st. asks_in s o st (c o st)) (asks_next s o) (λ st e. asks-cost s o st (c o st))

began-cost : (s : UnitState) (c : Clashes) (o : OpenUnit) (line : Line) (kind : UnitKind) → IfComes (λ f. cost f < 8) (after_began_in s c o line kind)
began-cost s c o (Session t Begin) (Acid z) = tt
began-cost s c o line kind = turn-cost s c o

fails-cost : (s : UnitState) (o : OpenUnit) (c : Cause) (kind : UnitKind) → cost (fails_in s o c kind) < 5
fails-cost s o c (Later b part) = omega arith
fails-cost s o c kind = omega arith

did-cost : (s : UnitState) (o : OpenUnit) (answer : Answer) → IfComes (λ f. cost f < 5) (after_did_in s o answer)
did-cost s o (Failed c) = fails-cost s o c o.kind
did-cost s o answer = comes-then_some-at (λ f. cost f < 5) (is_at_end_in o (block_of_kind s.kept o.kind)) (commits_in s o) (λ e. omega arith)

finishes-cost : (s : UnitState) (b : Id) → IfComes (λ f. cost f < 3) (finishes_in s b)
finishes-cost s b = comes-then_some-at (λ f. cost f < 3) (is_none (cont_of b s.kept)) (Finished b) (λ e. omega arith)

comes-more : (m n : ℕ) → m ≤ n → (o : Option Event) → IfComes (λ f. cost f < m) o → IfComes (λ f. cost f < n) o
comes-more m n l None h = tt
comes-more m n l (Some e) h = omega arith

end-cost : (s : UnitState) (end : End) (kind : UnitKind) → IfComes (λ f. cost f < 4) (after_end_in s end kind)
end-cost s (Committed n) (First t b name args) = omega arith
end-cost s (Committed n) (Later b part) = comes-more 3 4 (omega arith) (finishes_in s b) (finishes-cost s b)
end-cost s (Branched n c) (Later b part) = comes-more 3 4 (omega arith) (finishes_in s b) (finishes-cost s b)
end-cost s end kind = tt

release-cost : (bs : List Id) → IfComes (λ f. cost f < 2) (releases bs)
release-cost [] = tt
release-cost (b ∷ bs) = omega arith

follow-cost : (s : UnitState) (x : Beside) (e : Event) (o : Option OpenUnit) → IfComes (λ f. cost f < stage e) (follow_in s x e o)
follow-cost s x (Began u kind) (Some o) = began-cost s x.clash o s.line kind
follow-cost s x (Did u st answer) (Some o) = did-cost s o answer
follow-cost s x (Ended u end) (Some o) = end-cost s end o.kind
follow-cost s x (Accepted b) o = finishes-cost s b
follow-cost s x (Finished b) o = release-cost x.due
follow-cost s x e o = tt

-- the waiting units

less-without : (u : Id) (us : List Id) → In u us → length (without (u ∷ []) us) < length us
less-without u us i = by (list_all p us) refl
  where
    p : Id → Bool
    p v = not (has_id v (u ∷ []))

    self : p u ≡ false
    self = rw (is_same_id-refl u) refl

    by : (b : Bool) → list_all p us ≡ b → length (filter p us) < length us
    by true e = let t : true ≡ false = sym (all-in p u us e i) ∙ self in cc
    by false e = filter-less p us e

short : (u : Id) (us : List Id) → length (without (u ∷ []) us) ≤ length us
short u us = filter-short (λ v. not (has_id v (u ∷ []))) us

-- an event adds no more than its cost tells
cost-after : (us : List Id) (f : Event) → 6 * length (waiters_after f us) + stage f ≤ 6 * length us + cost f
cost-after us (Waits u owners) = let a = length-append (without (u ∷ []) us) (u ∷ []) in let h = short u us in omega arith
cost-after us (Did u st answer) = let h = short u us in omega arith
cost-after us (Ended u end) = let h = short u us in omega arith
cost-after us (Accepted b) = omega arith
cost-after us f = omega arith

-- who settles waits

either-else : (o p : Option Id) (x : Id) → option_or o p ≡ Some x → (o ≡ Some x) ⊎ (p ≡ Some x)
either-else None p x h = inr h
either-else (Some y) p x h = inl h

mapped : {A B : Type 0} (f : A → B) (x : A) (xs : List A) → In x xs → In (f x) (map f xs)
mapped f x [] i = absurd i
mapped f x (y ∷ ys) (inl e) = inl (ap f e)
mapped f x (y ∷ ys) (inr i) = inr (mapped f x ys i)

victim-named : (graph : List WaitUnit) (u : Id) → victim_of graph ≡ Some u → In u (names_of graph)
victim-named graph u h = either
    (λ e. from (filter (λ w. w.acid) on) (λ w i. on-in w (in-filter (λ w. w.acid) w on i).0) (greatest-in u _ e))
    (λ e. from on on-in (greatest-in u _ e))
    (either-else (greatest (names_of (filter (λ w. w.acid) on))) (greatest (names_of on)) u h)
  where
    on : List WaitUnit
    on = filter (is_on_cycle graph) graph

    on-in : (w : WaitUnit) → In w on → In w graph
    on-in w i = (in-filter (is_on_cycle graph) w graph i).0

    from : (ws : List WaitUnit) → ((w : WaitUnit) → In w ws → In w graph) → In u (names_of ws) → In u (names_of graph)
    from ws f i =
        let m = in-map (λ (w : WaitUnit). w.unit) u ws i in
        subst (λ v. In v (names_of graph)) m.2 (mapped (λ (w : WaitUnit). w.unit) m.0 graph (f m.0 m.1))

graph-names : (d : Dependencies) (ls : List Lock) (all : List Asker) (sources : Id → List Id) (ws : List Asker) →
    names_of (map (graph_unit d ls all sources) ws) ≡ map (λ w. w.unit) ws
graph-names d ls all sources [] = refl
graph-names d ls all sources (w ∷ ws) = ap (λ us. w.unit ∷ us) (graph-names d ls all sources ws)

victim-waits : (d : Dependencies) (ls : List Lock) (ws : List Asker) (sources : Id → List Id) (u : Id) → victim_in d ls ws sources ≡ Some u →
    In u (map (λ w. w.unit) ws)
victim-waits d ls ws sources u h = subst (In u) (graph-names d ls ws sources ws) (victim-named (map (graph_unit d ls ws sources) ws) u h)

served-waits : (ls : List Lock) (ws : List Asker) (u : Id) → served_in ls ws ≡ Some u → In u (map (λ w. w.unit) ws)
served-waits ls ws u h = by (find (λ w. is_empty (clash_owners ls w)) ws) refl h
  where
    by : (o : Option Asker) → find (λ w. is_empty (clash_owners ls w)) ws ≡ o → option_map (λ (w : Asker). w.unit) o ≡ Some u →
        In u (map (λ w. w.unit) ws)
    by None e q = cc
    by (Some w) e q =
        let same : w.unit ≡ u = cc in
        subst (λ v. In v (map (λ w. w.unit) ws)) same (mapped (λ (w : Asker). w.unit) w ws (find-in (λ w. is_empty (clash_owners ls w)) w ws e).0)

-- settling takes one of them away
abbrev Falls : List Id → ℕ → Event → Type 0
Falls us n f = 6 * length (waiters_after f us) + stage f < n

settle-falls : (s : UnitState) (us : List Id) (v w : Option Id) → ((u : Id) → v ≡ Some u → In u us) → ((u : Id) → w ≡ Some u → In u us) →
    IfComes (Falls us (6 * length us + 1)) (settle_in s v (option_and_then (λ u. unit_named u s.units) w))
settle-falls s us (Some u) w f g = let h = less-without u us (f u refl) in omega arith
settle-falls s us None None f g = tt
settle-falls s us None (Some u) f g = by (unit_named u s.units) refl
  where
    by : (o : Option OpenUnit) → unit_named u s.units ≡ o → IfComes (Falls us (6 * length us + 1)) (settle_in s None o)
    by None e = tt
    by (Some o) e =
        let same : o.unit ≡ u = is_same_id-true o.unit u (find-in (λ (p : OpenUnit). is_same_id p.unit u) o s.units e).1 in
        let h = less-without o.unit us (subst (λ x. In x us) (sym same) (g u refl)) in
        comes-map-at (Falls us (6 * length us + 1)) (does_in s o) (asks_next s o) (λ st q. omega arith)

settles-fall : (s : State) (x : WatchReading s.watch) → IfComes (Falls (waiters s) (6 * length (waiters s) + 1)) (settles_in s.units (beside_by s x))
settles-fall s x =
    settle-falls s.units (map (λ w. w.unit) s.watch.waits) (beside_by s x).victim (beside_by s x).served
    (λ u e. victim-waits s.watch.dependencies (locks_in s.watch) s.watch.waits x.sources u e)
    (λ u e. served-waits (locks_in s.watch) s.watch.waits u e)

follow-falls : (us : List Id) (n : ℕ) (o : Option Event) → IfComes (λ f. cost f < n) o → IfComes (Falls us (6 * length us + n)) o
follow-falls us n None h = tt
follow-falls us n (Some f) h = let c = cost-after us f in omega arith

stage-counts : (e : Event) → 1 ≤ stage e
stage-counts (Began u kind) = omega arith
stage-counts (Did u st answer) = omega arith
stage-counts (Ended u end) = omega arith
stage-counts (Accepted b) = omega arith
stage-counts (Finished b) = omega arith
stage-counts e = omega arith

more-falls : (us : List Id) (m n : ℕ) → m ≤ n → (o : Option Event) → IfComes (Falls us m) o → IfComes (Falls us n) o
more-falls us m n l None h = tt
more-falls us m n l (Some e) h = omega arith

comes-else : (P : Event → Type 0) (o p : Option Event) → IfComes P o → IfComes P p → IfComes P (option_or o p)
comes-else P None p f g = g
comes-else P (Some e) p f g = f

serving-falls : (s : State) (x : WatchReading s.watch) (e : Event) (o : Option OpenUnit) →
    IfComes (Falls (waiters s) (6 * length (waiters s) + stage e)) (serving_in s.units (beside_by s x) e o)
serving-falls s x Ready o = tt
serving-falls s x (Early bs) o = tt
serving-falls s x e o =
    comes-else (Falls (waiters s) (6 * length (waiters s) + stage e)) (follow_in s.units (beside_by s x) e o) (settles_in s.units (beside_by s x))
    (follow-falls (waiters s) (stage e) (follow_in s.units (beside_by s x) e o) (follow-cost s.units (beside_by s x) e o))
    (more-falls (waiters s) (6 * length (waiters s) + 1) (6 * length (waiters s) + stage e) (let h = stage-counts e in omega arith) (settles_in s.units (beside_by s x)) (settles-fall s x))

-- the waiting units after an event are no more than their names tell
drop-length : (u : Id) (ws : List Asker) → length (drop_asker u ws) ≡ length (without (u ∷ []) (map (λ w. w.unit) ws))
drop-length u ws =
    sym (length-map (drop_asker u ws) (λ (w : Asker). w.unit)) ∙ ap length (map-filter (λ (w : Asker). w.unit) (λ v. not (has_id v (u ∷ []))) ws)

asks-one : (s : UnitState) (e : Event) (o : Option OpenUnit) → length (facts_of s e o).asks ≤ 1
asks-one s (Waits u owners) (Some o) = omega arith
asks-one s (Did u st answer) (Some o) = omega arith
asks-one s (Ended u end) (Some o) = omega arith
asks-one s e o = omega arith

waits-length : (f : UnitFacts) (e : Event) (ws : List Asker) → length f.asks ≤ 1 →
    length (waits_by f e ws) ≤ length (waiters_after e (map (λ w. w.unit) ws))
waits-length f (Waits u owners) ws h =
    let a = length-append (drop_asker u ws) f.asks in
    let b = length-append (without (u ∷ []) (map (λ w. w.unit) ws)) (u ∷ []) in
    let d = drop-length u ws in
    omega arith
waits-length f (Did u st answer) ws h = let d = drop-length u ws in omega arith
waits-length f (Ended u end) ws h = let d = drop-length u ws in omega arith
waits-length f Ready ws h = omega arith
waits-length f e ws h = let d = length-map ws (λ (w : Asker). w.unit) in omega arith

named-length : (s : State) → length (waiters s) ≡ length s.watch.waits
named-length s = length-map s.watch.waits (λ (w : Asker). w.unit)

after-length : (e : Event) (old new : State) → After e old new → length (waiters new) ≤ length (waiters_after e (waiters old))
after-length e old new a =
    let n = named-length new in
    let w = ap length a.watch.waits in
    let l = waits-length (facts_in old.units e) e old.watch.waits (asks-one old.units e (unit_before old.units e)) in
    omega arith

to-come-less : (us : List Id) (n : ℕ) (o : Option Event) → 0 < n → IfComes (Falls us n) o → to_come us o < n
to-come-less us n None h f = h
to-come-less us n (Some e) h f = f

-- while serving, what is still to come falls with each event
pub to-come-falls : (e : Event) (old new : State) (x : WatchReading new.watch) (flight : Option Event) → is_of_run e ≡ false → new.units.phase ≡ Serving →
    After e old new → to_come (waiters new) (said_next e old new x flight) < to_come (waiters old) (Some e)
to-come-falls (Down why) old new x flight r serves a = cc
to-come-falls (Opened boot n) old new x flight r serves a = cc
to-come-falls e old new x flight r serves a =
    let l = after-length e old new a in
    let h = stage-counts e in
    let f = to-come-less (waiters new) (6 * length (waiters new) + stage e) (said_next e old new x flight) (omega arith)
    (subst (λ (p : Phase). IfComes (Falls (waiters new) (6 * length (waiters new) + stage e)) (said_in p new.units (beside_by new x) e (unit_of e old.units new.units))) (sym serves) (serving-falls new x e (unit_of e old.units new.units))) in
    omega arith
