-- The graph of the units that wait, and its victim.
use Rattle.salt_deps.specs.Kept.{dependencies}
use Rattle.law_states.proofs.Closures.{any-in, filter-same, into-any, same-bool}
use Rattle.law_states.proofs.PairLists.{on-cycle}
use Rattle.law_states.specs.KeptLocks.{Numbered}
use Rattle.law_states.specs.KeptSources.{Dependencies, Through}
use Rattle.law_states.specs.KeptWaits.{AreDistinct, Asker, clash_owners, edges_of, graph_unit, is_base_of, victim_in, waiting_for}
use Rattle.law_states.specs.Members.{In}
use Rattle.law_states.specs.Readings.{WatchReading}
use Rattle.law_states.specs.Watches.{Watch}
use Rattle.law_story.proofs.Ids.{and_left, and_right, is_same_id-refl, is_same_id-true}
use Rattle.law_story.proofs.Lists.{has-in, in-has}
use Rattle.salt_locks.specs.Tables.{locks_in}
use Rattle.salt_model.specs.Waiting as story
use Rattle.salt_values.specs.Id.{has_id}
use Rattle.salt_model.specs.declared.events.Owner.{Owner}
use Rattle.salt_model.specs.declared.events.Owner.TheVariants.{Base, Unit}
use Rattle.salt_model.specs.declared.locks.Lock.{Lock}
use Rattle.salt_values.specs.Id.{is_same_id}
use Rattle.salt_values.specs.declared.id.Id.{Id}
use Rattle.salt_waits.proofs.Fits.{fits}
use Rattle.salt_waits.specs.Victims.{IsRightVictim, graph_of}
use Rattle.salt_waits.specs.declared.units.WaitUnit.{WaitUnit}
use Rattle.salt_conflicts.proofs.Same.{same-dependencies}
use Rattle.salt_conflicts.specs.Waiters.{asker_of, askers, is_of_program, waiter_of}
use Rattle.salt_conflicts.specs.Watched.{AreSourcesOf, IsWatch}
use Rattle.salt_conflicts.specs.declared.waiters.Waiter.{Waiter}
use Rattle.salt_conflicts.specs.declared.watching.Watching.{Watching}
use Rattle.std.proofs.Common.{ap, subst, sym, ◌∙◌}
use Rattle.std.specs.List.{filter, flat_map, list_any}
use Rattle.std.specs.Prelude.{Bool, List, None, Option, Some, [], cond, false, is_none, is_some, map, not, refl, true, ◌&&◌, ◌||◌, ◌↔◌, ◌∷◌, ◌≡◌}

-- an unfinished program of these
pub is-awaited : (f : Id → Bool) (c : Id) (bs : List Id) → list_any (λ b. not (f b) && is_same_id b c) bs ≡ (has_id c bs && not (f c))
is-awaited f c bs = same-bool _ _ forth back
  where
    both : (p q : Bool) → p ≡ true → q ≡ true → (p && q) ≡ true
    both p q e g = ap (λ t. t && q) e ∙ g

    forth : list_any (λ b. not (f b) && is_same_id b c) bs ≡ true → (has_id c bs && not (f c)) ≡ true
    forth h =
        let m = any-in (λ b. not (f b) && is_same_id b c) bs h in
        let e = is_same_id-true m.0 c (and_right (not (f m.0)) _ m.2) in
        both _ _ (in-has c bs (subst (λ x. In x bs) e m.1)) (subst (λ x. not (f x) ≡ true) e (and_left (not (f m.0)) _ m.2))

    back : (has_id c bs && not (f c)) ≡ true → list_any (λ b. not (f b) && is_same_id b c) bs ≡ true
    back h =
        into-any (λ b. not (f b) && is_same_id b c) c bs (has-in c bs (and_left (has_id c bs) _ h)) (both _ _ (and_right (has_id c bs) _ h) (is_same_id-refl c))

pub none-awaited : (f : Id → Bool) (bs : List Id) → list_any (λ b. not (f b) && is_base_of None b) bs ≡ false
none-awaited f [] = refl
none-awaited f (b ∷ bs) = by (not (f b)) (none-awaited f bs)
  where
    by : (p : Bool) → list_any (λ b. not (f b) && is_base_of None b) bs ≡ false → ((p && false) || list_any (λ b. not (f b) && is_base_of None b) bs) ≡ false
    by true e = e
    by false e = e

-- the statements of those that wait are of no use for the graph

waiting-same : (d : Dependencies) (ws : List Asker) (bs : List Id) → waiting_for d (askers (map waiter_of ws)) bs ≡ waiting_for d ws bs
waiting-same d [] bs = refl
waiting-same d (w ∷ ws) bs = by (list_any (λ b. not (d.finished b) && is_base_of w.base b) bs) (waiting-same d ws bs)
  where
    by : (t : Bool) → waiting_for d (askers (map waiter_of ws)) bs ≡ waiting_for d ws bs →
        map (λ (a : Asker). a.unit) (cond t (asker_of (waiter_of w) ∷ filter (λ a. list_any (λ b. not (d.finished b) && is_base_of a.base b) bs) (askers (map waiter_of ws))) (filter (λ a. list_any (λ b. not (d.finished b) && is_base_of a.base b) bs) (askers (map waiter_of ws))))
        ≡ map (λ (a : Asker). a.unit) (cond t (w ∷ filter (λ a. list_any (λ b. not (d.finished b) && is_base_of a.base b) bs) ws) (filter (λ a. list_any (λ b. not (d.finished b) && is_base_of a.base b) bs) ws))
    by true e = ap (λ l. w.unit ∷ l) e
    by false e = e

edges-same : (d : Dependencies) (ws : List Asker) (sources : Id → List Id) (o : Owner) → edges_of d (askers (map waiter_of ws)) sources o ≡ edges_of d ws sources o
edges-same d ws sources (Unit v) = refl
edges-same d ws sources (Base c) = waiting-same d ws (sources c)

unit-same : (d : Dependencies) (ls : List Lock) (ws : List Asker) (sources : Id → List Id) (w : Asker) →
    graph_unit d ls (askers (map waiter_of ws)) sources w ≡ graph_unit d ls ws sources w
unit-same d ls ws sources w = ap (λ (g : Owner → List Id). record { unit = w.unit; acid = is_none w.base; edges = flat_map g (clash_owners ls w) }) (λ i o. edges-same d ws sources o i)

listed-same : (d : Dependencies) (ls : List Lock) (ws : List Asker) (sources : Id → List Id) (vs : List Asker) →
    map (graph_unit d ls (askers (map waiter_of ws)) sources) (askers (map waiter_of vs)) ≡ map (graph_unit d ls ws sources) vs
listed-same d ls ws sources [] = refl
listed-same d ls ws sources (v ∷ vs) = λ i. unit-same d ls ws sources (asker_of (waiter_of v)) i ∷ listed-same d ls ws sources vs i

names-of-graph : (list : List WaitUnit) → map (λ (u : story.WaitUnit). u.unit) (graph_of list) ≡ map (λ (u : WaitUnit). u.unit) list
names-of-graph [] = refl
names-of-graph (u ∷ us) = ap (λ l. u.unit ∷ l) (names-of-graph us)

names-of-askers : (d : Dependencies) (ls : List Lock) (ws : List Asker) (sources : Id → List Id) (vs : List Asker) →
    map (λ (u : story.WaitUnit). u.unit) (map (graph_unit d ls ws sources) vs) ≡ map (λ (a : Asker). a.unit) vs
names-of-askers d ls ws sources [] = refl
names-of-askers d ls ws sources (v ∷ vs) = ap (λ l. v.unit ∷ l) (names-of-askers d ls ws sources vs)

-- the right victim of the units that are built is that of those that wait
pub victim-told : (d : Dependencies) (ls : List Lock) (ws : List Asker) (sources : Id → List Id) (list : List WaitUnit) (found : Option Id) →
    graph_of list ≡ map (graph_unit d ls (askers (map waiter_of ws)) sources) (askers (map waiter_of ws)) → AreDistinct (map (λ (a : Asker). a.unit) ws) →
    IsRightVictim list found → found ≡ victim_in d ls ws sources
victim-told d ls ws sources list found e distinct right =
    let g : graph_of list ≡ map (graph_unit d ls ws sources) ws = e ∙ listed-same d ls ws sources ws in
    let names : map (λ (a : Asker). a.unit) ws ≡ map (λ (u : WaitUnit). u.unit) list =
    sym (names-of-askers d ls ws sources ws) ∙ (ap (map (λ (u : story.WaitUnit). u.unit)) (sym g) ∙ names-of-graph list) in
    sym (fits on-cycle list (subst AreDistinct names distinct) found right) ∙ ap story.victim_of g

pub some-awaited : (f : Id → Bool) (base : Option Id) (x : Id) (bs : List Id) (t : Bool) → base ≡ Some x → has_id x bs ≡ t →
    (t && not (f x)) ≡ list_any (λ b. not (f b) && is_base_of base b) bs
some-awaited f base x bs t e h = ap (λ s. s && not (f x)) (sym h) ∙ (sym (is-awaited f x bs) ∙ ap (λ o. list_any (λ b. not (f b) && is_base_of o b) bs) (sym e))

pub no-base : (f : Id → Bool) (base : Option Id) (bs : List Id) → base ≡ None → false ≡ list_any (λ b. not (f b) && is_base_of base b) bs
no-base f base bs e = sym (none-awaited f bs) ∙ ap (λ o. list_any (λ b. not (f b) && is_base_of o b) bs) (sym e)

any-members : (p : Id → Bool) (cs bs : List Id) → ((b : Id) → In b cs ↔ In b bs) → list_any p cs ≡ list_any p bs
any-members p cs bs h =
    same-bool _ _
    (λ e. let m = any-in p cs e in into-any p m.0 bs ((h m.0).0 m.1) m.2)
    (λ e. let m = any-in p bs e in into-any p m.0 cs ((h m.0).1 m.1) m.2)

-- only the members of the sources count
pub waiting-members : (d : Dependencies) (ws : List Asker) (cs bs : List Id) → ((b : Id) → In b cs ↔ In b bs) → waiting_for d ws cs ≡ waiting_for d ws bs
waiting-members d ws cs bs h =
    ap (map (λ (w : Asker). w.unit))
    (filter-same (λ w. list_any (λ b. not (d.finished b) && is_base_of w.base b) cs) (λ w. list_any (λ b. not (d.finished b) && is_base_of w.base b) bs) ws
    (λ w i. any-members (λ b. not (d.finished b) && is_base_of w.base b) cs bs h))

pub edges-members : (d : Dependencies) (ws : List Asker) (sources : Id → List Id) (owner : Owner) (c : Id) (cs : List Id) → owner ≡ Base c → AreSourcesOf d sources →
    ((b : Id) → In b cs ↔ Through d.reads c b) → waiting_for d ws cs ≡ edges_of d ws sources owner
edges-members d ws sources owner c cs e are h =
    waiting-members d ws cs (sources c) (λ b. ((λ i. (are c b).1 ((h b).0 i)), (λ i. (h b).1 ((are c b).0 i))))
    ∙ ap (edges_of d ws sources) (sym e)

-- where no unit of a program waits
none-waiting-for : (d : Dependencies) (ws : List Waiter) (bs : List Id) → list_any is_of_program ws ≡ false → waiting_for d (askers ws) bs ≡ []
none-waiting-for d [] bs none = refl
none-waiting-for d (w ∷ ws) bs none = by (is_some w.base) refl none (none-waiting-for d ws bs)
  where
    here : (o : Option Id) → is_some o ≡ false → list_any (λ b. not (d.finished b) && is_base_of o b) bs ≡ false
    here None e = none-awaited d.finished bs
    here (Some c) e = cc

    by : (t : Bool) → is_some w.base ≡ t → (t || list_any is_of_program ws) ≡ false → (list_any is_of_program ws ≡ false → waiting_for d (askers ws) bs ≡ []) →
        waiting_for d (askers (w ∷ ws)) bs ≡ []
    by true e h more = cc
    by false e h more =
        ap (λ t. map (λ (a : Asker). a.unit) (cond t (asker_of w ∷ filter (λ a. list_any (λ b. not (d.finished b) && is_base_of a.base b) bs) (askers ws)) (filter (λ a. list_any (λ b. not (d.finished b) && is_base_of a.base b) bs) (askers ws)))) (here w.base e)
        ∙ more h

pub no-edges : (d : Dependencies) (ws : List Waiter) (sources : Id → List Id) (owner : Owner) (c : Id) → owner ≡ Base c → list_any is_of_program ws ≡ false →
    edges_of d (askers ws) sources owner ≡ []
no-edges d ws sources owner c e none = ap (edges_of d (askers ws) sources) e ∙ none-waiting-for d ws (sources c) none

-- the victim of what is kept is that of the watch
pub victim-read : (x : Watching) (w : Watch) (r : WatchReading w) (waits : List Waiter) (list : List WaitUnit) (found : Option Id) → waits ≡ x.waits → IsWatch x w →
    AreDistinct (map (λ (a : Asker). a.unit) w.waits) →
    ((sources : Id → List Id) → AreSourcesOf (dependencies x.deps) sources → graph_of list ≡ map (graph_unit (dependencies x.deps) (locks_in x.locks) (askers waits) sources) (askers waits)) →
    IsRightVictim list found → found ≡ victim_in w.dependencies (map (λ (n : Numbered). n.lock) w.table) w.waits r.sources
victim-read x w r waits list found same s distinct built right =
    let d = dependencies x.deps in
    let ls = locks_in x.locks in
    let e = same-dependencies d w.dependencies s.dependencies in
    let are : AreSourcesOf d r.sources = subst (λ (d : Dependencies). (c b : Id) → In b (r.sources c) ↔ Through d.reads c b) e r.closes in
    let g = subst (λ l. graph_of list ≡ map (graph_unit d ls (askers l) r.sources) (askers l)) (same ∙ sym s.waits) (built r.sources are) in
    victim-told d ls w.waits r.sources list found g distinct right
    ∙ (ap (λ t. victim_in d (map (λ (n : Numbered). n.lock) t) w.waits r.sources) (sym s.table)
    ∙ ap (λ t. victim_in t (map (λ (n : Numbered). n.lock) w.table) w.waits r.sources) (sym e))
