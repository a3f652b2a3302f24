-- The waiting units after each event: those left ask for what they asked for, and each asks for something.
use Rattle.law_states.proofs.Blocks.{asked-stays, asked-waiting, reach-stays, waits_to}
use Rattle.law_states.proofs.KeptPrograms.{none-in, ready-empty}
use Rattle.law_states.proofs.WaitsAsk.{Asks, asks-next}
use Rattle.law_states.specs.KeptWaits.{AreDistinct, Asker, asker, drop_asker, waiting}
use Rattle.law_states.specs.Members.{In}
use Rattle.law_states.specs.WatchSteps.{waiting_after}
use Rattle.law_story.proofs.Coming.{Good}
use Rattle.law_story.proofs.Every.{every-append, every-filter}
use Rattle.law_story.proofs.Fresh.{IfComes, or_left}
use Rattle.law_story.proofs.Ids.{is_same_id-refl}
use Rattle.law_story.proofs.Lists.{either, in-cases, in-filter, in-without}
use Rattle.law_story.proofs.NextFits.{Fits, wait-open}
use Rattle.law_story.proofs.Replays.{Ground, good-event, replays}
use Rattle.law_story.proofs.Sound.{Sound, kind-stays, none-open-early, not-fresh, open-named}
use Rattle.law_story.proofs.Upheld.{OfBoots, holds, may-fit}
use Rattle.law_story.specs.Names.{is_unit_of}
use Rattle.salt_ast.specs.declared.trees.Statement.{Statement}
use Rattle.salt_model.specs.After.{reach_now}
use Rattle.salt_model.specs.Locks.{family_of}
use Rattle.salt_model.specs.Played.{IsPlayed}
use Rattle.salt_model.specs.Trace.{Asked, Trace, from, line_of, start_of, ◌asks◌, ◌says◌, ◌turns◌}
use Rattle.salt_model.specs.Units.{Standing, Waiting, done_of, is_open, is_waiting, is_waiting_standing, kind_of, program_of, program_of_kind, standing, wait_list}
use Rattle.salt_model.specs.Waiting.{asked_by, asking_line, block_of, statement_in, statement_of_line}
use Rattle.salt_model.specs.Words.{Every}
use Rattle.salt_model.specs.declared.events.Event.{Event}
use Rattle.salt_model.specs.declared.events.Event.TheVariants.{Began, Did, Early, Ended, Ready, Waits}
use Rattle.salt_model.specs.declared.events.Owner.{Owner}
use Rattle.salt_model.specs.declared.events.UnitKind.{UnitKind}
use Rattle.salt_values.specs.Id.{has_id, is_same_id, without}
use Rattle.salt_values.specs.declared.id.Id.{Id}
use Rattle.std.proofs.Common.{ap, filter, inl, inr, subst, sym, ◌∙◌}
use Rattle.std.specs.Prelude.{Bool, List, None, Option, Some, [], cond, false, is_some, map, not, option_and_then, refl, true, ◌++◌, ◌||◌, ◌∷◌, ◌≡◌}

fresh-other : (trace : Trace) (v : Id) (kind : UnitKind) (u : Id) → Sound trace → Fits trace (Began v kind) → is_open trace u ≡ true →
    is_same_id u v ≡ false
fresh-other trace v kind u s f o = subst (λ x. is_same_id u x ≡ false) (sym f.0) (not-fresh trace u s f.1 (open-named trace u o))

-- a unit in the list of the waiting ones waits
pub wait-waiting : (trace : Trace) → IsPlayed trace → OfBoots (start_of trace).kept → (u : Id) → In u (wait_list trace) → standing u trace ≡ Waiting
wait-waiting (from k) p w u h = absurd h
wait-waiting (trace asks asked) p w u h = wait-waiting trace p.0 w u h
wait-waiting (trace turns b) p w u h = wait-waiting trace p.0 w u h
wait-waiting (trace says Waits v owners) p w u h =
    either (λ g. let r = in-without u (v ∷ []) (wait_list trace) g in rw (or_left (is_same_id u v) false r.1) (wait-waiting trace p.0 w u r.0))
    (either (λ e. let s : is_same_id u v ≡ true = subst (λ x. is_same_id x v ≡ true) e (is_same_id-refl v) in rw s refl) (λ f. absurd f))
    (in-cases u (without (v ∷ []) (wait_list trace)) (v ∷ []) h)
wait-waiting (trace says Did v st a) p w u h =
    let r = in-without u (v ∷ []) (wait_list trace) h in rw (or_left (is_same_id u v) false r.1) (wait-waiting trace p.0 w u r.0)
wait-waiting (trace says Ended v end) p w u h =
    let r = in-without u (v ∷ []) (wait_list trace) h in rw (or_left (is_same_id u v) false r.1) (wait-waiting trace p.0 w u r.0)
wait-waiting (trace says Began v kind) p w u h =
    let k = holds trace p.0 w in
    rw (fresh-other trace v kind u k.sound (may-fit trace (Began v kind) k.comes p.1) (wait-open trace u h)) (wait-waiting trace p.0 w u h)
wait-waiting (trace says e) p w u h = wait-waiting trace p.0 w u h

-- what is known at an event
record At (trace : Trace) (e : Event) : Type 0 where
  sound : Sound trace
  fits : Fits trace e
  good : Good trace e
  ground : Ground trace

known-at : (trace : Trace) (e : Event) → IsPlayed (trace says e) → OfBoots (start_of trace).kept → At trace e
known-at trace e p w =
    let k = holds trace p.0 w in
    record {
      sound = k.sound;
      fits = may-fit trace e k.comes p.1;
      good = good-event trace e (replays trace p.0) p.1;
      ground = (replays trace p.0).base;
    }

-- a waiting unit through an event of another
asker-stays : (trace : Trace) (e : Event) (u : Id) → At trace e → standing u trace ≡ Waiting → is_unit_of u e ≡ false →
    asker (trace says e) u ≡ asker trace u
asker-stays trace e u a w d =
    λ i. record { unit = u; base = option_and_then program_of_kind (kind i); family = family_of (kind i); asked = asked i; reach = reaches i }
  where
    o : is_open trace u ≡ true
    o = rw w refl

    kind : kind_of u (trace says e) ≡ kind_of u trace
    kind = kind-stays trace e u a.sound a.fits (a.sound.known u o)

    asked : asked_by u (trace says e) ≡ asked_by u trace
    asked = asked-stays trace e u a.sound a.fits a.good w d

    by : (p : Option Statement) → option_and_then (reach_now u (trace says e)) p ≡ option_and_then (reach_now u trace) p
    by None = refl
    by (Some st) = reach-stays trace e u a.sound a.fits a.good a.ground o d st

    reaches : option_and_then (reach_now u (trace says e)) (asked_by u (trace says e)) ≡ option_and_then (reach_now u trace) (asked_by u trace)
    reaches = ap (option_and_then (reach_now u (trace says e))) asked ∙ by (asked_by u trace)

-- and where it begins to wait
asked-begins : (trace : Trace) (u : Id) (owners : List Owner) → is_waiting trace u ≡ false → asked_by u (trace says Waits u owners) ≡ asked_by u trace
asked-begins trace u owners n =
    asked-waiting (trace says Waits u owners) u (rw (is_same_id-refl u) refl) ∙ rw (is_same_id-refl u) (by (block_of u trace))
  where
    line : (s : Standing) → is_waiting_standing s ≡ false → asking_line u trace s ≡ line_of trace
    line Waiting h = cc
    line s h = refl

    by : (o : Option (List Statement)) → waits_to o (done_of u trace) (line_of trace) ≡ statement_in u trace o
    by (Some block) = refl
    by None = ap statement_of_line (sym (line (standing u trace) n))

asker-begins : (trace : Trace) (u : Id) (owners : List Owner) → is_waiting trace u ≡ false → asker (trace says Waits u owners) u ≡ asker trace u
asker-begins trace u owners n =
    λ i. record { unit = u; base = program_of u trace; family = family_of (kind_of u trace); asked = asked-begins trace u owners n i; reach = option_and_then (reach_now u trace) (asked-begins trace u owners n i) }

-- a list of askers without one
map-same : (f g : Id → Asker) (us : List Id) → ((x : Id) → In x us → f x ≡ g x) → map f us ≡ map g us
map-same f g [] h = refl
map-same f g (u ∷ us) h = λ i. h u (inl refl) i ∷ map-same f g us (λ x m. h x (inr m)) i

drop-map : (f : Id → Asker) (trace : Trace) (u : Id) (us : List Id) → ((x : Id) → In x us → is_same_id x u ≡ false → f x ≡ asker trace x) →
    map f (without (u ∷ []) us) ≡ drop_asker u (map (asker trace) us)
drop-map f trace u [] h = refl
drop-map f trace u (x ∷ us) h = by (is_same_id x u) refl (drop-map f trace u us (λ y m. h y (inr m)))
  where
    by : (t : Bool) → is_same_id x u ≡ t → map f (without (u ∷ []) us) ≡ drop_asker u (map (asker trace) us) →
        map f (cond (not (t || false)) (x ∷ without (u ∷ []) us) (without (u ∷ []) us)) ≡ cond (not (t || false)) (asker trace x ∷ drop_asker u (map (asker trace) us)) (drop_asker u (map (asker trace) us))
    by true e more = more
    by false e more = λ i. h x (inl refl) e i ∷ more i

map-append : (f : Id → Asker) (us vs : List Id) → map f (us ++ vs) ≡ map f us ++ map f vs
map-append f [] vs = refl
map-append f (u ∷ us) vs = ap (λ l. f u ∷ l) (map-append f us vs)

-- what is known of an event that stands
asks-at : (trace : Trace) (e : Event) → IsPlayed (trace says e) → OfBoots (start_of trace).kept → Asks trace e
asks-at trace (Waits u owners) p w = subst (IfComes (Asks trace)) p.1 (asks-next trace p.0 w)
asks-at trace e p w = tt

pub waiting-says : (trace : Trace) (e : Event) → IsPlayed (trace says e) → OfBoots (start_of trace).kept →
    waiting (trace says e) ≡ waiting_after trace e (waiting trace)
waiting-says trace (Waits u owners) p w =
    let here = trace says Waits u owners in
    let a = known-at trace (Waits u owners) p w in
    let known = asks-at trace (Waits u owners) p w in
    map-append (asker here) (without (u ∷ []) (wait_list trace)) (u ∷ [])
    ∙ (λ i. drop-map (asker here) trace u (wait_list trace) (λ x m d. asker-stays trace (Waits u owners) x a (wait-waiting trace p.0 w x m) d) i ++ asker-begins trace u owners known.0 i ∷ [])
waiting-says trace (Did u st x) p w =
    let a = known-at trace (Did u st x) p w in
    drop-map (asker (trace says Did u st x)) trace u (wait_list trace) (λ x m d. asker-stays trace _ x a (wait-waiting trace p.0 w x m) d)
waiting-says trace (Ended u end) p w =
    let a = known-at trace (Ended u end) p w in
    drop-map (asker (trace says Ended u end)) trace u (wait_list trace) (λ x m d. asker-stays trace _ x a (wait-waiting trace p.0 w x m) d)
waiting-says trace (Began v kind) p w =
    let a = known-at trace (Began v kind) p w in
    map-same (asker (trace says Began v kind)) (asker trace) (wait_list trace) (λ x m. asker-stays trace _ x a (wait-waiting trace p.0 w x m) (fresh-other trace v kind x a.sound a.fits (wait-open trace x m)))
waiting-says trace Ready p w = (ready-empty trace p w).waits
waiting-says trace (Early bs) p w =
    let a = known-at trace (Early bs) p w in
    ap (map (asker (trace says Early bs))) (none-in (wait_list trace) (λ u i. none-open-early trace bs a.sound a.fits u (wait-open trace u i)))
waiting-says trace e p w =
    let a = known-at trace e p w in
    map-same (asker (trace says e)) (asker trace) (wait_list trace) (λ x m. asker-stays trace _ x a (wait-waiting trace p.0 w x m) refl)

-- a line and a turn change none
pub asked-asks : (trace : Trace) (asked : Asked) (u : Id) → standing u trace ≡ Waiting → asked_by u (trace asks asked) ≡ asked_by u trace
asked-asks trace asked u w = asked-waiting (trace asks asked) u w ∙ sym (asked-waiting trace u w)

pub asked-turns : (trace : Trace) (b : Id) (u : Id) → standing u trace ≡ Waiting → asked_by u (trace turns b) ≡ asked_by u trace
asked-turns trace b u w = asked-waiting (trace turns b) u w ∙ sym (asked-waiting trace u w)

pub waiting-asks : (trace : Trace) (asked : Asked) → IsPlayed trace → OfBoots (start_of trace).kept → waiting (trace asks asked) ≡ waiting trace
waiting-asks trace asked p w =
    map-same (asker (trace asks asked)) (asker trace) (wait_list trace)
    (λ u m. λ i. let a = asked-asks trace asked u (wait-waiting trace p w u m) in record { unit = u; base = program_of u trace; family = family_of (kind_of u trace); asked = a i; reach = option_and_then (reach_now u trace) (a i) })

pub waiting-turns : (trace : Trace) (b : Id) → IsPlayed trace → OfBoots (start_of trace).kept → waiting (trace turns b) ≡ waiting trace
waiting-turns trace b p w =
    map-same (asker (trace turns b)) (asker trace) (wait_list trace)
    (λ u m. λ i. let a = asked-turns trace b u (wait-waiting trace p w u m) in record { unit = u; base = program_of u trace; family = family_of (kind_of u trace); asked = a i; reach = option_and_then (reach_now u trace) (a i) })

-- each waiting unit asks for a statement
every-drop : (u : Id) (ws : List Asker) → Every (λ w. is_some w.asked ≡ true) ws → Every (λ w. is_some w.asked ≡ true) (drop_asker u ws)
every-drop u ws h = every-filter (λ (w : Asker). is_some w.asked ≡ true) (λ w. not (has_id w.unit (u ∷ []))) ws h

pub all-ask : (trace : Trace) → IsPlayed trace → OfBoots (start_of trace).kept → Every (λ w. is_some w.asked ≡ true) (waiting trace)
all-ask (from k) p w = tt
all-ask (trace asks asked) p w = subst (Every (λ w. is_some w.asked ≡ true)) (sym (waiting-asks trace asked p.0 w)) (all-ask trace p.0 w)
all-ask (trace turns b) p w = subst (Every (λ w. is_some w.asked ≡ true)) (sym (waiting-turns trace b p.0 w)) (all-ask trace p.0 w)
all-ask (trace says e) p w =
    subst (Every (λ w. is_some w.asked ≡ true)) (sym (waiting-says trace e p w)) (by e (asks-at trace e p w) (all-ask trace p.0 w))
  where
    by : (e : Event) → Asks trace e → Every (λ w. is_some w.asked ≡ true) (waiting trace) →
        Every (λ w. is_some w.asked ≡ true) (waiting_after trace e (waiting trace))
    by (Waits u owners) a h =
        every-append (λ (w : Asker). is_some w.asked ≡ true) (drop_asker u (waiting trace)) (asker trace u ∷ []) (every-drop u (waiting trace) h)
        (ap is_some a.1.1, tt)
    by (Did u st x) a h = every-drop u (waiting trace) h
    by (Ended u end) a h = every-drop u (waiting trace) h
    by Ready a h = tt
    by (Early bs) a h = tt
    by e a h = h

-- no unit waits twice
distinct-filter : (p : Id → Bool) (us : List Id) → AreDistinct us → AreDistinct (filter p us)
distinct-filter p [] h = tt
distinct-filter p (u ∷ us) h = by (p u) (distinct-filter p us h.1)
  where
    by : (b : Bool) → AreDistinct (filter p us) → AreDistinct (cond b (u ∷ filter p us) (filter p us))
    by true more = ((λ i. h.0 (in-filter p u us i).0), more)
    by false more = more

distinct-end : (u : Id) (us : List Id) → AreDistinct us → (In u us → ⊥) → AreDistinct (us ++ u ∷ [])
distinct-end u [] h n = ((λ i. i), tt)
distinct-end u (v ∷ us) h n =
    ((λ i. either (λ j. h.0 j) (λ j. either (λ e. n (inl (sym e))) (λ z. z) j) (in-cases v us (u ∷ []) i)), distinct-end u us h.1 (λ i. n (inr i)))

pub waits-once : (trace : Trace) → AreDistinct (wait_list trace)
waits-once (from k) = tt
waits-once (trace asks asked) = waits-once trace
waits-once (trace turns b) = waits-once trace
waits-once (trace says Waits u owners) =
    distinct-end u (without (u ∷ []) (wait_list trace)) (distinct-filter _ (wait_list trace) (waits-once trace))
    (λ i. let r = in-without u (u ∷ []) (wait_list trace) i in let x : true ≡ false = sym (is_same_id-refl u) ∙ or_left (is_same_id u u) false r.1 in cc)
waits-once (trace says Did u st a) = distinct-filter _ (wait_list trace) (waits-once trace)
waits-once (trace says Ended u end) = distinct-filter _ (wait_list trace) (waits-once trace)
waits-once (trace says e) = waits-once trace
