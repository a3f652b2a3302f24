-- A program that another reads from, and that is released, is finished; so releases are exactly those of programs all of whose sources are finished.
use Rattle.law_story.proofs.Accounts.{Accounts, accounts, goes-along, none-some}
use Rattle.law_story.proofs.Defined.{AreDefined}
use Rattle.law_story.proofs.Due.{accepts-asks, accepts-due, accepts-turns, finishes-due}
use Rattle.law_story.proofs.Fresh.{or_right}
use Rattle.law_story.proofs.Hiding.{Hides, acceptance-alive, accepted-says, hides, later-step}
use Rattle.law_story.proofs.Ids.{is_same_id-true}
use Rattle.law_story.proofs.Lists.{In, either, has-in, in-cases, in-filter_map, in-has, in-left, in-right, in-without, or_cases, or_left_true}
use Rattle.law_story.proofs.NextFits.{Fits, IsAcceptance}
use Rattle.law_story.proofs.Reading.{Salty, writer-in}
use Rattle.law_story.proofs.Releasable.{MayGo, to_release-exact}
use Rattle.law_story.proofs.Salted.{due-played, salty}
use Rattle.law_story.proofs.Sound.{Dead, freed-passed, named-bases, to_release-finished}
use Rattle.law_story.proofs.Upheld.{OfBoots, holds, may-fit}
use Rattle.salt_model.specs.After.{reach_now}
use Rattle.salt_model.specs.Continuing.{AcceptsDue, GoesAlong, accepted_after, accepted_by, is_unfinished, last_said}
use Rattle.salt_model.specs.Everywhere.{Each}
use Rattle.salt_model.specs.Isolation.{is_committed_standing}
use Rattle.salt_model.specs.Phases.{Phase, Serving, phase}
use Rattle.salt_model.specs.Played.{IsPlayed}
use Rattle.salt_model.specs.Programs.{accepted_in, finished_in, freed_by, left_out, over_in, released_in}
use Rattle.salt_model.specs.Reads.{programs_among, read_directly, to_release, writers_in}
use Rattle.salt_model.specs.Releasing.{IsReleasable, NamesReleasable, ReadsThrough, ReleasesDue, ReleasesExactly, due_after, is_finish, itself, released_by, released_names, through}
use Rattle.salt_model.specs.Trace.{Trace, from, start_of, ◌asks◌, ◌says◌, ◌turns◌}
use Rattle.salt_model.specs.Turns.{releases}
use Rattle.salt_model.specs.Units.{Over, Running, Waiting, is_of_program, kind_of, program_begun, program_of, program_of_kind, standing}
use Rattle.salt_model.specs.declared.events.End.{End}
use Rattle.salt_model.specs.declared.events.End.TheVariants.{Committed}
use Rattle.salt_model.specs.declared.events.Event.{Event}
use Rattle.salt_model.specs.declared.events.Event.TheVariants.{Accepted, Began, Did, Early, Ended, Finished, Ready, Released, Waits}
use Rattle.salt_model.specs.declared.events.UnitKind.{UnitKind}
use Rattle.salt_model.specs.declared.events.UnitKind.TheVariants.{Acid, Call, First, Later}
use Rattle.salt_model.specs.declared.locks.Reach.{Reach}
use Rattle.salt_values.specs.Id.{has_id, is_same_id, without}
use Rattle.salt_values.specs.declared.id.Id.{Id}
use Rattle.std.proofs.Common.{ap, inl, inr, subst, sym, ◌∙◌}
use Rattle.std.specs.Bool.{then_some}
use Rattle.std.specs.Option.{option_or}
use Rattle.std.specs.Prelude.{Bool, IsTrue, List, None, Option, Some, [], cond, false, option_and_then, refl, true, ℕ, ◌++◌, ◌||◌, ◌↔◌, ◌∷◌, ◌≡◌, ◌⊎◌}

-- programs of units, and what is released of them
pub record Sources (trace : Trace) : Type 0 where
  pub later : (u c : Id) (part : ℕ) → kind_of u trace ≡ Some (Later c part) → In c (accepted_in trace)
  pub committed : (u c : Id) → is_committed_standing (standing u trace) ≡ true → program_of u trace ≡ Some c → In c (accepted_in trace) ⊎ (accepted_after trace (last_said trace) ≡ Some c)
  pub read : (b c : Id) → In c (read_directly b trace) → In c (accepted_in trace)
  pub over : (c : Id) → In c (released_in trace) → In c (accepted_in trace) → In c (finished_in trace)

-- a unit that is committed was so before, or commits now
pub committed-back : (trace : Trace) (e : Event) (u : Id) → is_committed_standing (standing u (trace says e)) ≡ true → (is_committed_standing (standing u trace) ≡ true) ⊎ ((n : ℕ) × (e ≡ Ended u (Committed n)))
committed-back trace (Began v kind) u h = by (is_same_id u v) h
  where
    by : (t : Bool) → is_committed_standing (cond t Running (standing u trace)) ≡ true → (is_committed_standing (standing u trace) ≡ true) ⊎ ((n : ℕ) × (Began v kind ≡ Ended u (Committed n)))
    by true g = cc
    by false g = inl g
committed-back trace (Did v st a) u h = by (is_same_id u v) h
  where
    by : (t : Bool) → is_committed_standing (cond t Running (standing u trace)) ≡ true → (is_committed_standing (standing u trace) ≡ true) ⊎ ((n : ℕ) × (Did v st a ≡ Ended u (Committed n)))
    by true g = cc
    by false g = inl g
committed-back trace (Waits v owners) u h = by (is_same_id u v) h
  where
    by : (t : Bool) → is_committed_standing (cond t Waiting (standing u trace)) ≡ true → (is_committed_standing (standing u trace) ≡ true) ⊎ ((n : ℕ) × (Waits v owners ≡ Ended u (Committed n)))
    by true g = cc
    by false g = inl g
committed-back trace (Ended v end) u h = by (is_same_id u v) refl end h
  where
    by : (t : Bool) → is_same_id u v ≡ t → (end : End) → is_committed_standing (cond t (Over end) (standing u trace)) ≡ true → (is_committed_standing (standing u trace) ≡ true) ⊎ ((n : ℕ) × (Ended v end ≡ Ended u (Committed n)))
    by true i (Committed n) g = inr (n, ap (λ x. Ended x (Committed n)) (sym (is_same_id-true u v i)))
    by true i end g = cc
    by false i end g = inl g
committed-back trace e u h = inl h

-- a committed unit's kind stays; only a Began gives one
pub kind-back : (trace : Trace) (e : Event) (u : Id) → is_committed_standing (standing u (trace says e)) ≡ true → kind_of u (trace says e) ≡ kind_of u trace
kind-back trace (Began v kind) u h = by (is_same_id u v) h
  where
    by : (t : Bool) → is_committed_standing (cond t Running (standing u trace)) ≡ true → option_or (then_some t kind) (kind_of u trace) ≡ kind_of u trace
    by true g = cc
    by false g = refl
kind-back trace e u h = refl

committed-step : (trace : Trace) (e : Event) → Sources trace → AcceptsDue trace e → (u c : Id) → is_committed_standing (standing u (trace says e)) ≡ true → program_of u (trace says e) ≡ Some c → In c (accepted_in (trace says e)) ⊎ (accepted_after (trace says e) (Some e) ≡ Some c)
committed-step trace e s a u c h k = either (λ was. inl (old was)) (λ now. new now.0 now.1) (committed-back trace e u h)
  where
    here : program_of u trace ≡ Some c
    here = ap (option_and_then program_of_kind) (sym (kind-back trace e u h)) ∙ k

    -- what was due is told by this event
    told : (e : Event) → accepted_after trace (last_said trace) ≡ accepted_by e → accepted_after trace (last_said trace) ≡ Some c → In c (accepted_in (trace says e))
    told (Accepted b) a d = let s : Some b ≡ Some c = sym a ∙ d in let t : b ≡ c = cc in in-right c (accepted_in trace) (b ∷ []) (inl t)
    told e a d = let s : None ≡ Some c = sym a ∙ d in cc

    old : is_committed_standing (standing u trace) ≡ true → In c (accepted_in (trace says e))
    old was = either (λ i. accepted-says trace e c i) (λ d. told e a d) (s.committed u c was here)

    ends : (n : ℕ) (o : Option UnitKind) → kind_of u trace ≡ o → option_and_then program_of_kind o ≡ Some c → In c (accepted_in trace) ⊎ (option_and_then program_begun o ≡ Some c)
    ends n (Some (First t b name args)) q p = inr p
    ends n (Some (Later b part)) q p = let same : b ≡ c = cc in inl (subst (λ x. In x (accepted_in trace)) same (s.later u b part q))
    ends n None q p = cc
    ends n (Some (Acid t)) q p = cc
    ends n (Some (Call t name args)) q p = cc

    new : (n : ℕ) → e ≡ Ended u (Committed n) → In c (accepted_in (trace says e)) ⊎ (accepted_after (trace says e) (Some e) ≡ Some c)
    new n i = subst (λ x. In c (accepted_in (trace says x)) ⊎ (accepted_after (trace says x) (Some x) ≡ Some c)) (sym i) (ends n (kind_of u trace) refl here)

read-step : (trace : Trace) (e : Event) → Sources trace → Salty trace → Accounts trace → Fits trace e → AcceptsDue trace e → (b c : Id) → In c (read_directly b (trace says e)) → In c (accepted_in (trace says e))
read-step trace (Did u st a) s z t f q b c h = by (is_of_program b trace u) h
  where
    new : In c (without (b ∷ []) (programs_among trace (writers_in trace (reach_now u trace st)))) → In c (accepted_in trace)
    new i = from-writer (reach_now u trace st) (in-filter_map (λ x. program_of x trace) c (writers_in trace (reach_now u trace st)) (in-without c (b ∷ []) _ i).0)
      where
        from-writer : (o : Option Reach) → (x : Id) × In x (writers_in trace o) × (program_of x trace ≡ Some c) → In c (accepted_in trace)
        from-writer None m = absurd m.1
        from-writer (Some r) m =
            let w = writer-in trace r m.0 m.1 in
            let done : is_committed_standing (standing m.0 trace) ≡ true = subst (λ x. is_committed_standing (standing x trace) ≡ true) w.3 (z.written w.0 w.1).committed in
            either (λ i. i) (λ d. let x : None ≡ Some c = sym q ∙ d in cc) (s.committed m.0 c done m.2)

    by : (t : Bool) → In c (cond t (without (b ∷ []) (programs_among trace (writers_in trace (reach_now u trace st))) ++ read_directly b trace) (read_directly b trace)) → In c (accepted_in trace)
    by true g = either new (λ i. s.read b c i) (in-cases c _ (read_directly b trace) g)
    by false g = s.read b c g
read-step trace (Early bs) s z t f q b c h = by (has_id b bs) h
  where
    by : (x : Bool) → In c (cond x (without (b ∷ []) bs ++ read_directly b trace) (read_directly b trace)) → In c (accepted_in trace)
    by true g = either (λ i. either (λ j. j) (λ d. none-some _ c d q) (t.begins c (named-bases trace bs f c (in-without c (b ∷ []) bs i).0))) (λ i. s.read b c i) (in-cases c (without (b ∷ []) bs) _ g)
    by false g = s.read b c g
read-step trace e s z t f q b c h = accepted-says trace e c (s.read b c h)

over-step : (trace : Trace) (e : Event) → Sources trace → Hides trace → Fits trace e → GoesAlong trace e → ((c : Id) → IsAcceptance c trace (last_said trace) → Dead trace c → ⊥) → (c : Id) → In c (released_in (trace says e)) → In c (accepted_in (trace says e)) → In c (finished_in (trace says e))
over-step trace (Released bs) s k f g n c r a =
    either (λ i. k.left c (k.old c (freed-passed bs trace c i) a)) (λ i. either (λ j. s.over c j a) (λ j. to_release-finished trace c (subst (In c) f.0 j)) (in-cases c (released_in trace) bs i)) (in-cases c (freed_by bs trace) _ r)
over-step trace Ready s k f g n c r a = by (has_id c (finished_in trace)) refl
  where
    by : (t : Bool) → has_id c (finished_in trace) ≡ t → In c (finished_in trace)
    by true e = has-in c (finished_in trace) e
    by false e = let x : is_unfinished trace c ≡ true = rw (in-has c (accepted_in trace) a, e) refl in let y : true ≡ false = sym x ∙ g c in cc
over-step trace (Accepted b) s k f g n c r a = either (λ i. s.over c r i) (λ i. either (λ e. absurd (n b f (inr (inl (subst (λ x. In x (released_in trace)) (sym e) r))))) (λ x. absurd x) i) (in-cases c (accepted_in trace) (b ∷ []) a)
over-step trace (Finished b) s k f g n c r a = in-left c (finished_in trace) (b ∷ []) (s.over c r a)
over-step trace e s k f g n c r a = s.over c r a

pub sources-played : (trace : Trace) → IsPlayed trace → OfBoots (start_of trace).kept → AreDefined (start_of trace).kept (start_of trace).kept.conts → Sources trace
sources-played (from k) p w d = record { later = λ u c part h. cc; committed = λ u c h q. cc; read = λ b c h. absurd h; over = λ c h a. absurd h }
sources-played (trace asks asked) p w d = let s = sources-played trace p.0 w d in record { later = s.later; committed = λ u c h q. either (λ i. inl i) (λ d. inr (accepts-asks trace asked (last_said trace) ∙ d)) (s.committed u c h q); read = s.read; over = s.over }
sources-played (trace turns b) p w d = let s = sources-played trace p.0 w d in record { later = s.later; committed = λ u c h q. either (λ i. inl i) (λ d. inr (accepts-turns trace b (last_said trace) ∙ d)) (s.committed u c h q); read = s.read; over = s.over }
sources-played (trace says e) p w d =
    let s = sources-played trace p.0 w d in
    let h = holds trace p.0 w in
    let f = may-fit trace e h.comes p.1 in
    let a = accepts-due trace e p.0 h.comes p.1 in
    let g = goes-along trace e (accounts trace p.0 w) h.sound f a (finishes-due trace e p.0 h.comes p.1) in
    record { later = later-step trace e s.later g; committed = committed-step trace e s a; read = read-step trace e s (salty trace p.0 w d) (accounts trace p.0 w) f a; over = over-step trace e s (hides trace p.0 w) f g (acceptance-alive trace p.0 w) }

-- what a program reads, directly or through programs, is finished where it is released
read-finished : (trace : Trace) → Sources trace → (b x c : Id) → IsTrue (has_id x (read_directly b trace)) → ReadsThrough trace x c → has_id c (released_in trace) ≡ true → has_id c (finished_in trace) ≡ true
read-finished trace s b x c i itself d = in-has c (finished_in trace) (s.over c (has-in c (released_in trace) d) (s.read b c (has-in c (read_directly b trace) i)))
read-finished trace s b x c i (through {c = y} j r) d = read-finished trace s x y c j r d

-- so a source of a program that is not released is finished
source-finished : (trace : Trace) → Sources trace → (b c : Id) → has_id b (released_in trace) ≡ false → ReadsThrough trace b c → (has_id c (finished_in trace) || has_id c (released_in trace)) ≡ true → has_id c (finished_in trace) ≡ true
source-finished trace s b c n itself h = either (λ f. f) (λ d. let x : true ≡ false = sym d ∙ n in cc) (or_cases (has_id c (finished_in trace)) _ h)
source-finished trace s b c n (through {c = x} i r) h = either (λ f. f) (λ d. read-finished trace s b x c i r d) (or_cases (has_id c (finished_in trace)) _ h)

not-released : (b : Id) (xs ys : List Id) → has_id b (xs ++ ys) ≡ false → has_id b ys ≡ false
not-released b [] ys h = h
not-released b (x ∷ xs) ys h = not-released b xs ys (or_right (is_same_id b x) _ h)

to-finished : (trace : Trace) → Sources trace → (b : Id) → (has_id b (over_in trace) ≡ false) × MayGo trace b → (has_id b (over_in trace) ≡ false) × IsReleasable trace b
to-finished trace s b h = (h.0, λ c r. source-finished trace s b c (not-released b (left_out trace) (released_in trace) h.0) r (h.1 c r))

from-finished : (trace : Trace) (b : Id) → (has_id b (over_in trace) ≡ false) × IsReleasable trace b → (has_id b (over_in trace) ≡ false) × MayGo trace b
from-finished trace b h = (h.0, λ c r. or_left_true (has_id c (finished_in trace)) (has_id c (released_in trace)) (h.1 c r))

named : (xs : List Id) (e : Event) → releases xs ≡ released_by e → xs ≡ released_names e
named [] (Released bs) h = cc
named [] e h = refl
named (x ∷ xs) (Released bs) h = cc
named (x ∷ xs) e h = cc

names-at : (trace : Trace) (e : Event) → Sources trace → Salty trace → ReleasesDue trace e → NamesReleasable trace e
names-at trace e s z d = λ f b. by (phase trace) (last_said trace) f d b
  where
    exact : (b : Id) → IsTrue (has_id b (to_release trace)) ↔ ((has_id b (over_in trace) ≡ false) × IsReleasable trace b)
    exact b = let x = to_release-exact trace z.closed b in ((λ h. to-finished trace s b (x.0 h)), (λ h. x.1 (from-finished trace b h)))

    by : (p : Phase) (o : Option Event) → IsTrue (is_finish p o) → releases (due_after p trace o) ≡ released_by e → (b : Id) → IsTrue (has_id b (released_names e)) ↔ ((has_id b (over_in trace) ≡ false) × IsReleasable trace b)
    by Serving (Some (Finished c)) f d b = subst (λ l. IsTrue (has_id b l) ↔ ((has_id b (over_in trace) ≡ false) × IsReleasable trace b)) (named (to_release trace) e d) (exact b)
    by p o f d b = cc

names-all : (trace : Trace) → IsPlayed trace → OfBoots (start_of trace).kept → AreDefined (start_of trace).kept (start_of trace).kept.conts → Each ReleasesDue trace → Each NamesReleasable trace
names-all (from k) p w n d = tt
names-all (trace asks asked) p w n d = names-all trace p.0 w n d
names-all (trace turns b) p w n d = names-all trace p.0 w n d
names-all (trace says e) p w n d = (names-all trace p.0 w n d.0, names-at trace e (sources-played trace p.0 w n) (salty trace p.0 w n) d.1)

pub releases-played : (trace : Trace) → IsPlayed trace → OfBoots (start_of trace).kept → AreDefined (start_of trace).kept (start_of trace).kept.conts → ReleasesExactly trace
releases-played trace p w n = let d = due-played trace p w in record { due = d; names = names-all trace p w n d }
